-- Where a cut falls in a list of hunks: so many whole hunks ahead of it, and so many lines of the next one.
use Rattle.std.specs.Prelude.{ℕ, suc, ◌-◌, ◌≤◌, Bool, cond, not, ◌&&◌, List, [], ◌∷◌, ◌++◌, length, take, drop, ◌==◌, nat_le, slice_index_or}
use Rattle.rules.specs.declared.hunk.Hunk.{Hunk}
use Rattle.rules.specs.Contraction.{hunk_size, first_lines, later_lines}
use Rattle.reading.specs.Reading.{no_hunk}
use Rattle.contract.specs.declared.place.Ahead.{Ahead}
use Rattle.contract.specs.declared.place.Ahead.TheVariants.{Leaves, Stays}
use Rattle.contract.specs.declared.place.Place.{Place}

abbrev pub place_of : ℕ → ℕ → Place
place_of w k = record { whole = w; lines = k }

abbrev pub one_more : Place → Place
one_more p = place_of (suc p.whole) p.lines

-- Whether a cut behind the first n lines falls behind the hunk. A hunk without lines goes along with lines that leave if one of them follows it; it
-- stays with lines that stay.
abbrev pub passes : Ahead → ℕ → Hunk → Bool
passes Leaves n h = nat_le (hunk_size h) n && not (n == 0)
passes Stays n h = nat_le (hunk_size h) n

-- The place behind the first n lines, by whether these leave or stay.
abbrev pub place : Ahead → ℕ → List Hunk → Place
place a n [] = place_of 0 0
place a n (h ∷ hs) = cond (passes a n h) (one_more (place a (n - hunk_size h) hs)) (place_of 0 n)

-- A place in a list: no more hunks than it has, and no more lines than the next hunk has.
pub record Placed (p : Place) (hs : List Hunk) : Type 0 where
  pub hunks : p.whole ≤ length hs
  pub lines : p.lines ≤ hunk_size (slice_index_or hs p.whole no_hunk)

-- What stands ahead of a cut at a place, and behind it.
abbrev pub ahead_at : Place → List Hunk → List Hunk
ahead_at p hs = cond (p.lines == 0) (take p.whole hs) (take p.whole hs ++ (first_lines p.lines (slice_index_or hs p.whole no_hunk) ∷ []))

abbrev pub behind_at : Place → List Hunk → List Hunk
behind_at p hs = cond (p.lines == 0) (drop p.whole hs) (later_lines p.lines (slice_index_or hs p.whole no_hunk) ∷ drop (suc p.whole) hs)
