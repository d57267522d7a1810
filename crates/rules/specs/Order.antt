-- What a hunk table keeps of its hunks: their side, ranges in order and within the sheets, a gap in the ancestor between neighbours.
use Rattle.std.specs.Prelude.{◌≡◌, ℕ, suc, ◌≤◌, List, [], ◌∷◌, length}
use Rattle.rules.specs.declared.hunk.Hunk.{Hunk}
use Rattle.rules.specs.declared.hunk.Side.{Side}
use Rattle.rules.specs.declared.hunk.Side.TheVariants.{Current, Other}
use Rattle.rules.specs.Hunks.{Sheets}

-- Of one side's hunks, for an ancestor of na lines and a sheet of ns lines: the first starts at line b of the ancestor or later, and at line a of the
-- sheet or later.
abbrev pub InOrder : Side → ℕ → ℕ → ℕ → ℕ → List Hunk → Type 0
InOrder side na ns b a [] = Unit {0}
InOrder side na ns b a (h ∷ hs) =
    (h.side ≡ side)
    × (b ≤ h.before.start) × (h.before.start ≤ h.before.end) × (h.before.end ≤ na)
    × (a ≤ h.after.start) × (h.after.start ≤ h.after.end) × (h.after.end ≤ ns)
    × InOrder side na ns (suc h.before.end) h.after.end hs

pub record Kept (s : Sheets) (cs os : List Hunk) : Type 0 where
  pub current : InOrder Current (length s.ancestor) (length s.current) 0 0 cs
  pub other : InOrder Other (length s.ancestor) (length s.other) 0 0 os
