-- Contraction: the longest equal run of leading lines leaves both sides of a group, then that of trailing lines among the rest. It works on hunks:
-- whole hunks leave, and one hunk is cut in its place. A hunk without lines goes along only with a removed line that it stands before or behind.
use Rattle.std.specs.Prelude.{ℕ, ◌+◌, ◌-◌, ◌≤◌, cond, not, ◌&&◌, List, [], ◌∷◌, length, ◌==◌, nat_le}
use Rattle.rules.specs.declared.hunk.Hunk.{Hunk}
use Rattle.rules.specs.declared.hunk.Side.{Side}
use Rattle.rules.specs.declared.hunk.Side.TheVariants.{Current, Other, Ancestor}
use Rattle.rules.specs.declared.hunk.Span.{Span}
use Rattle.rules.specs.SharedLines.{shared_front, shared_back}
use Rattle.rules.specs.Hunks.{Sheets, side_lines, sheet_of}

-- The range that is read of a hunk.
abbrev pub read_range : Side → Hunk → Span
read_range Current h = h.after
read_range Other h = h.after
read_range Ancestor h = h.before

-- How many lines a hunk has.
abbrev pub hunk_size : Hunk → ℕ
hunk_size h = let r = read_range h.side h in r.end - r.start

-- A hunk that reads another range: of an Ancestor hunk both ranges change.
abbrev pub reading : Side → Hunk → Span → Hunk
reading Current h r = record { before = h.before; after = r; side = Current }
reading Other h r = record { before = h.before; after = r; side = Other }
reading Ancestor h r = record { before = r; after = r; side = Ancestor }

-- The first n lines of a hunk, and the lines behind them.
abbrev pub first_lines : ℕ → Hunk → Hunk
first_lines n h = let r = read_range h.side h in reading h.side h (record { start = r.start; end = r.start + n })

abbrev pub later_lines : ℕ → Hunk → Hunk
later_lines n h = let r = read_range h.side h in reading h.side h (record { start = r.start + n; end = r.end })

-- A list of hunks cut in two.
pub record Cut : Type 0 where
  pub ahead : List Hunk
  pub behind : List Hunk

abbrev pub ahead_more : Hunk → Cut → Cut
ahead_more h c = record { ahead = h ∷ c.ahead; behind = c.behind }

-- A cut behind the first n lines of the first hunk.
abbrev pub cut_here : ℕ → Hunk → List Hunk → Cut
cut_here n h hs = cond (n == 0) (record { ahead = []; behind = h ∷ hs }) (record { ahead = first_lines n h ∷ []; behind = later_lines n h ∷ hs })

-- The first n lines leave: a hunk without lines goes along if one of them follows it.
abbrev pub cut_front : ℕ → List Hunk → Cut
cut_front n [] = record { ahead = []; behind = [] }
cut_front n (h ∷ hs) = cond (nat_le (hunk_size h) n && not (n == 0)) (ahead_more h (cut_front (n - hunk_size h) hs)) (cut_here n h hs)

-- The first n lines stay: a hunk without lines goes along with the lines behind them only if one precedes it.
abbrev pub cut_back : ℕ → List Hunk → Cut
cut_back n [] = record { ahead = []; behind = [] }
cut_back n (h ∷ hs) = cond (nat_le (hunk_size h) n) (ahead_more h (cut_back (n - hunk_size h) hs)) (cut_here n h hs)

-- What contraction leaves of the lead side and of the facing side, and what it removed of the lead.
pub record Contracted : Type 0 where
  pub front : List Hunk
  pub lead : List Hunk
  pub facing : List Hunk
  pub back : List Hunk

-- Trailing lines, once the leading ones have left as front.
abbrev pub trimmed : Sheets → List Hunk → List Hunk → List Hunk → Contracted
trimmed s front a b =
    let la = side_lines s a in
    let lb = side_lines s b in
    let n = shared_back la lb in
    let ca = cut_back (length la - n) a in
    let cb = cut_back (length lb - n) b in
    record { front = front; lead = ca.ahead; facing = cb.ahead; back = ca.behind }

-- Leading lines, then trailing lines.
abbrev pub contracted : Sheets → List Hunk → List Hunk → Contracted
contracted s a b =
    let n = shared_front (side_lines s a) (side_lines s b) in
    let ca = cut_front n a in
    let cb = cut_front n b in
    trimmed s ca.ahead ca.behind cb.behind

-- A hunk whose sheet has all the lines that are read of it.
abbrev pub Readable : Sheets → Hunk → Type 0
Readable s h = (read_range h.side h).end ≤ length (sheet_of s h.side)
