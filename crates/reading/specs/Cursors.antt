-- The lines that a cursor has yet to give: those left of the hunk that it stands in, and those of the hunks that are still whole.
use Rattle.std.specs.Prelude.{◌≡◌, ℕ, ◌≤◌, List, ◌++◌, reverse, length, Option}
use Rattle.std.specs.Borrow.{Bor}
use Rattle.std.specs.Iterator.{AlwaysYields}
use Rattle.std.specs.List.{AllByRecursion}
use Rattle.rules.specs.Contraction.{Readable}
use Rattle.rules.specs.Hunks.{Sheets, sheet_of, side_lines}
use Rattle.rules.specs.Lines.{Line, between}
use Rattle.rules.specs.SharedLines.{shared_front}
use Rattle.reading.specs.declared.cursor.Lines.{Lines}

abbrev pub lines_begun : {T : Type 0} → Sheets → Lines T → List Line
lines_begun s l = between (sheet_of s l.side) l.begun.start l.begun.end

-- Forward, and back: the next one first.
abbrev pub lines_ahead : {T : Type 0} → Sheets → Lines T → List Line
lines_ahead s l = lines_begun s l ++ side_lines s l.hunks.now

abbrev pub lines_behind : {T : Type 0} → Sheets → Lines T → List Line
lines_behind s l = reverse (side_lines s l.hunks.now ++ lines_begun s l)

-- The sheets have all of these lines.
pub record InSheets {T : Type 0} (s : Sheets) (l : Lines T) : Type 0 where
  pub begun : l.begun.end ≤ length (sheet_of s l.side)
  pub whole : AllByRecursion (Readable s) l.hunks.now

-- n lines are alike, from the first on, of any two lists that the cursors give.
abbrev pub CountsAlike : {C : Type 0} → (C → Option (Bor Line) → C → Type 0) → C → C → ℕ → Type 0
CountsAlike steps ours theirs n = (xs ys : List Line) → AlwaysYields steps (λ l. l.now) ours xs → AlwaysYields steps (λ l. l.now) theirs ys → n ≡ shared_front xs ys
