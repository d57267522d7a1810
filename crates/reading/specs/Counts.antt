-- The counts of a list of hunks, by the lines that the hunks stand for.
use Rattle.std.specs.Prelude.{◌≡◌, not, List, length}
use Rattle.std.specs.List.{AllByRecursion}
use Rattle.rules.specs.declared.hunk.Hunk.{Hunk}
use Rattle.rules.specs.Hunks.{Sheets, side_lines}
use Rattle.rules.specs.Sides.{no_line}
use Rattle.rules.specs.Contraction.{Readable}
use Rattle.reading.specs.Reading.{line_count, any_lines}

-- Of hunks that can be read, the numbers of lines add up to how many lines the list has, and one has lines exactly when the list has a line.
pub record Counted (s : Sheets) (hs : List Hunk) : Type 0 where
  pub how_many : line_count hs ≡ length (side_lines s hs)
  pub whether : any_lines hs ≡ not (no_line (side_lines s hs))

abbrev pub CountsStand : Type 0
CountsStand = (s : Sheets) (hs : List Hunk) → AllByRecursion (Readable s) hs → Counted s hs
