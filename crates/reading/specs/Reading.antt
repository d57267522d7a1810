-- What is read of a list of hunks.
use Rattle.std.specs.Prelude.{ℕ, Bool, cond, List, nat_lt, sum_by, None, Option}
use Rattle.std.specs.List.{AllByRecursion, list_any}
use Rattle.rules.specs.declared.ending.Ending.{Ending}
use Rattle.rules.specs.declared.hunk.Hunk.{Hunk}
use Rattle.rules.specs.declared.hunk.Span.{Span}
use Rattle.rules.specs.declared.hunk.Side.TheVariants.{Current}
use Rattle.rules.specs.Contraction.{Readable, hunk_size}
use Rattle.rules.specs.Endings.{ending_before, no_lines}
use Rattle.rules.specs.Hunks.{Sheets}
use Rattle.rules.specs.Lines.{Line}

-- Each hunk of a list can be read. It names the sheets, so no ghost field of a list or a side can hold it.
abbrev pub AllReadable : Sheets → List Hunk → Type 0
AllReadable s = AllByRecursion (Readable s)

-- How many lines are read of a list's hunks.
abbrev pub line_count : List Hunk → ℕ
line_count = sum_by hunk_size

-- Whether a hunk of the list has lines.
abbrev pub any_lines : List Hunk → Bool
any_lines = list_any (λ h. nat_lt 0 (hunk_size h))

-- What stands for a hunk where there is none: it has no lines.
abbrev pub no_hunk : Hunk
no_hunk = record { before = record { start = 0; end = 0 }; after = record { start = 0; end = 0 }; side = Current }

-- The ending shown at the end of a range of lines, if it has lines.
abbrev pub range_ending : List Line → Span → Option Ending
range_ending ls r = cond (no_lines r) None (ending_before ls r.end)
