-- Where a job's lines end, and what a line is without its ending.
use Rattle.std.specs.Prelude.{ℕ, suc, ◌+◌, ◌-◌, cond, List, [], ◌∷◌, length, take, drop, Some, None, Option, ◌==◌}
use Rattle.rules.specs.declared.ending.Ending.{Ending}
use Rattle.rules.specs.declared.ending.Ending.TheVariants.{Newline, ReturnNewline}
use Rattle.rules.specs.Endings.{line_ending}
use Rattle.rules.specs.Lines.{same_line}

-- The length of the first line of some bytes, its newline counted.
abbrev pub line_length : List ℕ → ℕ
line_length [] = 0
line_length (b ∷ bs) = cond (b == 10) 1 (suc (line_length bs))

abbrev pub line_end : List ℕ → ℕ → ℕ
line_end job from = from + line_length (drop from job)

-- A line without its ending: of carriage return and newline two bytes go, of newline one, and a newline alone leaves nothing.
abbrev pub unless_newline : List ℕ → List ℕ
unless_newline line = cond (same_line line (10 ∷ [])) [] line

abbrev pub bare_by : List ℕ → Option Ending → List ℕ
bare_by line (Some ReturnNewline) = take (length line - 2) line
bare_by line (Some Newline) = take (length line - 1) line
bare_by line None = unless_newline line

abbrev pub bare : List ℕ → List ℕ
bare line = bare_by line (line_ending line)
