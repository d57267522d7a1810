-- The lines that a walk over a job has before it.
use Rattle.std.specs.Prelude.{ℕ, List}
use Rattle.rules.specs.Texts.{text_lines}
use Rattle.job.specs.declared.lines.Lines.{Lines}

abbrev pub lines_left : Lines → List (List ℕ)
lines_left s = text_lines s.rest.now
