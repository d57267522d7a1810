-- How a line ends and how a hunk is listed, in the program's words.
use Rattle.std.specs.Prelude.{ℕ, cond, List, ◌++◌, Some, None, codes, Option}
use Rattle.rules.specs.declared.ending.Ending.{Ending}
use Rattle.rules.specs.declared.ending.Ending.TheVariants.{Newline, ReturnNewline}
use Rattle.rules.specs.declared.hunk.Hunk.{Hunk}
use Rattle.rules.specs.declared.hunk.Side.{Side}
use Rattle.rules.specs.Lines.{Line}
use Rattle.rules.specs.Endings.{ends_in_newline, line_ending}
use Rattle.job.specs.Words.{side_word}
use Rattle.job.specs.Orders.{hunk_text}

-- By the ending that a line shows, and where it shows none, as a newline alone does, by whether it ends in newline all the same.
abbrev pub shown_text : Option Ending → Line → List ℕ
shown_text (Some ReturnNewline) l = codes "cr lf"
shown_text (Some Newline) l = codes "lf"
shown_text None l = cond (ends_in_newline l) (codes "lf") (codes "open")

abbrev pub ending_text : Line → List ℕ
ending_text l = shown_text (line_ending l) l

-- A hunk behind the side that holds it.
abbrev pub listed_text : Side → Hunk → List ℕ
listed_text side h = codes "  " ++ (side_word side ++ (codes " " ++ hunk_text h))
