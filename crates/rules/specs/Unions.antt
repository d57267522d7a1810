-- A group under Union: front, then ours and theirs that are left, then back, with an ending piece ahead of each where a line is open.
use Rattle.std.specs.Prelude.{cond, List, [], ◌∷◌, ◌++◌}
use Rattle.rules.specs.declared.hunk.Hunk.{Hunk}
use Rattle.rules.specs.Hunks.{Sheets, side_lines}
use Rattle.rules.specs.Sides.{Sides, line_left}
use Rattle.rules.specs.Endings.{ending_of, or_newline}
use Rattle.rules.specs.Pieces.{common, ours, theirs}
use Rattle.rules.specs.Steps.{Step, close, each}

-- The ending ahead of back is that of theirs; where nothing is in back, none is needed.
abbrev pub back_close : Sheets → List Hunk → List Hunk → List Step
back_close s right [] = []
back_close s right (h ∷ hs) = close (or_newline (ending_of s right)) ∷ []

-- What is left of the two sides, if either has a line: the ending ahead of ours is that of front, and the one ahead of theirs that of ours.
abbrev pub both_steps : Sheets → List Hunk → List Hunk → List Hunk → List Step
both_steps s front left right =
    cond (line_left s left right)
    (close (or_newline (ending_of s front)) ∷ (each ours (side_lines s left) ++ (close (or_newline (ending_of s left)) ∷ each theirs (side_lines s right))))
    []

abbrev pub union_steps : Sheets → Sides → List Step
union_steps s d =
    each common (side_lines s d.front)
    ++ (both_steps s d.front d.left d.right
    ++ (back_close s d.right d.back
    ++ each common (side_lines s d.back)))
