-- A group under Keep: front, then a block or nothing, then back. A block is ours, the base if the style writes it, and theirs, each behind a marker,
-- and a last marker.
use Rattle.std.specs.Prelude.{ℕ, Bool, cond, not, List, [], ◌∷◌, ◌++◌, None, Option}
use Rattle.rules.specs.declared.ending.Ending.{Ending}
use Rattle.rules.specs.declared.hunk.Hunk.{Hunk}
use Rattle.rules.specs.declared.mode.ConflictStyle.{ConflictStyle}
use Rattle.rules.specs.Lines.{between, same_lines}
use Rattle.rules.specs.Hunks.{Sheets, side_lines}
use Rattle.rules.specs.Groups.{from, to}
use Rattle.rules.specs.Filling.{stretch}
use Rattle.rules.specs.Sides.{Sides, contracts, with_base, line_left}
use Rattle.rules.specs.Endings.{ending_of, or_else, or_newline}
use Rattle.rules.specs.Pieces.{common, ours, base, theirs}
use Rattle.rules.specs.Steps.{Step, each}
use Rattle.rules.specs.Markers.{Labels, marker_steps}

-- The ending ahead of a block: the front's or, with no front, that of the ancestor's lines since the last group or lone hunk.
abbrev pub before_block : Sheets → ℕ → ℕ → List Hunk → Option Ending
before_block s since from [] = ending_of s (stretch since from)
before_block s since from (h ∷ hs) = ending_of s (h ∷ hs)

-- The ending of a block's markers: that one, or else ours, or else newline.
abbrev pub marker_ending : Sheets → ℕ → ℕ → List Hunk → List Hunk → Ending
marker_ending s since from front left = or_newline (or_else (before_block s since from front) (ending_of s left))

-- The base: the ancestor's lines of the group's whole range, behind a marker with an ending of its own.
abbrev pub base_ending : Sheets → ℕ → ℕ → Ending
base_ending s from to = or_newline (ending_of s (stretch from to))

abbrev pub base_steps : ConflictStyle → Sheets → ℕ → Option (List ℕ) → ℕ → ℕ → List Step
base_steps style s n label from to = cond (with_base style) (marker_steps 124 n label (base_ending s from to) ++ each base (between s.ancestor from to)) []

-- A block: ours, the base, theirs. The markers are `<`, `|`, `=` and `>`; the middle one has no label.
abbrev pub block_steps : ConflictStyle → Sheets → ℕ → Labels → Ending → ℕ → ℕ → List Hunk → List Hunk → List Step
block_steps style s n l e from to left right =
    marker_steps 60 n l.current e
    ++ (each ours (side_lines s left)
    ++ (base_steps style s n l.ancestor from to
    ++ (marker_steps 61 n None e
    ++ (each theirs (side_lines s right)
    ++ marker_steps 62 n l.other e))))

-- Whether a style writes a block: Diff3 where the sides differ, the others where either side has a line left.
abbrev pub blocked : ConflictStyle → Sheets → List Hunk → List Hunk → Bool
blocked style s left right = cond (contracts style) (line_left s left right) (not (same_lines (side_lines s left) (side_lines s right)))

-- What stands in the place of a block where none is written: under Diff3 ours, else nothing.
abbrev pub agreed_steps : ConflictStyle → Sheets → List Hunk → List Step
agreed_steps style s left = cond (contracts style) [] (each common (side_lines s left))

-- What a style writes between front and back.
abbrev pub kept_steps : ConflictStyle → Sheets → ℕ → Labels → Ending → ℕ → ℕ → List Hunk → List Hunk → List Step
kept_steps style s n l e from to left right = cond (blocked style s left right) (block_steps style s n l e from to left right) (agreed_steps style s left)

abbrev pub keep_steps : ConflictStyle → Sheets → ℕ → Labels → ℕ → ℕ → ℕ → Sides → List Step
keep_steps style s n l since from to d =
    each common (side_lines s d.front)
    ++ (kept_steps style s n l (marker_ending s since from d.front d.left) from to d.left d.right
    ++ each common (side_lines s d.back))
