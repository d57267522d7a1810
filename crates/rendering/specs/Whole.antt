-- What is written of the next cluster of the walk, from the hunks that it takes of the two sides.
use Rattle.std.specs.Prelude.{ℕ, Bool, false, cond, List, ◌++◌}
use Rattle.rules.specs.declared.hunk.Hunk.{Hunk}
use Rattle.rules.specs.declared.mode.Conflict as modes
use Rattle.rules.specs.Filling.{filled}
use Rattle.rules.specs.Hunks.{Sheets, side_lines}
use Rattle.rules.specs.Markers.{Labels}
use Rattle.rules.specs.Pieces.{common}
use Rattle.rules.specs.Steps.{Step, each}
use Rattle.rules.specs.Walk.{is_current}
use Rattle.groups.specs.declared.next.NextCluster.{NextCluster}
use Rattle.writing.specs.Sides.{lists_steps, lists_marked}

-- A side of the cluster, filled over its range.
abbrev pub side_in : NextCluster → List Hunk → List Hunk
side_in x hs = filled x.range.start x.range.end hs

-- A group is written as the mode says; of a lone hunk its lines, as common.
abbrev pub next_steps : modes.Conflict → Sheets → Labels → ℕ → NextCluster → List Hunk → List Hunk → List Step
next_steps m s l since x cs os =
    cond x.is_group (lists_steps m s l since x.range.start x.range.end (is_current x.lead) (side_in x cs) (side_in x os))
    (each common (side_lines s cs) ++ each common (side_lines s os))

abbrev pub next_marked : modes.Conflict → Sheets → NextCluster → List Hunk → List Hunk → Bool
next_marked m s x cs os = cond x.is_group (lists_marked m s (is_current x.lead) (side_in x cs) (side_in x os)) false
