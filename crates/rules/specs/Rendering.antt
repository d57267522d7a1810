-- A rendering: the pieces that a mode makes of the sheets and the hunks held. Ancestor lines outside all groups and lone hunks are common, and so are
-- a lone hunk's lines.
use Rattle.std.specs.Prelude.{ℕ, false, cond, List, [], ◌∷◌, ◌++◌, drop}
use Rattle.rules.specs.declared.hunk.Hunk.{Hunk}
use Rattle.rules.specs.declared.mode.Conflict as modes
use Rattle.rules.specs.declared.mode.Conflict.TheVariants.{Keep, ResolveWithOurs, ResolveWithTheirs, ResolveWithUnion}
use Rattle.rules.specs.Lines.{between}
use Rattle.rules.specs.Hunks.{Sheets, side_lines, hunk_lines}
use Rattle.rules.specs.Walk.{walk}
use Rattle.rules.specs.Groups.{Cluster, clusters, from, to, is_group}
use Rattle.rules.specs.Filling.{ours_of, theirs_of}
use Rattle.rules.specs.Sides.{contracted_sides, sides_in}
use Rattle.rules.specs.Pieces.{common, Chunk}
use Rattle.rules.specs.Steps.{Step, each, pieces_of}
use Rattle.rules.specs.Markers.{Labels}
use Rattle.rules.specs.Blocks.{keep_steps}
use Rattle.rules.specs.Unions.{union_steps}

-- A group. Ours and theirs write that side's lines as common; `since` is the line behind the last group or lone hunk, 0 before any.
abbrev pub group_steps : modes.Conflict → Sheets → Labels → ℕ → Cluster → List Step
group_steps (Keep style n) s l since k = keep_steps style s n l since (from k) (to k) (sides_in style s k)
group_steps ResolveWithOurs s l since k = each common (side_lines s (ours_of k))
group_steps ResolveWithTheirs s l since k = each common (side_lines s (theirs_of k))
group_steps ResolveWithUnion s l since k = union_steps s (contracted_sides s k)

-- A group, or a lone hunk.
abbrev pub cluster_steps : modes.Conflict → Sheets → Labels → ℕ → Cluster → List Step
cluster_steps m s l since k = cond (is_group k) (group_steps m s l since k) (each common (hunk_lines s k.first))

-- The ancestor's lines from line `since` on, with each group and lone hunk in its place.
abbrev pub steps_from : modes.Conflict → Sheets → Labels → ℕ → List Cluster → List Step
steps_from m s l since [] = each common (drop since s.ancestor)
steps_from m s l since (k ∷ ks) = each common (between s.ancestor since (from k)) ++ (cluster_steps m s l since k ++ steps_from m s l (to k) ks)

-- The pieces of a mode, with labels, for the hunks held of current and of other.
abbrev pub rendering : modes.Conflict → Sheets → Labels → List Hunk → List Hunk → List Chunk
rendering m s l cs os = pieces_of false (steps_from m s l 0 (clusters (walk cs os)))
