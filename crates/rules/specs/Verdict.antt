-- The verdict: Complete, unless some group is one that the mode marks. Under Keep that is a group with a block, under ours and theirs one whose sides
-- differ, under Union one whose sides differ in what contraction left.
use Rattle.std.specs.Prelude.{Bool, false, cond, not, ◌&&◌, ◌||◌, List, [], ◌∷◌}
use Rattle.rules.specs.declared.hunk.Hunk.{Hunk}
use Rattle.rules.specs.declared.mode.Conflict as modes
use Rattle.rules.specs.declared.mode.Conflict.TheVariants.{Keep, ResolveWithOurs, ResolveWithTheirs, ResolveWithUnion}
use Rattle.rules.specs.declared.mode.Resolution.{Resolution}
use Rattle.rules.specs.declared.mode.Resolution.TheVariants.{Complete, CompleteWithAutoResolvedConflict, Conflict}
use Rattle.rules.specs.Lines.{same_lines}
use Rattle.rules.specs.Hunks.{Sheets, side_lines}
use Rattle.rules.specs.Walk.{walk}
use Rattle.rules.specs.Groups.{Cluster, clusters, is_group}
use Rattle.rules.specs.Filling.{sides_differ}
use Rattle.rules.specs.Sides.{contracted_sides, sides_in}
use Rattle.rules.specs.Blocks.{blocked}

-- Whether a mode marks a group.
abbrev pub marks : modes.Conflict → Sheets → Cluster → Bool
marks (Keep style n) s k = blocked style s (sides_in style s k).left (sides_in style s k).right
marks ResolveWithOurs s k = sides_differ s k
marks ResolveWithTheirs s k = sides_differ s k
marks ResolveWithUnion s k = let d = contracted_sides s k in not (same_lines (side_lines s d.left) (side_lines s d.right))

abbrev pub any_marked : modes.Conflict → Sheets → List Cluster → Bool
any_marked m s [] = false
any_marked m s (k ∷ ks) = (is_group k && marks m s k) || any_marked m s ks

-- What a mode says where it has marked one.
abbrev pub marked_verdict : modes.Conflict → Resolution
marked_verdict (Keep style n) = Conflict
marked_verdict ResolveWithOurs = CompleteWithAutoResolvedConflict
marked_verdict ResolveWithTheirs = CompleteWithAutoResolvedConflict
marked_verdict ResolveWithUnion = CompleteWithAutoResolvedConflict

abbrev pub verdict : modes.Conflict → Sheets → List Hunk → List Hunk → Resolution
verdict m s cs os = cond (any_marked m s (clusters (walk cs os))) (marked_verdict m) Complete
