-- A turn of the walk: what it takes, and what it leaves.
use Rattle.std.specs.Prelude.{◌≡◌, ◌≤◌, Bool, List, [], length, take, drop}
use Rattle.std.specs.List.{AllByRecursion}
use Rattle.rules.specs.declared.mode.Conflict as modes
use Rattle.rules.specs.Contraction.{Readable}
use Rattle.rules.specs.Groups.{clusters}
use Rattle.rules.specs.Hunks.{Sheets}
use Rattle.rules.specs.Limits.{max_hunks}
use Rattle.rules.specs.Markers.{Labels}
use Rattle.rules.specs.Steps.{Step}
use Rattle.rules.specs.Walk.{walk}
use Rattle.groups.specs.Telling.{Next}
use Rattle.rendering.specs.declared.walk.Turn.{Turn}
use Rattle.rendering.specs.declared.walk.Walk.{Walk}
use Rattle.rendering.specs.Whole.{next_steps, next_marked, side_in}

-- The turn takes the first cluster with its hunks of both sides, and leaves the later ones, which begin where it ended.
pub record Turned (before after : Walk) (turn : Turn) : Type 0 where
  pub next : Next before.current.now before.other.now turn.cluster
  pub since : turn.since ≡ before.since
  pub current : turn.current.now ≡ take turn.cluster.current before.current.now
  pub other : turn.other.now ≡ take turn.cluster.other before.other.now
  pub later_since : after.since ≡ turn.cluster.range.end
  pub later_current : after.current.now ≡ drop turn.cluster.current before.current.now
  pub later_other : after.other.now ≡ drop turn.cluster.other before.other.now

-- No cluster is left, and the walk stays where it is.
pub record Ended (before after : Walk) : Type 0 where
  pub none : clusters (walk before.current.now before.other.now) ≡ []
  pub same : after ≡ before

-- The turn is of these sheets: its range lies in the ancestor, and its hunks can be read, those that fill its range too.
pub record TurnOf (s : Sheets) (turn : Turn) : Type 0 where
  pub within : turn.cluster.range.end ≤ length s.ancestor
  pub few : (length turn.current.now ≤ max_hunks) × (length turn.other.now ≤ max_hunks)
  pub ours : AllByRecursion (Readable s) turn.current.now × AllByRecursion (Readable s) (side_in turn.cluster turn.current.now)
  pub theirs : AllByRecursion (Readable s) turn.other.now × AllByRecursion (Readable s) (side_in turn.cluster turn.other.now)

abbrev pub turn_steps : modes.Conflict → Sheets → Labels → Turn → List Step
turn_steps m s l turn = next_steps m s l turn.since turn.cluster turn.current.now turn.other.now

abbrev pub turn_marked : modes.Conflict → Sheets → Turn → Bool
turn_marked m s turn = next_marked m s turn.cluster turn.current.now turn.other.now
