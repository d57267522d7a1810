use Rattle.std.proofs.Common.{◌+◌, length}
use Rattle.writing.specs.Marks.{labels_in}
use Rattle.rendering.specs.Renderings.{steps_in, marked_in}
use Rattle.rendering.proofs.Turns.{Midway}
use Rattle.rendering.proofs.whole.Rendering.write_by.Given as goal

abbrev pub invariant-loop-turn : goal.invariant-loop-turn
invariant-loop-turn g l =
    Midway g.S.Sink l.self.mode (g.T.ThreeSheets.sheets l.self.three.now) (labels_in l.self.labels) (steps_in g.T.ThreeSheets l.self) (marked_in g.T.ThreeSheets l.self) l.initial.pen l.pen l.walk l.marked

abbrev pub decreases-loop-turn : goal.decreases-loop-turn
decreases-loop-turn g l = length l.walk.current.now + length l.walk.other.now
