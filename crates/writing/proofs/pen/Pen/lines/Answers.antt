use Rattle.writing.proofs.Steps.{part_done, part_room, line_step}
use Rattle.writing.proofs.pen.Pen.lines.Goals as goal

pub piece-requires : goal.piece-requires
piece-requires g c = part_room c.loop-n.invariant (line_step _ _ _ _ _ _ c.loop-n-test.true c.requires.within c.new.ensures c.line_at.ensures)

pub loop-n-preserved : goal.loop-n-preserved
loop-n-preserved g c = part_done c.loop-n.invariant (line_step _ _ _ _ _ _ c.loop-n-test.true c.requires.within c.new.ensures c.line_at.ensures) c.piece.ensures
