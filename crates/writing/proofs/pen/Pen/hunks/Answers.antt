use Rattle.writing.proofs.Steps.{part_done, part_room, hunk_step}
use Rattle.writing.proofs.pen.Pen.hunks.Goals as goal

pub lines-requires-clause-room : goal.lines-requires-clause-room
lines-requires-clause-room g c = part_room c.loop-hunk.invariant (hunk_step _ _ _ _ _ c.loop-hunk-test.true c.read_range.ensures)

pub loop-hunk-preserved : goal.loop-hunk-preserved
loop-hunk-preserved g c = part_done c.loop-hunk.invariant (hunk_step _ _ _ _ _ c.loop-hunk-test.true c.read_range.ensures) c.lines.ensures
