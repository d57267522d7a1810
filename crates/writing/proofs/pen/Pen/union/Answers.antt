use Rattle.writing.proofs.Steps.{room_first, room_rest, wrote_on}
use Rattle.writing.proofs.pen.Pen.union.Goals as goal

pub hunks-requires-clause-room : goal.hunks-requires-clause-room
hunks-requires-clause-room g c = room_first _ c.requires.room

pub both-requires-clause-room : goal.both-requires-clause-room
both-requires-clause-room g c = room_first _ (room_rest c.requires.room c.hunks.ensures)

pub close_ahead-requires : goal.close_ahead-requires
close_ahead-requires g c = room_first _ (room_rest (room_rest c.requires.room c.hunks.ensures) c.both.ensures)

pub hunks-requires-2-clause-room : goal.hunks-requires-2-clause-room
hunks-requires-2-clause-room g c = room_rest (room_rest (room_rest c.requires.room c.hunks.ensures) c.both.ensures) c.close_ahead.ensures

pub returns : goal.returns
returns g c = wrote_on c.hunks.ensures (wrote_on c.both.ensures (wrote_on c.close_ahead.ensures c.hunks-2.ensures))
