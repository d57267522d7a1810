use Rattle.writing.proofs.Steps.{room_first, room_rest, wrote_on}
use Rattle.writing.proofs.pen.Pen.block.Goals as goal

pub hunks-requires-clause-room : goal.hunks-requires-clause-room
hunks-requires-clause-room g c = room_first _ (room_rest c.requires.room c.marker.ensures)

pub base-requires-clause-room : goal.base-requires-clause-room
base-requires-clause-room g c = room_first _ (room_rest (room_rest c.requires.room c.marker.ensures) c.hunks.ensures)

pub marker-requires-2-clause-room : goal.marker-requires-2-clause-room
marker-requires-2-clause-room g c = room_first _ (room_rest (room_rest (room_rest c.requires.room c.marker.ensures) c.hunks.ensures) c.base.ensures)

pub hunks-requires-2-clause-room : goal.hunks-requires-2-clause-room
hunks-requires-2-clause-room g c =
    room_first _ (room_rest (room_rest (room_rest (room_rest c.requires.room c.marker.ensures) c.hunks.ensures) c.base.ensures) c.marker-2.ensures)

pub marker-requires-3-clause-room : goal.marker-requires-3-clause-room
marker-requires-3-clause-room g c =
    room_rest (room_rest (room_rest (room_rest (room_rest c.requires.room c.marker.ensures) c.hunks.ensures) c.base.ensures) c.marker-2.ensures) c.hunks-2.ensures

pub returns : goal.returns
returns g c =
    wrote_on c.marker.ensures (wrote_on c.hunks.ensures (wrote_on c.base.ensures (wrote_on c.marker-2.ensures (wrote_on c.hunks-2.ensures c.marker-3.ensures))))
