use Rattle.writing.proofs.Steps.{room_first, room_rest, wrote_on}
use Rattle.writing.proofs.pen.Pen.keep.Goals as goal

pub hunks-requires-clause-room : goal.hunks-requires-clause-room
hunks-requires-clause-room g c = room_first _ c.requires.room

pub kept-block-requires-clause-room : goal.kept-block-requires-clause-room
kept-block-requires-clause-room g c = rw c.marker_ending-ending.ensures (room_first _ (room_rest c.requires.room c.hunks.ensures))

pub hunks-requires-2-clause-room : goal.hunks-requires-2-clause-room
hunks-requires-2-clause-room g c =
    room_rest (room_rest c.requires.room c.hunks.ensures) (rw c.marker_ending-ending.ensures at c.kept-block.ensures.wrote)

pub returns-clause-wrote : goal.returns-clause-wrote
returns-clause-wrote g c = wrote_on c.hunks.ensures (wrote_on (rw c.marker_ending-ending.ensures at c.kept-block.ensures.wrote) c.hunks-2.ensures)
