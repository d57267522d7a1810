use Rattle.std.proofs.Common.{ap}
use Rattle.rendering.specs.declared.walk.Walk.{Walk}
use Rattle.rendering.proofs.Turns.{taken, ahead_room, turn_room, onward, last_room, all_written}
use Rattle.rendering.proofs.whole.Rendering.write_by.Goals as goal

pub ancestor-requires-clause-within : goal.ancestor-requires-clause-within
ancestor-requires-clause-within g c = (taken _ _ _ _ _ _ _ _ _ _ c.loop-turn.invariant _ _ c.in-Some.ensures).start

pub ancestor-requires-clause-room : goal.ancestor-requires-clause-room
ancestor-requires-clause-room g c = ahead_room _ _ _ _ _ _ _ _ _ _ c.loop-turn.invariant _ _ c.in-Some.ensures

pub write_turn-marked-requires-clause-turn : goal.write_turn-marked-requires-clause-turn
write_turn-marked-requires-clause-turn g c = (taken _ _ _ _ _ _ _ _ _ _ c.loop-turn.invariant _ _ c.in-Some.ensures).its_sheets

pub write_turn-marked-requires-clause-room : goal.write_turn-marked-requires-clause-room
write_turn-marked-requires-clause-room g c = turn_room _ _ _ _ _ _ _ _ _ _ c.loop-turn.invariant _ _ c.in-Some.ensures _ c.ancestor.ensures

pub loop-turn-preserved : goal.loop-turn-preserved
loop-turn-preserved g c =
    let w = c.write_turn-marked.ensures in
    onward _ _ _ _ _ _ _ _ _ _ c.loop-turn.invariant _ _ c.in-Some.ensures _ c.ancestor.ensures _ _ w.wrote w.marked

pub ancestor-requires-2-clause-room : goal.ancestor-requires-2-clause-room
ancestor-requires-2-clause-room g c =
    let e = c.in_default.ensures in
    rw (ap (λ (w : Walk). w.since) e.same) (last_room _ _ _ _ _ _ _ _ _ _ c.loop-turn.invariant e.none _ c.count_of.ensures)

pub returns-clause-wrote : goal.returns-clause-wrote
returns-clause-wrote g c =
    let e = c.in_default.ensures in
    all_written _ _ _ _ _ _ _ _ _ _ c.loop-turn.invariant e.none _ c.count_of.ensures c.ancestor-2.new.self (rw (ap (λ (w : Walk). w.since) e.same) at c.ancestor-2.ensures)
