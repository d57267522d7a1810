use Rattle.std.proofs.Common.{◌≡◌}
use Rattle.sink.specs.Sinks.{LeavesAlone}
use Rattle.sink.specs.Pieces.{chunks}
use Rattle.sink.proofs.Given.{Gone}
use Rattle.sink.proofs.run.take_all.Given as goal

abbrev pub invariant-loop-n : goal.invariant-loop-n
invariant-loop-n g l =
    Gone g.S.Sink.Value g.S.Sink.rule (g.S.Sink.value l.initial.sink) (g.S.Sink.value l.sink) (g.S.Sink.taken l.initial.sink) (g.S.Sink.taken l.sink) (g.S.Sink.announced l.sink) (chunks l.pieces) l.n
    × (g.S.Sink.announced l.sink ≡ g.S.Sink.announced l.initial.sink)
    × LeavesAlone g.S.Sink l.initial.sink l.sink
    × (l.n ≡ 0 → l.sink ≡ l.initial.sink)
