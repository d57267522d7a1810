use Rattle.std.proofs.Common.{◌≡◌}
use Rattle.merge.specs.Sinks.{sink_at}
use Rattle.merge.proofs.Ran.{Going}
use Rattle.merge.proofs.run.run.Given as goal

abbrev pub invariant-loop-n : goal.invariant-loop-n
invariant-loop-n g l =
    Going (g.T.ThreeSheets.sheets l.three) (g.S.Sink.capacity l.initial.sink) g.S.Sink.rule (g.S.Sink.fresh l.initial.sink)
    l.initial.table l.table (sink_at g.S.Sink l.initial.sink) (sink_at g.S.Sink l.sink)
    l.initial.answers l.answers l.calls l.n (λ k. g.S.Sink.rest l.sink k ≡ g.S.Sink.rest l.initial.sink k)
    × (g.S.Sink.fresh l.sink ≡ g.S.Sink.fresh l.initial.sink)
    × (g.S.Sink.capacity l.sink ≡ g.S.Sink.capacity l.initial.sink)
