use Rattle.std.proofs.Common.{◌≡◌, ◌+◌, ◌≤◌, take}
use Rattle.sink.specs.Rows.{shows_all}
use Rattle.sink.specs.RowState.{row_value}
use Rattle.sink.proofs.row.ops.RowSink.take.Given as goal

abbrev pub invariant-loop-b : goal.invariant-loop-b
invariant-loop-b l =
    (row_value l.self ≡ shows_all (row_value l.initial.self) (take l.b-index l.bytes))
    × (l.self.newlines ≤ l.initial.self.newlines + l.b-index)
    × (l.self.meter ≡ l.initial.self.meter)
