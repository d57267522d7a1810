use Rattle.std.proofs.Common.{ap, ◌∙◌}
use Rattle.sink.specs.Rows.{RowValue}
use Rattle.sink.proofs.RowLaws.{row_law}
use Rattle.sink.proofs.row.Row.shown.Goals as goal

pub returns : goal.returns
returns c =
    let e = c.as_slice.ensures.value in
    record { bytes = e; row = λ cs m. e ∙ ap (λ (v : RowValue). v.bytes) m ∙ row_law c.args.self.now.wanted cs }
