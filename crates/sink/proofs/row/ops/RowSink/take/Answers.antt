use Rattle.std.proofs.Common.{ℕ, List, [], ◌∷◌, get_or, take, sym, ap, ◌∙◌, arith}
use Rattle.std.proofs.lemmas.List.{take_more}
use Rattle.sink.specs.Rows.{RowValue, fresh_row, shows, shows_all}
use Rattle.sink.specs.RowState.{row_value}
use Rattle.sink.proofs.RowLaws.{shows_all_++, shows_all_wanted}
use Rattle.sink.proofs.row.ops.RowSink.take.Goals as goal

pub loop-b-preserved : goal.loop-b-preserved
loop-b-preserved c =
    let v : RowValue = row_value c.args.self.now in
    let bs : List ℕ = c.bytes-bytes.result.now in
    let i : ℕ = c.loop-b.b-index in (
      c.show.ensures.value ∙ ap (λ (x : RowValue). shows x (get_or bs i 0)) c.loop-b.invariant.0 ∙ sym (shows_all_++ v (take i bs) (get_or bs i 0 ∷ []))
          ∙ ap (shows_all v) (sym (take_more bs i 0 c.loop-b-test.true)),
      omega (arith, c.show.ensures.newlines, c.loop-b.invariant.1),
      c.show.ensures.meter ∙ c.loop-b.invariant.2,
    )

pub returns-clause-fresh : goal.returns-clause-fresh
returns-clause-fresh c =
    let v : RowValue = row_value c.args.self.now in
    ap fresh_row (ap (λ (x : RowValue). x.wanted) c.loop-b.invariant.0 ∙ shows_all_wanted v (take c.loop-b.b-index c.bytes-bytes.result.now))
