use Rattle.std.proofs.Common.{◌≡◌, ℕ, refl, ap, ◌∙◌}
use Rattle.rules.specs.Pieces.{made}
use Rattle.sink.specs.Pieces.{chunks}
use Rattle.sink.specs.Rows.{RowValue, fresh_row, row_rule}
use Rattle.sink.proofs.RowLaws.{row_law}
use Rattle.sink_tests.proofs.print.row_of.Goals as goal

pub returns-clause-shown : goal.returns-clause-shown
returns-clause-shown c =
    let w : c.new-row.result.wanted ≡ c.args.n = ap (λ (v : RowValue). v.wanted) c.new-row.ensures.row in
    ap (λ (v : RowValue). v.bytes) (c.in_ok-write_all.ensures.value refl ∙ ap (λ (n : ℕ). made row_rule (fresh_row n) (chunks c.args.pieces.now)) w) ∙ row_law c.args.n (chunks c.args.pieces.now)
