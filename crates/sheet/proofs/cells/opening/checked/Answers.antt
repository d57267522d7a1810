use Rattle.std.proofs.Common.{sym, ap, ◌∙◌, arith, eqb-true}
use Rattle.sheet.specs.Cells.{first_bad}
use Rattle.sheet.proofs.CellLaws.{bad_step, answer_bad}
use Rattle.sheet.proofs.cells.opening.checked.Goals as goal

pub returns-then-not-cell_stands : goal.returns-then-not-cell_stands
returns-then-not-cell_stands c =
    let m = c.args.memory.now in
    let z = eqb-true _ _ (sym c.if-not-is_empty.ensures) in
    let l = c.as_chunks.ensures.front_len in
    let b = bad_step m _ c.loop-i.i _ c.as_chunks.ensures.front c.loop-i-test.true c.if-not-cell_stands.ensures in
    answer_bad m c.loop-i.i (omega arith) (omega arith) (ap (λ n. first_bad 0 n m) (sym l) ∙ sym c.loop-i.invariant ∙ b)

pub loop-i-preserved : goal.loop-i-preserved
loop-i-preserved c = sym (bad_step c.args.memory.now _ c.loop-i.i _ c.as_chunks.ensures.front c.loop-i-test.true c.if-not-cell_stands.ensures) ∙ c.loop-i.invariant
