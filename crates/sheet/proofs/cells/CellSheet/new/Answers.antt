use Rattle.std.proofs.Common.{◌/◌, is_ok, length, Ok, sym, ap, ◌∙◌, arith}
use Rattle.sheet.proofs.CellLaws.{cells_formed, length_cells}
use Rattle.sheet.proofs.CellsTold.{cell_law}
use Rattle.sheet.proofs.cells.CellSheet.new.Goals as goal

pub invariant_of-result : goal.invariant_of-result
invariant_of-result c =
    let ok = ap is_ok (sym c.in_ok-checked.ensures) in
    record { fit = ok; formed = cells_formed c.args.memory.now ok }

pub returns-in_err-checked-clause-law : goal.returns-in_err-checked-clause-law
returns-in_err-checked-clause-law c = cell_law c.args.memory.now

pub returns-clause-answer : goal.returns-clause-answer
returns-clause-answer c =
    let m = c.args.memory.now in
    let e = c.in_ok-checked.ensures in
    let a = ((cell_law m).accepted _ (sym e)).0 in
    let n = length_cells (length m / 48) m in
    ap Ok (omega arith) ∙ e

pub returns-clause-law : goal.returns-clause-law
returns-clause-law c = cell_law c.args.memory.now
