use Rattle.std.proofs.Common.{length, ap, arith}
use Rattle.sheet.proofs.LineLaws.{next_line, no_line}
use Rattle.sheet.proofs.lines.LinesIterator.next.Goals as goal

pub returns-in_err-line-clause-steps : goal.returns-in_err-line-clause-steps
returns-in_err-line-clause-steps g c =
    let s = c.args.self.now in
    let h = no_line (g.S.Sheet.sheet s.sheet.now).lines s.at c.in_err-line.ensures in
    rw c.from_residual.ensures (h, h)

pub overflow_add-self : goal.overflow_add-self
overflow_add-self g c =
    let s = c.args.self.now in
    let h = next_line (g.S.Sheet.sheet s.sheet.now).lines s.at c.in_ok-line.line.now c.in_ok-line.ensures in
    let few = (g.S.Sheet.sheet s.sheet.now).formed.1 in
    omega arith

pub returns-clause-steps : goal.returns-clause-steps
returns-clause-steps g c =
    let s = c.args.self.now in
    (next_line (g.S.Sheet.sheet s.sheet.now).lines s.at c.in_ok-line.line.now c.in_ok-line.ensures).1

pub returns-clause-goes : goal.returns-clause-goes
returns-clause-goes g c =
    let s = c.args.self.now in
    let h = ap length (next_line (g.S.Sheet.sheet s.sheet.now).lines s.at c.in_ok-line.line.now c.in_ok-line.ensures).1 in
    record { on = λ _. (tt, tt, omega arith); keeps = tt; rests = λ _. tt }
