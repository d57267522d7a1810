use Rattle.std.proofs.Common.{arith, rules}
use Rattle.job.proofs.Numerals.{too_large_on}
use Rattle.job.proofs.read.numbers.number_of.Goals as goal

pub returns-in_err-checked_mul : goal.returns-in_err-checked_mul
returns-in_err-checked_mul c =
    let h = too_large_on c.loop-d.n c.loop-d.d-index c.args.digits.now c.checked_mul.result _ _ c.checked_mul.ensures c.in_err-checked_mul.was (omega arith) c.loop-d-test.true c.loop-d.invariant in
    search rules

pub returns-in_err-n : goal.returns-in_err-n
returns-in_err-n c =
    let h = too_large_on c.loop-d.n c.loop-d.d-index c.args.digits.now c.checked_add.result _ _ c.checked_add.ensures c.in_err-n.was (omega (arith, c.saturating_sub.ensures, c.in_ok-checked_mul.ensures)) c.loop-d-test.true c.loop-d.invariant in
    search rules
