use Rattle.std.proofs.Common.{◌≡◌, drop}
use Rattle.job.specs.Numbers.{value_on}
use Rattle.job.proofs.read.numbers.number_of.Given as goal

abbrev pub invariant-loop-d : goal.invariant-loop-d
invariant-loop-d l = value_on l.n (drop l.d-index l.digits) ≡ value_on 0 l.digits
