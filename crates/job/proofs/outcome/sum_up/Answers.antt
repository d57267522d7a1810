use Rattle.std.proofs.Common.{◌≡◌, ◌+◌, cond, eqb, List, [], ◌∷◌, length, refl, arith, rules}
use Rattle.std.proofs.lemmas.List.Sums.{sum_by-cons}
use Rattle.job.specs.declared.outcome.Outcome.{Outcome}
use Rattle.job.specs.declared.outcome.Outcome.TheVariants.{Done, Refused, Failed, NotUnderstood}
use Rattle.job.specs.Sums.{count_of, place}
use Rattle.job.proofs.outcome.sum_up.Goals as goal

more : (which o : Outcome) (os : List Outcome) → count_of which (o ∷ os) ≡ cond (eqb (place o) (place which)) 1 0 + count_of which os
more which o os = sum_by-cons (λ o. cond (eqb (place o) (place which)) 1 0) o os

-- every outcome is counted once
once : (os : List Outcome) → count_of Done os + (count_of Refused os + (count_of Failed os + count_of NotUnderstood os)) ≡ length os
once [] = refl
once (o ∷ os) = by o (once os)
  where
    by : (o : Outcome) → count_of Done os + (count_of Refused os + (count_of Failed os + count_of NotUnderstood os)) ≡ length os → count_of Done (o ∷ os) + (count_of Refused (o ∷ os) + (count_of Failed (o ∷ os) + count_of NotUnderstood (o ∷ os))) ≡ length (o ∷ os)
    by Done h = omega (arith, more Done Done os, more Refused Done os, more Failed Done os, more NotUnderstood Done os)
    by Refused h = omega (arith, more Done Refused os, more Refused Refused os, more Failed Refused os, more NotUnderstood Refused os)
    by Failed h = omega (arith, more Done Failed os, more Refused Failed os, more Failed Failed os, more NotUnderstood Failed os)
    by NotUnderstood h = omega (arith, more Done NotUnderstood os, more Refused NotUnderstood os, more Failed NotUnderstood os, more NotUnderstood NotUnderstood os)

pub returns : goal.returns
returns c = let h = once c.args.outcomes.now in record { answer = search rules; once = omega (arith, c.count_of.ensures, c.count_of-2.ensures, c.count_of-3.ensures, c.count_of-4.ensures) }
