use Rattle.std.proofs.Common.{cond, eqb, arith, rules, tests}
use Rattle.std.proofs.lemmas.Iterator.{YieldsList-from_slice, YieldsList-from_map}
use Rattle.std.proofs.lemmas.Iterator.Consumers.{fits_by_from_yields_list}
use Rattle.std.proofs.lemmas.List.Sums.{count_by-le-length}
use Rattle.job.specs.Sums.{place}
use Rattle.job.proofs.outcome.count_of.Goals as goal

-- no more are counted than there are
pub sum-requires-clause-fits : goal.sum-requires-clause-fits
sum-requires-clause-fits c =
    let h = count_by-le-length (λ o. eqb (place o) (place c.args.which)) c.args.outcomes.now in
    fits_by_from_yields_list (λ o. cond (eqb (place o) (place c.args.which)) 1 0) c.args.outcomes.now c.map.result _ (YieldsList-from_map _ (λ o. cond (eqb (place o) (place c.args.which)) 1 0) (YieldsList-from_slice c.args.outcomes.now cc) c.map.ensures.closure (λ x r q k. search (rules, tests))) (omega arith)
