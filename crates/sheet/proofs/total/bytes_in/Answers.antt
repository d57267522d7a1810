use Rattle.std.proofs.Common.{length, drop, ◌∙◌, arith, rules, tests}
use Rattle.std.proofs.lemmas.Iterator.{YieldsList-from_map}
use Rattle.std.proofs.lemmas.Iterator.Consumers.{YieldsList-from_first, sum_by_from_yields_List, fits_by_from_yields_list}
use Rattle.sheet.proofs.LineLaws.{bytes_summed}
use Rattle.sheet.proofs.total.bytes_in.Goals as goal

pub sum-requires-clause-fits : goal.sum-requires-clause-fits
sum-requires-clause-fits g c =
    let ls = (g.S.Sheet.sheet c.args.sheet.now).lines in
    let short = (g.S.Sheet.sheet c.args.sheet.now).formed.2 in
    let e = bytes_summed ls in
    fits_by_from_yields_list length ls c.map.result _
    (YieldsList-from_map _ length (YieldsList-from_first (λ x. x.now) (λ s. drop s.at (g.S.Sheet.sheet s.sheet.now).lines) ls cc) c.map.ensures.closure (λ x r q k. search (rules, tests)))
    (omega arith)

pub returns : goal.returns
returns g c =
    let ls = (g.S.Sheet.sheet c.args.sheet.now).lines in
    sum_by_from_yields_List length ls c.map.result c.sum.result c.sum.ensures.ran
    (YieldsList-from_map _ length (YieldsList-from_first (λ x. x.now) (λ s. drop s.at (g.S.Sheet.sheet s.sheet.now).lines) ls cc) c.map.ensures.closure (λ x r q k. search (rules, tests))) ∙
    bytes_summed ls

pub overflow_cast-result : goal.overflow_cast-result
overflow_cast-result g c = let short = (g.S.Sheet.sheet c.args.sheet.now).formed.2 in let e = returns g c in omega arith
