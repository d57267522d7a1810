use Rattle.std.proofs.Common.{◌-◌, List, take, drop, ap, ◌∙◌, arith}
use Rattle.std.proofs.lemmas.List.{length-take-le}
use Rattle.rules.specs.declared.hunk.Hunk.{Hunk}
use Rattle.hunks.proofs.Helds.{drop_least, moved_up}
use Rattle.hunks.proofs.list.HunkList.remove_front.Goals as goal

pub returns : goal.returns
returns g c =
    let l = c.self.inside in
    let k = c.min-gone.result in
    let fits = length-take-le l.len l.items (omega (arith, c.self.invariant.0, c.self.invariant.1)) in
    ap (λ (xs : List Hunk). take (l.len - k) xs) c.copy_within.ensures.after
    ∙ (moved_up k l.len l.items (omega (arith, c.min-gone.ensures)) (omega (arith, c.self.invariant.0, c.self.invariant.1))
    ∙ (drop_least k l.len c.args.n (take l.len l.items) c.min-gone.ensures fits ∙ ap (λ (xs : List Hunk). drop c.args.n xs) c.self.view_is))
