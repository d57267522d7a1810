use Rattle.std.proofs.Common.{max, ap, ◌∙◌, ap₂}
use Rattle.rules.specs.Hunks.{touches_any}
use Rattle.groups.proofs.Clustered.{next_is}
use Rattle.groups.proofs.next.cluster_of.Goals as goal

pub returns : goal.returns
returns c =
    let a = c.args.ahead in
    let group = c.touches_any.ensures ∙ ap (touches_any a.first) c.facing.ensures in
    let end = c.max-end.ensures ∙ ap₂ max c.last_end.ensures c.last_end-2.ensures in
    next_is a.current.now a.other.now c.requires a.first a.leads _ _ _ _ c.take_intersecting-m.ensures.rest group end
