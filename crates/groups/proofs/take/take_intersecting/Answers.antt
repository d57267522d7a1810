use Rattle.std.proofs.Common.{sym, subst, arith}
use Rattle.groups.proofs.Growing.{Growing, grow_other, grow_current, complete, taken_is}
use Rattle.groups.proofs.Starting.{started}
use Rattle.groups.proofs.Clustered.{our_run, their_run}
use Rattle.groups.proofs.take.take_intersecting.Goals as goal

pub group-init : goal.group-init
group-init c =
    let cs = c.args.ahead.current.now in
    let os = c.args.ahead.other.now in
    let k = c.requires in
    let e = c.one_of-i.ensures in
    subst (λ p. Growing cs os p.0 p.1) (sym e) (started cs os c.args.ahead.first (our_run cs os k) (their_run cs os k) c.args.ahead.leads)

pub loop-j-preserved : goal.loop-j-preserved
loop-j-preserved c =
    let cs = c.args.ahead.current.now in
    let os = c.args.ahead.other.now in
    let k = c.requires in
    let g = c.loop-j.invariant.0 in
    let p = c.loop-j.invariant.1 in
    (grow_other cs os (our_run cs os k) (their_run cs os k) _ _ g c.loop-j-test.ensures, omega arith)

pub group-preserved : goal.group-preserved
group-preserved c =
    let cs = c.args.ahead.current.now in
    let os = c.args.ahead.other.now in
    let k = c.requires in
    grow_current cs os (our_run cs os k) (their_run cs os k) _ _ c.more.invariant.0 c.if-not-is_offered.ensures

pub more-preserved : goal.more-preserved
more-preserved c =
    let cs = c.args.ahead.current.now in
    let os = c.args.ahead.other.now in
    let k = c.requires in
    let p = c.more.invariant.1 in
    (grow_current cs os (our_run cs os k) (their_run cs os k) _ _ c.more.invariant.0 c.if-not-is_offered.ensures, omega arith, c.if-is_offered.ensures)

pub returns : goal.returns
returns c =
    let cs = c.args.ahead.current.now in
    let os = c.args.ahead.other.now in
    let k = c.requires in
    let t = complete cs os (our_run cs os k) (their_run cs os k) _ _ c.more.invariant.0 c.more.invariant.2 c.if-not-is_offered.ensures in
    record { numbers = taken_is cs os _ _ t; rest = t }
