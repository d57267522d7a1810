use Rattle.std.proofs.Common.{◌≡◌, ℕ, ◌≤◌, Ok, refl, ap, ◌∙◌, rules, arith}
use Rattle.rules.specs.Pieces.{total}
use Rattle.rules.specs.Rendering.{rendering}
use Rattle.rules.proofs.RunAgreement.{agree_over_runs}
use Rattle.merge.specs.Asking.{asked}
use Rattle.merge.proofs.Admitted.{refused_too, has_room, its_pieces, its_verdict}
use Rattle.merge.proofs.Rendered.{refused, given, told}
use Rattle.merge.proofs.render.render.Goals as goal

pub returns-in_err-rendering-clause-renders : goal.returns-in_err-rendering-clause-renders
returns-in_err-rendering-clause-renders g c =
    let t = c.args.table.now in
    let s = g.T.ThreeSheets.sheets c.args.three.now in
    let a = asked c.args.mode c.args.labels (g.S.Sink.capacity c.args.sink.now) in
    let r = c.in_err-rendering.field-0.0 in
    refused t s a g.S.Sink _ _ r _ (refused_too t s a r c.in_err-rendering.ensures.answer) (search rules) refl

pub returns-in_err-rendering-clause-law : goal.returns-in_err-rendering-clause-law
returns-in_err-rendering-clause-law g c = agree_over_runs _ _ _ _ _ _

pub returns-in_err-map_err-clause-law : goal.returns-in_err-map_err-clause-law
returns-in_err-map_err-clause-law g c = agree_over_runs _ _ _ _ _ _

pub returns : goal.returns
returns g c =
    let t = c.args.table.now in
    let s = g.T.ThreeSheets.sheets c.args.three.now in
    let cap : ℕ = g.S.Sink.capacity c.args.sink.now in
    let a = asked c.args.mode c.args.labels cap in
    let asked_for = c.in_ok-rendering.ensures.answer in
    let b = c.begin.ensures in
    let e = its_pieces _ _ _ _ _ _ asked_for in
    let n : c.measure-needed.result ≡ total (rendering a.mode s a.labels t.current t.other) = c.measure-needed.ensures ∙ ap total e in
    let fits : c.measure-needed.result ≤ cap = search rules in
    let renders = given t s a g.S.Sink c.args.sink.now c.write-marked.new.sink c.begin.new.self c.verdict_of.result
    (has_room t s a asked_for.accepted (omega (arith, n, fits)))
    (its_verdict _ _ _ _ _ _ asked_for _ _ c.verdict_of.ensures c.write-marked.ensures.marked)
    (b.value fits) (b.taken fits) (b.announced fits ∙ n)
    (record { fresh = b.fresh; capacity = b.capacity; rest = λ j _. b.rest j })
    (rw e at c.write-marked.ensures.took) in
    record {
      renders = renders;
      told = told t s a g.S.Sink c.args.sink.now c.write-marked.new.sink (Ok c.verdict_of.result) c.admit.ensures.keeps renders;
      law = agree_over_runs _ _ _ _ _ _;
      keeps = c.admit.ensures.keeps;
    }
