use Rattle.std.proofs.Common.{◌∷◌, refl, ◌∙◌, ap₂, rules}
use Rattle.std.proofs.lemmas.List.{drop_more}
use Rattle.rules.specs.Runs.{opening, after_call}
use Rattle.rules.proofs.RunAgreement.{agree_over_runs}
use Rattle.merge.proofs.Ran.{going_none, going_on, answers_ruled, all_gone, unit_table, few_lines}
use Rattle.merge.proofs.run.run.Goals as goal

pub loop-n-init : goal.loop-n-init
loop-n-init g c = (going_none _ _ _ _ _ _ _ _ _ (λ k. refl), refl, refl)

pub loop-n-preserved : goal.loop-n-preserved
loop-n-preserved g c =
    let i = c.loop-n.invariant in
    let e = c.make_call-answer.ensures in (
      going_on _ _ _ _ _ _ _ _ _ _ _ _ _ _ _ _ _ _ _ _ _ i.2 i.1 i.0 (drop_more c.args.calls.now c.loop-n.n _ c.loop-n-test.true) e.table e.answer c.note.ensures e.sink (λ k h z. e.kept.rest k h ∙ z),
      e.kept.fresh ∙ i.1,
      e.kept.capacity ∙ i.2,
    )

pub returns-clause-noted : goal.returns-clause-noted
returns-clause-noted g c =
    (all_gone (g.T.ThreeSheets.sheets c.args.three.now) (g.S.Sink.capacity c.args.sink.now) _ _ c.args.table.now _ _ _ _ _ _ _ _ _ c.loop-n.invariant.0 c.loop-n-test.false (search rules)).noted

pub returns-clause-answers : goal.returns-clause-answers
returns-clause-answers g c =
    let s = g.T.ThreeSheets.sheets c.args.three.now in
    ap₂ ◌∷◌ (search rules) (answers_ruled s (g.S.Sink.capacity c.args.sink.now) (after_call c.args.table.now (opening s)) c.args.calls.now)

pub returns-clause-unit : goal.returns-clause-unit
returns-clause-unit g c = λ xs e.
    let s = g.T.ThreeSheets.sheets c.args.three.now in
    let cap = g.S.Sink.capacity c.args.sink.now in
    let gone = all_gone s cap _ _ c.args.table.now _ _ _ _ _ _ _ _ _ c.loop-n.invariant.0 c.loop-n-test.false (search rules) in
    unit_table s cap _ _ xs _ (few_lines s (g.T.ThreeSheets.formed c.args.three.now)) gone.table e

pub returns-clause-law : goal.returns-clause-law
returns-clause-law g c = agree_over_runs _ _ _ _ _ _
