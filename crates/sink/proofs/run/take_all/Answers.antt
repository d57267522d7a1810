use Rattle.std.proofs.Common.{◌≡◌, ℕ, length, sym, ap, ◌∙◌, arith}
use Rattle.sink.specs.Answers.{fitting}
use Rattle.sink.specs.Pieces.{chunks}
use Rattle.sink.proofs.Given.{gone_more, gone_stop, gone_all, chunks_at, length_chunks}
use Rattle.sink.proofs.Told.{took, not_took}
use Rattle.sink.proofs.run.take_all.Goals as goal

pub returns-then-is_err-clause-answer : goal.returns-then-is_err-clause-answer
returns-then-is_err-clause-answer g c =
    let i = c.loop-n.invariant in
    let n = length_chunks c.args.pieces.now in
    let less = not_took _ _ _ c.take.result c.take.ensures.answer (sym c.if-is_err.ensures.value) in
    let stop = gone_stop g.S.Sink.rule _ _ _ _ (g.S.Sink.announced c.loop-n.sink) (chunks c.args.pieces.now) c.loop-n.n _ i.0 (omega (arith, n, c.loop-n-test.true)) (sym (chunks_at c.args.pieces.now c.loop-n.n _ c.loop-n-test.true)) less in
    stop ∙ ap (λ (a : ℕ). fitting (g.S.Sink.taken c.args.sink.now) a (chunks c.args.pieces.now)) i.1

pub loop-n-preserved : goal.loop-n-preserved
loop-n-preserved g c =
    let e = c.take.ensures in
    let i = c.loop-n.invariant in
    let n = length_chunks c.args.pieces.now in
    let fits = took _ _ _ c.take.result e.answer (sym c.if-is_err.ensures.value) in
    let more = gone_more g.S.Sink.rule _ _ (g.S.Sink.value c.take.new.self) _ _ (g.S.Sink.taken c.take.new.self) (g.S.Sink.announced c.loop-n.sink) (chunks c.args.pieces.now) c.loop-n.n _ i.0 (omega (arith, n, c.loop-n-test.true)) (sym (chunks_at c.args.pieces.now c.loop-n.n _ c.loop-n-test.true)) fits (e.value fits) (e.taken fits) in (
      rw e.announced more,
      e.announced ∙ i.1,
      record {
        fresh = e.fresh ∙ i.2.fresh;
        capacity = e.capacity ∙ i.2.capacity;
        rest = λ k h. e.rest k h ∙ i.2.rest k (omega (arith, e.taken fits, h));
      },
      λ h. absurd (omega (arith, h)),
    )

pub returns-clause-answer : goal.returns-clause-answer
returns-clause-answer g c =
    let i = c.loop-n.invariant in
    let n = length_chunks c.args.pieces.now in
    let all = gone_all g.S.Sink.rule _ _ _ _ (g.S.Sink.announced c.loop-n.sink) (chunks c.args.pieces.now) c.loop-n.n i.0 (omega (arith, n, c.loop-n-test.false)) in
    let whole : c.loop-n.n ≡ length c.args.pieces.now = omega (arith, c.loop-n.auto.n-end, c.loop-n-test.false) in
    sym whole ∙ all ∙ ap (λ (a : ℕ). fitting (g.S.Sink.taken c.args.sink.now) a (chunks c.args.pieces.now)) i.1
