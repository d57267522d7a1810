use Rattle.std.proofs.Common.{◌≡◌, ◌+◌, false, List, take, is_err, ap, ◌∙◌, arith, rules}
use Rattle.rules.specs.Pieces.{Chunk, made, total}
use Rattle.sink.specs.Pieces.{chunks}
use Rattle.sink.proofs.Given.{taken_whole}
use Rattle.sink.proofs.Told.{begun}
use Rattle.sink.proofs.run.write_all.Goals as goal

pub returns : goal.returns
returns g c =
    let cs : List Chunk = chunks c.args.pieces.now in
    let b = c.begin.ensures in
    let e = c.take_all.ensures in
    let s : c.in_ok-needed.needed ≡ total cs = search rules in
    let v : is_err c.begin.result ≡ false = search rules in
    let fits = begun c.in_ok-needed.needed (g.S.Sink.capacity c.args.sink.now) c.begin.result b.answer v in
    let w : take c.take_all.result cs ≡ cs = taken_whole _ _ c.take_all.result cs e.answer (omega (arith, b.taken fits, b.announced fits, s)) in
    record {
      answer = search rules;
      value = λ _. e.value ∙ ap (λ (x : List Chunk). made g.S.Sink.rule (g.S.Sink.value c.begin.new.self) x) w ∙ ap (λ (v : g.S.Sink.Value). made g.S.Sink.rule v cs) (b.value fits);
      taken = λ _. e.taken ∙ ap (λ (x : List Chunk). g.S.Sink.taken c.begin.new.self + total x) w ∙ omega (arith, b.taken fits);
      announced = search rules;
      alone = search rules;
      refused = search rules;
    }
