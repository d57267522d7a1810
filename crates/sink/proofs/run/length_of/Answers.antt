use Rattle.std.proofs.Common.{◌≡◌, ◌+◌, ◌≤◌, Bool, List, Some, length, take, leb, sym, ap, ◌∙◌, ⊎_elim, arith, take_all, le-leb}
use borrow.Author.Tests.{lt-leb}
use Rattle.std.specs.Bool.{then_some}
use Rattle.std.proofs.lemmas.Bool.{cond-true, cond-false}
use Rattle.std.proofs.lemmas.Bool.Decides.{eqb_tells}
use Rattle.rules.specs.Pieces.{Chunk, total}
use Rattle.sink.specs.Answers.{largest}
use Rattle.sink.specs.Pieces.{chunks}
use Rattle.sink.proofs.Given.{fitting_less, length_chunks}
use Rattle.sink.proofs.run.length_of.Goals as goal

pub returns : goal.returns
returns c =
    let cs : List Chunk = chunks c.args.pieces.now in
    let most : largest ≤ largest = omega arith in
    let b = c.begin.ensures in
    let z = c.take_all-taken.ensures in
    let l = length_chunks c.args.pieces.now in
    c.then_some.ensures
    ∙ ⊎_elim
    (λ e.
    let w : take c.take_all-taken.result cs ≡ cs = take_all c.take_all-taken.result cs (omega (arith, l, e.1)) in
    let s : c.count.result ≡ total cs =
    c.count.ensures.count ∙ z.taken ∙ ap (λ (x : List Chunk). c.begin.new.self.meter.taken + total x) w ∙ omega (arith, b.taken most) in
    ap (λ (t : Bool). then_some t c.count.result) e.0 ∙ ap Some s ∙ sym (cond-true (leb (total cs) largest) _ _ (le-leb (total cs) largest (omega (arith, s, c.count.type_inv)))))
    (λ e.
    let less = fitting_less c.begin.new.self.meter.taken c.begin.new.self.meter.announced cs (λ q. e.1 (z.answer ∙ q ∙ l)) in
    ap (λ (t : Bool). then_some t c.count.result) e.0 ∙ sym (cond-false (leb (total cs) largest) _ _ (lt-leb (total cs) largest (omega (arith, less, b.taken most, b.announced most)))))
    (eqb_tells c.take_all-taken.result (length c.args.pieces.now))
