use Rattle.std.proofs.Common.{◌≡◌, ℕ, ◌+◌, List, ◌++◌, get_or, drop, vec_items, sym, ap, ◌∙◌, append_assoc}
use Rattle.std.proofs.lemmas.List.{at_drop_more, at_drop_all, append-nil}
use Rattle.job.specs.Escapes.{shown, shown_byte}
use Rattle.job.proofs.escape.ShownSpell.spell.Goals as goal

one_on : (xs ys zs t : List ℕ) (i : ℕ) → ys ≡ xs ++ shown_byte (get_or t i 0) → shown (drop i t) ≡ shown_byte (get_or t i 0) ++ shown (drop (i + 1) t) → xs ++ shown (drop i t) ≡ zs → ys ++ shown (drop (i + 1) t) ≡ zs
one_on xs ys zs t i e h g =
    ap (λ v. v ++ shown (drop (i + 1) t)) e ∙ append_assoc xs (shown_byte (get_or t i 0)) (shown (drop (i + 1) t)) ∙ ap (λ v. xs ++ v) (sym h) ∙ g

pub loop-b-preserved : goal.loop-b-preserved
loop-b-preserved c =
    one_on _ _ _ c.args.self.now.0.now c.loop-b.b-index c.in_ok-show_byte.ensures
    (at_drop_more shown c.args.self.now.0.now c.loop-b.b-index 0 c.loop-b-test.true) c.loop-b.invariant

pub returns : goal.returns
returns c =
    sym (append-nil (vec_items c.loop-b.report)) ∙
    ap (λ v. vec_items c.loop-b.report ++ v) (sym (at_drop_all shown c.args.self.now.0.now c.loop-b.b-index c.loop-b-test.false)) ∙
    c.loop-b.invariant
