use Rattle.std.proofs.Common.{◌≡◌, ◌⊎◌, ℕ, List, slice_set, sym, ap, ◌∙◌, inl, inr, arith}
use mathlib.Core.Path.{fun_ext}
use Rattle.std.specs.List.{slice_get}
use Rattle.rules.specs.declared.hunk.Hunk.{Hunk}
use Rattle.hunks.proofs.Helds.{take_nth, take_nth_past, take_set_in}
use Rattle.hunks.proofs.list.HunkList.lend.Goals as goal

lent_as : {X : Type 0} (n : X) (F G : Hunk → List Hunk) → ((w : Hunk) → F w ≡ G w) → ◌≡◌ {A = (X × (Hunk → List Hunk)) ⊎ List Hunk} (inl (n, F)) (inl (n, G))
lent_as n F G e = ap (λ (f : Hunk → List Hunk). inl (n, f)) (fun_ext e)

pub returns-then-i-self : goal.returns-then-i-self
returns-then-i-self g c =
    let l = c.self.inside in
    let i = c.args.i in (
      lent_as _ _ _ (λ (w : Hunk). take_set_in l.len l.items i w ∙ ap (λ (hs : List Hunk). slice_set hs i w) c.self.view_is),
      record { writes_back = tt; lent = sym (ap (λ (hs : List Hunk). slice_get hs i) (sym c.self.view_is) ∙ take_nth l.len l.items i _ c.if-i-self.true (omega (arith, c.self.invariant.0, c.self.invariant.1))) },
    )

pub returns-else-i-self : goal.returns-else-i-self
returns-else-i-self g c =
    let l = c.self.inside in
    let i = c.args.i in (
      ap inr c.self.view_is,
      record { writes_back = tt; lent = sym (ap (λ (hs : List Hunk). slice_get hs i) (sym c.self.view_is) ∙ take_nth_past l.len l.items i c.if-i-self.false (omega (arith, c.self.invariant.0, c.self.invariant.1))) },
    )
