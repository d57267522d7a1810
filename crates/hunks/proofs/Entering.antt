-- What the calls make of a table, side by side, and that they keep what every table keeps.
use Rattle.std.proofs.Common.{◌≡◌, ◌∷◌, ◌++◌, [], List, Some, None, Option, sym, refl, ap, ◌∙◌, subst}
use Rattle.rules.specs.declared.hunk.Hunk.{Hunk}
use Rattle.rules.specs.declared.hunk.Side.{Side}
use Rattle.rules.specs.declared.hunk.Side.TheVariants.{Current, Other, Ancestor}
use Rattle.rules.specs.declared.refusal.TableRefusal.{TableRefusal}
use Rattle.rules.specs.Questions.{changed}
use Rattle.rules.specs.Runs.{Call, after_call}
use Rattle.rules.specs.TableLaws.{TableKeeps}
use Rattle.rules.specs.Tables.{Held, holding, held_of, enter_after, withdraw_after, enter_questions, withdraw_questions, without_last}
use Rattle.rules.proofs.TableKeeps.{call_keeps}

pub keeps_after : (t u : Held) (x : Call) → TableKeeps t → u ≡ after_call t x → TableKeeps u
keeps_after t u x p e = subst TableKeeps (sym e) (call_keeps t x p)

holding_same : (t : Held) (side : Side) → t ≡ holding t side (held_of t side)
holding_same t Current = refl
holding_same t Other = refl
holding_same t Ancestor = refl

-- a call changes its side alone
pub changed_side : (q : Option TableRefusal) (t : Held) (side : Side) (hs : List Hunk) → holding t side (changed q hs (held_of t side)) ≡ changed q (holding t side hs) t
changed_side None t side hs = refl
changed_side (Some r) t side hs = sym (holding_same t side)

pub entered : (t : Held) (h : Hunk) (side : Side) → h.side ≡ side → holding t side (changed (enter_questions t side h) (held_of t side ++ (h ∷ [])) (held_of t side)) ≡ enter_after t h
entered t h side e =
    changed_side (enter_questions t side h) t side _ ∙ sym (ap (λ (s : Side). changed (enter_questions t s h) (holding t s (held_of t s ++ (h ∷ []))) t) e)

pub withdrawn : (t : Held) (from side : Side) → from ≡ side → holding t side (changed (withdraw_questions t side) (without_last (held_of t side)) (held_of t side)) ≡ withdraw_after t from
withdrawn t from side e =
    changed_side (withdraw_questions t side) t side _ ∙ sym (ap (λ (s : Side). changed (withdraw_questions t s) (holding t s (without_last (held_of t s))) t) e)
