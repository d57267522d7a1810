-- The same calls, sides exchanged, leave the same hunks, sides exchanged.
use Rattle.std.proofs.Common.{◌≡◌, ℕ, ◌-◌, Bool, true, false, leb, List, [], ◌∷◌, ◌++◌, map, length, take, Some, None, Option, sym, refl, ap, ◌∙◌, ap₂}
use mathlib.Core.List.{map-append}
use lib.ListN.{length-map}
use Rattle.std.proofs.lemmas.List.{take-map}
use Rattle.rules.specs.declared.hunk.Hunk.{Hunk}
use Rattle.rules.specs.declared.hunk.Side.{Side}
use Rattle.rules.specs.declared.hunk.Side.TheVariants.{Current, Other, Ancestor}
use Rattle.rules.specs.declared.refusal.TableRefusal.{TableRefusal}
use Rattle.rules.specs.declared.refusal.TableRefusal.TheVariants.{CountTooLarge}
use Rattle.rules.specs.Limits.{max_lines}
use Rattle.rules.specs.Questions.{ask, changed}
use Rattle.rules.specs.Tables.{Held, opened, held_of, holding, follows, last_from, last_of, without_last, open_after, enter_questions, enter_after, withdraw_questions, withdraw_after}
use Rattle.rules.specs.Runs.{Call, open_with, enter, withdraw, render, after_call, after_calls}
use Rattle.rules.specs.Exchange.{facing_side, exchanged_hunk, exchanged_call}

abbrev pub turned : Held → Held
turned t = record { ancestor_lines = t.ancestor_lines; current_lines = t.other_lines; other_lines = t.current_lines; current = map exchanged_hunk t.other; other = map exchanged_hunk t.current }

abbrev exchanged_last : Option Hunk → Option Hunk
exchanged_last None = None
exchanged_last (Some g) = Some (exchanged_hunk g)

last_turned : (g : Option Hunk) (hs : List Hunk) (h : Hunk) → follows (last_from (exchanged_last g) (map exchanged_hunk hs)) (exchanged_hunk h) ≡ follows (last_from g hs) h
last_turned None [] h = refl
last_turned (Some g) [] h = refl
last_turned g (x ∷ xs) h = last_turned (Some x) xs h

behind_turned : (hs : List Hunk) (h : Hunk) → follows (last_of (map exchanged_hunk hs)) (exchanged_hunk h) ≡ follows (last_of hs) h
behind_turned hs h = last_turned None hs h

pub enter_turned : (t : Held) (side : Side) (h : Hunk) → enter_questions (turned t) (facing_side side) (exchanged_hunk h) ≡ enter_questions t side h
enter_turned t Current h = rw (length-map t.current exchanged_hunk, behind_turned t.current h)
enter_turned t Other h = rw (length-map t.other exchanged_hunk, behind_turned t.other h)
enter_turned t Ancestor h = refl

pub withdraw_turned : (t : Held) (side : Side) → withdraw_questions (turned t) (facing_side side) ≡ withdraw_questions t side
withdraw_turned t Current = rw (length-map t.current exchanged_hunk)
withdraw_turned t Other = rw (length-map t.other exchanged_hunk)
withdraw_turned t Ancestor = refl

held_turned : (t : Held) (side : Side) → held_of (turned t) (facing_side side) ≡ map exchanged_hunk (held_of t side)
held_turned t Current = refl
held_turned t Other = refl
held_turned t Ancestor = refl

pub count_turned : (t : Held) (side : Side) → length (held_of (turned t) (facing_side side)) ≡ length (held_of t side)
count_turned t side = ap length (held_turned t side) ∙ length-map (held_of t side) exchanged_hunk

holding_turned : (t : Held) (side : Side) (hs : List Hunk) → holding (turned t) (facing_side side) (map exchanged_hunk hs) ≡ turned (holding t side hs)
holding_turned t Current hs = refl
holding_turned t Other hs = refl
holding_turned t Ancestor hs = refl

changed_turned : (r : Option TableRefusal) (t' t : Held) → changed r (turned t') (turned t) ≡ turned (changed r t' t)
changed_turned None t' t = refl
changed_turned (Some r) t' t = refl

both_turned : (t : Held) (side : Side) (r r' : Option TableRefusal) (hs hs' : List Hunk) → r' ≡ r → hs' ≡ map exchanged_hunk hs
    → changed r' (holding (turned t) (facing_side side) hs') (turned t) ≡ turned (changed r (holding t side hs) t)
both_turned t side r r' hs hs' p q =
    ap₂ (λ (x : Option TableRefusal) (y : List Hunk). changed x (holding (turned t) (facing_side side) y) (turned t)) p q
    ∙ ap (λ (x : Held). changed r x (turned t)) (holding_turned t side hs)
    ∙ changed_turned r (holding t side hs) t

entered_turned : (t : Held) (h : Hunk) → enter_after (turned t) (exchanged_hunk h) ≡ turned (enter_after t h)
entered_turned t h =
    let hs = held_of t h.side in
    both_turned t h.side (enter_questions t h.side h) (enter_questions (turned t) (facing_side h.side) (exchanged_hunk h)) (hs ++ (h ∷ [])) (held_of (turned t) (facing_side h.side) ++ (exchanged_hunk h ∷ []))
    (enter_turned t h.side h)
    (ap (λ (x : List Hunk). x ++ (exchanged_hunk h ∷ [])) (held_turned t h.side) ∙ sym (map-append exchanged_hunk hs (h ∷ [])))

withdrawn_turned : (t : Held) (side : Side) → withdraw_after (turned t) (facing_side side) ≡ turned (withdraw_after t side)
withdrawn_turned t side =
    let hs = held_of t side in
    let hs' = held_of (turned t) (facing_side side) in
    both_turned t side (withdraw_questions t side) (withdraw_questions (turned t) (facing_side side)) (without_last hs) (without_last hs')
    (withdraw_turned t side)
    (ap₂ (λ (n : ℕ) (x : List Hunk). take (n - 1) x) (count_turned t side) (held_turned t side) ∙ take-map exchanged_hunk (length hs - 1) hs)

-- an opening is refused on both or on neither
opened_either : (a b c : Bool) (t : Held) (x y z : ℕ)
    → changed (ask a (CountTooLarge Ancestor) (ask c (CountTooLarge Current) (ask b (CountTooLarge Other) None))) (opened x z y) (turned t)
    ≡ turned (changed (ask a (CountTooLarge Ancestor) (ask b (CountTooLarge Current) (ask c (CountTooLarge Other) None))) (opened x y z) t)
opened_either true true true t x y z = refl
opened_either true true false t x y z = refl
opened_either true false true t x y z = refl
opened_either true false false t x y z = refl
opened_either false b c t x y z = refl

open_turned : (t : Held) (a c o : ℕ) → open_after (turned t) a o c ≡ turned (open_after t a c o)
open_turned t a c o = opened_either (leb a max_lines) (leb c max_lines) (leb o max_lines) t a c o

pub call_turned : (t : Held) (x : Call) → after_call (turned t) (exchanged_call x) ≡ turned (after_call t x)
call_turned t (open_with a c o) = open_turned t a c o
call_turned t (enter h) = entered_turned t h
call_turned t (withdraw side) = withdrawn_turned t side
call_turned t (render s a) = refl

pub calls_turned : (t : Held) (xs : List Call) → after_calls (turned t) (map exchanged_call xs) ≡ turned (after_calls t xs)
calls_turned t [] = refl
calls_turned t (x ∷ xs) = ap (λ (u : Held). after_calls u (map exchanged_call xs)) (call_turned t x) ∙ calls_turned (after_call t x) xs
