-- What is held is the accepted enters not withdrawn.
use Rattle.std.proofs.Common.{◌≡◌, ℕ, zero, suc, ◌+◌, ◌-◌, Bool, true, false, cond, List, [], ◌∷◌, ◌++◌, reverse, length, take, Some, None, Option, sym, refl, ap, ◌∙◌, subst, inl, inr, arith, length-append, length-take, take_all, take-take}
use mathlib.Core.List.{reverse-append}
use lib.Seq.{take-nil, take-append-le}
use Rattle.std.proofs.lemmas.List.{append-nil, append_assoc}
use Rattle.std.proofs.lemmas.Bool.{true≢false, false≢true}
use Rattle.rules.specs.declared.hunk.Hunk.{Hunk}
use Rattle.rules.specs.declared.hunk.Side.{Side}
use Rattle.rules.specs.declared.hunk.Side.TheVariants.{Current, Other, Ancestor}
use Rattle.rules.specs.declared.refusal.TableRefusal.{TableRefusal}
use Rattle.rules.specs.Questions.{answered, changed}
use Rattle.rules.specs.Tables.{Held, opened, holding, enter_questions, held_of, new_table, open_questions, same_side, withdraw_questions, without_last}
use Rattle.rules.specs.Runs.{Call, enter, withdraw, render, answer, standing, MadeCall, after_call, after_calls, after_run, entered_ahead, is_ok, made_calls, open_with, standing_by, accepts}
use Rattle.rules.specs.TableLaws.{TwoSided}
use Rattle.rules.specs.RunLaws.{HeldLaw}
use Rattle.rules.proofs.TableKeeps.{after_both, same_says}

-- a run call by call, from its first one on
by_last : (P : List Call → Type 0) → ((xs : List Call) (x : Call) → P xs → P (xs ++ (x ∷ []))) → (xs ys : List Call) → P xs → P (xs ++ ys)
by_last P f xs [] p = subst P (sym (append-nil xs)) p
by_last P f xs (y ∷ ys) p = subst P (append_assoc xs (y ∷ []) ys) (by_last P f (xs ++ (y ∷ [])) ys (f xs y p))

made_last : (t : Held) (xs : List Call) (x : Call) → made_calls t (xs ++ (x ∷ [])) ≡ made_calls t xs ++ (record { call = x; accepted = accepts (answer (after_calls t xs) x) } ∷ [])
made_last t [] x = refl
made_last t (y ∷ ys) x = ap (λ (r : List MadeCall). record { call = y; accepted = accepts (answer t y) } ∷ r) (made_last (after_call t y) ys x)

-- what a side holds behind n withdrawals
abbrev Left : Held → Side → ℕ → List Hunk
Left t side n = take (length (held_of t side) - n) (held_of t side)

abbrev Reads : Held → Side → (ℕ → List Hunk) → Type 0
Reads t side f = (n : ℕ) → f n ≡ Left t side n

-- the hunks of a side, where those of a side are others
held_same : (t : Held) (sd side : Side) (hs : List Hunk) → TwoSided side → same_side sd side ≡ true → held_of (holding t sd hs) side ≡ hs
held_same t Current Current hs two e = refl
held_same t Current Other hs two e = absurd (false≢true e)
held_same t Current Ancestor hs two e = absurd (false≢true e)
held_same t Other Current hs two e = absurd (false≢true e)
held_same t Other Other hs two e = refl
held_same t Other Ancestor hs two e = absurd (false≢true e)
held_same t Ancestor Current hs two e = absurd (false≢true e)
held_same t Ancestor Other hs two e = absurd (false≢true e)
held_same t Ancestor Ancestor hs (inl q) e = let z : ◌≡◌ {A = ℕ} 0 1 = cc in absurd (omega arith)
held_same t Ancestor Ancestor hs (inr q) e = let z : ◌≡◌ {A = ℕ} 0 1 = cc in absurd (omega arith)

held_other : (t : Held) (sd side : Side) (hs : List Hunk) → same_side sd side ≡ false → held_of (holding t sd hs) side ≡ held_of t side
held_other t Current Current hs e = absurd (true≢false e)
held_other t Current Other hs e = refl
held_other t Current Ancestor hs e = refl
held_other t Other Current hs e = refl
held_other t Other Other hs e = absurd (true≢false e)
held_other t Other Ancestor hs e = refl
held_other t Ancestor side hs e = refl

-- one hunk more, and one less
pushed : (hs : List Hunk) (h : Hunk) (f : ℕ → List Hunk) → ((n : ℕ) → f n ≡ take (length hs - n) hs) → (n : ℕ) → entered_ahead n h f ≡ take (length (hs ++ (h ∷ [])) - n) (hs ++ (h ∷ []))
pushed hs h f ih zero =
    let gs = hs ++ (h ∷ []) in
    ap (λ (x : List Hunk). x ++ (h ∷ [])) (ih 0 ∙ take_all (length hs - 0) hs (omega arith)) ∙ sym (take_all (length gs - 0) gs (omega arith))
pushed hs h f ih (suc n) =
    let l : length (hs ++ (h ∷ [])) - suc n ≡ length hs - n = rw (length-append hs (h ∷ [])) (omega arith) in
    ih n ∙ sym (take-append-le (length hs - n) hs (h ∷ []) (omega arith)) ∙ ap (λ (i : ℕ). take i (hs ++ (h ∷ []))) (sym l)

popped : (hs : List Hunk) (n : ℕ) → take (length hs - suc n) hs ≡ take (length (without_last hs) - n) (without_last hs)
popped hs n =
    let l : length (without_last hs) - n ≡ length hs - suc n = rw (length-take (length hs - 1) hs) (omega arith) in
    sym (take-take (length hs - suc n) (length hs - 1) hs (omega arith)) ∙ ap (λ (i : ℕ). take i (without_last hs)) (sym l)

abbrev cut_off : ℕ → List Hunk → List Hunk
cut_off n hs = take (length hs - n) hs

module _ (t : Held) (side : Side) (two : TwoSided side) (f : ℕ → List Hunk) (ih : Reads t side f) where
  entered : (h : Hunk) (n : ℕ) (b : Bool) → same_side h.side side ≡ b → cond b (entered_ahead n h f) (f n) ≡ Left (holding t h.side (held_of t h.side ++ (h ∷ []))) side n
  entered h n true e =
      let w : held_of t side ++ (h ∷ []) ≡ held_of t h.side ++ (h ∷ []) = ap (λ (x : Side). held_of t x ++ (h ∷ [])) (sym (same_says h.side side e)) in
      pushed (held_of t side) h f ih n ∙ ap (cut_off n) (w ∙ sym (held_same t h.side side (held_of t h.side ++ (h ∷ [])) two e))
  entered h n false e = ih n ∙ ap (cut_off n) (sym (held_other t h.side side (held_of t h.side ++ (h ∷ [])) e))

  withdrawn : (sd : Side) (n : ℕ) (b : Bool) → same_side sd side ≡ b → cond b (f (suc n)) (f n) ≡ Left (holding t sd (without_last (held_of t sd))) side n
  withdrawn sd n true e =
      let w : without_last (held_of t side) ≡ without_last (held_of t sd) = ap (λ (x : Side). without_last (held_of t x)) (sym (same_says sd side e)) in
      ih (suc n) ∙ popped (held_of t side) n ∙ ap (cut_off n) (w ∙ sym (held_same t sd side (without_last (held_of t sd)) two e))
  withdrawn sd n false e = ih n ∙ ap (cut_off n) (sym (held_other t sd side (without_last (held_of t sd)) e))

  none_held : (sd : Side) (a c o n : ℕ) → [] ≡ Left (opened a c o) sd n
  none_held Current a c o n = sym (take-nil (0 - n))
  none_held Other a c o n = sym (take-nil (0 - n))
  none_held Ancestor a c o n = sym (take-nil (0 - n))

  open_step : (a c o n : ℕ) (q : Option TableRefusal) → cond (is_ok (answered {A = Unit {0}} q tt)) [] (f n) ≡ Left (changed q (opened a c o) t) side n
  open_step a c o n None = none_held side a c o n
  open_step a c o n (Some r) = ih n

  enter_step : (h : Hunk) (n k : ℕ) (q : Option TableRefusal) → cond (is_ok (answered q k)) (standing_by side n (enter h) f) (f n) ≡ Left (changed q (holding t h.side (held_of t h.side ++ (h ∷ []))) t) side n
  enter_step h n k None = entered h n (same_side h.side side) refl
  enter_step h n k (Some r) = ih n

  withdraw_step : (sd : Side) (n k : ℕ) (q : Option TableRefusal) → cond (is_ok (answered q k)) (standing_by side n (withdraw sd) f) (f n) ≡ Left (changed q (holding t sd (without_last (held_of t sd))) t) side n
  withdraw_step sd n k None = withdrawn sd n (same_side sd side) refl
  withdraw_step sd n k (Some r) = ih n

  either : (b : Bool) (n : ℕ) → cond b (f n) (f n) ≡ Left t side n
  either true n = ih n
  either false n = ih n

  call_step : (x : Call) (n : ℕ) → cond (accepts (answer t x)) (standing_by side n x f) (f n) ≡ Left (after_call t x) side n
  call_step (open_with a c o) n = open_step a c o n (open_questions a c o)
  call_step (enter h) n = enter_step h n (length (held_of t h.side) + 1) (enter_questions t h.side h)
  call_step (withdraw sd) n = withdraw_step sd n (length (held_of t sd) - 1) (withdraw_questions t sd)
  call_step (render s a) n = either (accepts (answer t (render s a))) n

module _ (side : Side) (two : TwoSided side) where
  abbrev Stands : List Call → Type 0
  Stands xs = (n : ℕ) → standing side n (reverse (made_calls new_table xs)) ≡ Left (after_run xs) side n

  none_stands : (sd : Side) (n : ℕ) → [] ≡ Left new_table sd n
  none_stands Current n = sym (take-nil (0 - n))
  none_stands Other n = sym (take-nil (0 - n))
  none_stands Ancestor n = sym (take-nil (0 - n))

  one_more : (xs : List Call) (x : Call) → Stands xs → Stands (xs ++ (x ∷ []))
  one_more xs x ih n =
      let made = reverse (made_calls new_table xs) in
      let last : MadeCall = record { call = x; accepted = accepts (answer (after_run xs) x) } in
      ap (standing side n) (ap reverse (made_last new_table xs x) ∙ reverse-append (made_calls new_table xs) (last ∷ []))
      ∙ call_step (after_run xs) side two (λ m. standing side m made) ih x n
      ∙ ap (λ (t : Held). Left t side n) (sym (after_both new_table xs (x ∷ [])))

  stands : (xs : List Call) → Stands xs
  stands xs = by_last Stands one_more [] xs (none_stands side)

pub held_law : (xs : List Call) → HeldLaw xs
held_law xs side two = sym (stands side two xs 0 ∙ take_all (length (held_of (after_run xs) side) - 0) (held_of (after_run xs) side) (omega arith))
