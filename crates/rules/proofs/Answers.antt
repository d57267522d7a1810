-- The answers of two units to the same calls, sides exchanged.
use Rattle.std.proofs.Common.{◌≡◌, ℕ, ◌+◌, ◌-◌, Bool, true, false, eqb, leb, ◌⊎◌, List, [], ◌∷◌, map, length, Some, None, Option, Result, sym, refl, ap, subst, ap₂, subst₂, inl, inr}
use Rattle.std.proofs.lemmas.Bool.{leb-false}
use Rattle.rules.specs.declared.hunk.Side.TheVariants.{Current, Other, Ancestor}
use Rattle.rules.specs.declared.mode.Conflict as modes
use Rattle.rules.specs.declared.mode.Conflict.TheVariants.{Keep, ResolveWithOurs, ResolveWithTheirs, ResolveWithUnion}
use Rattle.rules.specs.declared.mode.Resolution.{Resolution}
use Rattle.rules.specs.declared.refusal.RenderRefusal.{RenderRefusal}
use Rattle.rules.specs.declared.refusal.RenderRefusal.TheVariants.{CountsDiffer, MarkerSize, LabelTooLong, SinkTooSmall}
use Rattle.rules.specs.declared.refusal.TableRefusal.{TableRefusal}
use Rattle.rules.specs.declared.refusal.TableRefusal.TheVariants.{CountTooLarge}
use Rattle.rules.specs.Limits.{max_lines}
use Rattle.rules.specs.Hunks.{Sheets}
use Rattle.rules.specs.Markers.{Labels}
use Rattle.rules.specs.Verdict.{verdict}
use Rattle.rules.specs.Questions.{ask, answered}
use Rattle.rules.specs.Refusals.{render_number}
use Rattle.rules.specs.Tables.{Held, enter_answer, new_table, withdraw_answer}
use Rattle.rules.specs.Renders.{Asked, room, needed, label_fits, shared_questions, size_fits, size_questions}
use Rattle.rules.specs.Runs.{Call, enter, withdraw, render, answer, answers, after_call, counted_as, judged_as, open_with, opened_as}
use Rattle.rules.specs.Exchange.{exchanged_call, exchanged_labels, exchanged_mode, exchanged_sheets}
use Rattle.rules.specs.WalkLaws.{Pairwise}
use Rattle.rules.specs.TableLaws.{TableKeeps}
use Rattle.rules.specs.RunLaws.{both_open, none_opens, one_count, one_verdict, one_number, first_too_long, second_too_long, AlikeAnswers, SameCallsSameHunks}
use Rattle.rules.proofs.Agreed.{units_agree}
use Rattle.rules.proofs.Rendered.{counted_then}
use Rattle.rules.proofs.TableKeeps.{tables_keep, call_keeps, table_kept}
use Rattle.rules.proofs.Turned.{turned, enter_turned, withdraw_turned, count_turned, call_turned, calls_turned}

-- openings
opens_alike : (a b c : Bool) → AlikeAnswers (opened_as (answered (ask a (CountTooLarge Ancestor) (ask b (CountTooLarge Current) (ask c (CountTooLarge Other) None))) tt))
    (opened_as (answered (ask a (CountTooLarge Ancestor) (ask c (CountTooLarge Current) (ask b (CountTooLarge Other) None))) tt))
opens_alike true true true = both_open
opens_alike true true false = none_opens (CountTooLarge Other) (CountTooLarge Current) refl
opens_alike true false true = none_opens (CountTooLarge Current) (CountTooLarge Other) refl
opens_alike true false false = none_opens (CountTooLarge Current) (CountTooLarge Current) refl
opens_alike false b c = none_opens (CountTooLarge Ancestor) (CountTooLarge Ancestor) refl

-- questions of a render: both get through, or both stop at one number
abbrev BothStop : Option RenderRefusal → Option RenderRefusal → Type 0
BothStop q q' = (r : RenderRefusal) × (r' : RenderRefusal) × (q ≡ Some r) × (q' ≡ Some r') × (render_number r ≡ render_number r')

abbrev BothThrough : Option RenderRefusal → Option RenderRefusal → Type 0
BothThrough q q' = ((q ≡ None) × (q' ≡ None)) ⊎ BothStop q q'

ask_one : (b : Bool) (r : RenderRefusal) (q q' : Option RenderRefusal) → BothThrough q q' → BothThrough (ask b r q) (ask b r q')
ask_one true r q q' p = p
ask_one false r q q' p = inr (r, r, refl, refl, refl)

ask_two : (b c : Bool) (r r' : RenderRefusal) (q q' : Option RenderRefusal) → render_number r ≡ render_number r' → BothThrough q q' → BothThrough (ask b r (ask c r' q)) (ask c r (ask b r' q'))
ask_two true true r r' q q' e p = p
ask_two true false r r' q q' e p = inr (r', r, refl, refl, sym e)
ask_two false true r r' q q' e p = inr (r, r', refl, refl, e)
ask_two false false r r' q q' e p = inr (r, r, refl, refl, refl)

mode_fits : (m : modes.Conflict) → size_fits (exchanged_mode m) ≡ size_fits m
mode_fits (Keep st n) = refl
mode_fits ResolveWithOurs = refl
mode_fits ResolveWithTheirs = refl
mode_fits ResolveWithUnion = refl

sizes_alike : (t : Held) (s : Sheets) (m : modes.Conflict) (l : Labels) → BothThrough (size_questions t s m l) (size_questions (turned t) (exchanged_sheets s) (exchanged_mode m) (exchanged_labels l))
sizes_alike t s m l =
    let la = label_fits l.ancestor in
    let lc = label_fits l.current in
    let lo = label_fits l.other in
    let ea = eqb (length s.ancestor) t.ancestor_lines in
    let ec = eqb (length s.current) t.current_lines in
    let eo = eqb (length s.other) t.other_lines in
    let q₀ : Option RenderRefusal = ask lc (LabelTooLong Current) (ask lo (LabelTooLong Other) None) in
    let q₀' : Option RenderRefusal = ask lo (LabelTooLong Current) (ask lc (LabelTooLong Other) None) in
    let q₁ : Option RenderRefusal = ask la (LabelTooLong Ancestor) q₀ in
    let q₁' : Option RenderRefusal = ask la (LabelTooLong Ancestor) q₀' in
    let q₂ : Option RenderRefusal = ask (size_fits m) MarkerSize q₁ in
    let q₂' : Option RenderRefusal = ask (size_fits m) MarkerSize q₁' in
    let q₃ : Option RenderRefusal = ask ec (CountsDiffer Current) (ask eo (CountsDiffer Other) q₂) in
    let q₃' : Option RenderRefusal = ask eo (CountsDiffer Current) (ask ec (CountsDiffer Other) q₂') in
    let w : BothThrough (ask ea (CountsDiffer Ancestor) q₃) (ask ea (CountsDiffer Ancestor) q₃') =
    ask_one ea (CountsDiffer Ancestor) q₃ q₃'
    (ask_two ec eo (CountsDiffer Current) (CountsDiffer Other) q₂ q₂' refl
    (ask_one (size_fits m) MarkerSize q₁ q₁'
    (ask_one la (LabelTooLong Ancestor) q₀ q₀'
    (ask_two lc lo (LabelTooLong Current) (LabelTooLong Other) None None refl (inl (refl, refl)))))) in
    subst (λ (f : Bool). BothThrough (ask ea (CountsDiffer Ancestor) q₃) (ask ea (CountsDiffer Ancestor) (ask eo (CountsDiffer Current) (ask ec (CountsDiffer Other) (ask f MarkerSize q₁'))))) (sym (mode_fits m)) w

-- where the shared ones are through, the next decides
abbrev then_ask : Option RenderRefusal → Option RenderRefusal → Option RenderRefusal
then_ask None next = next
then_ask (Some r) next = Some r

ask_then : (b : Bool) (r : RenderRefusal) (q p next : Option RenderRefusal) → p ≡ then_ask q next → ask b r p ≡ then_ask (ask b r q) next
ask_then true r q p next e = e
ask_then false r q p next e = refl

shared_then : (t : Held) (s : Sheets) (m : modes.Conflict) (l : Labels) (next : Option RenderRefusal) → shared_questions t s m l next ≡ then_ask (size_questions t s m l) next
shared_then t s m l next =
    ask_then (eqb (length s.ancestor) t.ancestor_lines) _ _ _ next
    (ask_then (eqb (length s.current) t.current_lines) _ _ _ next
    (ask_then (eqb (length s.other) t.other_lines) _ _ _ next
    (ask_then (size_fits m) _ _ _ next
    (ask_then (label_fits l.ancestor) _ _ _ next
    (ask_then (label_fits l.current) _ _ _ next
    (ask_then (label_fits l.other) _ None next next refl))))))

-- two renderings that may differ in length
rooms_alike : (n n' c : ℕ) (v : Resolution) (x y : Bool) → leb n c ≡ x → leb n' c ≡ y
    → AlikeAnswers (judged_as (answered (ask x (SinkTooSmall n c) None) v)) (judged_as (answered (ask y (SinkTooSmall n' c) None) v))
rooms_alike n n' c v true true e f = one_verdict v
rooms_alike n n' c v true false e f = second_too_long n' c v (leb-false n' c f)
rooms_alike n n' c v false true e f = first_too_long n c v (leb-false n c e)
rooms_alike n n' c v false false e f = one_number (SinkTooSmall n c) (SinkTooSmall n' c) refl

module _ (t : Held) (s : Sheets) (a : Asked) (keeps : TableKeeps t) where
  abbrev u : Held
  u = turned t

  abbrev s' : Sheets
  s' = exchanged_sheets s

  abbrev m' : modes.Conflict
  m' = exchanged_mode a.mode

  abbrev l' : Labels
  l' = exchanged_labels a.labels

  abbrev v : Resolution
  v = verdict a.mode s t.current t.other

  abbrev n : ℕ
  n = needed t s a.mode a.labels

  abbrev n' : ℕ
  n' = needed u s' m' l'

  abbrev Told : Option RenderRefusal → Option RenderRefusal → Resolution → Type 0
  Told q q' v' = AlikeAnswers (judged_as (answered (then_ask q (room n a.capacity)) v)) (judged_as (answered (then_ask q' (room n' a.capacity)) v'))

  judged_alike : BothThrough (size_questions t s a.mode a.labels) (size_questions u s' m' l') → Told (size_questions t s a.mode a.labels) (size_questions u s' m' l') (verdict m' s' u.current u.other)
  judged_alike (inl (p, p')) =
      let kept = table_kept s t keeps (counted_then t s a.mode a.labels None p) in
      let w = (units_agree s t.current t.other kept).alike.same_judged a.mode in
      subst (Told (size_questions t s a.mode a.labels) (size_questions u s' m' l')) (sym w)
      (subst₂ (λ (q q' : Option RenderRefusal). Told q q' v) (sym p) (sym p') (rooms_alike n n' a.capacity v (leb n a.capacity) (leb n' a.capacity) refl refl))
  judged_alike (inr (r, r', p, p', e)) = subst₂ (λ (q q' : Option RenderRefusal). Told q q' (verdict m' s' u.current u.other)) (sym p) (sym p') (one_number r r' e)

  renders_alike : AlikeAnswers (answer t (render s a)) (answer u (exchanged_call (render s a)))
  renders_alike =
      subst₂ (λ (q q' : Option RenderRefusal). AlikeAnswers (judged_as (answered q v)) (judged_as (answered q' (verdict m' s' u.current u.other))))
      (sym (shared_then t s a.mode a.labels (room n a.capacity)))
      (sym (shared_then u s' m' l' (room n' a.capacity)))
      (judged_alike (sizes_alike t s a.mode a.labels))

call_alike : (t : Held) (x : Call) → TableKeeps t → AlikeAnswers (answer t x) (answer (turned t) (exchanged_call x))
call_alike t (open_with a c o) k = opens_alike (leb a max_lines) (leb c max_lines) (leb o max_lines)
call_alike t (enter h) k = subst (λ (y : Result ℕ TableRefusal). AlikeAnswers (counted_as (enter_answer t h)) (counted_as y))
    (sym (ap₂ (λ (r : Option TableRefusal) (n : ℕ). answered r (n + 1)) (enter_turned t h.side h) (count_turned t h.side))) (one_count (enter_answer t h))
call_alike t (withdraw side) k = subst (λ (y : Result ℕ TableRefusal). AlikeAnswers (counted_as (withdraw_answer t side)) (counted_as y))
    (sym (ap₂ (λ (r : Option TableRefusal) (n : ℕ). answered r (n - 1)) (withdraw_turned t side) (count_turned t side))) (one_count (withdraw_answer t side))
call_alike t (render s a) k = renders_alike t s a k

answers_alike : (t : Held) (xs : List Call) → TableKeeps t → Pairwise AlikeAnswers (answers t xs) (answers (turned t) (map exchanged_call xs))
answers_alike t [] k = tt
answers_alike t (x ∷ xs) k = (
  call_alike t x k,
  subst (λ (u : Held). Pairwise AlikeAnswers (answers (after_call t x) xs) (answers u (map exchanged_call xs))) (sym (call_turned t x)) (answers_alike (after_call t x) xs (call_keeps t x k)),
)

pub same_calls : SameCallsSameHunks
same_calls xs =
    let e = calls_turned new_table xs in
    record { same_answers = answers_alike new_table xs (tables_keep []); same_hunks = (ap (λ (u : Held). u.current) e, ap (λ (u : Held). u.other) e) }
