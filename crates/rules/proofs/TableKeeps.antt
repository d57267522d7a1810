-- What a table keeps through every run, and the counts that it has.
use Rattle.std.proofs.Common.{◌≡◌, ℕ, zero, suc, ◌-◌, ◌<◌, ◌≤◌, true, ◌&&◌, leb, List, [], ◌∷◌, ◌++◌, length, take, Some, None, Option, sym, refl, ap, ◌∙◌, subst, subst₂, arith, length-append, length-take}
use Rattle.std.proofs.ByRecursion.{All-push, All-take}
use Rattle.std.specs.List.{AllByRecursion}
use Rattle.std.proofs.lemmas.Bool.{false≢true, leb-true, le-leb, and_parts, and_from}
use Rattle.rules.specs.declared.hunk.Hunk.{Hunk}
use Rattle.rules.specs.declared.hunk.Side.{Side}
use Rattle.rules.specs.declared.hunk.Side.TheVariants.{Current, Other, Ancestor}
use Rattle.rules.specs.declared.refusal.TableRefusal.{TableRefusal}
use Rattle.rules.specs.Limits.{max_lines, max_hunks}
use Rattle.rules.specs.Hunks.{Sheets}
use Rattle.rules.specs.Questions.{changed}
use Rattle.rules.specs.Tables.{Held, opened, new_table, held_of, holding, within, changes, follows, last_from, last_of, without_last, open_questions, enter_questions, withdraw_questions, same_side, sound, keeps_from}
use Rattle.rules.specs.Runs.{Call, open_with, enter, withdraw, render, after_call, after_calls, after_run, opening, NoOpening}
use Rattle.rules.specs.Order.{InOrder, Kept}
use Rattle.rules.specs.TableLaws.{NotEmpty, MayEnter, TableKeeps, KeepsLaw}
use Rattle.rules.specs.RenderLaws.{Counted}
use Rattle.rules.specs.RunLaws.{TablesKeep, FewLines}
use Rattle.rules.proofs.Asking.{yes_then, then_yes}
use Rattle.rules.proofs.Keeping.{side_same}
use Rattle.rules.proofs.Rules.{within_says, says_within, changes_says, says_changes, follows_says, says_follows, last_behind, may_enter}

-- one more hunk, behind the last
module _ (side : Side) (na ns : ℕ) (h : Hunk) (e : h.side ≡ side) (b₀ : h.before.start ≤ h.before.end) (b₁ : h.before.end ≤ na) (a₀ : h.after.start ≤ h.after.end) (a₁ : h.after.end ≤ ns) where
  order_last : (g : Hunk) (gs : List Hunk) → InOrder side na ns (suc g.before.end) g.after.end gs → follows (last_from (Some g) gs) h ≡ true → InOrder side na ns (suc g.before.end) g.after.end (gs ++ (h ∷ []))
  order_last g [] p q = let b = follows_says g h q in (e, b.0, b₀, b₁, b.1, a₀, a₁, tt)
  order_last g (x ∷ xs) p q = (p.0, p.1, p.2, p.3, p.4, p.5, p.6, order_last x xs p.7 q)

  order_more : (hs : List Hunk) → InOrder side na ns 0 0 hs → follows (last_of hs) h ≡ true → InOrder side na ns 0 0 (hs ++ (h ∷ []))
  order_more [] p q = (e, omega arith, b₀, b₁, omega arith, a₀, a₁, tt)
  order_more (g ∷ gs) p q = (p.0, p.1, p.2, p.3, p.4, p.5, p.6, order_last g gs p.7 q)

order_take : (side : Side) (na ns b a n : ℕ) (hs : List Hunk) → InOrder side na ns b a hs → InOrder side na ns b a (take n hs)
order_take side na ns b a zero hs p = tt
order_take side na ns b a (suc n) [] p = tt
order_take side na ns b a (suc n) (h ∷ hs) p = (p.0, p.1, p.2, p.3, p.4, p.5, p.6, order_take side na ns (suc h.before.end) h.after.end n hs p.7)

few_more : (hs : List Hunk) (h : Hunk) → length hs < max_hunks → length (hs ++ (h ∷ [])) ≤ max_hunks
few_more hs h lt = rw (length-append hs (h ∷ [])) (omega arith)

few_less : (n : ℕ) (hs : List Hunk) → length hs ≤ max_hunks → length (take n hs) ≤ max_hunks
few_less n hs le = rw (length-take n hs) (omega arith)

entered : (t : Held) (side : Side) (h : Hunk) → h.side ≡ side → TableKeeps t → MayEnter t side h → TableKeeps (holding t side (held_of t side ++ (h ∷ [])))
entered t Current h e p q = record {
  small = p.small;
  current = order_more Current t.ancestor_lines t.current_lines h e q.before_within.0 q.before_within.1 q.after_within.0 q.after_within.1 t.current p.current (last_behind t.current h q.behind);
  other = p.other;
  few_current = few_more t.current h q.room;
  few_other = p.few_other;
  full_current = All-push NotEmpty t.current h p.full_current q.not_empty;
  full_other = p.full_other;
}
entered t Other h e p q = record {
  small = p.small;
  current = p.current;
  other = order_more Other t.ancestor_lines t.other_lines h e q.before_within.0 q.before_within.1 q.after_within.0 q.after_within.1 t.other p.other (last_behind t.other h q.behind);
  few_current = p.few_current;
  few_other = few_more t.other h q.room;
  full_current = p.full_current;
  full_other = All-push NotEmpty t.other h p.full_other q.not_empty;
}
entered t Ancestor h e p q = p

shortened : (t : Held) (side : Side) (n : ℕ) → TableKeeps t → TableKeeps (holding t side (take n (held_of t side)))
shortened t Current n p = record {
  small = p.small;
  current = order_take Current t.ancestor_lines t.current_lines 0 0 n t.current p.current;
  other = p.other;
  few_current = few_less n t.current p.few_current;
  few_other = p.few_other;
  full_current = All-take NotEmpty n t.current p.full_current;
  full_other = p.full_other;
}
shortened t Other n p = record {
  small = p.small;
  current = p.current;
  other = order_take Other t.ancestor_lines t.other_lines 0 0 n t.other p.other;
  few_current = p.few_current;
  few_other = few_less n t.other p.few_other;
  full_current = p.full_current;
  full_other = All-take NotEmpty n t.other p.full_other;
}
shortened t Ancestor n p = p

either_keeps : (r : Option TableRefusal) (t t' : Held) → (r ≡ None → TableKeeps t') → TableKeeps t → TableKeeps (changed r t' t)
either_keeps None t t' f p = f refl
either_keeps (Some r) t t' f p = p

pub counts_small : (a c o : ℕ) → open_questions a c o ≡ None → (a ≤ max_lines) × (c ≤ max_lines) × (o ≤ max_lines)
counts_small a c o e =
    let q₀ = yes_then (leb a max_lines) _ _ e in
    let q₁ = yes_then (leb c max_lines) _ _ q₀.1 in
    let q₂ = yes_then (leb o max_lines) _ None q₁.1 in
    (leb-true a max_lines q₀.0, leb-true c max_lines q₁.0, leb-true o max_lines q₂.0)

small_counts : (a c o : ℕ) → a ≤ max_lines → c ≤ max_lines → o ≤ max_lines → open_questions a c o ≡ None
small_counts a c o p q r = then_yes (leb a max_lines) _ _ (le-leb a max_lines p) (then_yes (leb c max_lines) _ _ (le-leb c max_lines q) (then_yes (leb o max_lines) _ None (le-leb o max_lines r) refl))

opened_keeps : (a c o : ℕ) → (a ≤ max_lines) × (c ≤ max_lines) × (o ≤ max_lines) → TableKeeps (opened a c o)
opened_keeps a c o p = record { small = p; current = tt; other = tt; few_current = omega arith; few_other = omega arith; full_current = tt; full_other = tt }

pub call_keeps : (t : Held) (x : Call) → TableKeeps t → TableKeeps (after_call t x)
call_keeps t (open_with a c o) p = either_keeps (open_questions a c o) t (opened a c o) (λ e. opened_keeps a c o (counts_small a c o e)) p
call_keeps t (enter h) p =
    either_keeps (enter_questions t h.side h) t (holding t h.side (held_of t h.side ++ (h ∷ []))) (λ e. entered t h.side h refl p (may_enter t h.side h e)) p
call_keeps t (withdraw side) p =
    either_keeps (withdraw_questions t side) t (holding t side (without_last (held_of t side))) (λ _. shortened t side (length (held_of t side) - 1) p) p
call_keeps t (render s a) p = p

calls_keep : (t : Held) (xs : List Call) → TableKeeps t → TableKeeps (after_calls t xs)
calls_keep t [] p = p
calls_keep t (x ∷ xs) p = calls_keep (after_call t x) xs (call_keeps t x p)

pub tables_keep : TablesKeep
tables_keep xs = calls_keep new_table xs (opened_keeps 0 0 0 (omega arith))

-- the counts stay
holding_counted : (s : Sheets) (t : Held) (side : Side) (hs : List Hunk) → Counted s t → Counted s (holding t side hs)
holding_counted s t Current hs p = record { ancestor = p.ancestor; current = p.current; other = p.other }
holding_counted s t Other hs p = record { ancestor = p.ancestor; current = p.current; other = p.other }
holding_counted s t Ancestor hs p = p

changed_counted : (s : Sheets) (r : Option TableRefusal) (t : Held) (side : Side) (hs : List Hunk) → Counted s t → Counted s (changed r (holding t side hs) t)
changed_counted s None t side hs p = holding_counted s t side hs p
changed_counted s (Some r) t side hs p = p

call_counted : (s : Sheets) (t : Held) (x : Call) → NoOpening x → Counted s t → Counted s (after_call t x)
call_counted s t (open_with a c o) n p = absurd n
call_counted s t (enter h) n p = changed_counted s (enter_questions t h.side h) t h.side (held_of t h.side ++ (h ∷ [])) p
call_counted s t (withdraw side) n p = changed_counted s (withdraw_questions t side) t side (without_last (held_of t side)) p
call_counted s t (render u a) n p = p

calls_counted : (s : Sheets) (t : Held) (xs : List Call) → AllByRecursion NoOpening xs → Counted s t → Counted s (after_calls t xs)
calls_counted s t [] n p = p
calls_counted s t (x ∷ xs) n p = calls_counted s (after_call t x) xs n.1 (call_counted s t x n.0 p)

pub after_both : (t : Held) (xs ys : List Call) → after_calls t (xs ++ ys) ≡ after_calls (after_calls t xs) ys
after_both t [] ys = refl
after_both t (x ∷ xs) ys = after_both (after_call t x) xs ys

pub since_opening : (s : Sheets) (xs ys : List Call) → FewLines s → AllByRecursion NoOpening ys → Counted s (after_run (xs ++ (opening s ∷ ys)))
since_opening s xs ys few n =
    let t = after_run xs in
    let q = small_counts (length s.ancestor) (length s.current) (length s.other) few.ancestor few.current few.other in
    let u = opened (length s.ancestor) (length s.current) (length s.other) in
    let p : Counted s (changed (open_questions (length s.ancestor) (length s.current) (length s.other)) u t) = rw q (record { ancestor = refl; current = refl; other = refl }) in
    subst (Counted s) (sym (after_both new_table xs (opening s ∷ ys))) (calls_counted s (after_call t (opening s)) ys n p)

pub table_kept : (s : Sheets) (t : Held) → TableKeeps t → Counted s t → Kept s t.current t.other
table_kept s t p n = record {
  current = subst₂ (λ (a c : ℕ). InOrder Current a c 0 0 t.current) (sym n.ancestor) (sym n.current) p.current;
  other = subst₂ (λ (a o : ℕ). InOrder Other a o 0 0 t.other) (sym n.ancestor) (sym n.other) p.other;
}

-- the test of a side's hunks
pub same_says : (a b : Side) → same_side a b ≡ true → a ≡ b
same_says Current Current e = refl
same_says Current Other e = absurd (false≢true e)
same_says Current Ancestor e = absurd (false≢true e)
same_says Other Current e = absurd (false≢true e)
same_says Other Other e = refl
same_says Other Ancestor e = absurd (false≢true e)
same_says Ancestor Current e = absurd (false≢true e)
same_says Ancestor Other e = absurd (false≢true e)
same_says Ancestor Ancestor e = refl

abbrev past : Option Hunk → ℕ
past None = 0
past (Some g) = suc g.before.end

abbrev after_past : Option Hunk → ℕ
after_past None = 0
after_past (Some g) = g.after.end

starts_past : (g : Option Hunk) (h : Hunk) → follows g h ≡ true → (past g ≤ h.before.start) × (after_past g ≤ h.after.start)
starts_past None h e = (omega arith, omega arith)
starts_past (Some g) h e = follows_says g h e

past_follows : (g : Option Hunk) (h : Hunk) → past g ≤ h.before.start → after_past g ≤ h.after.start → follows g h ≡ true
past_follows None h b a = refl
past_follows (Some g) h b a = says_follows g h (b, a)

module _ (na ns : ℕ) (side : Side) where
  keeps_says : (g : Option Hunk) (hs : List Hunk) → keeps_from na ns side g hs ≡ true → InOrder side na ns (past g) (after_past g) hs × AllByRecursion NotEmpty hs
  keeps_says g [] e = (tt, tt)
  keeps_says g (h ∷ hs) e =
      let p = and_parts (sound na ns side h && follows g h) (keeps_from na ns side (Some h) hs) e in
      let q = and_parts (sound na ns side h) (follows g h) p.0 in
      let s = and_parts (same_side h.side side) (within na h.before && (within ns h.after && changes h)) q.0 in
      let w = and_parts (within na h.before) (within ns h.after && changes h) s.1 in
      let v = and_parts (within ns h.after) (changes h) w.1 in
      let b = within_says na h.before w.0 in
      let a = within_says ns h.after v.0 in
      let f = starts_past g h q.1 in
      let r = keeps_says (Some h) hs p.1 in
      ((same_says h.side side s.0, f.0, b.0, b.1, f.1, a.0, a.1, r.0), (changes_says h v.1, r.1))

  says_keeps : (g : Option Hunk) (hs : List Hunk) → InOrder side na ns (past g) (after_past g) hs → AllByRecursion NotEmpty hs → keeps_from na ns side g hs ≡ true
  says_keeps g [] p q = refl
  says_keeps g (h ∷ hs) p q =
      and_from (sound na ns side h && follows g h) (keeps_from na ns side (Some h) hs)
      (and_from (sound na ns side h) (follows g h)
      (and_from (same_side h.side side) (within na h.before && (within ns h.after && changes h)) (ap (λ (x : Side). same_side x side) p.0 ∙ side_same side)
      (and_from (within na h.before) (within ns h.after && changes h) (says_within na h.before (p.2, p.3))
      (and_from (within ns h.after) (changes h) (says_within ns h.after (p.5, p.6)) (says_changes h q.0))))
      (past_follows g h p.1 p.4))
      (says_keeps (Some h) hs p.7 q.1)

pub keeps_law : KeepsLaw
keeps_law na ns side hs = (keeps_says na ns side None hs, λ p. says_keeps na ns side None hs p.0 p.1)
