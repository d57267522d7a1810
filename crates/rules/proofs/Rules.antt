-- Open, enter and withdraw follow their rules.
use Rattle.std.proofs.Common.{◌≡◌, ℕ, zero, suc, ◌+◌, ◌-◌, ◌<◌, ◌≤◌, Bool, true, ltb, leb, ◌⊎◌, List, [], ◌∷◌, ◌++◌, length, take, Some, None, Ok, Err, Option, Result, sym, refl, ap, ◌∙◌, ap₂, inl, inr, ⊎_elim, arith, length-append, take_at}
use Rattle.std.specs.List.{slice_get}
use Rattle.std.proofs.lemmas.Bool.{false≢true, leb-true, le-leb, ltb-true, lt-ltb, and_parts, and_from, or_cases, or_left, or_right}
use Rattle.rules.specs.declared.hunk.Hunk.{Hunk}
use Rattle.rules.specs.declared.hunk.Side.{Side}
use Rattle.rules.specs.declared.hunk.Side.TheVariants.{Current, Other, Ancestor}
use Rattle.rules.specs.declared.hunk.Span.{Span}
use Rattle.rules.specs.declared.refusal.HunkRange.TheVariants.{Before, After}
use Rattle.rules.specs.declared.refusal.TableRefusal.{TableRefusal}
use Rattle.rules.specs.declared.refusal.TableRefusal.TheVariants.{CountTooLarge, NoHunksOfSide, SideFull, RangeOutside, HunkEmpty, NotBehindLast, NothingHeld}
use Rattle.rules.specs.Limits.{max_lines, max_hunks}
use Rattle.rules.specs.Questions.{ask, answered, changed, Question}
use Rattle.rules.specs.Refusals.{table_number, table_place, TableRefuses}
use Rattle.rules.specs.Tables.{Held, opened, held_of, count_of, holding, has_hunks, within, changes, follows, last_of, without_last, open_questions, open_answer, open_after, enter_questions, enter_answer, enter_after, withdraw_questions, withdraw_after}
use Rattle.rules.specs.TableLaws.{TwoSided, Within, NotEmpty, BehindLast, MayEnter, EnterLaw, WithdrawLaw, OpenTold, WithdrawTold, TablesFollowRules, Holds}
use Rattle.rules.proofs.Asking.{yes_then, then_yes, question}
use Rattle.rules.proofs.Keeping.{last_push}

pub within_says : (n : ℕ) (r : Span) → within n r ≡ true → Within n r
within_says n r e = let p = and_parts (leb r.start r.end) (leb r.end n) e in (leb-true r.start r.end p.0, leb-true r.end n p.1)

pub says_within : (n : ℕ) (r : Span) → Within n r → within n r ≡ true
says_within n r p = and_from (leb r.start r.end) (leb r.end n) (le-leb r.start r.end p.0) (le-leb r.end n p.1)

pub changes_says : (h : Hunk) → changes h ≡ true → NotEmpty h
changes_says h e = ⊎_elim
    (λ (p : ltb h.before.start h.before.end ≡ true). inl (ltb-true h.before.start h.before.end p))
    (λ (p : ltb h.after.start h.after.end ≡ true). inr (ltb-true h.after.start h.after.end p))
    (or_cases (ltb h.before.start h.before.end) (ltb h.after.start h.after.end) e)

pub says_changes : (h : Hunk) → NotEmpty h → changes h ≡ true
says_changes h m = ⊎_elim
    (λ (p : h.before.start < h.before.end). or_left (ltb h.before.start h.before.end) (ltb h.after.start h.after.end) (lt-ltb h.before.start h.before.end p))
    (λ (p : h.after.start < h.after.end). or_right (ltb h.before.start h.before.end) (ltb h.after.start h.after.end) (lt-ltb h.after.start h.after.end p))
    m

pub follows_says : (g h : Hunk) → follows (Some g) h ≡ true → (g.before.end < h.before.start) × (g.after.end ≤ h.after.start)
follows_says g h e =
    let p = and_parts (ltb g.before.end h.before.start) (leb g.after.end h.after.start) e in
    (ltb-true g.before.end h.before.start p.0, leb-true g.after.end h.after.start p.1)

pub says_follows : (g h : Hunk) → (g.before.end < h.before.start) × (g.after.end ≤ h.after.start) → follows (Some g) h ≡ true
says_follows g h p =
    and_from (ltb g.before.end h.before.start) (leb g.after.end h.after.start) (lt-ltb g.before.end h.before.start p.0) (le-leb g.after.end h.after.start p.1)

-- the last of a list
front_of : (x : Hunk) (xs : List Hunk) → (gs : List Hunk) × (g : Hunk) × (x ∷ xs ≡ gs ++ (g ∷ []))
front_of x [] = ([], x, refl)
front_of x (y ∷ ys) = let (gs, g, e) = front_of y ys in (x ∷ gs, g, ap (λ (l : List Hunk). x ∷ l) e)

pub last_behind : (hs : List Hunk) (h : Hunk) → BehindLast hs h → follows (last_of hs) h ≡ true
last_behind [] h f = refl
last_behind (x ∷ xs) h f =
    let (gs, g, e) = front_of x xs in
    ap (λ (l : List Hunk). follows (last_of l) h) e ∙ ap (λ (o : Option Hunk). follows o h) (last_push None gs g) ∙ says_follows g h (f gs g e)

behind_last_says : (hs : List Hunk) (h : Hunk) → follows (last_of hs) h ≡ true → BehindLast hs h
behind_last_says hs h e gs g p =
    follows_says g h (ap (λ (o : Option Hunk). follows o h) (sym (last_push None gs g)) ∙ ap (λ (l : List Hunk). follows (last_of l) h) (sym p) ∙ e)

two_sided : (side : Side) → has_hunks side ≡ true → TwoSided side
two_sided Current e = inl refl
two_sided Other e = inr refl
two_sided Ancestor e = absurd (false≢true e)

sided_two : (side : Side) → TwoSided side → has_hunks side ≡ true
sided_two side (inl e) = ap has_hunks e
sided_two side (inr e) = ap has_hunks e

module _ (t : Held) (side : Side) (h : Hunk) where
  pub may_enter : enter_questions t side h ≡ None → MayEnter t side h
  may_enter e =
      let q8 = yes_then (has_hunks side) _ _ e in
      let q9 = yes_then (ltb (length (held_of t side)) max_hunks) _ _ q8.1 in
      let qb = yes_then (within t.ancestor_lines h.before) _ _ q9.1 in
      let qa = yes_then (within (count_of t side) h.after) _ _ qb.1 in
      let ql = yes_then (changes h) _ _ qa.1 in
      let q12 = yes_then (follows (last_of (held_of t side)) h) _ None ql.1 in
      record {
        sided = two_sided side q8.0;
        room = ltb-true (length (held_of t side)) max_hunks q9.0;
        before_within = within_says t.ancestor_lines h.before qb.0;
        after_within = within_says (count_of t side) h.after qa.0;
        not_empty = changes_says h ql.0;
        behind = behind_last_says (held_of t side) h q12.0;
      }

  asked : MayEnter t side h → enter_questions t side h ≡ None
  asked m =
      then_yes (has_hunks side) _ _ (sided_two side m.sided)
      (then_yes (ltb (length (held_of t side)) max_hunks) _ _ (lt-ltb (length (held_of t side)) max_hunks m.room)
      (then_yes (within t.ancestor_lines h.before) _ _ (says_within t.ancestor_lines h.before m.before_within)
      (then_yes (within (count_of t side) h.after) _ _ (says_within (count_of t side) h.after m.after_within)
      (then_yes (changes h) _ _ (says_changes h m.not_empty)
      (then_yes (follows (last_of (held_of t side)) h) _ None (last_behind (held_of t side) h m.behind) refl)))))

enter_law : (t : Held) (h : Hunk) → EnterLaw t h
enter_law t h = by (enter_questions t h.side h) refl
  where
    hs : List Hunk
    hs = held_of t h.side

    by : (r : Option TableRefusal) → enter_questions t h.side h ≡ r
        → (MayEnter t h.side h × (answered r (length hs + 1) ≡ Ok (length (hs ++ (h ∷ [])))) × (changed r (holding t h.side (hs ++ (h ∷ []))) t ≡ holding t h.side (hs ++ (h ∷ []))))
        ⊎ ((MayEnter t h.side h → ⊥) × ((x : TableRefusal) × (answered r (length hs + 1) ≡ Err x)) × (changed r (holding t h.side (hs ++ (h ∷ []))) t ≡ t))
    by None e = inl (may_enter t h.side h e, ap (λ (n : ℕ). Ok n) (sym (length-append hs (h ∷ []))), refl)
    by (Some r) e = inr (λ m. let a = asked t h.side h m in let z : ◌≡◌ {A = ℕ} 0 1 = cc in absurd (omega arith), (r, refl), refl)

-- a side's last hunk goes
short : (gs : List Hunk) (g : Hunk) → length (gs ++ (g ∷ [])) - 1 ≡ length gs
short gs g = rw (length-append gs (g ∷ [])) (omega arith)

sided_law : (t : Held) (side : Side) → has_hunks side ≡ true → (hs : List Hunk) → held_of t side ≡ hs → WithdrawLaw t side
sided_law t side s [] e =
    let q : withdraw_questions t side ≡ Some NothingHeld = rw (s, e) in
    let less = without_last (held_of t side) in
    inr (e, (NothingHeld, ap (λ (r : Option TableRefusal). answered r (length (held_of t side) - 1)) q), ap (λ (r : Option TableRefusal). changed r (holding t side less) t) q)
sided_law t side s (x ∷ xs) e =
    let (gs, g, f) = front_of x xs in
    let w : held_of t side ≡ gs ++ (g ∷ []) = e ∙ f in
    let n : length (held_of t side) - 1 ≡ length gs = ap (λ (l : List Hunk). length l - 1) w ∙ short gs g in
    let some_held : 0 < length (held_of t side) = rw e (omega arith) in
    let q : withdraw_questions t side ≡ None = then_yes (has_hunks side) _ _ s (then_yes (ltb 0 (length (held_of t side))) _ None (lt-ltb 0 (length (held_of t side)) some_held) refl) in
    let less = without_last (held_of t side) in
    inl (gs, g, w, ap₂ (λ (r : Option TableRefusal) (i : ℕ). answered r i) q n, ap (λ (r : Option TableRefusal). changed r (holding t side less) t) q ∙ ap (holding t side) (ap₂ take n w ∙ take_at gs (g ∷ []) (length gs) refl))

withdraw_law : (t : Held) (side : Side) → WithdrawLaw t side
withdraw_law t Current = sided_law t Current refl t.current refl
withdraw_law t Other = sided_law t Other refl t.other refl
withdraw_law t Ancestor = inr (refl, (NoHunksOfSide, refl), refl)

-- each question in words
module _ {A : Type 0} (x : A) where
  abbrev Refuses : ℕ → ℕ → Result A TableRefusal → Type 0
  Refuses n p y = TableRefuses y n p

  told : (r : TableRefusal) (b : Bool) (Q : Type 0) (next : Option TableRefusal) (Next : Result A TableRefusal → Type 0) → (b ≡ true → Q) → (Q → b ≡ true) → Next (answered next x)
      → Question Q (Refuses (table_number r) (table_place r) (answered (ask b r next) x)) (Next (answered (ask b r next) x))
  told r b Q next Next f g = question b Q r next x (Refuses (table_number r) (table_place r)) Next f g (refuses r)
    where
      refuses : (r : TableRefusal) → TableRefuses {A = A} (Err r) (table_number r) (table_place r)
      refuses (CountTooLarge side) = record { why = CountTooLarge side; refused = refl; numbered = refl; placed = refl; layered = refl }
      refuses NoHunksOfSide = record { why = NoHunksOfSide; refused = refl; numbered = refl; placed = refl; layered = refl }
      refuses SideFull = record { why = SideFull; refused = refl; numbered = refl; placed = refl; layered = refl }
      refuses (RangeOutside range) = record { why = RangeOutside range; refused = refl; numbered = refl; placed = refl; layered = refl }
      refuses HunkEmpty = record { why = HunkEmpty; refused = refl; numbered = refl; placed = refl; layered = refl }
      refuses NotBehindLast = record { why = NotBehindLast; refused = refl; numbered = refl; placed = refl; layered = refl }
      refuses NothingHeld = record { why = NothingHeld; refused = refl; numbered = refl; placed = refl; layered = refl }

open_told : (a c o : ℕ) → OpenTold a c o
open_told a c o =
    let q₂ : Option TableRefusal = ask (leb o max_lines) (CountTooLarge Other) None in
    let q₁ : Option TableRefusal = ask (leb c max_lines) (CountTooLarge Current) q₂ in
    told tt (CountTooLarge Ancestor) (leb a max_lines) (a ≤ max_lines) q₁ (λ x. Question (c ≤ max_lines) (TableRefuses x 7 1) (Question (o ≤ max_lines) (TableRefuses x 7 2) (x ≡ Ok tt))) (leb-true a max_lines) (le-leb a max_lines)
    (told tt (CountTooLarge Current) (leb c max_lines) (c ≤ max_lines) q₂ (λ x. Question (o ≤ max_lines) (TableRefuses x 7 2) (x ≡ Ok tt)) (leb-true c max_lines) (le-leb c max_lines)
    (told tt (CountTooLarge Other) (leb o max_lines) (o ≤ max_lines) None (λ x. x ≡ Ok tt) (leb-true o max_lines) (le-leb o max_lines) refl))

module _ (t : Held) (side : Side) (h : Hunk) where
  abbrev hs : List Hunk
  hs = held_of t side

  abbrev new : ℕ
  new = length hs + 1

  abbrev Answer : Type 0
  Answer = Result ℕ TableRefusal

  abbrev q₁₂ : Option TableRefusal
  q₁₂ = ask (follows (last_of hs) h) NotBehindLast None

  abbrev q₁₁ : Option TableRefusal
  q₁₁ = ask (changes h) HunkEmpty q₁₂

  abbrev qₐ : Option TableRefusal
  qₐ = ask (within (count_of t side) h.after) (RangeOutside After) q₁₁

  abbrev qb : Option TableRefusal
  qb = ask (within t.ancestor_lines h.before) (RangeOutside Before) qₐ

  abbrev q₉ : Option TableRefusal
  q₉ = ask (ltb (length hs) max_hunks) SideFull qb

  abbrev T₁₂ : Answer → Type 0
  T₁₂ x = Question (BehindLast hs h) (TableRefuses x 12 0) (x ≡ Ok new)

  abbrev T₁₁ : Answer → Type 0
  T₁₁ x = Question (NotEmpty h) (TableRefuses x 11 0) (T₁₂ x)

  abbrev Tₐ : Answer → Type 0
  Tₐ x = Question (Within (count_of t side) h.after) (TableRefuses x 10 1) (T₁₁ x)

  abbrev Tb : Answer → Type 0
  Tb x = Question (Within t.ancestor_lines h.before) (TableRefuses x 10 0) (Tₐ x)

  abbrev T₉ : Answer → Type 0
  T₉ x = Question (length hs < max_hunks) (TableRefuses x 9 0) (Tb x)

  entered_told : Question (TwoSided side) (TableRefuses (answered (enter_questions t side h) new) 8 0) (T₉ (answered (enter_questions t side h) new))
  entered_told =
      told new NoHunksOfSide (has_hunks side) (TwoSided side) q₉ T₉ (two_sided side) (sided_two side)
      (told new SideFull (ltb (length hs) max_hunks) (length hs < max_hunks) qb Tb (ltb-true (length hs) max_hunks) (lt-ltb (length hs) max_hunks)
      (told new (RangeOutside Before) (within t.ancestor_lines h.before) (Within t.ancestor_lines h.before) qₐ Tₐ (within_says t.ancestor_lines h.before) (says_within t.ancestor_lines h.before)
      (told new (RangeOutside After) (within (count_of t side) h.after) (Within (count_of t side) h.after) q₁₁ T₁₁ (within_says (count_of t side) h.after) (says_within (count_of t side) h.after)
      (told new HunkEmpty (changes h) (NotEmpty h) q₁₂ T₁₂ (changes_says h) (says_changes h)
      (told new NotBehindLast (follows (last_of hs) h) (BehindLast hs h) None (λ x. x ≡ Ok new) (behind_last_says hs h) (last_behind hs h) refl)))))

withdraw_told : (t : Held) (side : Side) → WithdrawTold t side
withdraw_told t side =
    let n : ℕ = length (held_of t side) - 1 in
    told n NoHunksOfSide (has_hunks side) (TwoSided side) (ask (ltb 0 (length (held_of t side))) NothingHeld None) (λ x. Question (0 < length (held_of t side)) (TableRefuses x 13 0) (x ≡ Ok n)) (two_sided side) (sided_two side)
    (told n NothingHeld (ltb 0 (length (held_of t side))) (0 < length (held_of t side)) None (λ x. x ≡ Ok n) (ltb-true 0 (length (held_of t side))) (lt-ltb 0 (length (held_of t side))) refl)

-- open
opens : (t : Held) (a c o : ℕ) → open_answer a c o ≡ Ok tt → open_after t a c o ≡ opened a c o
opens t a c o = by (open_questions a c o)
  where
    by : (q : Option TableRefusal) → answered {A = Unit {0}} q tt ≡ Ok tt → changed q (opened a c o) t ≡ opened a c o
    by None e = refl
    by (Some r) e = let z : ◌≡◌ {A = ℕ} 0 1 = cc in absurd (omega arith)

open_refused : (t : Held) (a c o : ℕ) (r : TableRefusal) → open_answer a c o ≡ Err r → open_after t a c o ≡ t
open_refused t a c o r = by (open_questions a c o)
  where
    by : (q : Option TableRefusal) → answered {A = Unit {0}} q tt ≡ Err r → changed q (opened a c o) t ≡ t
    by None e = let z : ◌≡◌ {A = ℕ} 0 1 = cc in absurd (omega arith)
    by (Some x) e = refl

-- enter, then withdraw
held_holding : (t : Held) (side : Side) (hs : List Hunk) → TwoSided side → held_of (holding t side hs) side ≡ hs
held_holding t Current hs e = refl
held_holding t Other hs e = refl
held_holding t Ancestor hs e = absurd (false≢true (sided_two Ancestor e))

holding_back : (t : Held) (side : Side) (hs : List Hunk) → holding (holding t side hs) side (held_of t side) ≡ t
holding_back t Current hs = refl
holding_back t Other hs = refl
holding_back t Ancestor hs = refl

taken_back : (t : Held) (side : Side) (h : Hunk) → TwoSided side → withdraw_after (holding t side (held_of t side ++ (h ∷ []))) side ≡ t
taken_back t side h e =
    let hs = held_of t side in
    let u = holding t side (hs ++ (h ∷ [])) in
    let w : held_of u side ≡ hs ++ (h ∷ []) = held_holding t side (hs ++ (h ∷ [])) e in
    let n : length (held_of u side) - 1 ≡ length hs = ap (λ (l : List Hunk). length l - 1) w ∙ short hs h in
    let some_held : 0 < length (held_of u side) = rw w (rw (length-append hs (h ∷ [])) (omega arith)) in
    let q : withdraw_questions u side ≡ None = then_yes (has_hunks side) _ _ (sided_two side e) (then_yes (ltb 0 (length (held_of u side))) _ None (lt-ltb 0 (length (held_of u side)) some_held) refl) in
    let less = without_last (held_of u side) in
    ap (λ (r : Option TableRefusal). changed r (holding u side less) u) q ∙ ap (holding u side) (ap₂ take n w ∙ take_at hs (h ∷ []) (length hs) refl) ∙ holding_back t side (hs ++ (h ∷ []))

undone : (t : Held) (h : Hunk) (n : ℕ) → enter_answer t h ≡ Ok n → withdraw_after (enter_after t h) h.side ≡ t
undone t h n = by (enter_questions t h.side h) refl
  where
    hs : List Hunk
    hs = held_of t h.side

    by : (q : Option TableRefusal) → enter_questions t h.side h ≡ q → answered q (length hs + 1) ≡ Ok n → withdraw_after (changed q (holding t h.side (hs ++ (h ∷ []))) t) h.side ≡ t
    by None p e = taken_back t h.side h (may_enter t h.side h p).sided
    by (Some r) p e = let z : ◌≡◌ {A = ℕ} 0 1 = cc in absurd (omega arith)

-- what is shown
nth_there : (gs : List Hunk) (h : Hunk) (hs : List Hunk) → slice_get (gs ++ (h ∷ hs)) (length gs) ≡ Some h
nth_there [] h hs = refl
nth_there (g ∷ gs) h hs = nth_there gs h hs

nth_past : (hs : List Hunk) (n : ℕ) → length hs ≤ n → slice_get hs n ≡ None
nth_past [] n le = refl
nth_past (h ∷ hs) zero le = absurd (omega arith)
nth_past (h ∷ hs) (suc n) le = nth_past hs n (omega arith)

-- a table with other hunks of one side
holds : (t : Held) (side : Side) (hs : List Hunk) → TwoSided side → Holds t side hs (holding t side hs)
holds t Current hs two = record { these = refl; other_side = apart; same_counts = same }
  where
    apart : (facing : Side) → (facing ≡ Current → ⊥) → held_of (holding t Current hs) facing ≡ held_of t facing
    apart Current f = absurd (f refl)
    apart Other f = refl
    apart Ancestor f = refl

    same : (facing : Side) → count_of (holding t Current hs) facing ≡ count_of t facing
    same Current = refl
    same Other = refl
    same Ancestor = refl
holds t Other hs two = record { these = refl; other_side = apart; same_counts = same }
  where
    apart : (facing : Side) → (facing ≡ Other → ⊥) → held_of (holding t Other hs) facing ≡ held_of t facing
    apart Current f = refl
    apart Other f = absurd (f refl)
    apart Ancestor f = refl

    same : (facing : Side) → count_of (holding t Other hs) facing ≡ count_of t facing
    same Current = refl
    same Other = refl
    same Ancestor = refl
holds t Ancestor hs two = absurd (false≢true (sided_two Ancestor two))

opened_empty : (a c o : ℕ) (side : Side) → held_of (opened a c o) side ≡ []
opened_empty a c o Current = refl
opened_empty a c o Other = refl
opened_empty a c o Ancestor = refl

pub follow_rules : TablesFollowRules
follow_rules t = record {
  holds = holds t;
  opened_counts = λ a c o. (refl, refl, refl);
  opened_empty = opened_empty;
  enters = enter_law t;
  withdraws = withdraw_law t;
  opens = opens t;
  open_refused = open_refused t;
  open_told = open_told;
  enter_told = λ h. entered_told t h.side h;
  withdraw_told = withdraw_told t;
  shown = λ side gs h hs e. ap (λ (l : List Hunk). slice_get l (length gs)) e ∙ nth_there gs h hs;
  not_shown = λ side n le. nth_past (held_of t side) n le;
  undone = undone t;
}
