-- The walk: every hunk of both sides, in order; and the hunks that a side puts in lie apart.
use Rattle.std.proofs.Common.{◌≡◌, ℕ, suc, ◌+◌, ◌<◌, ◌≤◌, Bool, true, false, not, ◌&&◌, leb, ◌⊎◌, List, [], ◌∷◌, length, filter, sym, refl, ap, ◌∙◌, ap₂, inl, inr, ⊎_elim, arith}
use mathlib.Core.List.Memᴰ
use mathlib.Core.List.{Memᴰ}
use Rattle.std.specs.List.{AllByRecursion}
use Rattle.std.proofs.lemmas.Bool.{true≢false, leb-true, leb-false, cond_both, cases_order, and_cases, not-true, le-leb, and_parts, and_from, cases_lt}
use Rattle.rules.specs.declared.hunk.Hunk.{Hunk}
use Rattle.rules.specs.declared.hunk.Side.{Side}
use Rattle.rules.specs.declared.hunk.Side.TheVariants.{Current, Other, Ancestor}
use Rattle.rules.specs.Hunks.{Sheets, opposite, touches, touches_any, lone_ones}
use Rattle.rules.specs.Walk.{walk}
use Rattle.rules.specs.Order.{Kept}
use Rattle.rules.specs.WalkLaws.{Opposite, Touching, TouchLaw, InTurn, Ahead, Walked}
use Rattle.rules.specs.GroupLaws.{Behind}
use Rattle.rules.proofs.Fits.{walk_all}
use Rattle.rules.proofs.Kept.{currents_walk, others_walk}
use Rattle.rules.proofs.Woven.{Run, runs, run_side, any_false, touches_sym}

pub all_of : {X : Type 0} (P : X → Type 0) (xs : List X) → ((x : X) → Memᴰ x xs → P x) → AllByRecursion P xs
all_of P [] f = tt
all_of P (x ∷ xs) f = (f x (Memᴰ.head refl), all_of P xs (λ y m. f y (Memᴰ.tail m)))

-- what a run says of each of its hunks
pub run_low : (side : Side) (n : ℕ) (hs : List Hunk) → Run side n hs → (h : Hunk) → Memᴰ h hs → n ≤ h.before.start
run_low side n [] r h m = absurd (Memᴰ.not-nil m)
run_low side n (x ∷ xs) r h m = ⊎_elim (λ (q : h ≡ x). rw q r.1) (λ (i : Memᴰ h xs). let b = run_low side (suc x.before.end) xs r.3 h i in omega arith) (Memᴰ.cases_cons m)

pub run_span : (side : Side) (n : ℕ) (hs : List Hunk) → Run side n hs → (h : Hunk) → Memᴰ h hs → h.before.start ≤ h.before.end
run_span side n [] r h m = absurd (Memᴰ.not-nil m)
run_span side n (x ∷ xs) r h m = ⊎_elim (λ (q : h ≡ x). rw q r.2) (λ (i : Memᴰ h xs). run_span side (suc x.before.end) xs r.3 h i) (Memᴰ.cases_cons m)

run_lower : (side : Side) (m n : ℕ) (hs : List Hunk) → m ≤ n → Run side n hs → Run side m hs
run_lower side m n [] le r = tt
run_lower side m n (h ∷ hs) le r = (r.0, omega arith, r.2, r.3)

run_kept : (p : Hunk → Bool) (side : Side) (n : ℕ) (hs : List Hunk) → Run side n hs → Run side n (filter p hs)
run_kept p side n [] r = tt
run_kept p side n (h ∷ hs) r = cond_both (p h) (h ∷ filter p hs) (filter p hs) (Run side n)
    (λ _. (r.0, r.1, r.2, run_kept p side (suc h.before.end) hs r.3))
    (λ _. run_kept p side n hs (run_lower side n (suc h.before.end) hs (omega arith) r.3))

mem_kept : (p : Hunk → Bool) (hs : List Hunk) (h : Hunk) → Memᴰ h (filter p hs) → (p h ≡ true)
mem_kept p [] h = λ m. absurd (Memᴰ.not-nil m)
mem_kept p (x ∷ xs) h = cond_both (p x) (x ∷ filter p xs) (filter p xs) (λ l. Memᴰ h l → p h ≡ true)
    (λ e m. ⊎_elim (λ (q : h ≡ x). ap p q ∙ e) (λ (i : Memᴰ h (filter p xs)). mem_kept p xs h i) (Memᴰ.cases_cons m))
    (λ _ m. mem_kept p xs h m)

-- sorted
ahead_or : (c o : Hunk) → c.side ≡ Current → o.side ≡ Other → c.before.start ≤ o.before.start → Ahead c o
ahead_or c o e f le = ⊎_elim (λ (q : c.before.start ≡ o.before.start). inr (q, e, f))
    (λ (u : (c.before.start < o.before.start) ⊎ (o.before.start < c.before.start)). ⊎_elim (λ (lt : c.before.start < o.before.start). inl lt) (λ (lt : o.before.start < c.before.start). absurd (omega arith)) u)
    (cases_order c.before.start o.before.start)

ahead_run : (g : Hunk) (side : Side) (n : ℕ) (hs : List Hunk) → g.before.start < n → Run side n hs → AllByRecursion (Ahead g) hs
ahead_run g side n hs lt r = all_of (Ahead g) hs (λ h m. let b = run_low side n hs r h m in inl (omega arith))

ahead_others : (c : Hunk) (n : ℕ) (os : List Hunk) → c.side ≡ Current → c.before.start ≤ n → Run Other n os → AllByRecursion (Ahead c) os
ahead_others c n os e le r = all_of (Ahead c) os (λ o m. ahead_or c o e (run_side Other n os r o m) (let b = run_low Other n os r o m in omega arith))

abbrev Sorts : List Hunk → Type 0
Sorts cs = (os : List Hunk) (m n : ℕ) → Run Current m cs → Run Other n os → InTurn Ahead (walk cs os)

others_sorted : Sorts []
others_sorted [] m n rc ro = tt
others_sorted (o ∷ os) m n rc ro = (ahead_run o Other (suc o.before.end) os (omega arith) ro.3, others_sorted os m (suc o.before.end) tt ro.3)

from_sorted : (c : Hunk) (cs : List Hunk) → Sorts cs → Sorts (c ∷ cs)
from_sorted c cs ih [] m n rc ro = (walk_all (Ahead c) cs [] (ahead_run c Current (suc c.before.end) cs (omega arith) rc.3) tt, ih [] (suc c.before.end) n rc.3 tt)
from_sorted c cs ih (o ∷ os) m n rc ro = cond_both (leb c.before.start o.before.start) (c ∷ walk cs (o ∷ os)) (o ∷ walk (c ∷ cs) os) (InTurn Ahead)
    (λ e. let le = leb-true c.before.start o.before.start e in
    (walk_all (Ahead c) cs (o ∷ os) (ahead_run c Current (suc c.before.end) cs (omega arith) rc.3) (ahead_others c o.before.start (o ∷ os) rc.0 le (ro.0, omega arith, ro.2, ro.3)), ih (o ∷ os) (suc c.before.end) n rc.3 ro))
    (λ e. let lt = leb-false c.before.start o.before.start e in
    (walk_all (Ahead o) (c ∷ cs) os (ahead_run o Current c.before.start (c ∷ cs) lt (rc.0, omega arith, rc.2, rc.3)) (ahead_run o Other (suc o.before.end) os (omega arith) ro.3), from_sorted c cs ih os m (suc o.before.end) rc ro.3))

sorted : (cs : List Hunk) → Sorts cs
sorted [] = others_sorted
sorted (c ∷ cs) = from_sorted c cs (sorted cs)

-- no hunk more
from_length : (c : Hunk) (cs os : List Hunk) → ((os : List Hunk) → length (walk cs os) ≡ length cs + length os) → length (walk (c ∷ cs) os) ≡ suc (length cs) + length os
from_length c cs [] ih = let e = ih [] in omega arith
from_length c cs (o ∷ os) ih = cond_both (leb c.before.start o.before.start) (c ∷ walk cs (o ∷ os)) (o ∷ walk (c ∷ cs) os) (λ l. length l ≡ suc (length cs) + length (o ∷ os))
    (λ _. let e = ih (o ∷ os) in omega arith)
    (λ _. let e = from_length c cs os ih in omega arith)

pub walk_length : (cs os : List Hunk) → length (walk cs os) ≡ length cs + length os
walk_length [] os = omega arith
walk_length (c ∷ cs) os = from_length c cs os (walk_length cs)

pub walked : (s : Sheets) (cs os : List Hunk) → Kept s cs os → Walked cs os
walked s cs os p =
    let rc : Run Current 0 cs = runs Current (length s.ancestor) (length s.current) 0 0 cs p.current in
    let ro : Run Other 0 os = runs Other (length s.ancestor) (length s.other) 0 0 os p.other in
    record { our_hunks = currents_walk cs os 0 0 rc ro; their_hunks = others_walk cs os 0 0 rc ro; no_more = walk_length cs os; sorted = sorted cs os 0 0 rc ro }

-- a hunk that does not touch the next starts and ends ahead of it
clear : (g h : Hunk) → opposite h.side g.side ≡ true → g.before.start ≤ h.before.start → h.before.start ≤ h.before.end → touches h g ≡ false → g.before.end < h.before.start
clear g h op le sp e = ⊎_elim
    (λ (q : opposite h.side g.side ≡ false). absurd (true≢false (sym op ∙ q)))
    (λ (q : (leb h.before.start g.before.end && leb g.before.start h.before.end) ≡ false). ⊎_elim
    (λ (x : leb h.before.start g.before.end ≡ false). leb-false h.before.start g.before.end x)
    (λ (x : leb g.before.start h.before.end ≡ false). let y = leb-false g.before.start h.before.end x in absurd (omega arith))
    (and_cases (leb h.before.start g.before.end) (leb g.before.start h.before.end) q))
    (and_cases (opposite h.side g.side) (leb h.before.start g.before.end && leb g.before.start h.before.end) e)

behind_run : (g : Hunk) (side : Side) (hs : List Hunk) → Run side (suc g.before.end) hs → AllByRecursion (Behind g) hs
behind_run g side hs r = all_of (Behind g) hs (λ h m. let b = run_low side (suc g.before.end) hs r h m in omega arith)

abbrev ApartFrom : List Hunk → List Hunk → Type 0
ApartFrom cs os = (c o : Hunk) → Memᴰ c cs → Memᴰ o os → touches o c ≡ false

abbrev Parts : List Hunk → Type 0
Parts cs = (os : List Hunk) (m n : ℕ) → Run Current m cs → Run Other n os → ApartFrom cs os → InTurn Behind (walk cs os)

others_part : Parts []
others_part [] m n rc ro f = tt
others_part (o ∷ os) m n rc ro f = (behind_run o Other os ro.3, others_part os m (suc o.before.end) tt ro.3 (λ c x i j. f c x i (Memᴰ.tail j)))

from_part : (c : Hunk) (cs : List Hunk) → Parts cs → Parts (c ∷ cs)
from_part c cs ih [] m n rc ro f = (walk_all (Behind c) cs [] (behind_run c Current cs rc.3) tt, ih [] (suc c.before.end) n rc.3 tt (λ x o i j. absurd (Memᴰ.not-nil j)))
from_part c cs ih (o ∷ os) m n rc ro f = cond_both (leb c.before.start o.before.start) (c ∷ walk cs (o ∷ os)) (o ∷ walk (c ∷ cs) os) (InTurn Behind)
    (λ e. let le = leb-true c.before.start o.before.start e in
    let ro' : Run Other o.before.start (o ∷ os) = (ro.0, omega arith, ro.2, ro.3) in (
      walk_all (Behind c) cs (o ∷ os) (behind_run c Current cs rc.3)
          (all_of (Behind c) (o ∷ os) (λ h j. clear c h (ap₂ opposite (run_side Other n (o ∷ os) ro h j) rc.0) (let b = run_low Other o.before.start (o ∷ os) ro' h j in omega arith) (run_span Other n (o ∷ os) ro h j) (f c h (Memᴰ.head refl) j))),
      ih (o ∷ os) (suc c.before.end) n rc.3 ro (λ x h i j. f x h (Memᴰ.tail i) j),
    ))
    (λ e. let lt = leb-false c.before.start o.before.start e in
    let rc' : Run Current c.before.start (c ∷ cs) = (rc.0, omega arith, rc.2, rc.3) in (
      walk_all (Behind o) (c ∷ cs) os
          (all_of (Behind o) (c ∷ cs) (λ h j. clear o h (ap₂ opposite (run_side Current m (c ∷ cs) rc h j) ro.0) (let b = run_low Current c.before.start (c ∷ cs) rc' h j in omega arith) (run_span Current m (c ∷ cs) rc h j) (touches_sym h o ∙ f h o j (Memᴰ.head refl))))
          (behind_run o Other os ro.3),
      from_part c cs ih os m (suc o.before.end) rc ro.3 (λ x h i j. f x h i (Memᴰ.tail j)),
    ))

parts : (cs : List Hunk) → Parts cs
parts [] = others_part
parts (c ∷ cs) = from_part c cs (parts cs)

lone : (facing hs : List Hunk) (h : Hunk) → Memᴰ h (lone_ones facing hs) → touches_any h facing ≡ false
lone facing hs h m = not-true (touches_any h facing) (mem_kept (λ x. not (touches_any x facing)) hs h m)

module _ (s : Sheets) (cs os : List Hunk) (p : Kept s cs os) where
  rc : Run Current 0 cs
  rc = runs Current (length s.ancestor) (length s.current) 0 0 cs p.current

  ro : Run Other 0 os
  ro = runs Other (length s.ancestor) (length s.other) 0 0 os p.other

  pub ours_apart : InTurn Behind (walk cs (lone_ones cs os))
  ours_apart = parts cs (lone_ones cs os) 0 0 rc (run_kept (λ h. not (touches_any h cs)) Other 0 os ro)
      (λ c o i j. any_false o cs (lone cs os o j) c i)

  pub theirs_apart : InTurn Behind (walk (lone_ones os cs) os)
  theirs_apart = parts (lone_ones os cs) os 0 0 (run_kept (λ h. not (touches_any h os)) Current 0 cs rc) ro
      (λ c o i j. touches_sym o c ∙ any_false c os (lone os cs c i) o j)

-- touching in words
opposite_says : (a b : Side) → opposite a b ≡ true → Opposite a b
opposite_says Current Current e = absurd (true≢false (sym e))
opposite_says Current Other e = inl (refl, refl)
opposite_says Current Ancestor e = absurd (true≢false (sym e))
opposite_says Other Current e = inr (refl, refl)
opposite_says Other Other e = absurd (true≢false (sym e))
opposite_says Other Ancestor e = absurd (true≢false (sym e))
opposite_says Ancestor Current e = absurd (true≢false (sym e))
opposite_says Ancestor Other e = absurd (true≢false (sym e))
opposite_says Ancestor Ancestor e = absurd (true≢false (sym e))

says_opposite : (a b : Side) → Opposite a b → opposite a b ≡ true
says_opposite a b (inl p) = ap₂ opposite p.0 p.1
says_opposite a b (inr p) = ap₂ opposite p.0 p.1

pub touch_law : TouchLaw
touch_law g h sg sh = (there, back)
  where
    there : touches g h ≡ true → Touching g h
    there e =
        let p = and_parts (opposite g.side h.side) (leb g.before.start h.before.end && leb h.before.start g.before.end) e in
        let q = and_parts (leb g.before.start h.before.end) (leb h.before.start g.before.end) p.1 in
        let x = leb-true g.before.start h.before.end q.0 in
        let y = leb-true h.before.start g.before.end q.1 in
        record { opposite_sides = opposite_says g.side h.side p.0; second_later = λ _. y; first_later = λ _. x }

    back : Touching g h → touches g h ≡ true
    back t =
        let both : (g.before.start ≤ h.before.end) × (h.before.start ≤ g.before.end) = ⊎_elim
        (λ (lt : g.before.start < h.before.start). (omega arith, t.second_later (omega arith)))
        (λ (le : h.before.start ≤ g.before.start). (t.first_later le, omega arith))
        (cases_lt g.before.start h.before.start) in
        and_from (opposite g.side h.side) (leb g.before.start h.before.end && leb h.before.start g.before.end) (says_opposite g.side h.side t.opposite_sides)
        (and_from (leb g.before.start h.before.end) (leb h.before.start g.before.end) (le-leb g.before.start h.before.end both.0) (le-leb h.before.start g.before.end both.1))
