-- A walk as one list: hunks of both sides, each starting at or behind a bound of its side.
use Rattle.std.proofs.Common.{◌≡◌, ℕ, suc, ◌<◌, ◌≤◌, max, Bool, true, false, cond, ◌&&◌, leb, List, [], ◌∷◌, sym, refl, ap, ◌∙◌, subst, ⊎_elim, arith}
use mathlib.Core.List.Memᴰ
use mathlib.Core.List.{Memᴰ}
use Rattle.std.proofs.lemmas.Bool.{true≢false, leb-true, leb-false, lt-leb, cond_both, or_parts, or_cases, or_from, or_left, or_right, and_cases, and_left, and_right}
use Rattle.rules.specs.declared.hunk.Hunk.{Hunk}
use Rattle.rules.specs.declared.hunk.Side.{Side}
use Rattle.rules.specs.declared.hunk.Side.TheVariants.{Current, Other, Ancestor}
use Rattle.rules.specs.Hunks.{opposite, touches, touches_any}
use Rattle.rules.specs.Walk.{walk}
use Rattle.rules.specs.Order.{InOrder}

-- the two sides that are walked
abbrev pub Sided : Side → Type 0
Sided Current = Unit {0}
Sided Other = Unit {0}
Sided Ancestor = ⊥

abbrev pub same_side : Side → Side → Bool
same_side Current Current = true
same_side Current Other = false
same_side Current Ancestor = false
same_side Other Current = false
same_side Other Other = true
same_side Other Ancestor = false
same_side Ancestor Current = false
same_side Ancestor Other = false
same_side Ancestor Ancestor = true

pub same_side_refl : (s : Side) → same_side s s ≡ true
same_side_refl Current = refl
same_side_refl Other = refl
same_side_refl Ancestor = refl

pub one_side : (s t : Side) → Sided s → Sided t → opposite s t ≡ false → s ≡ t
one_side Current Current p q e = refl
one_side Current Other p q e = absurd (true≢false e)
one_side Current Ancestor p q e = absurd q
one_side Other Current p q e = absurd (true≢false e)
one_side Other Other p q e = refl
one_side Other Ancestor p q e = absurd q
one_side Ancestor t p q e = absurd p

opposite_sym : (s t : Side) → opposite s t ≡ opposite t s
opposite_sym Current Current = refl
opposite_sym Current Other = refl
opposite_sym Current Ancestor = refl
opposite_sym Other Current = refl
opposite_sym Other Other = refl
opposite_sym Other Ancestor = refl
opposite_sym Ancestor Current = refl
opposite_sym Ancestor Other = refl
opposite_sym Ancestor Ancestor = refl

and_comm : (x y : Bool) → (x && y) ≡ (y && x)
and_comm true true = refl
and_comm true false = refl
and_comm false true = refl
and_comm false false = refl

pub touches_sym : (g h : Hunk) → touches g h ≡ touches h g
touches_sym g h =
    ap (λ (x : Bool). x && (leb g.before.start h.before.end && leb h.before.start g.before.end)) (opposite_sym g.side h.side)
    ∙ ap (λ (x : Bool). opposite h.side g.side && x) (and_comm (leb g.before.start h.before.end) (leb h.before.start g.before.end))

-- the bounds behind a hunk
abbrev pub next : (Side → ℕ) → Hunk → Side → ℕ
next b h s = max (b s) (cond (same_side s h.side) (suc h.before.end) h.before.start)

abbrev pub Woven : (Side → ℕ) → List Hunk → Type 0
Woven b [] = Unit {0}
Woven b (h ∷ hs) = Sided h.side × (b h.side ≤ h.before.start) × (h.before.start ≤ h.before.end) × Woven (next b h) hs

-- a hunk that the bounds have passed
abbrev pub Behind : (Side → ℕ) → Hunk → Type 0
Behind b g = Sided g.side × (g.before.start ≤ g.before.end) × (suc g.before.end ≤ b g.side) × ((s : Side) → g.before.start ≤ b s)

pub next_own : (b : Side → ℕ) (h : Hunk) → suc h.before.end ≤ next b h h.side
next_own b h = rw (same_side_refl h.side) (omega arith)

pub next_start : (b : Side → ℕ) (h : Hunk) → h.before.start ≤ h.before.end → (s : Side) → h.before.start ≤ next b h s
next_start b h le s = cond_both (same_side s h.side) (suc h.before.end) h.before.start (λ x. h.before.start ≤ max (b s) x) (λ _. omega arith) (λ _. omega arith)

pub behind_next : (b : Side → ℕ) (h g : Hunk) → Behind b g → Behind (next b h) g
behind_next b h g (p, q, r, t) = (p, q, omega arith, λ s. omega (arith, t s))

pub behind_self : (b : Side → ℕ) (h : Hunk) → Sided h.side → h.before.start ≤ h.before.end → Behind (next b h) h
behind_self b h p q = (p, q, next_own b h, next_start b h q)

-- the next hunk starts behind whatever it does not touch
pub past : (b : Side → ℕ) (h g : Hunk) → Sided h.side → b h.side ≤ h.before.start → h.before.start ≤ h.before.end → Behind b g
    → touches h g ≡ false → g.before.end < h.before.start
past b h g sh lo le w e = ⊎_elim same facing (and_cases (opposite h.side g.side) (leb h.before.start g.before.end && leb g.before.start h.before.end) e)
  where
    same : opposite h.side g.side ≡ false → g.before.end < h.before.start
    same o = let lo' : b g.side ≤ h.before.start = subst (λ (s : Side). b s ≤ h.before.start) (one_side h.side g.side sh w.0 o) lo in omega arith

    facing : (leb h.before.start g.before.end && leb g.before.start h.before.end) ≡ false → g.before.end < h.before.start
    facing n = ⊎_elim (λ (x : leb h.before.start g.before.end ≡ false). leb-false h.before.start g.before.end x) (λ (x : leb g.before.start h.before.end ≡ false). omega (arith, leb-false g.before.start h.before.end x, w.3 h.side)) (and_cases (leb h.before.start g.before.end) (leb g.before.start h.before.end) n)

pub untouched : (g h : Hunk) → g.before.end < h.before.start → touches h g ≡ false
untouched g h lt = and_right (opposite h.side g.side) (leb h.before.start g.before.end && leb g.before.start h.before.end) (and_left (leb h.before.start g.before.end) (leb g.before.start h.before.end) (lt-leb h.before.start g.before.end lt))

-- what a hunk touches of a list
pub any_false : (h : Hunk) (ms : List Hunk) → touches_any h ms ≡ false → (g : Hunk) → Memᴰ g ms → touches h g ≡ false
any_false h [] e g m = absurd (Memᴰ.not-nil m)
any_false h (x ∷ xs) e g m =
    ⊎_elim (λ (q : g ≡ x). subst (λ (y : Hunk). touches h y ≡ false) (sym q) (or_parts (touches h x) (touches_any h xs) e).0) (λ (n : Memᴰ g xs). any_false h xs (or_parts (touches h x) (touches_any h xs) e).1 g n) (Memᴰ.cases_cons m)

pub any_none : (h : Hunk) (ms : List Hunk) → ((g : Hunk) → Memᴰ g ms → touches h g ≡ false) → touches_any h ms ≡ false
any_none h [] f = refl
any_none h (x ∷ xs) f = or_from (touches h x) (touches_any h xs) (f x (Memᴰ.head refl)) (any_none h xs (λ g m. f g (Memᴰ.tail m)))

pub any_true : (h : Hunk) (ms : List Hunk) → touches_any h ms ≡ true → (g : Hunk) × Memᴰ g ms × (touches h g ≡ true)
any_true h [] e = absurd (true≢false (sym e))
any_true h (x ∷ xs) e =
    ⊎_elim (λ (q : touches h x ≡ true). (x, Memᴰ.head refl, q)) (λ (q : touches_any h xs ≡ true). let (g, m, t) = any_true h xs q in (g, Memᴰ.tail m, t)) (or_cases (touches h x) (touches_any h xs) e)

pub any_from : (h : Hunk) (ms : List Hunk) (g : Hunk) → Memᴰ g ms → touches h g ≡ true → touches_any h ms ≡ true
any_from h [] g m t = absurd (Memᴰ.not-nil m)
any_from h (x ∷ xs) g m t =
    ⊎_elim (λ (q : g ≡ x). or_left (touches h x) (touches_any h xs) (subst (λ (y : Hunk). touches h y ≡ true) q t)) (λ (n : Memᴰ g xs). or_right (touches h x) (touches_any h xs) (any_from h xs g n t)) (Memᴰ.cases_cons m)

-- every hunk of a walk starts at or behind what the bounds are behind
pub woven_above : (b : Side → ℕ) (hs : List Hunk) (n : ℕ) → Woven b hs → ((s : Side) → n ≤ b s) → (h : Hunk) → Memᴰ h hs → n ≤ h.before.start
woven_above b [] n w lo h m = absurd (Memᴰ.not-nil m)
woven_above b (x ∷ xs) n w lo h m =
    ⊎_elim (λ (q : h ≡ x). subst (λ (y : Hunk). n ≤ y.before.start) (sym q) (omega (arith, w.1, lo x.side))) (λ (k : Memᴰ h xs). woven_above (next b x) xs n w.3 (λ s. omega (arith, lo s)) h k) (Memᴰ.cases_cons m)

-- one side's hunks, in order from n on
abbrev pub Run : Side → ℕ → List Hunk → Type 0
Run side n [] = Unit {0}
Run side n (h ∷ hs) = (h.side ≡ side) × (n ≤ h.before.start) × (h.before.start ≤ h.before.end) × Run side (suc h.before.end) hs

pub runs : (side : Side) (na ns n a : ℕ) (hs : List Hunk) → InOrder side na ns n a hs → Run side n hs
runs side na ns n a [] r = tt
runs side na ns n a (h ∷ hs) r = (r.0, r.1, r.2, runs side na ns (suc h.before.end) h.after.end hs r.7)

pub run_side : (side : Side) (n : ℕ) (hs : List Hunk) → Run side n hs → (h : Hunk) → Memᴰ h hs → h.side ≡ side
run_side side n [] r h m = absurd (Memᴰ.not-nil m)
run_side side n (x ∷ xs) r h m = ⊎_elim (λ (q : h ≡ x). ap (λ (y : Hunk). y.side) q ∙ r.0) (λ (i : Memᴰ h xs). run_side side (suc x.before.end) xs r.3 h i) (Memᴰ.cases_cons m)

sided : (h : Hunk) (s : Side) → h.side ≡ s → Sided s → Sided h.side
sided h s e p = subst Sided (sym e) p

-- the bounds behind a hunk of a known side
next_current : (b : Side → ℕ) (h : Hunk) → h.side ≡ Current → b Current ≤ h.before.start → h.before.start ≤ h.before.end
    → (next b h Current ≤ suc h.before.end) × (next b h Other ≤ max (b Other) h.before.start)
next_current b h e lo le = rw e (omega arith)

next_other : (b : Side → ℕ) (h : Hunk) → h.side ≡ Other → b Other ≤ h.before.start → h.before.start ≤ h.before.end
    → (next b h Other ≤ suc h.before.end) × (next b h Current ≤ max (b Current) h.before.start)
next_other b h e lo le = rw e (omega arith)

abbrev Weaves : List Hunk → Type 0
Weaves cs = (os : List Hunk) (m n : ℕ) (b : Side → ℕ) → Run Current m cs → Run Other n os → b Current ≤ m → b Other ≤ n → Woven b (walk cs os)

others_woven : Weaves []
others_woven [] m n b rc ro p q = tt
others_woven (o ∷ os) m n b rc ro p q =
    let lo : b Other ≤ o.before.start = omega arith in
    (sided o Other ro.0 tt, rw ro.0 lo, ro.2, others_woven os (next b o Current) (suc o.before.end) (next b o) tt ro.3 (omega arith) (next_other b o ro.0 lo ro.2).0)

from_woven : (c : Hunk) (cs : List Hunk) → Weaves cs → Weaves (c ∷ cs)
from_woven c cs ih [] m n b rc ro p q =
    let lo : b Current ≤ c.before.start = omega arith in
    (sided c Current rc.0 tt, rw rc.0 lo, rc.2, ih [] (suc c.before.end) (next b c Other) (next b c) rc.3 tt (next_current b c rc.0 lo rc.2).0 (omega arith))
from_woven c cs ih (o ∷ os) m n b rc ro p q =
    let lo : b Current ≤ c.before.start = omega arith in
    let lo' : b Other ≤ o.before.start = omega arith in
    cond_both (leb c.before.start o.before.start) (c ∷ walk cs (o ∷ os)) (o ∷ walk (c ∷ cs) os) (Woven b)
    (λ e. (sided c Current rc.0 tt, rw rc.0 lo, rc.2, ih (o ∷ os) (suc c.before.end) o.before.start (next b c) rc.3 (ro.0, omega arith, ro.2, ro.3) (next_current b c rc.0 lo rc.2).0 (omega (arith, (next_current b c rc.0 lo rc.2).1, leb-true c.before.start o.before.start e))))
    (λ e. (sided o Other ro.0 tt, rw ro.0 lo', ro.2, from_woven c cs ih os c.before.start (suc o.before.end) (next b o) (rc.0, omega arith, rc.2, rc.3) ro.3 (omega (arith, (next_other b o ro.0 lo' ro.2).1, leb-false c.before.start o.before.start e)) (next_other b o ro.0 lo' ro.2).0))

pub walk_woven : (cs : List Hunk) → Weaves cs
walk_woven [] = others_woven
walk_woven (c ∷ cs) = from_woven c cs (walk_woven cs)
