-- A walk of fewer hunks: the hunks of one side, and those of the other that touch none of it.
use Rattle.std.proofs.Common.{◌≡◌, ℕ, suc, ◌<◌, ◌≤◌, Bool, true, false, cond, not, ◌||◌, leb, List, [], ◌∷◌, filter, sym, refl, ap, ◌∙◌, ap₂, arith}
use Rattle.std.proofs.lemmas.Bool.{leb-true, leb-false, le-leb, cond_both, cond-true, or_left}
use Rattle.rules.specs.declared.hunk.Hunk.{Hunk}
use Rattle.rules.specs.declared.hunk.Side.{Side}
use Rattle.rules.specs.declared.hunk.Side.TheVariants.{Current, Other}
use Rattle.rules.specs.Hunks.{touches_any, lone_ones}
use Rattle.rules.specs.Walk.{walk, currents, others, is_current, is_other}
use Rattle.rules.proofs.Exchange.{Headed, second_first}
use Rattle.rules.proofs.Picked.{kept_same, kept_all, kept_none, any_others, any_currents}
use Rattle.rules.proofs.Woven.{Run, run_side}

-- every hunk starts at n or later
abbrev pub Low : ℕ → List Hunk → Type 0
Low n [] = Unit {0}
Low n (h ∷ hs) = (n ≤ h.before.start) × Low n hs

pub low_weaken : (m n : ℕ) (hs : List Hunk) → m ≤ n → Low n hs → Low m hs
low_weaken m n [] le l = tt
low_weaken m n (h ∷ hs) le l = (omega arith, low_weaken m n hs le l.1)

pub low_kept : (p : Hunk → Bool) (n : ℕ) (hs : List Hunk) → Low n hs → Low n (filter p hs)
low_kept p n [] l = tt
low_kept p n (h ∷ hs) l = cond_both (p h) (h ∷ filter p hs) (filter p hs) (Low n) (λ _. (l.0, low_kept p n hs l.1)) (λ _. low_kept p n hs l.1)

low_run : (s : Side) (n k : ℕ) (hs : List Hunk) → n ≤ k → Run s k hs → Low n hs
low_run s n k [] le r = tt
low_run s n k (h ∷ hs) le r = (omega arith, low_run s n (suc h.before.end) hs (omega arith) r.3)

low_headed : (n : ℕ) (hs : List Hunk) → Low (suc n) hs → Headed n hs
low_headed n [] l = tt
low_headed n (h ∷ hs) l = l.0

first_first : (c : Hunk) (cs os : List Hunk) → Low c.before.start os → walk (c ∷ cs) os ≡ c ∷ walk cs os
first_first c cs [] l = refl
first_first c cs (o ∷ os) l = cond-true (leb c.before.start o.before.start) (c ∷ walk cs (o ∷ os)) (o ∷ walk (c ∷ cs) os) (le-leb c.before.start o.before.start l.0)

-- the hunks kept of a walk are the walk of the hunks kept
take_first : (t : Bool) (c : Hunk) (cs os hs : List Hunk) → hs ≡ walk cs os → Low c.before.start os → cond t (c ∷ hs) hs ≡ walk (cond t (c ∷ cs) cs) os
take_first true c cs os hs e l = ap (λ (r : List Hunk). c ∷ r) e ∙ sym (first_first c cs os l)
take_first false c cs os hs e l = e

take_second : (t : Bool) (o : Hunk) (cs os hs : List Hunk) → hs ≡ walk cs os → Low (suc o.before.start) cs → cond t (o ∷ hs) hs ≡ walk cs (cond t (o ∷ os) os)
take_second true o cs os hs e l = ap (λ (r : List Hunk). o ∷ r) e ∙ sym (second_first o cs os (low_headed o.before.start cs l))
take_second false o cs os hs e l = e

abbrev Keeps : (Hunk → Bool) → List Hunk → Type 0
Keeps p cs = (os : List Hunk) (m n : ℕ) → Run Current m cs → Run Other n os → filter p (walk cs os) ≡ walk (filter p cs) (filter p os)

from_kept : (p : Hunk → Bool) (c : Hunk) (cs : List Hunk) → Keeps p cs → Keeps p (c ∷ cs)
from_kept p c cs ih [] m n rc ro = take_first (p c) c (filter p cs) [] (filter p (walk cs [])) (ih [] (suc c.before.end) n rc.3 tt) tt
from_kept p c cs ih (o ∷ os) m n rc ro = cond_both (leb c.before.start o.before.start) (c ∷ walk cs (o ∷ os)) (o ∷ walk (c ∷ cs) os) (λ l. filter p l ≡ walk (filter p (c ∷ cs)) (filter p (o ∷ os)))
    (λ e. take_first (p c) c (filter p cs) (filter p (o ∷ os)) (filter p (walk cs (o ∷ os))) (ih (o ∷ os) (suc c.before.end) n rc.3 ro)
    (low_kept p c.before.start (o ∷ os) (let le : c.before.start ≤ o.before.start = leb-true c.before.start o.before.start e in (le, low_run Other c.before.start (suc o.before.end) os (omega arith) ro.3))))
    (λ e. take_second (p o) o (filter p (c ∷ cs)) (filter p os) (filter p (walk (c ∷ cs) os)) (from_kept p c cs ih os m (suc o.before.end) rc ro.3)
    (low_kept p (suc o.before.start) (c ∷ cs) (let lt : o.before.start < c.before.start = leb-false c.before.start o.before.start e in (lt, low_run Current (suc o.before.start) (suc c.before.end) cs (omega arith) rc.3))))

pub kept_walk : (p : Hunk → Bool) (cs : List Hunk) → Keeps p cs
kept_walk p [] = λ os m n rc ro. refl
kept_walk p (c ∷ cs) = from_kept p c cs (kept_walk p cs)

walk_nil : (cs : List Hunk) → walk cs [] ≡ cs
walk_nil [] = refl
walk_nil (c ∷ cs) = ap (λ (r : List Hunk). c ∷ r) (walk_nil cs)

pub currents_walk : (cs os : List Hunk) (m n : ℕ) → Run Current m cs → Run Other n os → currents (walk cs os) ≡ cs
currents_walk cs os m n rc ro = kept_walk (λ h. is_current h.side) cs os m n rc ro
    ∙ ap₂ walk (kept_all (λ h. is_current h.side) cs (λ h i. ap is_current (run_side Current m cs rc h i))) (kept_none (λ h. is_current h.side) os (λ h i. ap is_current (run_side Other n os ro h i)))
    ∙ walk_nil cs

pub others_walk : (cs os : List Hunk) (m n : ℕ) → Run Current m cs → Run Other n os → others (walk cs os) ≡ os
others_walk cs os m n rc ro = kept_walk (λ h. is_other h.side) cs os m n rc ro
    ∙ ap₂ walk (kept_none (λ h. is_other h.side) cs (λ h i. ap is_other (run_side Current m cs rc h i))) (kept_all (λ h. is_other h.side) os (λ h i. ap is_other (run_side Other n os ro h i)))

-- the hunks of the picked side, and those that touch none
abbrev pub stays : (Side → Bool) → List Hunk → Hunk → Bool
stays f all h = f h.side || not (touches_any h all)

pub ours_stay : (cs os : List Hunk) (m n : ℕ) → Run Current m cs → Run Other n os → filter (stays is_current (walk cs os)) (walk cs os) ≡ walk cs (lone_ones cs os)
ours_stay cs os m n rc ro = kept_walk (stays is_current (walk cs os)) cs os m n rc ro ∙ ap₂ walk
    (kept_all (stays is_current (walk cs os)) cs (λ h i. or_left (is_current h.side) (not (touches_any h (walk cs os))) (ap is_current (run_side Current m cs rc h i))))
    (kept_same (stays is_current (walk cs os)) (λ h. not (touches_any h cs)) os (λ h i. let e = run_side Other n os ro h i in ap₂ ◌||◌ (ap is_current e) (ap not (any_currents h e (walk cs os) ∙ ap (touches_any h) (currents_walk cs os m n rc ro)))))

pub theirs_stay : (cs os : List Hunk) (m n : ℕ) → Run Current m cs → Run Other n os → filter (stays is_other (walk cs os)) (walk cs os) ≡ walk (lone_ones os cs) os
theirs_stay cs os m n rc ro = kept_walk (stays is_other (walk cs os)) cs os m n rc ro ∙ ap₂ walk
    (kept_same (stays is_other (walk cs os)) (λ h. not (touches_any h os)) cs (λ h i. let e = run_side Current m cs rc h i in ap₂ ◌||◌ (ap is_other e) (ap not (any_others h e (walk cs os) ∙ ap (touches_any h) (others_walk cs os m n rc ro)))))
    (kept_all (stays is_other (walk cs os)) os (λ h i. or_left (is_other h.side) (not (touches_any h (walk cs os))) (ap is_other (run_side Other n os ro h i))))
