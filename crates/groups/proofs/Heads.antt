-- The first hunk of the walk: whose it is, and what the walk goes on with.
use Rattle.std.proofs.Common.{◌≡◌, ℕ, zero, suc, ◌<◌, ◌≤◌, leb, ◌⊎◌, List, [], ◌∷◌, length, get_or, drop, refl, inl, inr, arith}
use Rattle.std.proofs.lemmas.Bool.{cond-true, cond-false, cond_both, le-leb, lt-leb}
use Rattle.rules.specs.declared.hunk.Hunk.{Hunk}
use Rattle.rules.specs.Walk.{walk}
use Rattle.hunks.proofs.Helds.{no_hunk}

pub drop_head : (xs : List Hunk) (j : ℕ) → get_or (drop j xs) 0 no_hunk ≡ get_or xs j no_hunk
drop_head xs zero = refl
drop_head [] (suc j) = refl
drop_head (x ∷ xs) (suc j) = drop_head xs j

-- The current side's first hunk leads where the other side's starts no earlier.
pub lead_current : (c : Hunk) (cs os : List Hunk) → (0 < length os → c.before.start ≤ (get_or os 0 no_hunk).before.start) → walk (c ∷ cs) os ≡ c ∷ walk cs os
lead_current c cs [] f = refl
lead_current c cs (o ∷ os) f = cond-true (leb c.before.start o.before.start) (c ∷ walk cs (o ∷ os)) (o ∷ walk (c ∷ cs) os) (le-leb _ _ (f (omega arith)))

-- The other side's leads where the current side's starts later.
pub lead_other : (o : Hunk) (cs os : List Hunk) → (0 < length cs → o.before.start < (get_or cs 0 no_hunk).before.start) → walk cs (o ∷ os) ≡ o ∷ walk cs os
lead_other o [] os f = refl
lead_other o (c ∷ cs) os f = cond-false (leb c.before.start o.before.start) (c ∷ walk cs (o ∷ os)) (o ∷ walk (c ∷ cs) os) (lt-leb _ _ (f (omega arith)))

-- The first hunk of the walk is the first of a side.
pub head_is : (cs os : List Hunk) (h : Hunk) (hs : List Hunk) → walk cs os ≡ h ∷ hs
    → ((0 < length cs) × (h ≡ get_or cs 0 no_hunk)) ⊎ ((0 < length os) × (h ≡ get_or os 0 no_hunk))
head_is [] [] h hs e = let z : ◌≡◌ {A = ℕ} 0 1 = cc in absurd (omega arith)
head_is [] (o ∷ os) h hs e = inr (omega arith, cc)
head_is (c ∷ cs) [] h hs e = inl (omega arith, cc)
head_is (c ∷ cs) (o ∷ os) h hs e =
    cond_both (leb c.before.start o.before.start) (c ∷ walk cs (o ∷ os)) (o ∷ walk (c ∷ cs) os)
    (λ (l : List Hunk). l ≡ h ∷ hs → ((0 < length (c ∷ cs)) × (h ≡ c)) ⊎ ((0 < length (o ∷ os)) × (h ≡ o)))
    (λ _ q. inl (omega arith, cc))
    (λ _ q. inr (omega arith, cc))
    e
