-- A hunk that a side offers: it is there, and touches the last one taken of the facing side.
use Rattle.std.proofs.Common.{◌≡◌, ℕ, zero, suc, ◌-◌, ◌<◌, ◌≤◌, Bool, true, false, List, [], ◌∷◌, length, get_or, take, drop, Some, None, Option, sym, refl, ap, ◌∙◌, ap₂, ⊎_elim, arith}
use Rattle.std.specs.List.{slice_get}
use Rattle.std.proofs.lemmas.List.{take_rest}
use Rattle.std.proofs.lemmas.Option.{slice_get-get_or, slice_get_past}
use Rattle.std.proofs.lemmas.Bool.{cases_lt, false≢true}
use Rattle.rules.specs.declared.hunk.Hunk.{Hunk}
use Rattle.rules.specs.Hunks.{touches}
use Rattle.rules.specs.Tables.{last_of}
use Rattle.rules.proofs.Keeping.{last_taken}
use Rattle.hunks.proofs.Helds.{no_hunk}
use Rattle.groups.specs.Taking.{offers}

none_last : (o : Option Hunk) → offers o None ≡ false
none_last None = refl
none_last (Some h) = refl

-- What a side offers, by places.
pub offered_is : (xs ys : List Hunk) (k m : ℕ) → k < length xs → 0 < m → m ≤ length ys
    → offers (slice_get xs k) (last_of (take m ys)) ≡ touches (get_or xs k no_hunk) (get_or ys (m - 1) no_hunk)
offered_is xs ys k m b p le = ap₂ offers (slice_get-get_or xs k no_hunk b) (last_taken ys m no_hunk p le)

pub none_next : (xs ys : List Hunk) (k m : ℕ) → length xs ≤ k → offers (slice_get xs k) (last_of (take m ys)) ≡ false
none_next xs ys k m le = ap (λ (o : Option Hunk). offers o (last_of (take m ys))) (slice_get_past xs k le)

pub none_taken : (xs ys : List Hunk) (k m : ℕ) → m ≡ 0 → offers (slice_get xs k) (last_of (take m ys)) ≡ false
none_taken xs ys k m e = ap (λ (n : ℕ). offers (slice_get xs k) (last_of (take n ys))) e ∙ none_last (slice_get xs k)

-- As the code asks: of the hunks left from place k on, and the first m of the facing side.
abbrev pub offer : List Hunk → ℕ → List Hunk → ℕ → Bool
offer xs k ys m = offers (slice_get (take (length xs - k) (drop k xs)) 0) (last_of (take m ys))

next_left : (xs : List Hunk) (k : ℕ) → slice_get (drop k xs) 0 ≡ slice_get xs k
next_left xs zero = refl
next_left [] (suc k) = refl
next_left (x ∷ xs) (suc k) = next_left xs k

pub offer_is : (xs ys : List Hunk) (k m : ℕ) → offer xs k ys m ≡ offers (slice_get xs k) (last_of (take m ys))
offer_is xs ys k m = ap (λ (o : Option Hunk). offers o (last_of (take m ys))) (ap (λ (l : List Hunk). slice_get l 0) (take_rest xs k) ∙ next_left xs k)

pub record Offered (xs : List Hunk) (k : ℕ) (ys : List Hunk) (m : ℕ) : Type 0 where
  pub below : k < length xs
  pub some : 0 < m
  pub touching : touches (get_or xs k no_hunk) (get_or ys (m - 1) no_hunk) ≡ true

pub offered : (xs ys : List Hunk) (k m : ℕ) → m ≤ length ys → true ≡ offer xs k ys m → Offered xs k ys m
offered xs ys k m le o =
    let e : offers (slice_get xs k) (last_of (take m ys)) ≡ true = sym (o ∙ offer_is xs ys k m) in
    ⊎_elim
    (λ (b : k < length xs). ⊎_elim
    (λ (p : 0 < m). record { below = b; some = p; touching = sym (offered_is xs ys k m b p le) ∙ e })
    (λ (p : m ≤ 0). absurd (false≢true (sym (none_taken xs ys k m (omega arith)) ∙ e)))
    (cases_lt 0 m))
    (λ (b : length xs ≤ k). absurd (false≢true (sym (none_next xs ys k m b) ∙ e)))
    (cases_lt k (length xs))
