-- What lists of hunks hold, over the places of an array.
use Rattle.std.proofs.Common.{◌≡◌, ℕ, zero, suc, ◌+◌, ◌-◌, ◌<◌, ◌≤◌, min, ltb, leb, List, [], ◌∷◌, ◌++◌, length, get_or, take, drop, slice_set, Some, None, sym, refl, ap, ◌∙◌, ⊎_elim, arith}
use Rattle.std.specs.List.{slice_get, copy_within}
use Rattle.std.proofs.lemmas.List.{length-take-le, length-drop, take_at, drop-take, drop_all, get_or-take}
use Rattle.std.proofs.lemmas.Option.{slice_get-get_or, slice_get_past}
use Rattle.rules.specs.declared.hunk.Side.TheVariants.{Current}
use Rattle.rules.specs.declared.hunk.Hunk.{Hunk}
use Rattle.rules.specs.Tables.{last_from, last_of}
use Rattle.std.proofs.lemmas.Bool.{cases_lt, lt-ltb, le-leb, cond-true}
use Rattle.hunks.specs.Lists.{pushed, pushed_all}

-- what stands for a hunk where there is none
abbrev pub no_hunk : Hunk
no_hunk = record { before = record { start = 0; end = 0 }; after = record { start = 0; end = 0 }; side = Current }

-- the last hunk stands in the last place
last_shown : (g : Hunk) (hs : List Hunk) → last_from (Some g) hs ≡ slice_get (g ∷ hs) (length hs)
last_shown g [] = refl
last_shown g (h ∷ hs) = last_shown h hs

pub last_held : (hs : List Hunk) → last_of hs ≡ slice_get hs (length hs - 1)
last_held [] = refl
last_held (h ∷ hs) = let e : suc (length hs) - 1 ≡ length hs = omega arith in rw e (last_shown h hs)

pub none_held : (hs : List Hunk) → last_of hs ≡ None → length hs ≡ 0
none_held [] e = refl
none_held (h ∷ hs) e =
    let n = length (h ∷ hs) - 1 in
    let s = slice_get-get_or (h ∷ hs) n h (omega arith) in
    let w = last_held (h ∷ hs) in
    let u : ◌≡◌ {A = ℕ} 0 1 = cc in absurd (omega arith)

-- where there is a place
pub pushed_room : (n : ℕ) (hs : List Hunk) (h : Hunk) → length hs < n → pushed n hs h ≡ hs ++ (h ∷ [])
pushed_room n hs h lt = cond-true (ltb (length hs) n) (hs ++ (h ∷ [])) hs (lt-ltb _ _ lt)

pub pushed_all_room : (n : ℕ) (hs gs : List Hunk) → length hs + length gs ≤ n → pushed_all n hs gs ≡ hs ++ gs
pushed_all_room n hs gs le = cond-true (leb (length hs + length gs) n) (hs ++ gs) hs (le-leb _ _ le)

-- a place among the first n, and one behind them
pub take_nth : {X : Type 0} → (n : ℕ) (xs : List X) (i : ℕ) (d : X) → i < n → n ≤ length xs → slice_get (take n xs) i ≡ Some (get_or xs i d)
take_nth n xs i d h k =
    let e : length (take n xs) ≡ n = length-take-le n xs k in
    let b : i < length (take n xs) = omega arith in
    slice_get-get_or (take n xs) i d b ∙ ap Some (get_or-take n xs i d h)

pub take_nth_past : {X : Type 0} → (n : ℕ) (xs : List X) (i : ℕ) → n ≤ i → n ≤ length xs → slice_get (take n xs) i ≡ None
take_nth_past n xs i h k =
    let e : length (take n xs) ≡ n = length-take-le n xs k in
    slice_get_past (take n xs) i (omega arith)

pub take_set_in : {X : Type 0} → (n : ℕ) (xs : List X) (i : ℕ) (x : X) → take n (slice_set xs i x) ≡ slice_set (take n xs) i x
take_set_in zero xs i x = refl
take_set_in (suc n) [] i x = refl
take_set_in (suc n) (y ∷ ys) zero x = refl
take_set_in (suc n) (y ∷ ys) (suc i) x = ap (λ zs. y ∷ zs) (take_set_in n ys i x)

-- no more than all can be dropped
pub drop_least : {X : Type 0} (k len n : ℕ) (xs : List X) → k ≡ min n len → length xs ≡ len → drop k xs ≡ drop n xs
drop_least k len n xs e l =
    ⊎_elim
    (λ (lt : n < len). let q : k ≡ n = omega arith in ap (λ m. drop m xs) q)
    (λ (ge : len ≤ n). drop_all k xs (omega arith) ∙ sym (drop_all n xs (omega arith)))
    (cases_lt n len)

-- what stands behind the first `gone` of the first `len`, moved to the front
pub moved_up : {X : Type 0} (gone len : ℕ) (xs : List X) → gone ≤ len → len ≤ length xs → take (len - gone) (copy_within xs gone len 0) ≡ drop gone (take len xs)
moved_up gone len xs g l =
    let front = take (len - gone) (drop gone xs) in
    let ld = length-drop gone xs in
    let lf : length front ≡ len - gone = length-take-le (len - gone) (drop gone xs) (omega arith) in
    let q : len ≡ gone + (len - gone) = omega arith in
    take_at front (drop (0 + (len - gone)) xs) (len - gone) lf ∙ sym (ap (λ m. drop gone (take m xs)) q ∙ drop-take gone (len - gone) xs)
