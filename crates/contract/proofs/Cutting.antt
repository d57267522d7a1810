-- Lists that are cut in their place.
use Rattle.std.proofs.Common.{◌≡◌, ℕ, zero, suc, ◌+◌, ◌-◌, ◌<◌, ◌≤◌, Bool, true, false, cond, eqb, List, [], ◌∷◌, ◌++◌, length, get_or, take, drop, set, Some, None, sym, refl, ap, ◌∙◌, ap₂, ⊎_elim, arith}
use Rattle.std.proofs.lemmas.List.{length-append, length-take-le, length-drop, take_more, get_or-take, set_at}
use Rattle.std.proofs.lemmas.Option.{slice_get-get_or, slice_get_past}
use Rattle.std.specs.List.{slice_get}
use Rattle.std.proofs.lemmas.Bool.{cases_lt, ne_eqb, cond-false, cond_both}
use Rattle.rules.specs.declared.hunk.Hunk.{Hunk}
use Rattle.contract.specs.Places.{place_of, ahead_at, behind_at, Placed}
use Rattle.reading.specs.Reading.{no_hunk}
use Rattle.rules.specs.Contraction.{first_lines, later_lines}
use Rattle.reading.proofs.Backs.{inside}

pub placed_inside : (w k : ℕ) (hs : List Hunk) → Placed (place_of w k) hs → 0 < k → w < length hs
placed_inside w k hs p pos = inside hs w k pos p.lines

-- a hunk that is lent stands in its place, and one is lent wherever there is one
pub lent_some : (hs : List Hunk) (i : ℕ) (y : Hunk) → Some y ≡ slice_get hs i → y ≡ get_or hs i no_hunk
lent_some hs i y e =
    ⊎_elim (λ (lt : i < length hs). let z = e ∙ slice_get-get_or hs i no_hunk lt in cc) (λ (le : length hs ≤ i). let z = e ∙ slice_get_past hs i le in let u : ◌≡◌ {A = ℕ} 0 1 = cc in absurd (omega arith))
    (cases_lt i (length hs))

pub lent_none : (hs : List Hunk) (i : ℕ) → None ≡ slice_get hs i → length hs ≤ i
lent_none hs i e =
    ⊎_elim (λ (lt : i < length hs). let z = e ∙ slice_get-get_or hs i no_hunk lt in let u : ◌≡◌ {A = ℕ} 0 1 = cc in absurd (omega arith)) (λ (le : length hs ≤ i). le)
    (cases_lt i (length hs))

pub ahead_some : (w k : ℕ) (hs : List Hunk) → 0 < k → ahead_at (place_of w k) hs ≡ take w hs ++ (first_lines k (get_or hs w no_hunk) ∷ [])
ahead_some w k hs pos = cond-false (eqb k 0) (take w hs) (take w hs ++ (first_lines k (get_or hs w no_hunk) ∷ [])) (ne_eqb k 0 (λ z. omega arith))

pub ahead_cut : (w k : ℕ) (hs ts us : List Hunk) (x y : Hunk) → w < length hs → 0 < k → ts ≡ take (w + 1) hs → y ≡ get_or ts w no_hunk → x ≡ first_lines k y → us ≡ set ts w x → us ≡ ahead_at (place_of w k) hs
ahead_cut w k hs ts us x y lt pos et ey ex eu =
    let h = get_or hs w no_hunk in
    let t : ts ≡ take w hs ++ (h ∷ []) = et ∙ take_more hs w no_hunk lt in
    let yh : y ≡ h = ey ∙ (ap (λ (v : List Hunk). get_or v w no_hunk) et ∙ get_or-take (w + 1) hs w no_hunk (omega arith)) in
    let l : length (take w hs) ≡ w = length-take-le w hs (omega arith) in
    eu ∙ (ap₂ (λ (v : List Hunk) (z : Hunk). set v w z) t (ex ∙ ap (first_lines k) yh) ∙ (set_at (take w hs) h [] (first_lines k h) w l ∙ sym (ahead_some w k hs pos)))

pub ahead_few : (w k : ℕ) (hs : List Hunk) → w ≤ length hs → length (ahead_at (place_of w k) hs) ≤ w + 1
ahead_few w k hs le =
    let l = length-take-le w hs le in
    cond_both (eqb k 0) (take w hs) (take w hs ++ (first_lines k (get_or hs w no_hunk) ∷ [])) (λ (v : List Hunk). length v ≤ w + 1) (λ e. omega arith) (λ e. omega (arith, length-append (take w hs) (first_lines k (get_or hs w no_hunk) ∷ [])))

pub behind_length : (w k : ℕ) (hs : List Hunk) → Placed (place_of w k) hs → length (behind_at (place_of w k) hs) ≡ length hs - w
behind_length w k hs p =
    let d = length-drop w hs in
    let f = length-drop (suc w) hs in
    by (eqb k 0) refl d f
  where
    by : (b : Bool) → eqb k 0 ≡ b → length (drop w hs) ≡ length hs - w → length (drop (suc w) hs) ≡ length hs - suc w → length (cond b (drop w hs) (later_lines k (get_or hs w no_hunk) ∷ drop (suc w) hs)) ≡ length hs - w
    by true e d f = d
    by false e d f = let lt : w < length hs = placed_inside w k hs p (nonzero k e) in omega arith
      where
        nonzero : (m : ℕ) → eqb m 0 ≡ false → 0 < m
        nonzero zero z = let u : ◌≡◌ {A = ℕ} 0 1 = cc in absurd (omega arith)
        nonzero (suc m) z = omega arith
