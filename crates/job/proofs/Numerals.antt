-- The number that digits write, read from its first on.
use Rattle.std.proofs.Common.{◌≡◌, ℕ, ◌+◌, ◌-◌, ◌*◌, ◌^◌, ◌<◌, ◌≤◌, true, cond, List, [], ◌∷◌, length, get_or, drop, Some, None, Option, refl, sym, ap, ◌∙◌, arith, rules, ◌⊎◌, inl, inr, le-ltb, lt-ltb}
use Rattle.std.proofs.lemmas.Bool.{cases_lt}
use Rattle.std.proofs.lemmas.List.{at_drop_more}
use Rattle.std.proofs.lemmas.Str.Parse.{IsNumeralModel, numerals_by_fold, tells_all_ascii_digits}
use Rattle.std.specs.Prelude.{SomeIff}
use Rattle.std.specs.Str.{all_ascii_digits}
use Rattle.job.specs.Numbers.{fitting, number_of, value_on}

pub own : IsNumeralModel (λ ds. all_ascii_digits ds ≡ true) (value_on 0)
own = numerals_by_fold (λ ds. all_ascii_digits ds ≡ true) tells_all_ascii_digits value_on (search rules)

pub whole : (n : ℕ) (ds : List ℕ) → 0 < length ds → n < 2 ^ 32 → n ≡ value_on 0 ds → number_of ds ≡ Some n
whole n [] some h e = absurd (omega arith)
whole n (d ∷ ds) some h e = ap fitting (sym e) ∙ ap (λ v. cond v (Some n) None) (lt-ltb n (2 ^ 32) h)

-- a number only grows by digits behind it, so one that does not fit stays so
grows : (n : ℕ) (ds : List ℕ) → n ≤ value_on n ds
grows n [] = omega arith
grows n (d ∷ ds) = let h = grows (n * 10 + (d - 48)) ds in omega arith

pub too_large : (n : ℕ) (ds all : List ℕ) → 2 ^ 32 ≤ n → value_on n ds ≡ value_on 0 all → number_of all ≡ None
too_large n ds [] h e = refl
too_large n ds (a ∷ bs) h e =
    let g = grows n ds in
    ap (λ v. cond v (Some (value_on 0 (a ∷ bs))) None) (le-ltb (value_on 0 (a ∷ bs)) (2 ^ 32) (omega arith))

-- one digit on, in a number that does not fit
pub too_large_on : (n i : ℕ) (ds : List ℕ) (r : Option ℕ) (top v : ℕ) → SomeIff r (top < 2 ^ 32) v → r ≡ None → top ≤ n * 10 + (get_or ds i 0 - 48) → i < length ds → value_on n (drop i ds) ≡ value_on 0 ds → number_of ds ≡ None
too_large_on n i ds (Some x) top v f e l h inv = absurd cc
too_large_on n i ds None top v f e l h inv =
    too_large (n * 10 + (get_or ds i 0 - 48)) (drop (i + 1) ds) ds (by (cases_lt (n * 10 + (get_or ds i 0 - 48)) (2 ^ 32))) (sym (at_drop_more (value_on n) ds i 0 h) ∙ inv)
  where
    by : (n * 10 + (get_or ds i 0 - 48) < 2 ^ 32) ⊎ (2 ^ 32 ≤ n * 10 + (get_or ds i 0 - 48)) → 2 ^ 32 ≤ n * 10 + (get_or ds i 0 - 48)
    by (inl k) = absurd (f (omega arith))
    by (inr k) = k
