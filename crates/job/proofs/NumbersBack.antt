-- A number, spelled, reads back as itself.
use Rattle.std.proofs.Common.{◌≡◌, ℕ, suc, ◌+◌, ◌^◌, ◌<◌, Bool, true, false, cond, ◌&&◌, List, [], ◌∷◌, ◌++◌, length, take, drop, Some, None, decimal, sym, refl, ap, ◌∙◌, true≢false, arith}
use Rattle.std.proofs.lemmas.Fmt.{decimal_nonempty, digits_decimal, digits_value-decimal}
use Rattle.std.proofs.Math.Seq.{drop-append_seam, take-append_seam}
use Rattle.std.proofs.lemmas.List.{append-nil}
use Rattle.std.specs.Str.{all_ascii_digits}
use Rattle.job.specs.Numbers.{Fits32, at_end, digit_count, front_number, is_digit, last_number, number_of, number_then, with_mark}
use Rattle.job.specs.Words.{after, and_then, or_else, with_rest}
use Rattle.job.proofs.Numerals.{own, whole}

-- digits are counted as far as they go
count_ahead : (ds rest : List ℕ) → all_ascii_digits ds ≡ true → digit_count rest ≡ 0 → digit_count (ds ++ rest) ≡ length ds
count_ahead [] rest h z = z
count_ahead (d ∷ ds) rest h z = by (is_digit d) h (λ g. count_ahead ds rest g z)
  where
    by : (v : Bool) → v && all_ascii_digits ds ≡ true → (all_ascii_digits ds ≡ true → digit_count (ds ++ rest) ≡ length ds) → cond v (1 + digit_count (ds ++ rest)) 0 ≡ suc (length ds)
    by true g ih = let e = ih g in omega arith
    by false g ih = absurd (true≢false (sym g))

front_at : (ds rest : List ℕ) (n : ℕ) → all_ascii_digits ds ≡ true → digit_count rest ≡ 0 → number_of ds ≡ Some n → front_number (ds ++ rest) ≡ Some (n, rest)
front_at ds rest n a z v =
    ap (λ k. with_rest (number_of (take k (ds ++ rest))) (drop k (ds ++ rest))) (count_ahead ds rest a z) ∙
    ap (λ t. with_rest (number_of t) (drop (length ds) (ds ++ rest))) (take-append_seam ds rest) ∙
    ap (λ t. with_rest (number_of ds) t) (drop-append_seam ds rest) ∙
    ap (λ o. with_rest o rest) v

front_back : (n : ℕ) (rest : List ℕ) → Fits32 n → digit_count rest ≡ 0 → front_number (decimal n ++ rest) ≡ Some (n, rest)
front_back n rest h z =
    let big : n < 2 ^ 64 = omega arith in
    front_at (decimal n) rest n (digits_decimal own n big) z (whole n (decimal n) (decimal_nonempty n big) h (sym (digits_value-decimal own n big)))

-- with a mark behind it that begins with no digit, and at a line's end
pub marked_back : (mark rest : List ℕ) (n : ℕ) → Fits32 n → digit_count (mark ++ rest) ≡ 0 → after mark (mark ++ rest) ≡ Some rest → number_then mark (decimal n ++ (mark ++ rest)) ≡ Some (n, rest)
marked_back mark rest n h z e =
    ap (λ p. and_then p (with_mark mark)) (front_back n (mark ++ rest) h z) ∙ ap (λ o. or_else o (λ left. Some (n, left)) None) e

pub last_back : (n : ℕ) → Fits32 n → last_number (decimal n) ≡ Some n
last_back n h = ap last_number (sym (append-nil (decimal n))) ∙ ap (λ p. and_then p at_end) (front_back n [] h refl)
