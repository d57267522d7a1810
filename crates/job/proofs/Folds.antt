-- Steps of the loops: what is left gives the answer.
use Rattle.std.proofs.Common.{max, ◌≡◌, ℕ, suc, ◌+◌, ◌<◌, ◌≤◌, Bool, true, false, cond, eqb, List, [], ◌∷◌, length, take, drop, Some, None, refl, ap, arith, length-drop}
use Rattle.std.proofs.lemmas.Bool.Decides.{nat_tests}
use Rattle.std.specs.Prelude.{◌==◌, nat_lt, not, position}
use Rattle.std.specs.List.{position_or_len}
use Rattle.rules.specs.Texts.{onto, text_lines}
use Rattle.job.specs.Ends.{line_end, line_length}

-- the first newline ends the line, and where there is none the line goes on to the end
line_by_newline : (t : List ℕ) → line_length t ≡ cond (nat_lt (position_or_len (λ b. b == 10) t) (length t)) (position_or_len (λ b. b == 10) t + 1) (length t)
line_by_newline [] = refl
line_by_newline (b ∷ bs) = elim (b == 10) as (λ v. cond v 1 (suc (line_length bs)) ≡ cond (nat_lt (cond (not v) (1 + position_or_len (λ b. b == 10) bs) 0) (suc (length bs))) (cond (not v) (1 + position_or_len (λ b. b == 10) bs) 0 + 1) (suc (length bs))) [
  | true ↦ grind (arith, nat_tests)
  | false ↦ let h = line_by_newline bs in grind (arith, nat_tests)
]

pub ends_at_newline : (t : List ℕ) (from n : ℕ) → position (λ b. b == 10) (drop from t) ≡ Some n → from + n + 1 ≡ line_end t from
ends_at_newline t from n e = let h = line_by_newline (drop from t) in grind (arith, nat_tests)

pub ends_with_job : (t : List ℕ) (from : ℕ) → position (λ b. b == 10) (drop from t) ≡ None → max (length t) from ≡ line_end t from
ends_with_job t from e = let h = line_by_newline (drop from t) in let l = length-drop from t in grind (arith, nat_tests)

-- a line has a byte at least, and no more than are there
length_within : (t : List ℕ) → line_length t ≤ length t
length_within [] = omega arith
length_within (b ∷ bs) = let h = length_within bs in elim (eqb b 10) as (λ v. cond v 1 (suc (line_length bs)) ≤ suc (length bs)) [ true ↦ omega arith | false ↦ omega arith ]

length_some : (t : List ℕ) → 0 < length t → 0 < line_length t
length_some [] h = absurd (omega arith)
length_some (b ∷ bs) h = elim (eqb b 10) as (λ v. 0 < cond v 1 (suc (line_length bs))) [ true ↦ omega arith | false ↦ omega arith ]

pub line_forward : (t : List ℕ) (from to : ℕ) → to ≡ from + line_length (drop from t) → from < length t → (from < to) × (to ≤ length t)
line_forward t from to e h =
    let n = length-drop from t in
    let a = length_within (drop from t) in
    let b = length_some (drop from t) (omega arith) in
    (omega arith, omega arith)

-- the first of a text's lines is as long as the definition says, and the others are the lines of the rest
pub first_line : (t : List ℕ) → 0 < length t → text_lines t ≡ take (line_length t) t ∷ text_lines (drop (line_length t) t)
first_line [] h = absurd (omega arith)
first_line (b ∷ []) h = elim (b == 10) as (λ v. cond v ((b ∷ []) ∷ []) (onto b []) ≡ take (cond v 1 1) (b ∷ []) ∷ text_lines (drop (cond v 1 1) (b ∷ []))) [ true ↦ refl | false ↦ refl ]
first_line (b ∷ (d ∷ ds)) h = by (b == 10) (first_line (d ∷ ds) (omega arith))
  where
    by : (v : Bool) → text_lines (d ∷ ds) ≡ take (line_length (d ∷ ds)) (d ∷ ds) ∷ text_lines (drop (line_length (d ∷ ds)) (d ∷ ds)) → cond v ((b ∷ []) ∷ text_lines (d ∷ ds)) (onto b (text_lines (d ∷ ds))) ≡ take (cond v 1 (suc (line_length (d ∷ ds)))) (b ∷ (d ∷ ds)) ∷ text_lines (drop (cond v 1 (suc (line_length (d ∷ ds)))) (b ∷ (d ∷ ds)))
    by true e = refl
    by false e = ap (onto b) e
