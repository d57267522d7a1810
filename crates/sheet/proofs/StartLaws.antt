use Rattle.std.proofs.Common.{◌≡◌, ℕ, suc, ◌+◌, ◌<◌, ◌≤◌, add-zero, Bool, true, false, not, cond, eqb, List, [], ◌∷◌, ◌++◌, length, get_or, take, drop, set, sym, refl, ap, ◌∙◌, append_assoc, arith, length-append, eq-eqb, eqb-true}
use Rattle.std.proofs.lemmas.List.{at_drop_more, at_drop_all, append-nil, take_more_set, drop-set-lt, drop-drop, take-append-drop, length-take-le, get_or-take, get_or_at, take_more}
use Rattle.std.proofs.lemmas.List.Sums.{sum_by-cons}
use Rattle.std.specs.List.{sum_by}
use Rattle.rules.specs.Steps.{left_open}
use Rattle.sheet.specs.Splits.{filled, same}
use Rattle.rules.specs.Texts.{onto, text_lines}
use Rattle.sheet.specs.Starts.{starts_at, starts_of}
use Rattle.sheet.proofs.LineLaws.{length_starts}

-- the starts that a walk still finds from place i on, where a line begins there or not
abbrev pub starts_from : ℕ → Bool → List ℕ → List ℕ
starts_from i fresh [] = []
starts_from i true (b ∷ bs) = i ∷ starts_from (i + 1) (eqb b 10) bs
starts_from i false (b ∷ bs) = starts_from (i + 1) (eqb b 10) bs

abbrev tail : List ℕ → List ℕ
tail [] = []
tail (x ∷ xs) = xs

starts_onto : (i b : ℕ) (ls : List (List ℕ)) → starts_at i (onto b ls) ≡ i ∷ tail (starts_at (i + 1) ls)
starts_onto i b [] = refl
starts_onto i b (l ∷ ls) = ap (λ k. i ∷ starts_at k ls) (omega arith)

walk : (i : ℕ) (t : List ℕ) → (starts_from i true t ≡ starts_at i (text_lines t)) × (starts_from i false t ≡ tail (starts_at i (text_lines t)))
walk i [] = (refl, refl)
walk i (b ∷ bs) =
    let h = walk (i + 1) bs in
    let e : i ∷ starts_from (i + 1) (eqb b 10) bs ≡ starts_at i (cond (eqb b 10) ((b ∷ []) ∷ text_lines bs) (onto b (text_lines bs))) =
    elim (eqb b 10) as (λ v. i ∷ starts_from (i + 1) v bs ≡ starts_at i (cond v ((b ∷ []) ∷ text_lines bs) (onto b (text_lines bs))))
    [ true ↦ ap (λ k. i ∷ k) h.0 | false ↦ ap (λ k. i ∷ k) h.1 ∙ sym (starts_onto i b (text_lines bs)) ] in
    (e, ap tail e)

pub from_first : (t : List ℕ) → starts_from 0 true t ≡ starts_of t
from_first t = (walk 0 t).0

pub length_from_first : (t : List ℕ) → length (starts_from 0 true t) ≡ length (text_lines t)
length_from_first t = ap length (from_first t) ∙ length_starts 0 (text_lines t)

-- one step of the walk, and its end
pub step_then : (i : ℕ) (f : Bool) (t : List ℕ) → f ≡ true → i < length t → starts_from i f (drop i t) ≡ i ∷ starts_from (i + 1) (eqb (get_or t i 0) 10) (drop (i + 1) t)
step_then i f t e h = ap (λ v. starts_from i v (drop i t)) e ∙ at_drop_more (starts_from i true) t i 0 h

pub step_else : (i : ℕ) (f : Bool) (t : List ℕ) → f ≡ false → i < length t → starts_from i f (drop i t) ≡ starts_from (i + 1) (eqb (get_or t i 0) 10) (drop (i + 1) t)
step_else i f t e h = ap (λ v. starts_from i v (drop i t)) e ∙ at_drop_more (starts_from i false) t i 0 h

pub step_end : (i : ℕ) (f : Bool) (t : List ℕ) → length t ≤ i → starts_from i f (drop i t) ≡ []
step_end i f t h = at_drop_all (starts_from i f) t i h

-- what a walk keeps that has passed `count` starts, which stand in the table
abbrev pub Kept : List ℕ → List ℕ → ℕ → ℕ → Bool → Type 0
Kept t table count i f = take count table ++ starts_from i f (drop i t) ≡ starts_of t

pub kept_first : (t table : List ℕ) → Kept t table 0 0 true
kept_first t table = from_first t

pub kept_room : (t table : List ℕ) (count i : ℕ) (f : Bool) → f ≡ true → i < length t → count ≤ length table → length (text_lines t) ≤ length table → Kept t table count i f → count < length table
kept_room t table count i f e h room fits k =
    let a = ap length k in
    let b = length-append (take count table) (starts_from i f (drop i t)) in
    let d = length-take-le count table room in
    let g = ap length (step_then i f t e h) in
    let n = length_starts 0 (text_lines t) in
    omega arith

pub kept_set : (t table : List ℕ) (count i : ℕ) (f : Bool) → f ≡ true → i < length t → count < length table → Kept t table count i f → take (count + 1) (set table count i) ++ starts_from (i + 1) (eqb (get_or t i 0) 10) (drop (i + 1) t) ≡ starts_of t
kept_set t table count i f e h room k =
    ap (λ xs. xs ++ starts_from (i + 1) (eqb (get_or t i 0) 10) (drop (i + 1) t)) (take_more_set table count i room) ∙
    append_assoc (take count table) (i ∷ []) (starts_from (i + 1) (eqb (get_or t i 0) 10) (drop (i + 1) t)) ∙
    ap (λ xs. take count table ++ xs) (sym (step_then i f t e h)) ∙ k

pub kept_same : (t table : List ℕ) (count i : ℕ) (f : Bool) → f ≡ true → i < length t → count < length table → get_or table count 0 ≡ i → Kept t table count i f → Kept t table (count + 1) (i + 1) (eqb (get_or t i 0) 10)
kept_same t table count i f e h room q k =
    ap (λ xs. xs ++ starts_from (i + 1) (eqb (get_or t i 0) 10) (drop (i + 1) t)) (take_more table count 0 room ∙ ap (λ x. take count table ++ x ∷ []) q) ∙
    append_assoc (take count table) (i ∷ []) (starts_from (i + 1) (eqb (get_or t i 0) 10) (drop (i + 1) t)) ∙
    ap (λ xs. take count table ++ xs) (sym (step_then i f t e h)) ∙ k

pub kept_on : (t table : List ℕ) (count i : ℕ) (f : Bool) → f ≡ false → i < length t → Kept t table count i f → Kept t table count (i + 1) (eqb (get_or t i 0) 10)
kept_on t table count i f e h k = ap (λ xs. take count table ++ xs) (sym (step_else i f t e h)) ∙ k

pub kept_end : (t table : List ℕ) (count i : ℕ) (f : Bool) → length t ≤ i → Kept t table count i f → take count table ≡ starts_of t
kept_end t table count i f h k = sym (append-nil (take count table)) ∙ ap (λ xs. take count table ++ xs) (sym (step_end i f t h)) ∙ k

pub count_end : (t table : List ℕ) (count : ℕ) → count ≤ length table → take count table ≡ starts_of t → count ≡ length (text_lines t)
count_end t table count room e = sym (length-take-le count table room) ∙ ap length e ∙ length_starts 0 (text_lines t)

-- places behind those written
pub behind_set : (old table : List ℕ) (count i : ℕ) → drop count table ≡ drop count old → drop (count + 1) (set table count i) ≡ drop (count + 1) old
behind_set old table count i e =
    drop-set-lt (count + 1) table count i (omega arith) ∙ sym (drop-drop 1 count table) ∙ ap (drop 1) e ∙ drop-drop 1 count old

pub whole : (t old table : List ℕ) (count : ℕ) → count ≤ length table → take count table ≡ starts_of t → drop count table ≡ drop count old → table ≡ filled t old
whole t old table count room e f =
    let n = count_end t table count room e in
    sym (take-append-drop count table) ∙ ap (λ xs. xs ++ drop count table) e ∙ ap (λ xs. starts_of t ++ xs) (f ∙ ap (λ k. drop k old) n)

-- the test of two lists
pub same_refl : (xs : List ℕ) → same xs xs ≡ true
same_refl [] = refl
same_refl (x ∷ xs) = ap (λ v. cond v (same xs xs) false) (eq-eqb x x refl) ∙ same_refl xs

same_step : (x y : ℕ) (xs ys : List ℕ) (v : Bool) → eqb x y ≡ v → (same xs ys ≡ true → xs ≡ ys) → cond v (same xs ys) false ≡ true → x ∷ xs ≡ y ∷ ys
same_step x y xs ys true e f h = let a = eqb-true x y e in let b = f h in cc
same_step x y xs ys false e f h = cc

pub same_sound : (xs ys : List ℕ) → same xs ys ≡ true → xs ≡ ys
same_sound [] [] h = refl
same_sound [] (y ∷ ys) h = cc
same_sound (x ∷ xs) [] h = cc
same_sound (x ∷ xs) (y ∷ ys) h = same_step x y xs ys (eqb x y) refl (same_sound xs ys) h

same_ways : (xs ys : List ℕ) (v : Bool) → same xs ys ≡ v → (xs ≡ ys → ⊥) → same xs ys ≡ false
same_ways xs ys true e h = absurd (h (same_sound xs ys e))
same_ways xs ys false e h = e

pub same_false : (xs ys : List ℕ) → (xs ≡ ys → ⊥) → same xs ys ≡ false
same_false xs ys h = same_ways xs ys (same xs ys) refl h

pub stands : (t table : List ℕ) (count : ℕ) → count ≤ length table → take count table ≡ starts_of t → true ≡ same (take (length (text_lines t)) table) (starts_of t)
stands t table count room e =
    let n = count_end t table count room e in
    sym (ap (λ xs. same xs (starts_of t)) (ap (λ k. take k table) (sym n) ∙ e) ∙ same_refl (starts_of t))

pub differs : (t table : List ℕ) (count i : ℕ) (f : Bool) → f ≡ true → i < length t → count ≤ length table → length (text_lines t) ≤ length table → Kept t table count i f → (get_or table count 0 ≡ i → ⊥) → false ≡ same (take (length (text_lines t)) table) (starts_of t)
differs t table count i f e h room fits k ne =
    let lt = kept_room t table count i f e h room fits k in
    let s = step_then i f t e h in
    let rest = starts_from (i + 1) (eqb (get_or t i 0) 10) (drop (i + 1) t) in
    let whole : take count table ++ (i ∷ rest) ≡ starts_of t = ap (λ xs. take count table ++ xs) (sym s) ∙ k in
    let d = length-take-le count table room in
    let at : get_or (starts_of t) count 0 ≡ i = ap (λ xs. get_or xs count 0) (sym whole) ∙ get_or_at (take count table) i rest 0 count d in
    let n = length_starts 0 (text_lines t) in
    let m = ap length whole in
    let q = length-append (take count table) (i ∷ rest) in
    let below : count < length (text_lines t) = omega arith in
    sym (same_false _ _ (λ w. ne (sym (get_or-take (length (text_lines t)) table count 0 below) ∙ ap (λ xs. get_or xs count 0) w ∙ at)))

-- a text has no more lines than bytes
length_onto : (b : ℕ) (ls : List (List ℕ)) → length (onto b ls) ≤ suc (length ls)
length_onto b [] = omega arith
length_onto b (l ∷ ls) = omega arith

pub lines_few : (t : List ℕ) → length (text_lines t) ≤ length t
lines_few [] = omega arith
lines_few (b ∷ bs) =
    let h = lines_few bs in
    elim (eqb b 10) as (λ v. length (cond v ((b ∷ []) ∷ text_lines bs) (onto b (text_lines bs))) ≤ suc (length bs)) [
      | true ↦ omega arith
      | false ↦ let k = length_onto b (text_lines bs) in omega arith
    ]

-- a newline counts one
abbrev pub newline_of : ℕ → ℕ
newline_of b = cond (eqb b 10) 1 0

line_there : (b : ℕ) (v : Bool) (ls : List (List ℕ)) → 0 < length (cond v ((b ∷ []) ∷ ls) (onto b ls))
line_there b true ls = omega arith
line_there b false [] = omega arith
line_there b false (l ∷ ls) = omega arith

lines_step : (b : ℕ) (v : Bool) (ls : List (List ℕ)) → 0 < length ls → length (cond v ((b ∷ []) ∷ ls) (onto b ls)) ≡ cond v 1 0 + length ls
lines_step b true ls h = omega arith
lines_step b false [] h = absurd (omega arith)
lines_step b false (l ∷ ls) h = omega arith

last_step : (b : ℕ) (v : Bool) → length (cond v ((b ∷ []) ∷ []) (onto b [])) ≡ cond v 1 0 + cond (not v) 1 0
last_step b true = refl
last_step b false = refl

-- a text has a line for each newline, and one more that is open
pub lines_counted : (t : List ℕ) → length (text_lines t) ≡ sum_by newline_of t + cond (left_open false t) 1 0
lines_counted [] = refl
lines_counted (b ∷ []) = last_step b (eqb b 10) ∙ ap (λ n. n + cond (left_open false (b ∷ [])) 1 0) (sym (sum_by-cons newline_of b [] ∙ add-zero (newline_of b)))
lines_counted (b ∷ (c ∷ cs)) =
    let a = lines_step b (eqb b 10) (text_lines (c ∷ cs)) (line_there c (eqb c 10) (text_lines cs)) in
    let e = lines_counted (c ∷ cs) in
    let s = sum_by-cons newline_of b (c ∷ cs) in
    a ∙ omega arith

-- a text has no more newlines than bytes
pub newlines_few : (t : List ℕ) → sum_by newline_of t ≤ length t
newlines_few t = let e = lines_counted t in let h = lines_few t in omega arith
