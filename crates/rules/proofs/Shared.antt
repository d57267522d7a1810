-- Equal lines: the tests, the lines shared at the front of two lists, and at their back.
use Rattle.std.proofs.Common.{◌≡◌, ℕ, suc, ◌-◌, ◌≤◌, Bool, true, false, cond, ◌&&◌, eqb, List, [], ◌∷◌, ◌++◌, reverse, length, take, drop, sym, refl, ap, ◌∙◌, arith, length-drop, take-append-drop, take_at}
use mathlib.Core.List.{reverse-append, reverse-reverse}
use lib.ListN.{length-reverse}
use lib.Seq.{take-nil, drop-length}
use Rattle.std.proofs.lemmas.Bool.{false≢true, and_parts, and_from, eqb-true, eq-eqb}
use Rattle.std.proofs.lemmas.Bool.Decides.{nat_tests}
use Rattle.rules.specs.Lines.{Line, same_line, same_lines}
use Rattle.rules.specs.SharedLines.{shared_front, shared_back, shared_start, past_start, before_end, at_end, middle, shared_end}

eqb_sym : (a b : ℕ) → eqb a b ≡ eqb b a
eqb_sym a b = grind (arith, nat_tests)

pub same_line_true : (x y : Line) → same_line x y ≡ true → x ≡ y
same_line_true [] [] e = refl
same_line_true [] (y ∷ ys) e = absurd (false≢true e)
same_line_true (x ∷ xs) [] e = absurd (false≢true e)
same_line_true (x ∷ xs) (y ∷ ys) e =
    let p = and_parts (eqb x y) (same_line xs ys) e in
    let h = eqb-true x y p.0 in
    let t = same_line_true xs ys p.1 in
    cc

pub same_line_refl : (x : Line) → same_line x x ≡ true
same_line_refl [] = refl
same_line_refl (x ∷ xs) = and_from (eqb x x) (same_line xs xs) (eq-eqb x x refl) (same_line_refl xs)

pub same_lines_true : (x y : List Line) → same_lines x y ≡ true → x ≡ y
same_lines_true [] [] e = refl
same_lines_true [] (y ∷ ys) e = absurd (false≢true e)
same_lines_true (x ∷ xs) [] e = absurd (false≢true e)
same_lines_true (x ∷ xs) (y ∷ ys) e =
    let p = and_parts (same_line x y) (same_lines xs ys) e in
    let h = same_line_true x y p.0 in
    let t = same_lines_true xs ys p.1 in
    cc

pub same_lines_refl : (x : List Line) → same_lines x x ≡ true
same_lines_refl [] = refl
same_lines_refl (x ∷ xs) = and_from (same_line x x) (same_lines xs xs) (same_line_refl x) (same_lines_refl xs)

-- what the two lists share at the front
take_step : (x y : Line) (xs ys : List Line) (n : ℕ) (b : Bool) → (b ≡ true → x ≡ y) → take n xs ≡ take n ys → take (cond b (suc n) 0) (x ∷ xs) ≡ take (cond b (suc n) 0) (y ∷ ys)
take_step x y xs ys n true h e = let p = h refl in cc
take_step x y xs ys n false h e = refl

pub front_take : (xs ys : List Line) → take (shared_front xs ys) xs ≡ take (shared_front xs ys) ys
front_take [] ys = refl
front_take (x ∷ xs) [] = refl
front_take (x ∷ xs) (y ∷ ys) = take_step x y xs ys (shared_front xs ys) (same_line x y) (same_line_true x y) (front_take xs ys)

le_step : (n a b : ℕ) (t : Bool) → (n ≤ a) × (n ≤ b) → (cond t (suc n) 0 ≤ suc a) × (cond t (suc n) 0 ≤ suc b)
le_step n a b true h = omega arith
le_step n a b false h = omega arith

pub front_le : (xs ys : List Line) → (shared_front xs ys ≤ length xs) × (shared_front xs ys ≤ length ys)
front_le [] ys = omega arith
front_le (x ∷ xs) [] = omega arith
front_le (x ∷ xs) (y ∷ ys) = le_step (shared_front xs ys) (length xs) (length ys) (same_line x y) (front_le xs ys)

pub front_same : (xs : List Line) → shared_front xs xs ≡ length xs
front_same [] = refl
front_same (x ∷ xs) = rw same_line_refl (ap suc (front_same xs))

-- and at the back
pub drop_by_reverse : (n : ℕ) (l : List Line) → n ≤ length l → reverse (take n (reverse l)) ≡ drop (length l - n) l
drop_by_reverse n l h =
    let p = take (length l - n) l in
    let q = drop (length l - n) l in
    let e : reverse l ≡ reverse q ++ reverse p = ap reverse (sym (take-append-drop (length l - n) l)) ∙ reverse-append p q in
    let k : length (reverse q) ≡ n = rw (length-reverse, length-drop) (omega arith) in
    rw e (rw (take_at (reverse q) (reverse p) n k) (reverse-reverse q))

pub back_drop : (xs ys : List Line) → drop (length xs - shared_back xs ys) xs ≡ drop (length ys - shared_back xs ys) ys
back_drop xs ys =
    let b = front_le (reverse xs) (reverse ys) in
    let hx : shared_back xs ys ≤ length xs = rw length-reverse at b.0 in
    let hy : shared_back xs ys ≤ length ys = rw length-reverse at b.1 in
    sym (drop_by_reverse (shared_back xs ys) xs hx) ∙ ap reverse (front_take (reverse xs) (reverse ys)) ∙ drop_by_reverse (shared_back xs ys) ys hy

-- neither depends on the order of the two
pub same_line_sym : (x y : Line) → same_line x y ≡ same_line y x
same_line_sym [] [] = refl
same_line_sym [] (y ∷ ys) = refl
same_line_sym (x ∷ xs) [] = refl
same_line_sym (x ∷ xs) (y ∷ ys) = rw (same_line_sym xs ys) (ap (λ (b : Bool). b && same_line ys xs) (eqb_sym x y))

pub front_sym : (xs ys : List Line) → shared_front xs ys ≡ shared_front ys xs
front_sym [] [] = refl
front_sym [] (y ∷ ys) = refl
front_sym (x ∷ xs) [] = refl
front_sym (x ∷ xs) (y ∷ ys) = rw (same_line_sym x y, front_sym xs ys)

pub start_sym : (xs ys : List Line) → shared_start xs ys ≡ shared_start ys xs
start_sym xs ys = front_take xs ys ∙ rw (front_sym xs ys)

pub at_end_sym : (xs ys : List Line) → at_end xs ys ≡ at_end ys xs
at_end_sym xs ys = back_drop xs ys ∙ rw (front_sym (reverse xs) (reverse ys))

pub end_sym : (xs ys : List Line) → shared_end xs ys ≡ shared_end ys xs
end_sym xs ys = at_end_sym (past_start xs ys) (past_start ys xs)

-- the parts make the list
pub parts_join : (xs ys : List Line) → shared_start xs ys ++ (middle xs ys ++ shared_end xs ys) ≡ xs
parts_join xs ys =
    let r = past_start xs ys in
    ap (λ (t : List Line). shared_start xs ys ++ t) (take-append-drop (length r - shared_back r (past_start ys xs)) r) ∙ take-append-drop (shared_front xs ys) xs

pub parts_join_other : (xs ys : List Line) → shared_start xs ys ++ (middle ys xs ++ shared_end xs ys) ≡ ys
parts_join_other xs ys = rw (start_sym xs ys, end_sym xs ys) (parts_join ys xs)

-- nothing is left of two lists if and only if they are equal
pub equal_middle : (xs ys : List Line) → xs ≡ ys → middle xs ys ≡ []
equal_middle xs ys e = nil_before (past_start xs ys) (past_start ys xs) (rw (← e) (rw (front_same xs) (drop-length xs)))
  where
    nil_before : (ls ms : List Line) → ls ≡ [] → before_end ls ms ≡ []
    nil_before ls ms z = rw z (take-nil (0 - shared_back [] ms))

pub no_middle : (xs ys : List Line) → middle xs ys ≡ [] → middle ys xs ≡ [] → xs ≡ ys
no_middle xs ys p q = sym (parts_join xs ys) ∙ ap (λ (m : List Line). shared_start xs ys ++ (m ++ shared_end xs ys)) (p ∙ sym q) ∙ parts_join_other xs ys
