-- Numbers of lines.
use Rattle.std.proofs.Common.{◌≡◌, ℕ, suc, ◌+◌, ◌<◌, ◌≤◌, Bool, true, false, cond, not, ◌&&◌, ◌||◌, eqb, ltb, List, [], ◌∷◌, ◌++◌, length, sym, refl, ap, ◌∙◌, ap₂, arith, length-append}
use Rattle.std.specs.List.{AllByRecursion}
use Rattle.std.proofs.lemmas.List.Sums.{sum_by-cons}
use Rattle.std.proofs.Math.Dec.{eqb-suc-suc}
use Rattle.std.proofs.lemmas.Bool.{eq-eqb, ne_eqb, and_left, or_left, lt-ltb}
use Rattle.rules.specs.declared.hunk.Hunk.{Hunk}
use Rattle.rules.specs.Contraction.{hunk_size}
use Rattle.rules.specs.Hunks.{Sheets, side_lines, hunk_lines}
use Rattle.rules.specs.Lines.{Line, same_line, same_lines}
use Rattle.rules.specs.SharedLines.{shared_front}
use Rattle.rules.specs.Sides.{no_line}
use Rattle.rules.specs.Limits.{max_filled}
use Rattle.reading.specs.Three.{AllFormed}
use Rattle.rules.specs.Contraction.{Readable}
use Rattle.reading.specs.Reading.{line_count, any_lines}
use Rattle.reading.proofs.Reading.{whole, lines_fit}

pub counted : (s : Sheets) (hs : List Hunk) → AllByRecursion (Readable s) hs → length (side_lines s hs) ≡ line_count hs
counted s [] r = refl
counted s (h ∷ hs) r = length-append (hunk_lines s h) (side_lines s hs) ∙ (ap₂ ◌+◌ (whole s h r.0) (counted s hs r.1) ∙ sym (sum_by-cons hunk_size h hs))

pub few_counted : (s : Sheets) → AllFormed s → (hs : List Hunk) → AllByRecursion (Readable s) hs → length hs ≤ max_filled → line_count hs < 4294967296
few_counted s f hs r le =
    let e = counted s hs r in
    let b = lines_fit s f hs r le in
    omega arith

-- two lists are the same where all lines of both are shared
same_step : (b : Bool) (n p q : ℕ) (r : Bool) → r ≡ (eqb n p && eqb n q) → (b && r) ≡ (eqb (cond b (suc n) 0) (suc p) && eqb (cond b (suc n) 0) (suc q))
same_step true n p q r e = e ∙ sym (ap₂ ◌&&◌ (eqb-suc-suc n p) (eqb-suc-suc n q))
same_step false n p q r e = sym (and_left (eqb 0 (suc p)) (eqb 0 (suc q)) (ne_eqb 0 (suc p) (λ z. omega arith)))

pub same_shared : (xs ys : List Line) → same_lines xs ys ≡ (eqb (shared_front xs ys) (length xs) && eqb (shared_front xs ys) (length ys))
same_shared [] [] = refl
same_shared [] (y ∷ ys) = sym (ne_eqb 0 (suc (length ys)) (λ z. omega arith))
same_shared (x ∷ xs) [] = sym (and_left (eqb 0 (suc (length xs))) (eqb 0 0) (ne_eqb 0 (suc (length xs)) (λ z. omega arith)))
same_shared (x ∷ xs) (y ∷ ys) = same_step (same_line x y) (shared_front xs ys) (length xs) (length ys) (same_lines xs ys) (same_shared xs ys)

-- whether a line is left
no_line_is : (ls rs : List Line) (n : ℕ) → length ls ≡ n → not (no_line (ls ++ rs)) ≡ (ltb 0 n || not (no_line rs))
no_line_is [] rs n e = ap (λ v. ltb 0 v || not (no_line rs)) e
no_line_is (l ∷ ls) rs n e = sym (or_left (ltb 0 n) (not (no_line rs)) (lt-ltb 0 n (omega arith)))

pub lines_there : (s : Sheets) (hs : List Hunk) → AllByRecursion (Readable s) hs → any_lines hs ≡ not (no_line (side_lines s hs))
lines_there s [] r = refl
lines_there s (h ∷ hs) r = ap (λ v. ltb 0 (hunk_size h) || v) (lines_there s hs r.1) ∙ sym (no_line_is (hunk_lines s h) (side_lines s hs) (hunk_size h) (whole s h r.0))

pub differ_last : (xs ys : List Line) (n p q : ℕ) → n ≡ shared_front xs ys → p ≡ length xs → q ≡ length ys → n ≡ p → not (eqb n q) ≡ not (same_lines xs ys)
differ_last xs ys n p q e a b h =
    let u : eqb (shared_front xs ys) (length xs) ≡ true = eq-eqb _ _ (omega arith) in
    ap not (ap₂ eqb e b ∙ sym (same_shared xs ys ∙ ap (λ v. v && eqb (shared_front xs ys) (length ys)) u))

pub differ_first : (xs ys : List Line) (n p : ℕ) → n ≡ shared_front xs ys → p ≡ length xs → (n ≡ p → ⊥) → not (eqb n p) ≡ not (same_lines xs ys)
differ_first xs ys n p e a h =
    let u : eqb (shared_front xs ys) (length xs) ≡ false = ne_eqb _ _ (λ z. h (omega arith)) in
    ap not (ne_eqb n p h ∙ sym (same_shared xs ys ∙ ap (λ v. v && eqb (shared_front xs ys) (length ys)) u))
