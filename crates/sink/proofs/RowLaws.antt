-- What a row sink shows: of any pieces, the wanted row of their bytes joined.
use Rattle.std.proofs.Common.{◌≡◌, ℕ, zero, suc, ◌+◌, ◌<◌, ◌≤◌, Bool, true, false, cond, eqb, ltb, List, [], ◌∷◌, ◌++◌, length, take, sym, refl, ap, ◌∙◌, ⊎_elim, append_assoc, append-nil, arith, length-append, take_all, take_at, le-ltb, lt-ltb, eq-eqb, ne_eqb}
use Rattle.std.proofs.lemmas.Bool.{cond-true, cond-false, cases_Bool, cases_lt}
use Rattle.rules.specs.Limits.{row_width}
use Rattle.rules.specs.Pieces.{Chunk, all_bytes, made}
use Rattle.sink.specs.Rows.{RowValue, row, shown_row, before_newline, fresh_row, shows, shows_all, row_rule}

abbrev at_row : ℕ → ℕ → List ℕ → RowValue
at_row w n xs = record { wanted = w; newlines = n; bytes = xs }

-- However the bytes are cut, they act together.
pub shows_all_++ : (v : RowValue) (xs ys : List ℕ) → shows_all v (xs ++ ys) ≡ shows_all (shows_all v xs) ys
shows_all_++ v [] ys = refl
shows_all_++ v (x ∷ xs) ys = shows_all_++ (shows v x) xs ys

-- What one more byte does, case by case.
module _ (w n : ℕ) (xs : List ℕ) (b : ℕ) where
  pub shows_newline : eqb b 10 ≡ true → shows (at_row w n xs) b ≡ at_row w (n + 1) xs
  shows_newline e = cond-true (eqb b 10) _ _ e

  pub shows_out : eqb b 10 ≡ false → (n ≡ w → ⊥) → shows (at_row w n xs) b ≡ at_row w n xs
  shows_out e o = cond-false (eqb b 10) _ _ e ∙ cond-false (eqb n w) _ _ (ne_eqb n w o)

  pub shows_full : eqb b 10 ≡ false → row_width ≤ length xs → shows (at_row w n xs) b ≡ at_row w n xs
  shows_full e o =
      cond-false (eqb b 10) _ _ e
      ∙ ap (λ (v : RowValue). cond (eqb n w) v (at_row w n xs)) (cond-false (ltb (length xs) row_width) _ _ (le-ltb (length xs) row_width o))
      ∙ same (eqb n w)
    where
      same : (t : Bool) → cond t (at_row w n xs) (at_row w n xs) ≡ at_row w n xs
      same true = refl
      same false = refl

  pub shows_byte : eqb b 10 ≡ false → n ≡ w → length xs < row_width → shows (at_row w n xs) b ≡ at_row w n (xs ++ b ∷ [])
  shows_byte e i l =
      cond-false (eqb b 10) _ _ e ∙ cond-true (eqb n w) _ _ (eq-eqb n w i) ∙ cond-true (ltb (length xs) row_width) _ _ (lt-ltb (length xs) row_width l)

pub shows_wanted : (v : RowValue) (b : ℕ) → (shows v b).wanted ≡ v.wanted
shows_wanted v b = three (eqb b 10) (eqb v.newlines v.wanted) (ltb (length v.bytes) row_width)
  where
    three : (p q r : Bool) → (cond p (at_row v.wanted (v.newlines + 1) v.bytes) (cond q (cond r (at_row v.wanted v.newlines (v.bytes ++ b ∷ [])) v) v)).wanted ≡ v.wanted
    three true q r = refl
    three false true true = refl
    three false true false = refl
    three false false r = refl

pub shows_all_wanted : (v : RowValue) (bs : List ℕ) → (shows_all v bs).wanted ≡ v.wanted
shows_all_wanted v [] = refl
shows_all_wanted v (b ∷ bs) = shows_all_wanted (shows v b) bs ∙ shows_wanted v b

-- However the bytes are cut into pieces, they act together.
pub made_rows : (v : RowValue) (cs : List Chunk) → made row_rule v cs ≡ shows_all v (all_bytes cs)
made_rows v [] = refl
made_rows v (c ∷ cs) = made_rows (shows_all v c.bytes) cs ∙ sym (shows_all_++ v c.bytes (all_bytes cs))

-- Behind the wanted row nothing more is shown.
past : (w n : ℕ) (xs bs : List ℕ) → w < n → (shows_all (at_row w n xs) bs).bytes ≡ xs
past w n xs [] h = refl
past w n xs (b ∷ bs) h =
    ⊎_elim
    (λ (e : eqb b 10 ≡ true). ap (λ (v : RowValue). (shows_all v bs).bytes) (shows_newline w n xs b e) ∙ past w (n + 1) xs bs (omega arith))
    (λ (e : eqb b 10 ≡ false). ap (λ (v : RowValue). (shows_all v bs).bytes) (shows_out w n xs b e (λ i. omega arith)) ∙ past w n xs bs h)
    (cases_Bool (eqb b 10))

-- In the wanted row.
within : (w : ℕ) (xs bs : List ℕ) → length xs ≤ row_width → (shows_all (at_row w w xs) bs).bytes ≡ take row_width (xs ++ before_newline bs)
within w xs [] h = sym (ap (take row_width) (append-nil xs) ∙ take_all row_width xs h)
within w xs (b ∷ bs) h =
    ⊎_elim
    (λ (e : eqb b 10 ≡ true).
    ap (λ (v : RowValue). (shows_all v bs).bytes) (shows_newline w w xs b e) ∙ past w (w + 1) xs bs (omega arith)
    ∙ sym (ap (λ (r : List ℕ). take row_width (xs ++ r)) (cond-true (eqb b 10) _ _ e) ∙ ap (take row_width) (append-nil xs) ∙ take_all row_width xs h))
    (λ (e : eqb b 10 ≡ false).
    ⊎_elim
    (λ (l : length xs < row_width).
    ap (λ (v : RowValue). (shows_all v bs).bytes) (shows_byte w w xs b e refl l)
    ∙ within w (xs ++ b ∷ []) bs (omega (arith, length-append xs (b ∷ [])))
    ∙ ap (take row_width) (append_assoc xs (b ∷ []) (before_newline bs))
    ∙ ap (λ (r : List ℕ). take row_width (xs ++ r)) (sym (cond-false (eqb b 10) _ _ e)))
    (λ (l : row_width ≤ length xs).
    let n : length xs ≡ row_width = omega arith in
    ap (λ (v : RowValue). (shows_all v bs).bytes) (shows_full w w xs b e l)
    ∙ within w xs bs h ∙ take_at xs (before_newline bs) row_width n ∙ sym (take_at xs (before_newline (b ∷ bs)) row_width n))
    (cases_lt (length xs) row_width))
    (cases_Bool (eqb b 10))

row_nil : (k : ℕ) → row k [] ≡ []
row_nil zero = refl
row_nil (suc k) = row_nil k

-- Ahead of it.
ahead : (k w n : ℕ) (bs : List ℕ) → n + k ≡ w → (shows_all (at_row w n []) bs).bytes ≡ take row_width (row k bs)
ahead zero w n bs h =
    let e : n ≡ w = omega arith in
    ap (λ (m : ℕ). (shows_all (at_row w m []) bs).bytes) e ∙ within w [] bs (omega arith)
ahead (suc k) w n [] h = sym (ap (take row_width) (row_nil k))
ahead (suc k) w n (b ∷ bs) h =
    ⊎_elim
    (λ (e : eqb b 10 ≡ true).
    ap (λ (v : RowValue). (shows_all v bs).bytes) (shows_newline w n [] b e) ∙ ahead k w (n + 1) bs (omega arith)
    ∙ ap (λ (r : List ℕ). take row_width (row k r)) (sym (cond-true (eqb b 10) _ _ e)))
    (λ (e : eqb b 10 ≡ false).
    ap (λ (v : RowValue). (shows_all v bs).bytes) (shows_out w n [] b e (λ i. omega arith)) ∙ ahead (suc k) w n bs h
    ∙ ap (λ (r : List ℕ). take row_width (row k r)) (sym (cond-false (eqb b 10) _ _ e)))
    (cases_Bool (eqb b 10))

-- The row shown depends only on the bytes joined.
pub row_law : (r : ℕ) (cs : List Chunk) → (made row_rule (fresh_row r) cs).bytes ≡ shown_row r (all_bytes cs)
row_law r cs = ap (λ (v : RowValue). v.bytes) (made_rows (fresh_row r) cs) ∙ ahead r r 0 (all_bytes cs) (omega arith)
