use Rattle.std.proofs.Common.{◌≡◌, ℕ, zero, suc, ◌+◌, ◌-◌, ◌*◌, ◌/◌, ◌%◌, ◌<◌, ◌≤◌, Bool, true, false, not, cond, ◌&&◌, ◌||◌, eqb, ltb, List, [], ◌∷◌, length, get_or, take, drop, is_some, is_ok, Some, None, Err, Option, sym, refl, ap, ◌∙◌, subst, arith, length-append, length-drop, length-take-le, length-take, ltb-false, ltb-true, le-ltb, eq-eqb, ne_eqb, eqb-true}
use Rattle.std.proofs.lemmas.List.{drop-drop}
use Rattle.std.proofs.lemmas.Bool.Decides.{nat_tests}
use Rattle.std.specs.List.{list_any}
use Rattle.std.specs.Simd.{first_chunks}
use Rattle.rules.specs.Texts.{joined_lines, nth_line, is_line, are_lines, Formed}
use Rattle.sheet.specs.Cells.{cell_line, cell_good, cell_lines, first_bad, judged, cells_answer}
use Rattle.sheet.specs.declared.refusal.SheetRefusal.TheVariants.{CellsUnfit, BadCell}
use Rattle.sheet.proofs.LineLaws.{both}

-- ---- a line

-- a line by its bytes ahead of the last, and its last
pub line_told : (o : Bool) (t : List ℕ) (n : ℕ) → length t ≡ suc n → is_line o t ≡ (not (list_any (λ y. eqb y 10) (take n t)) && (o || eqb (get_or t n 0) 10))
line_told o [] n e = absurd (omega arith)
line_told o (b ∷ []) zero e = ends (eqb b 10) o
  where
    ends : (v o : Bool) → cond v true o ≡ (o || v)
    ends true true = refl
    ends true false = refl
    ends false true = refl
    ends false false = refl
line_told o (b ∷ []) (suc n) e = absurd (omega arith)
line_told o (b ∷ (c ∷ bs)) zero e = absurd (omega arith)
line_told o (b ∷ (c ∷ bs)) (suc n) e =
    elim (eqb b 10) as (λ v. cond v false (is_line o (c ∷ bs)) ≡ (not (v || list_any (λ y. eqb y 10) (take n (c ∷ bs))) && (o || eqb (get_or (c ∷ bs) n 0) 10)))
    [ true ↦ refl | false ↦ line_told o (c ∷ bs) n (omega arith) ]

pub line_is : (o v r : Bool) (t : List ℕ) (n : ℕ) → length t ≡ suc n → v ≡ list_any (λ y. eqb y 10) (take n t) → r ≡ (not v && (o || eqb (get_or t n 0) 10)) → r ≡ is_line o t
line_is o v r t n e f g = g ∙ ap (λ w. not w && (o || eqb (get_or t n 0) 10)) f ∙ sym (line_told o t n e)

-- ---- the cells

pub length_cells : (n : ℕ) (m : List ℕ) → length (cell_lines n m) ≡ n
length_cells zero m = refl
length_cells (suc n) m = ap suc (length_cells n (drop 48 m))

drop_cell : (n : ℕ) (m : List ℕ) → drop (n * 48) (drop 48 m) ≡ drop (suc n * 48) m
drop_cell n m = drop-drop (n * 48) 48 m ∙ ap (λ k. drop k m) (omega arith)

pub nth_in_cells : (c : ℕ) (m : List ℕ) (n : ℕ) → n < c → nth_line (cell_lines c m) n ≡ Some (cell_line (take 48 (drop (n * 48) m)))
nth_in_cells zero m n h = absurd (omega arith)
nth_in_cells (suc c) m zero h = refl
nth_in_cells (suc c) m (suc n) h = nth_in_cells c (drop 48 m) n (omega arith) ∙ ap (λ k. Some (cell_line (take 48 k))) (drop_cell n m)

-- cell n of c good ones holds a line of at most 47 bytes
pub good_head : (last : Bool) (cell : List ℕ) → cell_good last cell ≡ true → (get_or cell 0 0 ≤ 47) × (is_line last (cell_line cell) ≡ true)
good_head last cell h =
    let p = both (ltb (get_or cell 0 0) 48) (is_line last (cell_line cell)) h in
    (let h = ltb-true (get_or cell 0 0) 48 p.0 in omega arith, p.1)

all_good : (v : Bool) (at : ℕ) (r : Option ℕ) → is_some (cond v r (Some at)) ≡ false → (v ≡ true) × (is_some r ≡ false)
all_good true at r h = (refl, h)
all_good false at r h = (cc, cc)

pub cell_short : (at c : ℕ) (m : List ℕ) (n : ℕ) → is_some (first_bad at c m) ≡ false → n < c → get_or (take 48 (drop (n * 48) m)) 0 0 ≤ 47
cell_short at zero m n e h = absurd (omega arith)
cell_short at (suc c) m zero e h =
    let p = all_good (cell_good (eqb c 0) (take 48 m)) at _ e in
    (good_head (eqb c 0) (take 48 m) p.0).0
cell_short at (suc c) m (suc n) e h =
    let p = all_good (cell_good (eqb c 0) (take 48 m)) at _ e in
    subst (λ (k : List ℕ). get_or (take 48 k) 0 0 ≤ 47) (drop_cell n m) (cell_short (at + 1) c (drop 48 m) n p.1 (omega arith))

pub cells_lines : (at c : ℕ) (m : List ℕ) → is_some (first_bad at c m) ≡ false → are_lines (cell_lines c m) ≡ true
cells_lines at zero m e = refl
cells_lines at (suc zero) m e =
    let p = all_good (cell_good true (take 48 m)) at _ e in
    (good_head true (take 48 m) p.0).1
cells_lines at (suc (suc c)) m e =
    let p = all_good (cell_good (eqb (suc c) 0) (take 48 m)) at _ e in
    let z : eqb (suc c) 0 ≡ false = ne_eqb (suc c) 0 (λ w. omega arith) in
    let q = (good_head false (take 48 m) (subst (λ (v : Bool). cell_good v (take 48 m) ≡ true) z p.0)).1 in
    simp q (cells_lines (at + 1) (suc c) (drop 48 m) p.1)

pub cells_bytes : (at c : ℕ) (m : List ℕ) → is_some (first_bad at c m) ≡ false → length (joined_lines (cell_lines c m)) ≤ c * 47
cells_bytes at zero m e = omega arith
cells_bytes at (suc c) m e =
    let p = all_good (cell_good (eqb c 0) (take 48 m)) at _ e in
    let q = (good_head (eqb c 0) (take 48 m) p.0).0 in
    let h = cells_bytes (at + 1) c (drop 48 m) p.1 in
    let t = length-take (get_or (take 48 m) 0 0) (drop 1 (take 48 m)) in
    simp length-append (omega arith)

-- ---- the answer

pub record Fit (m : List ℕ) : Type 0 where
  pub whole : length m % 48 ≡ 0
  pub few : length m / 48 ≤ 1024
  pub good : is_some (first_bad 0 (length m / 48) m) ≡ false

judged_ok : (o : Option ℕ) (n : ℕ) → is_ok (judged o n) ≡ true → is_some o ≡ false
judged_ok None n h = refl
judged_ok (Some k) n h = cc

fits_few : (m : List ℕ) (v : Bool) → is_ok (cond v (Err CellsUnfit) (judged (first_bad 0 (length m / 48) m) (length m / 48))) ≡ true → (v ≡ false) × (is_some (first_bad 0 (length m / 48) m) ≡ false)
fits_few m true h = (cc, cc)
fits_few m false h = (refl, judged_ok _ _ h)

fits_whole : (m : List ℕ) (v : Bool) → is_ok (cond v (cond (ltb 1024 (length m / 48)) (Err CellsUnfit) (judged (first_bad 0 (length m / 48) m) (length m / 48))) (Err CellsUnfit)) ≡ true → (v ≡ true) × ((ltb 1024 (length m / 48) ≡ false) × (is_some (first_bad 0 (length m / 48) m) ≡ false))
fits_whole m true h = (refl, fits_few m (ltb 1024 (length m / 48)) h)
fits_whole m false h = (cc, (cc, cc))

pub cells_fit : (m : List ℕ) → is_ok (cells_answer m) ≡ true → Fit m
cells_fit m h =
    let p = fits_whole m (eqb (length m % 48) 0) h in
    record { whole = eqb-true _ _ p.0; few = ltb-false _ _ p.1.0; good = p.1.1 }

pub cells_formed : (m : List ℕ) → is_ok (cells_answer m) ≡ true → Formed (cell_lines (length m / 48) m)
cells_formed m h =
    let f = cells_fit m h in
    let n = length_cells (length m / 48) m in
    let b = cells_bytes 0 (length m / 48) m f.good in
    (cells_lines 0 (length m / 48) m f.good, omega arith, omega arith)

-- ---- the walk over the cells
pub bad_more : (i c : ℕ) (m : List ℕ) → i < c → first_bad i (c - i) (drop (i * 48) m) ≡ cond (cell_good (eqb (i + 1) c) (take 48 (drop (i * 48) m))) (first_bad (i + 1) (c - (i + 1)) (drop ((i + 1) * 48) m)) (Some i)
bad_more i c m h =
    let e : c - i ≡ suc (c - (i + 1)) = omega arith in
    let z : eqb (c - (i + 1)) 0 ≡ eqb (i + 1) c = grind (arith, nat_tests) in
    let d : drop 48 (drop (i * 48) m) ≡ drop ((i + 1) * 48) m = drop-drop 48 (i * 48) m ∙ ap (λ j. drop j m) (omega arith) in
    ap (λ j. first_bad i j (drop (i * 48) m)) e ∙
    ap (λ v. cond (cell_good v (take 48 (drop (i * 48) m))) (first_bad (i + 1) (c - (i + 1)) (drop 48 (drop (i * 48) m))) (Some i)) z ∙
    ap (λ t. cond (cell_good (eqb (i + 1) c) (take 48 (drop (i * 48) m))) (first_bad (i + 1) (c - (i + 1)) t) (Some i)) d

-- ---- what the functions need

pub nth_chunk : (c : ℕ) (m : List ℕ) (n : ℕ) (d : List ℕ) → n < c → get_or (first_chunks 48 c m) n d ≡ take 48 (drop (n * 48) m)
nth_chunk zero m n d h = absurd (omega arith)
nth_chunk (suc c) m zero d h = refl
nth_chunk (suc c) m (suc n) d h = nth_chunk c (drop 48 m) n d (omega arith) ∙ ap (take 48) (drop_cell n m)

length_chunks : (c : ℕ) (m : List ℕ) → length (first_chunks 48 c m) ≡ c
length_chunks zero m = refl
length_chunks (suc c) m = ap suc (length_chunks c (drop 48 m))

-- cell n among the cells of a memory
pub chunk_is : (m : List ℕ) (cells : List (List ℕ)) (n : ℕ) → cells ≡ first_chunks 48 (length m / 48) m → n < length cells → (n < length m / 48) × (get_or cells n [] ≡ take 48 (drop (n * 48) m))
chunk_is m cells n e h =
    let l = ap length e ∙ length_chunks (length m / 48) m in
    (omega arith, ap (λ cs. get_or cs n []) e ∙ nth_chunk (length m / 48) m n [] (omega arith))

-- a cell of a sheet, and the part of it that `line` lends
pub cell_fits : (m : List ℕ) (n : ℕ) (cell : List ℕ) → cell ≡ take 48 (drop (n * 48) m) → is_ok (cells_answer m) ≡ true → n < length m / 48 → (length cell ≡ 48) × (get_or cell 0 0 ≤ 47)
cell_fits m n cell e h l =
    let f = cells_fit m h in
    let s = cell_short 0 (length m / 48) m n f.good l in
    let d = length-drop (n * 48) m in
    (ap length e ∙ length-take-le 48 (drop (n * 48) m) (omega arith), subst (λ (x : List ℕ). get_or x 0 0 ≤ 47) (sym e) s)

pub cell_shown : (m : List ℕ) (n k : ℕ) (cell : List ℕ) → cell ≡ take 48 (drop (n * 48) m) → n < length m / 48 → k ≡ get_or cell 0 0 → Some (take k (drop 1 cell)) ≡ nth_line (cell_lines (length m / 48) m) n
cell_shown m n k cell e l f = ap (λ j. Some (take j (drop 1 cell))) f ∙ ap (λ x. Some (cell_line x)) e ∙ sym (nth_in_cells (length m / 48) m n l)

pub bad_step : (m : List ℕ) (cells : List (List ℕ)) (i : ℕ) (v : Bool) → cells ≡ first_chunks 48 (length m / 48) m → i < length cells → v ≡ cell_good (eqb (i + 1) (length cells)) (get_or cells i []) → first_bad i (length cells - i) (drop (i * 48) m) ≡ cond v (first_bad (i + 1) (length cells - (i + 1)) (drop ((i + 1) * 48) m)) (Some i)
bad_step m cells i v e h g =
    bad_more i (length cells) m h ∙
    ap (λ w. cond w (first_bad (i + 1) (length cells - (i + 1)) (drop ((i + 1) * 48) m)) (Some i))
    (sym (g ∙ ap (cell_good (eqb (i + 1) (length cells))) (chunk_is m cells i e h).1))

pub answer_bad : (m : List ℕ) (i : ℕ) → length m % 48 ≡ 0 → length m / 48 ≤ 1024 → first_bad 0 (length m / 48) m ≡ Some i → Err (BadCell i) ≡ cells_answer m
answer_bad m i w f h =
    let a = eq-eqb (length m % 48) 0 w in
    let b = le-ltb 1024 (length m / 48) f in
    sym (simp (a, b, h))
