-- What the answer of a cell sheet tells of its cells.
use Rattle.std.proofs.Common.{◌≡◌, ℕ, zero, suc, ◌+◌, ◌*◌, ◌%◌, ◌<◌, Bool, true, false, cond, eqb, ltb, List, length, take, drop, is_ok, Some, None, Ok, Err, Option, refl, ap, ◌∙◌, subst, arith, ltb-false, ltb-true, eq-eqb, eqb-true}
use Rattle.std.proofs.lemmas.List.{drop-drop}
use Rattle.std.proofs.lemmas.Bool.Decides.{nat_tests}
use Rattle.sheet.specs.Cells.{cell_good, first_bad, judged, cells_in, CellLaw}
use Rattle.sheet.specs.declared.refusal.SheetRefusal.TheVariants.{CellsUnfit, BadCell}
use Rattle.sheet.proofs.CellLaws.{cells_fit, nth_in_cells}

-- Cell n of c cells holds a line.
abbrev Good : ℕ → List ℕ → ℕ → Bool → Type 0
Good c m n v = cell_good (eqb (n + 1) c) (take 48 (drop (n * 48) m)) ≡ v

-- A cell of the rest, seen from the start.
one_on : (c : ℕ) (m : List ℕ) (n : ℕ) (v : Bool) → Good c (drop 48 m) n v → Good (suc c) m (suc n) v
one_on c m n v g =
    let z : eqb (suc n + 1) (suc c) ≡ eqb (n + 1) c = grind (arith, nat_tests) in
    let d : drop (n * 48) (drop 48 m) ≡ drop (suc n * 48) m = drop-drop (n * 48) 48 m ∙ ap (λ k. drop k m) (omega arith) in
    ap (λ w. cell_good w (take 48 (drop (suc n * 48) m))) z ∙ subst (λ (t : List ℕ). cell_good (eqb (n + 1) c) (take 48 t) ≡ v) d g

here : (c : ℕ) (m : List ℕ) (v : Bool) → cell_good (eqb c 0) (take 48 m) ≡ v → Good (suc c) m 0 v
here c m v g =
    let z : eqb (0 + 1) (suc c) ≡ eqb c 0 = grind (arith, nat_tests) in
    ap (λ w. cell_good w (take 48 m)) z ∙ g

-- Which cell is named: it holds no line, and all before it do.
record Named (c : ℕ) (m : List ℕ) (k : ℕ) : Type 0 where
  within : k < c
  bad : Good c m k false
  earlier : (n : ℕ) → n < k → Good c m n true

abbrev Told : ℕ → ℕ → List ℕ → Option ℕ → Type 0
Told at c m None = (n : ℕ) → n < c → Good c m n true
Told at c m (Some b) = (k : ℕ) × (b ≡ at + k) × Named c m k

later : (at c : ℕ) (m : List ℕ) (o : Option ℕ) → cell_good (eqb c 0) (take 48 m) ≡ true → Told (at + 1) c (drop 48 m) o → Told at (suc c) m o
later at c m None g h = all
  where
    all : (n : ℕ) → n < suc c → Good (suc c) m n true
    all zero l = here c m true g
    all (suc n) l = one_on c m n true (h n (omega arith))
later at c m (Some b) g h = (
  suc h.0,
  let e = h.1 in omega arith,
  record {
    within = let l = h.2.within in omega arith;
    bad = one_on c m h.0 false h.2.bad;
    earlier = before;
  },
)
  where
    before : (n : ℕ) → n < suc h.0 → Good (suc c) m n true
    before zero l = here c m true g
    before (suc n) l = one_on c m n true (h.2.earlier n (omega arith))

one_more : (at c : ℕ) (m : List ℕ) (v : Bool) → cell_good (eqb c 0) (take 48 m) ≡ v → Told (at + 1) c (drop 48 m) (first_bad (at + 1) c (drop 48 m)) → Told at (suc c) m (cond v (first_bad (at + 1) c (drop 48 m)) (Some at))
one_more at c m true g h = later at c m (first_bad (at + 1) c (drop 48 m)) g h
one_more at c m false g h = (0, omega arith, record { within = omega arith; bad = here c m false g; earlier = λ n l. absurd (omega arith) })

told : (at c : ℕ) (m : List ℕ) → Told at c m (first_bad at c m)
told at zero m = λ n l. absurd (omega arith)
told at (suc c) m = one_more at c m (cell_good (eqb c 0) (take 48 m)) refl (told (at + 1) c (drop 48 m))

-- The answer taken apart.
record Asked (m : List ℕ) (v w : Bool) (o : Option ℕ) : Type 0 where
  accepted : (c : ℕ) → cond v (cond w (Err CellsUnfit) (judged o (cells_in m))) (Err CellsUnfit) ≡ Ok c → (v ≡ true) × (w ≡ false) × (o ≡ None) × (cells_in m ≡ c)
  named : (b : ℕ) → cond v (cond w (Err CellsUnfit) (judged o (cells_in m))) (Err CellsUnfit) ≡ Err (BadCell b) → (v ≡ true) × (w ≡ false) × (o ≡ Some b)
  unfit : cond v (cond w (Err CellsUnfit) (judged o (cells_in m))) (Err CellsUnfit) ≡ Err CellsUnfit → v ≡ true → w ≡ true

asked : (m : List ℕ) (v w : Bool) (o : Option ℕ) → Asked m v w o
asked m false w o = record { accepted = λ c e. absurd (let z : ◌≡◌ {A = ℕ} 0 1 = cc in omega arith); named = λ b e. absurd (let z : ◌≡◌ {A = ℕ} 0 1 = cc in omega arith); unfit = λ e h. absurd (let z : ◌≡◌ {A = ℕ} 0 1 = cc in omega arith) }
asked m true true o = record { accepted = λ c e. absurd (let z : ◌≡◌ {A = ℕ} 0 1 = cc in omega arith); named = λ b e. absurd (let z : ◌≡◌ {A = ℕ} 0 1 = cc in omega arith); unfit = λ e h. refl }
asked m true false None = record { accepted = λ c e. (refl, refl, refl, cc); named = λ b e. absurd (let z : ◌≡◌ {A = ℕ} 0 1 = cc in omega arith); unfit = λ e h. absurd (let z : ◌≡◌ {A = ℕ} 0 1 = cc in omega arith) }
asked m true false (Some k) = record { accepted = λ c e. absurd (let z : ◌≡◌ {A = ℕ} 0 1 = cc in omega arith); named = λ b e. (refl, refl, cc); unfit = λ e h. absurd (let z : ◌≡◌ {A = ℕ} 0 1 = cc in omega arith) }

pub cell_law : (m : List ℕ) → CellLaw m
cell_law m =
    let a = asked m (eqb (length m % 48) 0) (ltb 1024 (cells_in m)) (first_bad 0 (cells_in m) m) in
    let t = told 0 (cells_in m) m in
    record {
      accepted = λ c e.
          let q = a.accepted c e in
          let f = cells_fit m (ap is_ok e) in
          let r = f.whole in
          let s = f.few in
          let n : cells_in m ≡ c = q.3 in
          let h = subst (Told 0 (cells_in m) m) q.2 t in
          (omega arith, omega arith, subst (λ (k : ℕ). (i : ℕ) → i < k → cell_good (eqb (i + 1) (cells_in m)) (take 48 (drop (i * 48) m)) ≡ true) n h);
      named = λ b e.
          let h = subst (Told 0 (cells_in m) m) (a.named b e).2 t in
          let n : h.0 ≡ b = let k = h.1 in omega arith in
          let k : Named (cells_in m) m b = subst (Named (cells_in m) m) n h.2 in
          (eqb-true _ _ (a.named b e).0, ltb-false _ _ (a.named b e).1, k.within, k.bad, k.earlier);
      unfit = λ e w. ltb-true _ _ (a.unfit e (eq-eqb _ _ w));
      shown = nth_in_cells (cells_in m) m;
    }
