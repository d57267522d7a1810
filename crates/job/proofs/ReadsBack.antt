-- Every order, spelled, reads back as itself.
use Rattle.std.proofs.Common.{◌≡◌, ℕ, List, [], ◌∷◌, ◌++◌, Some, codes, decimal, Option, refl, ap, ◌∙◌, append_assoc}
use Rattle.std.specs.Option.{option_map}
use Rattle.rules.specs.declared.hunk.Side.{Side}
use Rattle.rules.specs.declared.hunk.Side.TheVariants.{Current, Other, Ancestor}
use Rattle.job.specs.declared.command.SheetKind.{SheetKind}
use Rattle.job.specs.declared.command.SheetKind.TheVariants.{Text, Cells}
use Rattle.job.specs.Numbers.{Fits32}
use Rattle.job.specs.Orders.{nothing, sheet, lines, row, open_by_sheets, open_by, enter, withdraw, held, help, hunk_of, hunk_order, hunk_text, numbers_text, order_of, read_open, spelled, ReadsBack}
use Rattle.job.specs.Words.{and_then}
use Rattle.job.proofs.NumbersBack.{marked_back, last_back}

sheet_back : (side : Side) (kind : SheetKind) (b : ℕ) (bs : List ℕ) → order_of (spelled (sheet side kind (b ∷ bs))) ≡ Some (sheet side kind (b ∷ bs))
sheet_back Ancestor Text b bs = refl
sheet_back Ancestor Cells b bs = refl
sheet_back Current Text b bs = refl
sheet_back Current Cells b bs = refl
sheet_back Other Text b bs = refl
sheet_back Other Cells b bs = refl

-- one thing is read, and then the next
step : {X Y : Type 0} (k : X → List ℕ → Option Y) {o : Option (X × List ℕ)} {x : X} {rest : List ℕ} {y : Option Y} → o ≡ Some (x, rest) → k x rest ≡ y → and_then o k ≡ y
step k e g = ap (λ p. and_then p k) e ∙ g

row_back : (side : Side) (n : ℕ) → Fits32 n → order_of (spelled (row side n)) ≡ Some (row side n)
row_back Ancestor n h = ap (option_map (row Ancestor)) (last_back n h)
row_back Current n h = ap (option_map (row Current)) (last_back n h)
row_back Other n h = ap (option_map (row Other)) (last_back n h)

open_back : (a c o : ℕ) → Fits32 a → Fits32 c → Fits32 o → read_open (numbers_text a c o) ≡ Some (open_by a c o)
open_back a c o p q r =
    step _ (marked_back (codes " ") (decimal c ++ (codes " " ++ decimal o)) a p refl refl)
    (step _ (marked_back (codes " ") (decimal o) c q refl refl)
    (ap (option_map (open_by a c)) (last_back o r)))

hunk_back : (side : Side) (b e s t : ℕ) → Fits32 b → Fits32 e → Fits32 s → Fits32 t → hunk_order side (hunk_text (hunk_of side b e s t)) ≡ Some (enter (hunk_of side b e s t))
hunk_back side b e s t hb he hs ht =
    ap (hunk_order side) (append_assoc (decimal b) (codes ".." ++ decimal e) (codes "/" ++ (decimal s ++ (codes ".." ++ decimal t)))) ∙
    step _ (marked_back (codes "..") (decimal e ++ (codes "/" ++ (decimal s ++ (codes ".." ++ decimal t)))) b hb refl refl)
    (step _ (marked_back (codes "/") (decimal s ++ (codes ".." ++ decimal t)) e he refl refl)
    (step _ (marked_back (codes "..") (decimal t) s hs refl refl)
    (ap (option_map (λ n. enter (hunk_of side b e s n))) (last_back t ht))))

enter_back : (side : Side) (b e s t : ℕ) → Fits32 b → Fits32 e → Fits32 s → Fits32 t → order_of (spelled (enter (hunk_of side b e s t))) ≡ Some (enter (hunk_of side b e s t))
enter_back Ancestor b e s t hb he hs ht = hunk_back Ancestor b e s t hb he hs ht
enter_back Current b e s t hb he hs ht = hunk_back Current b e s t hb he hs ht
enter_back Other b e s t hb he hs ht = hunk_back Other b e s t hb he hs ht

pub reads_back : ReadsBack
reads_back nothing h = refl
reads_back (sheet side kind []) h = absurd (h refl)
reads_back (sheet side kind (b ∷ bs)) h = sheet_back side kind b bs
reads_back (lines Ancestor) h = refl
reads_back (lines Current) h = refl
reads_back (lines Other) h = refl
reads_back (row side n) h = row_back side n h
reads_back open_by_sheets h = refl
reads_back (open_by a c o) h = open_back a c o h.0 h.1 h.2
reads_back (enter k) h = enter_back k.side k.before.start k.before.end k.after.start k.after.end h.0 h.1 h.2 h.3
reads_back (withdraw Ancestor) h = refl
reads_back (withdraw Current) h = refl
reads_back (withdraw Other) h = refl
reads_back held h = refl
reads_back help h = refl
