-- One side's hunks by their places: what a run says of them, and which of them a later hunk touches.
use Rattle.std.proofs.Common.{◌≡◌, ℕ, zero, suc, ◌-◌, ◌<◌, ◌≤◌, true, false, ◌&&◌, leb, List, [], ◌∷◌, length, get_or, take, sym, refl, ap, ◌∙◌, subst, ⊎_elim, arith}
use Rattle.std.proofs.lemmas.Bool.{leb-true, leb-false, and_parts, and_cases, cases_lt, or_left, or_right, or_from, true≢false}
use Rattle.rules.specs.declared.hunk.Hunk.{Hunk}
use Rattle.rules.specs.declared.hunk.Side.{Side}
use Rattle.rules.specs.Hunks.{opposite, touches, touches_any}
use Rattle.rules.proofs.Woven.{Run, untouched}
use Rattle.hunks.proofs.Helds.{no_hunk}

-- Hunk x of a run.
pub run_at : (s : Side) (n : ℕ) (hs : List Hunk) → Run s n hs → (x : ℕ) → x < length hs
    → ((get_or hs x no_hunk).side ≡ s) × (n ≤ (get_or hs x no_hunk).before.start) × ((get_or hs x no_hunk).before.start ≤ (get_or hs x no_hunk).before.end)
run_at s n [] r x lt = absurd (omega arith)
run_at s n (h ∷ hs) r zero lt = (r.0, r.1, r.2)
run_at s n (h ∷ hs) r (suc x) lt = let q = run_at s (suc h.before.end) hs r.3 x (omega arith) in let b = r.2 in let a = r.1 in (q.0, omega arith, q.2)

-- A later hunk of a run starts behind an earlier one's end.
pub run_gap : (s : Side) (n : ℕ) (hs : List Hunk) → Run s n hs → (x y : ℕ) → x < y → y < length hs
    → (get_or hs x no_hunk).before.end < (get_or hs y no_hunk).before.start
run_gap s n [] r x y lt b = absurd (omega arith)
run_gap s n (h ∷ hs) r x zero lt b = absurd (omega arith)
run_gap s n (h ∷ hs) r zero (suc y) lt b = let q = (run_at s (suc h.before.end) hs r.3 y (omega arith)).1 in omega arith
run_gap s n (h ∷ hs) r (suc x) (suc y) lt b = run_gap s (suc h.before.end) hs r.3 x y (omega arith) (omega arith)

-- What touching says of the ranges.
pub touch_ranges : (g h : Hunk) → touches g h ≡ true → (g.before.start ≤ h.before.end) × (h.before.start ≤ g.before.end)
touch_ranges g h e =
    let p = (and_parts (opposite g.side h.side) (leb g.before.start h.before.end && leb h.before.start g.before.end) e).1 in
    let q = and_parts (leb g.before.start h.before.end) (leb h.before.start g.before.end) p in
    (leb-true g.before.start h.before.end q.0, leb-true h.before.start g.before.end q.1)

-- A hunk that starts no earlier than one of the facing side, and does not touch it, starts behind its end.
pub apart : (h g : Hunk) → opposite h.side g.side ≡ true → g.before.start ≤ h.before.start → h.before.start ≤ h.before.end
    → touches h g ≡ false → g.before.end < h.before.start
apart h g o le span e =
    ⊎_elim
    (λ (f : opposite h.side g.side ≡ false). absurd (true≢false (sym o ∙ f)))
    (λ (f : (leb h.before.start g.before.end && leb g.before.start h.before.end) ≡ false). ⊎_elim
    (λ (x : leb h.before.start g.before.end ≡ false). leb-false h.before.start g.before.end x)
    (λ (x : leb g.before.start h.before.end ≡ false). let y = leb-false g.before.start h.before.end x in absurd (omega arith))
    (and_cases (leb h.before.start g.before.end) (leb g.before.start h.before.end) f))
    (and_cases (opposite h.side g.side) (leb h.before.start g.before.end && leb g.before.start h.before.end) e)

-- The first m of a list, hunk by hunk.
front_none : (h : Hunk) (xs : List Hunk) (m : ℕ) → ((x : ℕ) → x < m → x < length xs → touches h (get_or xs x no_hunk) ≡ false) → touches_any h (take m xs) ≡ false
front_none h xs zero f = refl
front_none h [] (suc m) f = refl
front_none h (x ∷ xs) (suc m) f = or_from (touches h x) (touches_any h (take m xs)) (f 0 (omega arith) (omega arith)) (front_none h xs m (λ y lt b. f (suc y) (omega arith) (omega arith)))

pub front_one : (h : Hunk) (xs : List Hunk) (m x : ℕ) → x < m → x < length xs → touches h (get_or xs x no_hunk) ≡ true → touches_any h (take m xs) ≡ true
front_one h xs zero x lt b e = absurd (omega arith)
front_one h [] (suc m) x lt b e = absurd (omega arith)
front_one h (g ∷ xs) (suc m) zero lt b e = or_left (touches h g) (touches_any h (take m xs)) e
front_one h (g ∷ xs) (suc m) (suc x) lt b e = or_right (touches h g) (touches_any h (take m xs)) (front_one h xs m x (omega arith) (omega arith) e)

-- A hunk of the facing side that does not touch the last of the first m touches none of them.
pub touches_none : (s : Side) (ys : List Hunk) → Run s 0 ys → (h : Hunk) (m : ℕ) → m ≤ length ys → opposite h.side s ≡ true → h.before.start ≤ h.before.end
    → (0 < m → (get_or ys (m - 1) no_hunk).before.start ≤ h.before.start)
    → (0 < m → touches h (get_or ys (m - 1) no_hunk) ≡ false)
    → touches_any h (take m ys) ≡ false
touches_none s ys r h m le o span low free =
    front_none h ys m (λ x lt b.
    let last = get_or ys (m - 1) no_hunk in
    let some : 0 < m = omega arith in
    let at = run_at s 0 ys r (m - 1) (omega arith) in
    let face : opposite h.side last.side ≡ true = ap (opposite h.side) at.0 ∙ o in
    let end : last.before.end < h.before.start = apart h last face (low some) span (free some) in
    let each : (get_or ys x no_hunk).before.end < h.before.start
    = ⊎_elim
    (λ (y : x < m - 1). let g = run_gap s 0 ys r x (m - 1) y (omega arith) in let l = low some in omega arith)
    (λ (y : m - 1 ≤ x). let q : m - 1 ≡ x = omega arith in subst (λ (z : ℕ). (get_or ys z no_hunk).before.end < h.before.start) q end)
    (cases_lt x (m - 1)) in
    untouched (get_or ys x no_hunk) h each)
