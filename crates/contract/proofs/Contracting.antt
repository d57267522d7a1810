-- What a cut keeps, and how long its parts are.
use Rattle.std.proofs.Common.{◌≡◌, ℕ, zero, suc, ◌+◌, ◌<◌, ◌≤◌, false, eqb, List, [], ◌∷◌, ◌++◌, reverse, length, get_or, take, drop, sym, refl, ap, ◌∙◌, subst, arith}
use Rattle.std.specs.List.{AllByRecursion}
use Rattle.std.proofs.lemmas.List.{length-reverse}
use Rattle.std.proofs.ByRecursion.{All-get_or, All-drop, All-take, All-push}
use Rattle.std.proofs.lemmas.Bool.{cond_both}
use Rattle.rules.specs.declared.hunk.Side.{Side}
use Rattle.rules.specs.declared.hunk.Side.TheVariants.{Current, Other, Ancestor}
use Rattle.rules.specs.declared.hunk.Span.{Span}
use Rattle.rules.specs.declared.hunk.Hunk.{Hunk}
use Rattle.contract.specs.declared.place.Ahead.TheVariants.{Leaves, Stays}
use Rattle.contract.specs.Places.{place_of, place, ahead_at, behind_at, Placed}
use Rattle.contract.specs.Ends.{removed_of, counts_of}
use Rattle.rules.specs.Contraction.{Readable}
use Rattle.reading.specs.Reading.{no_hunk}
use Rattle.rules.specs.Contraction.{hunk_size, read_range, reading, first_lines, later_lines, cut_front, cut_back, Contracted, contracted, trimmed}
use Rattle.rules.specs.Hunks.{Sheets, side_lines, sheet_of}
use Rattle.rules.specs.Lines.{Line}
use Rattle.rules.specs.SharedLines.{shared_front, shared_back}
use Rattle.rules.proofs.Shared.{front_le}
use Rattle.contract.proofs.Places.{cut_at, placed}
use Rattle.contract.proofs.Cutting.{placed_inside, ahead_few, behind_length}

readable_by : (s : Sheets) (sd : Side) (h : Hunk) (r : Span) → r.end ≤ length (sheet_of s sd) → Readable s (reading sd h r)
readable_by s Current h r le = le
readable_by s Other h r le = le
readable_by s Ancestor h r le = le

readable_later : (s : Sheets) (n : ℕ) (h : Hunk) → Readable s h → Readable s (later_lines n h)
readable_later s n h le = readable_by s h.side h (record { start = (read_range h.side h).start + n; end = (read_range h.side h).end }) le

nonzero : (m : ℕ) → eqb m 0 ≡ false → 0 < m
nonzero zero z = let u : ◌≡◌ {A = ℕ} 0 1 = cc in absurd (omega arith)
nonzero (suc m) z = omega arith

readable_behind : (s : Sheets) (w k : ℕ) (hs : List Hunk) → Placed (place_of w k) hs → AllByRecursion (Readable s) hs → AllByRecursion (Readable s) (behind_at (place_of w k) hs)
readable_behind s w k hs p r =
    cond_both (eqb k 0) (drop w hs) (later_lines k (get_or hs w no_hunk) ∷ drop (suc w) hs) (AllByRecursion (Readable s)) (λ e. All-drop (Readable s) w hs r)
    (λ e. (readable_later s k (get_or hs w no_hunk) (All-get_or (Readable s) hs w no_hunk (placed_inside w k hs p (nonzero k e)) r), All-drop (Readable s) (suc w) hs r))

pub readable_cut : (s : Sheets) (n : ℕ) (hs gs : List Hunk) → gs ≡ (cut_front n hs).behind → AllByRecursion (Readable s) hs → AllByRecursion (Readable s) gs
readable_cut s n hs gs e r =
    subst (AllByRecursion (Readable s)) (sym (e ∙ (cut_at Leaves n hs).behind)) (readable_behind s (place Leaves n hs).whole (place Leaves n hs).lines hs (placed Leaves n hs) r)

pub front_few : (n : ℕ) (hs : List Hunk) → length (cut_front n hs).ahead + length (cut_front n hs).behind ≤ length hs + 1
front_few n hs =
    let p = place Leaves n hs in
    let q = placed Leaves n hs in
    let a = ap length (cut_at Leaves n hs).ahead in
    let b = ap length (cut_at Leaves n hs).behind ∙ behind_length p.whole p.lines hs q in
    let c = ahead_few p.whole p.lines hs q.hunks in
    let d = q.hunks in
    omega arith

pub back_few : (n : ℕ) (hs : List Hunk) → length (cut_back n hs).behind ≤ length hs
back_few n hs =
    let p = place Stays n hs in
    let b = ap length (cut_at Stays n hs).behind ∙ behind_length p.whole p.lines hs (placed Stays n hs) in
    omega arith

-- no more lines are shared than there are
pub shared_back_few : (xs ys : List Line) → (shared_back xs ys ≤ length xs) × (shared_back xs ys ≤ length ys)
shared_back_few xs ys =
    let i = front_le (reverse xs) (reverse ys) in
    let p = i.0 in
    let q = i.1 in
    let a = length-reverse xs in
    let b = length-reverse ys in
    (omega arith, omega arith)

pub record Whole (s : Sheets) (a b a₂ b₂ r₁ r₂ : List Hunk) (n : ℕ × ℕ × ℕ) : Type 0 where
  pub lead : a₂ ≡ (contracted s a b).lead
  pub facing : b₂ ≡ (contracted s a b).facing
  pub removed : r₂ ≡ removed_of (contracted s a b)
  pub counts : n ≡ counts_of (contracted s a b)

triple : (a b d a' b' d' : ℕ) → a ≡ a' → b ≡ b' → d ≡ d' → ◌≡◌ {A = ℕ × ℕ × ℕ} (a, b, d) (a', b', d')
triple a b d a' b' d' p q r = cc

module _ (s : Sheets) (a b a₁ b₁ r₁ a₂ b₂ r₂ : List Hunk) where
  pub both_ends :
      a₁ ≡ (cut_front (shared_front (side_lines s a) (side_lines s b)) a).behind
      → b₁ ≡ (cut_front (shared_front (side_lines s a) (side_lines s b)) b).behind
      → r₁ ≡ (cut_front (shared_front (side_lines s a) (side_lines s b)) a).ahead
      → a₂ ≡ (trimmed s r₁ a₁ b₁).lead
      → b₂ ≡ (trimmed s r₁ a₁ b₁).facing
      → r₂ ≡ r₁ ++ (trimmed s r₁ a₁ b₁).back
      → (i j k : ℕ) → i ≡ length r₂ → j ≡ length r₁ → k ≡ length a₂
      → Whole s a b a₂ b₂ r₁ r₂ (i, j, k)
  both_ends ea eb er fa fb fr i j k ei ej ek =
      let n = shared_front (side_lines s a) (side_lines s b) in
      let t : trimmed s r₁ a₁ b₁ ≡ contracted s a b
      = ap (λ (v : List Hunk). trimmed s v a₁ b₁) er
      ∙ (ap (λ (v : List Hunk). trimmed s (cut_front n a).ahead v b₁) ea ∙ ap (λ (v : List Hunk). trimmed s (cut_front n a).ahead (cut_front n a).behind v) eb) in
      let r : r₂ ≡ removed_of (contracted s a b) = fr ∙ ap removed_of t in
      let l : a₂ ≡ (contracted s a b).lead = fa ∙ ap (λ (c : Contracted). c.lead) t in
      record {
        lead = l;
        facing = fb ∙ ap (λ (c : Contracted). c.facing) t;
        removed = r;
        counts = triple _ _ _ _ _ _ (ei ∙ ap length r) (ej ∙ ap length er) (ek ∙ ap length l);
      }

-- what contraction leaves and removes can be read
readable_first : (s : Sheets) (n : ℕ) (h : Hunk) → n ≤ hunk_size h → 0 < n → Readable s h → Readable s (first_lines n h)
readable_first s n h le pos r =
    let e : (read_range h.side h).end ≤ length (sheet_of s h.side) = r in
    readable_by s h.side h (record { start = (read_range h.side h).start; end = (read_range h.side h).start + n }) (omega arith)

readable_ahead : (s : Sheets) (w k : ℕ) (hs : List Hunk) → Placed (place_of w k) hs → AllByRecursion (Readable s) hs → AllByRecursion (Readable s) (ahead_at (place_of w k) hs)
readable_ahead s w k hs p r =
    cond_both (eqb k 0) (take w hs) (take w hs ++ (first_lines k (get_or hs w no_hunk) ∷ [])) (AllByRecursion (Readable s)) (λ e. All-take (Readable s) w hs r)
    (λ e. All-push (Readable s) (take w hs) _ (All-take (Readable s) w hs r) (readable_first s k (get_or hs w no_hunk) p.lines (nonzero k e) (All-get_or (Readable s) hs w no_hunk (placed_inside w k hs p (nonzero k e)) r)))

pub record Readables (s : Sheets) (c : Contracted) : Type 0 where
  pub front : AllByRecursion (Readable s) c.front
  pub lead : AllByRecursion (Readable s) c.lead
  pub facing : AllByRecursion (Readable s) c.facing
  pub back : AllByRecursion (Readable s) c.back

front_ahead_readable : (s : Sheets) (n : ℕ) (hs : List Hunk) → AllByRecursion (Readable s) hs → AllByRecursion (Readable s) (cut_front n hs).ahead
front_ahead_readable s n hs r = subst (AllByRecursion (Readable s)) (sym (cut_at Leaves n hs).ahead) (readable_ahead s (place Leaves n hs).whole (place Leaves n hs).lines hs (placed Leaves n hs) r)

back_ahead_readable : (s : Sheets) (n : ℕ) (hs : List Hunk) → AllByRecursion (Readable s) hs → AllByRecursion (Readable s) (cut_back n hs).ahead
back_ahead_readable s n hs r = subst (AllByRecursion (Readable s)) (sym (cut_at Stays n hs).ahead) (readable_ahead s (place Stays n hs).whole (place Stays n hs).lines hs (placed Stays n hs) r)

back_behind_readable : (s : Sheets) (n : ℕ) (hs : List Hunk) → AllByRecursion (Readable s) hs → AllByRecursion (Readable s) (cut_back n hs).behind
back_behind_readable s n hs r = subst (AllByRecursion (Readable s)) (sym (cut_at Stays n hs).behind) (readable_behind s (place Stays n hs).whole (place Stays n hs).lines hs (placed Stays n hs) r)

pub readables : (s : Sheets) (a b : List Hunk) → AllByRecursion (Readable s) a → AllByRecursion (Readable s) b → Readables s (contracted s a b)
readables s a b ra rb =
    let n = shared_front (side_lines s a) (side_lines s b) in
    let a₁ = readable_cut s n a _ refl ra in
    let b₁ = readable_cut s n b _ refl rb in
    record { front = front_ahead_readable s n a ra; lead = back_ahead_readable s _ _ a₁; facing = back_ahead_readable s _ _ b₁; back = back_behind_readable s _ _ a₁ }
