-- The runs that contraction takes are the longest, front and back are of the lead side, and an Ancestor hunk that it cuts keeps one range.
use Rattle.std.proofs.Common.{◌≡◌, ℕ, suc, ◌-◌, ◌≤◌, Bool, true, false, cond, not, ◌&&◌, eqb, ltb, leb, List, [], ◌∷◌, ◌++◌, reverse, length, take, drop, sym, refl, ap, ◌∙◌, subst, arith, length-drop, take-append-drop, drop_at}
use mathlib.Core.List.{reverse-append}
use lib.ListN.{length-reverse}
use Rattle.std.specs.List.{AllByRecursion}
use Rattle.std.proofs.ByRecursion.{All-append}
use Rattle.std.proofs.lemmas.Bool.{true≢false, cond_both}
use Rattle.rules.specs.declared.hunk.Hunk.{Hunk}
use Rattle.rules.specs.declared.hunk.Side.{Side}
use Rattle.rules.specs.declared.hunk.Side.TheVariants.{Current, Other, Ancestor}
use Rattle.rules.specs.declared.hunk.Span.{Span}
use Rattle.rules.specs.Lines.{Line, same_line}
use Rattle.rules.specs.SharedLines.{shared_front, shared_back, past_start, before_end, middle, shared_end}
use Rattle.rules.specs.Hunks.{Sheets, side_lines, opposite}
use Rattle.rules.specs.Walk.{is_current, is_other, picked}
use Rattle.rules.specs.Groups.{Cluster, members, from, to}
use Rattle.rules.specs.Filling.{stretch, filled, side_of, ours_of, theirs_of}
use Rattle.rules.specs.Contraction.{hunk_size, reading, first_lines, later_lines, Cut, ahead_more, cut_here, cut_front, cut_back, contracted}
use Rattle.rules.specs.Sides.{Sides, contracted_by, contracted_sides}
use Rattle.rules.specs.ContractionLaws.{Straight, NotFacing}
use Rattle.rules.proofs.Shared.{same_line_refl, front_sym, front_le, end_sym}
use Rattle.rules.proofs.Woven.{Sided}

-- behind what two lists share at the front they differ
stops_at : (a b : Line) (as' bs : List Line) (t : Bool) → same_line a b ≡ t → (n : ℕ)
    → ((x y : Line) (us vs : List Line) → drop n as' ≡ x ∷ us → drop n bs ≡ y ∷ vs → x ≡ y → ⊥)
    → (x y : Line) (us vs : List Line) → drop (cond t (suc n) 0) (a ∷ as') ≡ x ∷ us → drop (cond t (suc n) 0) (b ∷ bs) ≡ y ∷ vs → x ≡ y → ⊥
stops_at a b as' bs true e n ih x y us vs p q r = ih x y us vs p q r
stops_at a b as' bs false e n ih x y us vs p q r =
    let ab : a ≡ b = cc in
    true≢false (sym (same_line_refl a) ∙ ap (same_line a) ab ∙ e)

pub front_stops : (xs ys : List Line) (x y : Line) (us vs : List Line) → drop (shared_front xs ys) xs ≡ x ∷ us → drop (shared_front xs ys) ys ≡ y ∷ vs → x ≡ y → ⊥
front_stops [] ys x y us vs p q r = let z : ◌≡◌ {A = ℕ} 0 1 = cc in absurd (omega arith)
front_stops (a ∷ as') [] x y us vs p q r = let z : ◌≡◌ {A = ℕ} 0 1 = cc in absurd (omega arith)
front_stops (a ∷ as') (b ∷ bs) x y us vs p q r = stops_at a b as' bs (same_line a b) refl (shared_front as' bs) (front_stops as' bs) x y us vs p q r

pub start_stops : (xs ys : List Line) (x y : Line) (us vs : List Line) → past_start xs ys ≡ x ∷ us → past_start ys xs ≡ y ∷ vs → x ≡ y → ⊥
start_stops xs ys x y us vs p q r = front_stops xs ys x y us vs p (ap (λ (n : ℕ). drop n ys) (front_sym xs ys) ∙ q) r

-- and ahead of what they share at the back
drop_reverse : (r : ℕ) (ls : List Line) → r ≤ length ls → drop r (reverse ls) ≡ reverse (take (length ls - r) ls)
drop_reverse r ls h =
    let p = take (length ls - r) ls in
    let q = drop (length ls - r) ls in
    let e : reverse ls ≡ reverse q ++ reverse p = ap reverse (sym (take-append-drop (length ls - r) ls)) ∙ reverse-append p q in
    let k : length (reverse q) ≡ r = rw (length-reverse, length-drop) (omega arith) in
    rw e (drop_at (reverse q) (reverse p) r k)

last_first : (ls xs : List Line) (x : Line) → ls ≡ xs ++ (x ∷ []) → reverse ls ≡ x ∷ reverse xs
last_first ls xs x e = ap reverse e ∙ reverse-append xs (x ∷ [])

pub end_stops : (ls ms : List Line) (x y : Line) (xs ys : List Line) → before_end ls ms ≡ xs ++ (x ∷ []) → before_end ms ls ≡ ys ++ (y ∷ []) → x ≡ y → ⊥
end_stops ls ms x y xs ys p q r =
    let b = front_le (reverse ls) (reverse ms) in
    let n = shared_back ls ms in
    let hl : n ≤ length ls = rw length-reverse at b.0 in
    let hm : n ≤ length ms = rw length-reverse at b.1 in
    let el : drop n (reverse ls) ≡ x ∷ reverse xs = drop_reverse n ls hl ∙ last_first (before_end ls ms) xs x p in
    let q' : take (length ms - n) ms ≡ ys ++ (y ∷ []) = ap (λ (i : ℕ). take (length ms - i) ms) (front_sym (reverse ls) (reverse ms)) ∙ q in
    let em : drop n (reverse ms) ≡ y ∷ reverse ys = drop_reverse n ms hm ∙ last_first (take (length ms - n) ms) ys y q' in
    front_stops (reverse ls) (reverse ms) x y (reverse xs) (reverse ys) el em r

-- what is left and the back are what stands behind the front
pub rest_joins : (xs ys : List Line) → middle xs ys ++ shared_end xs ys ≡ past_start xs ys
rest_joins xs ys = let r = past_start xs ys in take-append-drop (length r - shared_back r (past_start ys xs)) r

pub rest_joins_other : (xs ys : List Line) → middle ys xs ++ shared_end xs ys ≡ past_start ys xs
rest_joins_other xs ys = ap (λ (e : List Line). middle ys xs ++ e) (end_sym xs ys) ∙ rest_joins ys xs

-- what holds of each hunk, and of each part of one that it holds of, holds of each hunk that contraction leaves or takes
module _ (P : Hunk → Type 0) (part : (h : Hunk) (r : Span) → P h → P (reading h.side h r)) where
  abbrev Both : Cut → Type 0
  Both c = AllByRecursion P c.ahead × AllByRecursion P c.behind

  here_all : (n : ℕ) (h : Hunk) (hs : List Hunk) → P h → AllByRecursion P hs → Both (cut_here n h hs)
  here_all n h hs p ps = cond_both (eqb n 0) (record { ahead = []; behind = h ∷ hs }) (record { ahead = first_lines n h ∷ []; behind = later_lines n h ∷ hs }) Both
      (λ _. (tt, (p, ps)))
      (λ _. ((part h _ p, tt), (part h _ p, ps)))

  front_all : (n : ℕ) (hs : List Hunk) → AllByRecursion P hs → Both (cut_front n hs)
  front_all n [] p = (tt, tt)
  front_all n (h ∷ hs) p =
      let r = front_all (n - hunk_size h) hs p.1 in
      cond_both (leb (hunk_size h) n && not (eqb n 0)) (ahead_more h (cut_front (n - hunk_size h) hs)) (cut_here n h hs) Both (λ _. ((p.0, r.0), r.1)) (λ _. here_all n h hs p.0 p.1)

  back_all : (n : ℕ) (hs : List Hunk) → AllByRecursion P hs → Both (cut_back n hs)
  back_all n [] p = (tt, tt)
  back_all n (h ∷ hs) p =
      let r = back_all (n - hunk_size h) hs p.1 in
      cond_both (leb (hunk_size h) n) (ahead_more h (cut_back (n - hunk_size h) hs)) (cut_here n h hs) Both (λ _. ((p.0, r.0), r.1)) (λ _. here_all n h hs p.0 p.1)

  lead_all : (s : Sheets) (a b : List Hunk) → AllByRecursion P a → AllByRecursion P (contracted s a b).front × AllByRecursion P (contracted s a b).lead × AllByRecursion P (contracted s a b).back
  lead_all s a b pa =
      let n = shared_front (side_lines s a) (side_lines s b) in
      let ca = front_all n a pa in
      let la = side_lines s (cut_front n a).behind in
      let lb = side_lines s (cut_front n b).behind in
      let ta = back_all (length la - shared_back la lb) (cut_front n a).behind ca.1 in
      (ca.0, ta.0, ta.1)

  facing_all : (s : Sheets) (a b : List Hunk) → AllByRecursion P b → AllByRecursion P (contracted s a b).facing
  facing_all s a b pb =
      let n = shared_front (side_lines s a) (side_lines s b) in
      let cb = front_all n b pb in
      let la = side_lines s (cut_front n a).behind in
      let lb = side_lines s (cut_front n b).behind in
      (back_all (length lb - shared_back la lb) (cut_front n b).behind cb.1).0

  filled_all : (hs : List Hunk) (a b : ℕ) → ((i j : ℕ) → AllByRecursion P (stretch i j)) → AllByRecursion P hs → AllByRecursion P (filled a b hs)
  filled_all [] a b st p = st a b
  filled_all (h ∷ hs) a b st p = All-append P (stretch a h.before.start) (h ∷ filled h.before.end b hs) (st a h.before.start) (p.0, filled_all hs h.before.end b st p.1)

picked_all : (P : Hunk → Type 0) (f : Side → Bool) → ((h : Hunk) → f h.side ≡ true → P h) → (hs : List Hunk) → AllByRecursion P (picked f hs)
picked_all P f q [] = tt
picked_all P f q (h ∷ hs) = let r = picked_all P f q hs in cond_both (f h.side) (h ∷ picked f hs) (picked f hs) (AllByRecursion P) (λ e. (q h e, r)) (λ _. r)

-- Ancestor hunks have one range
reading_straight : (sd : Side) (h : Hunk) (r : Span) → Straight (reading sd h r)
reading_straight Current h r e = let z : ◌≡◌ {A = ℕ} 0 1 = cc in absurd (omega arith)
reading_straight Other h r e = let z : ◌≡◌ {A = ℕ} 0 1 = cc in absurd (omega arith)
reading_straight Ancestor h r e = refl

part_straight : (h : Hunk) (r : Span) → Straight h → Straight (reading h.side h r)
part_straight h r p = reading_straight h.side h r

stretch_straight : (a b : ℕ) → AllByRecursion Straight (stretch a b)
stretch_straight a b =
    cond_both (ltb a b) (record { before = record { start = a; end = b }; after = record { start = a; end = b }; side = Ancestor } ∷ []) [] (AllByRecursion Straight) (λ _. (λ _. refl, tt)) (λ _. tt)

side_straight : (f : Side → Bool) → f Ancestor ≡ false → (k : Cluster) → AllByRecursion Straight (side_of f k)
side_straight f z k = filled_all Straight part_straight (picked f (members k)) (from k) (to k) stretch_straight (picked_all Straight f (λ h e a. absurd (true≢false (sym e ∙ ap f a ∙ z))) (members k))

-- and the sides keep apart
reading_side : (sd : Side) (h : Hunk) (r : Span) → (reading sd h r).side ≡ sd
reading_side Current h r = refl
reading_side Other h r = refl
reading_side Ancestor h r = refl

part_side : (side : Side) (h : Hunk) (r : Span) → NotFacing side h → NotFacing side (reading h.side h r)
part_side side h r p = ap (opposite side) (reading_side h.side h r) ∙ p

none_faced : (side : Side) → opposite side Ancestor ≡ false
none_faced Current = refl
none_faced Other = refl
none_faced Ancestor = refl

stretch_side : (side : Side) (a b : ℕ) → AllByRecursion (NotFacing side) (stretch a b)
stretch_side side a b =
    cond_both (ltb a b) (record { before = record { start = a; end = b }; after = record { start = a; end = b }; side = Ancestor } ∷ []) [] (AllByRecursion (NotFacing side)) (λ _. (none_faced side, tt)) (λ _. tt)

own_side : (f : Side → Bool) (side : Side) → ((t : Side) → f t ≡ true → opposite side t ≡ false) → (k : Cluster) → AllByRecursion (NotFacing side) (side_of f k)
own_side f side q k = filled_all (NotFacing side) (part_side side) (picked f (members k)) (from k) (to k) (stretch_side side) (picked_all (NotFacing side) f (λ h e. q h.side e) (members k))

current_own : (t : Side) → is_current t ≡ true → opposite Current t ≡ false
current_own Current e = refl
current_own Other e = absurd (true≢false (sym e))
current_own Ancestor e = refl

other_own : (t : Side) → is_other t ≡ true → opposite Other t ≡ false
other_own Current e = absurd (true≢false (sym e))
other_own Other e = refl
other_own Ancestor e = refl

abbrev led_side : Bool → Side
led_side true = Current
led_side false = Other

pub record Kinds (side : Side) (d : Sides) : Type 0 where
  pub straight : AllByRecursion Straight d.front × AllByRecursion Straight d.left × AllByRecursion Straight d.right × AllByRecursion Straight d.back
  pub led : AllByRecursion (NotFacing side) d.front × AllByRecursion (NotFacing side) d.back
  pub ours_left : AllByRecursion (NotFacing Current) d.left
  pub theirs_left : AllByRecursion (NotFacing Other) d.right

kinds_by : (s : Sheets) (k : Cluster) (b : Bool) → Kinds (led_side b) (contracted_by s b k)
kinds_by s k true =
    let (f, l, r) = lead_all Straight part_straight s (ours_of k) (theirs_of k) (side_straight is_current refl k) in
    let g = facing_all Straight part_straight s (ours_of k) (theirs_of k) (side_straight is_other refl k) in
    let (f', l', r') = lead_all (NotFacing Current) (part_side Current) s (ours_of k) (theirs_of k) (own_side is_current Current current_own k) in
    let g' = facing_all (NotFacing Other) (part_side Other) s (ours_of k) (theirs_of k) (own_side is_other Other other_own k) in
    record { straight = (f, l, g, r); led = (f', r'); ours_left = l'; theirs_left = g' }
kinds_by s k false =
    let (f, l, r) = lead_all Straight part_straight s (theirs_of k) (ours_of k) (side_straight is_other refl k) in
    let g = facing_all Straight part_straight s (theirs_of k) (ours_of k) (side_straight is_current refl k) in
    let (f', l', r') = lead_all (NotFacing Other) (part_side Other) s (theirs_of k) (ours_of k) (own_side is_other Other other_own k) in
    let g' = facing_all (NotFacing Current) (part_side Current) s (theirs_of k) (ours_of k) (own_side is_current Current current_own k) in
    record { straight = (f, g, l, r); led = (f', r'); ours_left = g'; theirs_left = l' }

-- the hunks of a walk are Current or Other, so the lead side is that of the first
led_by : (sd : Side) → Sided sd → led_side (is_current sd) ≡ sd
led_by Current p = refl
led_by Other p = refl
led_by Ancestor p = absurd p

pub kinds : (s : Sheets) (k : Cluster) → Sided k.first.side → Kinds k.first.side (contracted_sides s k)
kinds s k p = subst (λ (sd : Side). Kinds sd (contracted_sides s k)) (led_by k.first.side p) (kinds_by s k (is_current k.first.side))
