-- Contraction on hunks: whole hunks leave, and one hunk is cut in its place.
use Rattle.std.proofs.Common.{◌≡◌, ℕ, ◌+◌, ◌-◌, ◌<◌, ◌≤◌, Bool, true, false, not, ◌&&◌, eqb, leb, ◌⊎◌, List, [], ◌∷◌, ◌++◌, length, sym, refl, ap, ◌∙◌, subst, ap₂, inl, inr, arith, length-append}
use Rattle.std.proofs.lemmas.Bool.{leb-true, leb-false, eqb-true, and_parts, and_cases, not-true, not-false, cond_both, false≢true, true≢false}
use Rattle.std.specs.List.{AllByRecursion}
use Rattle.rules.specs.declared.hunk.Hunk.{Hunk}
use Rattle.rules.specs.declared.hunk.Side.{Side}
use Rattle.rules.specs.declared.hunk.Side.TheVariants.{Current, Other, Ancestor}
use Rattle.rules.specs.declared.hunk.Span.{Span}
use Rattle.rules.specs.Lines.{Line}
use Rattle.rules.specs.SharedLines.{shared_front, shared_back}
use Rattle.rules.specs.Hunks.{Sheets, side_lines, hunk_lines}
use Rattle.rules.specs.Groups.{Cluster}
use Rattle.rules.specs.Filling.{ours_of, theirs_of}
use Rattle.rules.specs.Contraction.{Cut, hunk_size, reading, contracted, read_range, first_lines, cut_here, cut_front, cut_back, later_lines, ahead_more}
use Rattle.rules.specs.Sides.{Sides, contracted_by}
use Rattle.rules.specs.ContractionLaws.{Parted, Parts, CutInTwo, HasLine, Cuts, PartsBy, between_hunks, FacingCuts, within_hunk}
use Rattle.rules.proofs.Cuts.{Whole, front_splits, back_splits}
use Rattle.rules.proofs.Shared.{front_take, front_le, back_drop}

-- a hunk's two parts
parted : (r : Span) (n : ℕ) → 0 < n → n < r.end - r.start → Parted r (record { start = r.start; end = r.start + n }) (record { start = r.start + n; end = r.end })
parted r n p q = (refl, refl, refl, omega arith, omega arith)

parts_of : (sd : Side) (h a b : Hunk) → h.side ≡ sd → a.side ≡ sd → b.side ≡ sd → PartsBy sd h a b → Parts h a b
parts_of sd h a b e p q r = record { first_side = p ∙ sym e; second_side = q ∙ sym e; parted = subst (λ (x : Side). PartsBy x h a b) (sym e) r }

parts_by : (sd : Side) (h : Hunk) (n : ℕ) → h.side ≡ sd → 0 < n → n < (read_range sd h).end - (read_range sd h).start
    → let r = read_range sd h in Parts h (reading sd h (record { start = r.start; end = r.start + n })) (reading sd h (record { start = r.start + n; end = r.end }))
parts_by Current h n e p q =
    let r = h.after in
    parts_of Current h (reading Current h (record { start = r.start; end = r.start + n })) (reading Current h (record { start = r.start + n; end = r.end })) e refl refl (parted r n p q, refl, refl)
parts_by Other h n e p q =
    let r = h.after in
    parts_of Other h (reading Other h (record { start = r.start; end = r.start + n })) (reading Other h (record { start = r.start + n; end = r.end })) e refl refl (parted r n p q, refl, refl)
parts_by Ancestor h n e p q =
    let r = h.before in
    parts_of Ancestor h (reading Ancestor h (record { start = r.start; end = r.start + n })) (reading Ancestor h (record { start = r.start + n; end = r.end })) e refl refl (parted r n p q, refl, refl)

parts : (h : Hunk) (n : ℕ) → 0 < n → n < hunk_size h → Parts h (first_lines n h) (later_lines n h)
parts h n p q = parts_by h.side h n refl p q

-- one more hunk ahead
one_ahead : (h : Hunk) (hs a b : List Hunk) → CutInTwo hs a b → CutInTwo (h ∷ hs) (h ∷ a) b
one_ahead h hs a b (between_hunks xs ys) = between_hunks (h ∷ xs) ys
one_ahead h hs a b (within_hunk xs g x y ys p) = within_hunk (h ∷ xs) g x y ys p

abbrev CutsIn : List Hunk → Cut → Type 0
CutsIn hs c = CutInTwo hs c.ahead c.behind

here_cuts : (n : ℕ) (h : Hunk) (hs : List Hunk) → (n ≡ 0 → ⊥) → n < hunk_size h → CutsIn (h ∷ hs) (record { ahead = first_lines n h ∷ []; behind = later_lines n h ∷ hs })
here_cuts n h hs f q = within_hunk [] h (first_lines n h) (later_lines n h) hs (parts h n (omega (arith, f)) q)

cut_here_cuts : (n : ℕ) (h : Hunk) (hs : List Hunk) → ((n ≡ 0 → ⊥) → n < hunk_size h) → CutsIn (h ∷ hs) (cut_here n h hs)
cut_here_cuts n h hs f = cond_both (eqb n 0) (record { ahead = []; behind = h ∷ hs }) (record { ahead = first_lines n h ∷ []; behind = later_lines n h ∷ hs }) (CutsIn (h ∷ hs))
    (λ _. between_hunks [] (h ∷ hs))
    (λ e. let z : n ≡ 0 → ⊥ = λ q. true≢false (sym (ap (λ (i : ℕ). eqb i 0) q) ∙ e) in here_cuts n h hs z (f z))

not_whole : (n : ℕ) (h : Hunk) → (leb (hunk_size h) n && not (eqb n 0)) ≡ false → (n ≡ 0 → ⊥) → n < hunk_size h
not_whole n h e z = by (and_cases (leb (hunk_size h) n) (not (eqb n 0)) e)
  where
    by : (leb (hunk_size h) n ≡ false) ⊎ (not (eqb n 0) ≡ false) → n < hunk_size h
    by (inl p) = leb-false (hunk_size h) n p
    by (inr p) = absurd (z (eqb-true n 0 (not-false (eqb n 0) p)))

front_cuts : (n : ℕ) (hs : List Hunk) → CutsIn hs (cut_front n hs)
front_cuts n [] = between_hunks [] []
front_cuts n (h ∷ hs) =
    let rest = front_cuts (n - hunk_size h) hs in
    cond_both (leb (hunk_size h) n && not (eqb n 0)) (ahead_more h (cut_front (n - hunk_size h) hs)) (cut_here n h hs) (CutsIn (h ∷ hs))
    (λ _. one_ahead h hs (cut_front (n - hunk_size h) hs).ahead (cut_front (n - hunk_size h) hs).behind rest)
    (λ e. cut_here_cuts n h hs (not_whole n h e))

back_cuts : (n : ℕ) (hs : List Hunk) → CutsIn hs (cut_back n hs)
back_cuts n [] = between_hunks [] []
back_cuts n (h ∷ hs) =
    let rest = back_cuts (n - hunk_size h) hs in
    cond_both (leb (hunk_size h) n) (ahead_more h (cut_back (n - hunk_size h) hs)) (cut_here n h hs) (CutsIn (h ∷ hs))
    (λ _. one_ahead h hs (cut_back (n - hunk_size h) hs).ahead (cut_back (n - hunk_size h) hs).behind rest)
    (λ e. cut_here_cuts n h hs (λ _. leb-false (hunk_size h) n e))

-- lines of a hunk and of its parts
lines_there : (h : Hunk) → 0 < hunk_size h → HasLine h
lines_there h p = omega arith

part_line : (sd : Side) (h : Hunk) (r : Span) → r.start < r.end → HasLine (reading sd h r)
part_line Current h r p = p
part_line Other h r p = p
part_line Ancestor h r p = p

first_line : (n : ℕ) (h : Hunk) → (n ≡ 0 → ⊥) → HasLine (first_lines n h)
first_line n h z = let r = read_range h.side h in part_line h.side h (record { start = r.start; end = r.start + n }) (omega (arith, z))

later_line : (n : ℕ) (h : Hunk) → n < hunk_size h → HasLine (later_lines n h)
later_line n h p = let r = read_range h.side h in part_line h.side h (record { start = r.start + n; end = r.end }) (omega arith)

-- the back begins with a line
abbrev Begins : List Hunk → Type 0
Begins [] = Unit {0}
Begins (h ∷ hs) = HasLine h

begins_here : (n : ℕ) (h : Hunk) (hs : List Hunk) → n < hunk_size h → Begins (cut_here n h hs).behind
begins_here n h hs p = cond_both (eqb n 0) (record { ahead = []; behind = h ∷ hs }) (record { ahead = first_lines n h ∷ []; behind = later_lines n h ∷ hs }) (λ (c : Cut). Begins c.behind)
    (λ _. lines_there h (omega arith))
    (λ _. later_line n h p)

back_begins : (n : ℕ) (hs : List Hunk) → Begins (cut_back n hs).behind
back_begins n [] = tt
back_begins n (h ∷ hs) =
    let rest = back_begins (n - hunk_size h) hs in
    cond_both (leb (hunk_size h) n) (ahead_more h (cut_back (n - hunk_size h) hs)) (cut_here n h hs) (λ (c : Cut). Begins c.behind)
    (λ _. rest)
    (λ e. begins_here n h hs (leb-false (hunk_size h) n e))

begins_told : (hs : List Hunk) → Begins hs → (h : Hunk) (ys : List Hunk) → hs ≡ h ∷ ys → HasLine h
begins_told [] b h ys e = let z : ◌≡◌ {A = ℕ} 0 1 = cc in absurd (omega arith)
begins_told (x ∷ xs) b h ys e = let q : x ≡ h = cc in subst HasLine q b

-- the front ends in one, where it has as many lines as are asked for
abbrev sizes : List Hunk → ℕ
sizes [] = 0
sizes (h ∷ hs) = hunk_size h + sizes hs

-- the last hunk of a list behind h has a line
abbrev Ends : Hunk → List Hunk → Type 0
Ends h [] = HasLine h
Ends h (x ∷ xs) = Ends x xs

abbrev EndsIn : List Hunk → Type 0
EndsIn [] = Unit {0}
EndsIn (h ∷ hs) = Ends h hs

pub record EndingIn (n : ℕ) (hs : List Hunk) : Type 0 where
  pub none : n ≡ 0 → hs ≡ []
  pub some : 0 < n → (h : Hunk) × (xs : List Hunk) × (hs ≡ h ∷ xs) × Ends h xs

more_ends : (n : ℕ) (h : Hunk) (hs : List Hunk) → 0 < n → hunk_size h ≤ n → EndingIn (n - hunk_size h) hs → EndingIn n (h ∷ hs)
more_ends n h hs p q r = record { none = λ z. absurd (omega arith); some = λ _. (h, hs, refl, by (leb (hunk_size h) (n - 1)) refl) }
  where
    longer : (x : Hunk) × (xs : List Hunk) × (hs ≡ x ∷ xs) × Ends x xs → Ends h hs
    longer (x, xs, w, d) = subst (Ends h) (sym w) d

    by : (b : Bool) → leb (hunk_size h) (n - 1) ≡ b → Ends h hs
    by true e = let le = leb-true (hunk_size h) (n - 1) e in longer (r.some (omega arith))
    by false e =
        let lt = leb-false (hunk_size h) (n - 1) e in
        let l : HasLine h = lines_there h (omega arith) in
        subst (Ends h) (sym (r.none (omega arith))) l

here_ends : (n : ℕ) (h : Hunk) (hs : List Hunk) → ((n ≡ 0 → ⊥) → n < hunk_size h) → EndingIn n (cut_here n h hs).ahead
here_ends n h hs f = cond_both (eqb n 0) (record { ahead = []; behind = h ∷ hs }) (record { ahead = first_lines n h ∷ []; behind = later_lines n h ∷ hs }) (λ (c : Cut). EndingIn n c.ahead)
    (λ e. let z = eqb-true n 0 e in record { none = λ _. refl; some = λ p. absurd (omega arith) })
    (λ e. let z : n ≡ 0 → ⊥ = λ q. true≢false (sym (ap (λ (i : ℕ). eqb i 0) q) ∙ e) in record { none = λ q. absurd (z q); some = λ p. (first_lines n h, [], refl, first_line n h z) })

front_ends : (n : ℕ) (hs : List Hunk) → n ≤ sizes hs → EndingIn n (cut_front n hs).ahead
front_ends n [] p = record { none = λ _. refl; some = λ q. absurd (omega arith) }
front_ends n (h ∷ hs) p =
    let rest = front_ends (n - hunk_size h) hs (omega arith) in
    cond_both (leb (hunk_size h) n && not (eqb n 0)) (ahead_more h (cut_front (n - hunk_size h) hs)) (cut_here n h hs) (λ (c : Cut). EndingIn n c.ahead)
    (λ e.
    let q = and_parts (leb (hunk_size h) n) (not (eqb n 0)) e in
    let le = leb-true (hunk_size h) n q.0 in
    let z : n ≡ 0 → ⊥ = λ w. false≢true (sym (not-true (eqb n 0) q.1) ∙ ap (λ (i : ℕ). eqb i 0) w) in
    more_ends n h (cut_front (n - hunk_size h) hs).ahead (omega (arith, z)) le rest)
    (λ e. here_ends n h hs (not_whole n h e))

ends_last : (h : Hunk) (hs xs : List Hunk) (g : Hunk) → Ends h hs → h ∷ hs ≡ xs ++ (g ∷ []) → HasLine g
ends_last h [] [] g d e = let q : h ≡ g = cc in subst HasLine q d
ends_last h [] (x ∷ xs) g d e = absurd (no_snoc xs g (tail_of e))
  where
    tail_of : ◌≡◌ {A = List Hunk} (h ∷ []) (x ∷ (xs ++ (g ∷ []))) → [] ≡ xs ++ (g ∷ [])
    tail_of w = cc

    no_snoc : (ys : List Hunk) (k : Hunk) → ◌≡◌ {A = List Hunk} [] (ys ++ (k ∷ [])) → ⊥
    no_snoc ys k w = let n = ap length w ∙ length-append ys (k ∷ []) in absurd (omega arith)
ends_last h (y ∷ ys) [] g d e = let z : ◌≡◌ {A = List Hunk} (y ∷ ys) [] = cc in let n = ap length z in absurd (omega arith)
ends_last h (y ∷ ys) (x ∷ xs) g d e = let q : y ∷ ys ≡ xs ++ (g ∷ []) = cc in ends_last y ys xs g d q

ends_told : (n : ℕ) (hs : List Hunk) → EndingIn n hs → (xs : List Hunk) (g : Hunk) → hs ≡ xs ++ (g ∷ []) → HasLine g
ends_told n hs r xs g e = by (leb n 0) refl
  where
    by : (b : Bool) → leb n 0 ≡ b → HasLine g
    by true q =
        let le = leb-true n 0 q in
        let w = ap length (sym (r.none (omega arith)) ∙ e) ∙ length-append xs (g ∷ []) in
        absurd (omega arith)
    by false q =
        let lt = leb-false n 0 q in
        let (h, ys, w, d) = r.some (omega arith) in
        ends_last h ys xs g d (sym w ∙ e)

sizes_lines : (s : Sheets) (hs : List Hunk) → AllByRecursion (Whole s) hs → length (side_lines s hs) ≡ sizes hs
sizes_lines s [] w = refl
sizes_lines s (h ∷ hs) w = length-append (hunk_lines s h) (side_lines s hs) ∙ ap₂ ◌+◌ w.0 (sizes_lines s hs w.1)

side_cuts : (n m : ℕ) (hs : List Hunk) → n ≤ sizes hs → Cuts hs (cut_front n hs).ahead (cut_back m (cut_front n hs).behind).ahead (cut_back m (cut_front n hs).behind).behind
side_cuts n m hs p = record {
  rest = (cut_front n hs).behind;
  first_cut = front_cuts n hs;
  second_cut = back_cuts m (cut_front n hs).behind;
  front_ends = ends_told n (cut_front n hs).ahead (front_ends n hs p);
  back_begins = begins_told (cut_back m (cut_front n hs).behind).behind (back_begins m (cut_front n hs).behind);
}

-- the two sides
module _ (s : Sheets) (a b : List Hunk) (wa : AllByRecursion (Whole s) a) (wb : AllByRecursion (Whole s) b) where
  abbrev xs : List Line
  xs = side_lines s a

  abbrev ys : List Line
  ys = side_lines s b

  abbrev n : ℕ
  n = shared_front xs ys

  abbrev ra : List Hunk
  ra = (cut_front n a).behind

  abbrev rb : List Hunk
  rb = (cut_front n b).behind

  abbrev m : ℕ
  m = shared_back (side_lines s ra) (side_lines s rb)

  lead_cuts : Cuts a (contracted s a b).front (contracted s a b).lead (contracted s a b).back
  lead_cuts =
      let p = (front_le xs ys).0 in
      let e = sizes_lines s a wa in
      side_cuts n (length (side_lines s ra) - m) a (omega arith)

  back_whole : AllByRecursion (Whole s) (contracted s a b).back
  back_whole = (back_splits s (length (side_lines s ra) - m) ra (front_splits s n a wa).behind_whole).behind_whole

  facing_cuts : FacingCuts s b (contracted s a b).front (contracted s a b).facing (contracted s a b).back
  facing_cuts =
      let p = (front_le xs ys).1 in
      let e = sizes_lines s b wb in
      let fa = front_splits s n a wa in
      let fb = front_splits s n b wb in
      let la = length (side_lines s ra) in
      let lb = length (side_lines s rb) in
      let ba = back_splits s (la - m) ra fa.behind_whole in
      let bb = back_splits s (lb - m) rb fb.behind_whole in
      record {
        lost_front = (cut_front n b).ahead;
        lost_back = (cut_back (lb - m) rb).behind;
        same_front = fb.ahead_lines ∙ sym (front_take xs ys) ∙ sym fa.ahead_lines;
        same_back = bb.behind_lines ∙ sym (back_drop (side_lines s ra) (side_lines s rb)) ∙ sym ba.behind_lines;
        cuts = side_cuts n (lb - m) b (omega arith);
      }

-- whichever leads
pub record Led (s : Sheets) (k : Cluster) (b : Bool) (d : Sides) : Type 0 where
  pub ours : b ≡ true → Cuts (ours_of k) d.front d.left d.back × FacingCuts s (theirs_of k) d.front d.right d.back
  pub theirs : b ≡ false → Cuts (theirs_of k) d.front d.right d.back × FacingCuts s (ours_of k) d.front d.left d.back
  pub begins : (h : Hunk) (ys : List Hunk) → d.back ≡ h ∷ ys → HasLine h
  pub whole : AllByRecursion (Whole s) d.back

pub led_cuts : (s : Sheets) (k : Cluster) (b : Bool) → AllByRecursion (Whole s) (ours_of k) → AllByRecursion (Whole s) (theirs_of k) → Led s k b (contracted_by s b k)
led_cuts s k true wo wt = record {
  ours = λ _. (lead_cuts s (ours_of k) (theirs_of k) wo wt, facing_cuts s (ours_of k) (theirs_of k) wo wt);
  theirs = λ e. absurd (true≢false e);
  begins = (lead_cuts s (ours_of k) (theirs_of k) wo wt).back_begins;
  whole = back_whole s (ours_of k) (theirs_of k) wo wt;
}
led_cuts s k false wo wt = record {
  ours = λ e. absurd (false≢true e);
  theirs = λ _. (lead_cuts s (theirs_of k) (ours_of k) wt wo, facing_cuts s (theirs_of k) (ours_of k) wt wo);
  begins = (lead_cuts s (theirs_of k) (ours_of k) wt wo).back_begins;
  whole = back_whole s (theirs_of k) (ours_of k) wt wo;
}

-- a back without lines is none at all
no_lines_there : (s : Sheets) (hs : List Hunk) → AllByRecursion (Whole s) hs → ((h : Hunk) (ys : List Hunk) → hs ≡ h ∷ ys → HasLine h) → side_lines s hs ≡ [] → hs ≡ []
no_lines_there s [] w f e = refl
no_lines_there s (h ∷ hs) w f e =
    let p : HasLine h = f h hs refl in
    let n = ap length e ∙ refl in
    let q = length-append (hunk_lines s h) (side_lines s hs) in
    let x : length (hunk_lines s h) ≡ hunk_size h = w.0 in
    absurd (omega arith)

pub no_back_left : (s : Sheets) (k : Cluster) (b : Bool) (d : Sides) → Led s k b d → side_lines s d.back ≡ [] → d.back ≡ []
no_back_left s k b d r e = no_lines_there s d.back r.whole r.begins e
