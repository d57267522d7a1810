-- What a cut makes of the lines.
use Rattle.std.proofs.Common.{◌≡◌, ℕ, ◌+◌, ◌-◌, ◌≤◌, Bool, true, false, cond, not, ◌&&◌, eqb, leb, ◌⊎◌, List, [], ◌∷◌, length, take, drop, sym, refl, ◌∙◌, inl, inr, append-nil, arith, length-drop, take-take, drop-drop}
use lib.Seq.{take-nil, drop-nil, take-append-le, drop-append-le, take-append-add, drop-append-add}
use Rattle.std.specs.List.{AllByRecursion}
use Rattle.std.proofs.lemmas.List.{drop-take}
use Rattle.std.proofs.lemmas.Bool.{leb-true, leb-false, eqb-true, and_parts, and_cases, not-false}
use Rattle.rules.specs.declared.hunk.Hunk.{Hunk}
use Rattle.rules.specs.declared.hunk.Side.{Side}
use Rattle.rules.specs.declared.hunk.Side.TheVariants.{Current, Other, Ancestor}
use Rattle.rules.specs.declared.hunk.Span.{Span}
use Rattle.rules.specs.Lines.{Line, between}
use Rattle.rules.specs.Hunks.{Sheets, hunk_lines, lines_by, side_lines}
use Rattle.rules.specs.Contraction.{read_range, hunk_size, reading, first_lines, later_lines, Cut, ahead_more, cut_here, cut_front, cut_back}

between_front : (ls : List Line) (a b n : ℕ) → n ≤ b - a → between ls a (a + n) ≡ take n (between ls a b)
between_front ls a b n h =
    let k : (a + n) - a ≡ n = omega arith in
    rw k (sym (take-take n (b - a) (drop a ls) h))

between_back : (ls : List Line) (a b n : ℕ) → n ≤ b - a → between ls (a + n) b ≡ drop n (between ls a b)
between_back ls a b n h =
    let k : b - a ≡ n + (b - (a + n)) = omega arith in
    rw k (rw (drop-take n (b - (a + n)) (drop a ls)) (rw (drop-drop n a ls)))

-- a part of a hunk
first_by : (sd : Side) (s : Sheets) (h : Hunk) (n : ℕ) → n ≤ (read_range sd h).end - (read_range sd h).start
    → hunk_lines s (reading sd h (record { start = (read_range sd h).start; end = (read_range sd h).start + n })) ≡ take n (lines_by s sd h)
first_by Current s h n e = between_front s.current h.after.start h.after.end n e
first_by Other s h n e = between_front s.other h.after.start h.after.end n e
first_by Ancestor s h n e = between_front s.ancestor h.before.start h.before.end n e

later_by : (sd : Side) (s : Sheets) (h : Hunk) (n : ℕ) → n ≤ (read_range sd h).end - (read_range sd h).start
    → hunk_lines s (reading sd h (record { start = (read_range sd h).start + n; end = (read_range sd h).end })) ≡ drop n (lines_by s sd h)
later_by Current s h n e = between_back s.current h.after.start h.after.end n e
later_by Other s h n e = between_back s.other h.after.start h.after.end n e
later_by Ancestor s h n e = between_back s.ancestor h.before.start h.before.end n e

later_size : (sd : Side) (h : Hunk) (r : Span) → hunk_size (reading sd h r) ≡ r.end - r.start
later_size Current h r = refl
later_size Other h r = refl
later_size Ancestor h r = refl

-- a hunk whose sheet has all of its lines
abbrev pub Whole : Sheets → Hunk → Type 0
Whole s h = length (hunk_lines s h) ≡ hunk_size h

later_whole : (s : Sheets) (h : Hunk) (n : ℕ) → n ≤ hunk_size h → Whole s h → Whole s (later_lines n h)
later_whole s h n le w =
    rw (later_by h.side s h n le) (rw (length-drop, later_size) (omega arith))

pub record Splits (s : Sheets) (n : ℕ) (hs : List Hunk) (c : Cut) : Type 0 where
  pub ahead_lines : side_lines s c.ahead ≡ take n (side_lines s hs)
  pub behind_lines : side_lines s c.behind ≡ drop n (side_lines s hs)
  pub behind_whole : AllByRecursion (Whole s) c.behind

none_splits : (s : Sheets) (n : ℕ) → Splits s n [] (record { ahead = []; behind = [] })
none_splits s n = record { ahead_lines = sym (take-nil n); behind_lines = sym (drop-nil n); behind_whole = tt }

more_splits : (s : Sheets) (n : ℕ) (h : Hunk) (hs : List Hunk) (c : Cut) → Whole s h → hunk_size h ≤ n → Splits s (n - hunk_size h) hs c → Splits s n (h ∷ hs) (ahead_more h c)
more_splits s n h hs c w le p =
    let k : n ≡ length (hunk_lines s h) + (n - hunk_size h) = omega arith in
    record {
      ahead_lines = rw k (rw p.ahead_lines (sym (take-append-add (hunk_lines s h) (side_lines s hs) (n - hunk_size h))));
      behind_lines = rw k (p.behind_lines ∙ sym (drop-append-add (hunk_lines s h) (side_lines s hs) (n - hunk_size h)));
      behind_whole = p.behind_whole;
    }

-- a cut within the first hunk, or ahead of it
here_splits : (s : Sheets) (n : ℕ) (h : Hunk) (hs : List Hunk) → Whole s h → AllByRecursion (Whole s) hs → n ≤ hunk_size h → Splits s n (h ∷ hs) (cut_here n h hs)
here_splits s n h hs w ws le = go (eqb n 0) (eqb-true n 0)
  where
    go : (b : Bool) → (b ≡ true → n ≡ 0) → Splits s n (h ∷ hs) (cond b (record { ahead = []; behind = h ∷ hs }) (record { ahead = first_lines n h ∷ []; behind = later_lines n h ∷ hs }))
    go true e =
        let z = e refl in
        record {
          ahead_lines = rw z;
          behind_lines = rw z;
          behind_whole = (w, ws);
        }
    go false e =
        let len : n ≤ length (hunk_lines s h) = omega arith in
        record {
          ahead_lines = rw (first_by h.side s h n le) (append-nil (take n (hunk_lines s h)) ∙ sym (take-append-le n (hunk_lines s h) (side_lines s hs) len));
          behind_lines = rw (later_by h.side s h n le) (sym (drop-append-le n (hunk_lines s h) (side_lines s hs) len));
          behind_whole = (later_whole s h n le w, ws);
        }

pick : (s : Sheets) (n : ℕ) (h : Hunk) (hs : List Hunk) (x y : Cut) (b : Bool) → (b ≡ true → Splits s n (h ∷ hs) x) → (b ≡ false → Splits s n (h ∷ hs) y) → Splits s n (h ∷ hs) (cond b x y)
pick s n h hs x y true p q = p refl
pick s n h hs x y false p q = q refl

stays : (n : ℕ) (h : Hunk) → (leb (hunk_size h) n && not (eqb n 0)) ≡ false → n ≤ hunk_size h
stays n h e = by (and_cases (leb (hunk_size h) n) (not (eqb n 0)) e)
  where
    by : (leb (hunk_size h) n ≡ false) ⊎ (not (eqb n 0) ≡ false) → n ≤ hunk_size h
    by (inl p) = let k = leb-false (hunk_size h) n p in omega arith
    by (inr p) = let k = eqb-true n 0 (not-false (eqb n 0) p) in omega arith

pub front_splits : (s : Sheets) (n : ℕ) (hs : List Hunk) → AllByRecursion (Whole s) hs → Splits s n hs (cut_front n hs)
front_splits s n [] w = none_splits s n
front_splits s n (h ∷ hs) w =
    let rest = front_splits s (n - hunk_size h) hs w.1 in
    pick s n h hs (ahead_more h (cut_front (n - hunk_size h) hs)) (cut_here n h hs) (leb (hunk_size h) n && not (eqb n 0))
    (λ e. more_splits s n h hs (cut_front (n - hunk_size h) hs) w.0 (leb-true (hunk_size h) n (and_parts (leb (hunk_size h) n) (not (eqb n 0)) e).0) rest)
    (λ e. here_splits s n h hs w.0 w.1 (stays n h e))

pub back_splits : (s : Sheets) (n : ℕ) (hs : List Hunk) → AllByRecursion (Whole s) hs → Splits s n hs (cut_back n hs)
back_splits s n [] w = none_splits s n
back_splits s n (h ∷ hs) w =
    let rest = back_splits s (n - hunk_size h) hs w.1 in
    pick s n h hs (ahead_more h (cut_back (n - hunk_size h) hs)) (cut_here n h hs) (leb (hunk_size h) n)
    (λ e. more_splits s n h hs (cut_back (n - hunk_size h) hs) w.0 (leb-true (hunk_size h) n e) rest)
    (λ e. here_splits s n h hs w.0 w.1 (let k = leb-false (hunk_size h) n e in omega arith))
