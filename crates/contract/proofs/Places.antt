-- Where a cut falls, and what it leaves ahead and behind.
use Rattle.std.proofs.Common.{◌≡◌, ℕ, suc, ◌+◌, ◌-◌, ◌<◌, ◌≤◌, Bool, true, false, cond, not, eqb, leb, ◌⊎◌, List, [], ◌∷◌, ◌++◌, length, get_or, take, drop, sym, refl, ap, ◌∙◌, inl, inr, arith}
use Rattle.std.proofs.lemmas.List.{at_drop_more, at_drop_all}
use Rattle.std.proofs.lemmas.Bool.{leb-false, eqb-true, and_cases, not-false, cond-true, cond-false}
use Rattle.rules.specs.declared.hunk.Hunk.{Hunk}
use Rattle.contract.specs.declared.place.Ahead.{Ahead}
use Rattle.contract.specs.declared.place.Ahead.TheVariants.{Leaves, Stays}
use Rattle.contract.specs.declared.place.Place.{Place}
use Rattle.contract.specs.Places.{place_of, one_more, passes, place, ahead_at, behind_at, Placed}
use Rattle.reading.specs.Reading.{no_hunk}
use Rattle.rules.specs.Contraction.{hunk_size, first_lines, Cut, ahead_more, cut_here, cut_front, cut_back}

-- so many hunks more
abbrev pub plus : ℕ → Place → Place
plus w p = place_of (w + p.whole) p.lines

plus_more : (w : ℕ) (p : Place) → plus w (one_more p) ≡ plus (w + 1) p
plus_more w p = ap (λ (v : ℕ). place_of v p.lines) (let q : w + suc p.whole ≡ w + 1 + p.whole = omega arith in q)

plus_none : (w r : ℕ) → plus w (place_of 0 r) ≡ place_of w r
plus_none w r = ap (λ (v : ℕ). place_of v r) (let q : w + 0 ≡ w = omega arith in q)

-- the cut goes past hunk i, stops ahead of it, or lies behind them all
module _ (a : Ahead) (n : ℕ) (hs : List Hunk) (i w r : ℕ) (e : place a n hs ≡ plus w (place a r (drop i hs))) where
  abbrev here : Hunk
  here = get_or hs i no_hunk

  abbrev rest : Place
  rest = place a (r - hunk_size here) (drop (i + 1) hs)

  pub past : i < length hs → passes a r here ≡ true → place a n hs ≡ plus (w + 1) rest
  past lt t =
      let m : place a r (drop i hs) ≡ one_more rest = at_drop_more (place a r) hs i no_hunk lt ∙ cond-true _ (one_more rest) (place_of 0 r) t in
      e ∙ (ap (plus w) m ∙ plus_more w rest)

  pub halt : i < length hs → passes a r here ≡ false → place_of w r ≡ place a n hs
  halt lt t =
      let m : place a r (drop i hs) ≡ place_of 0 r = at_drop_more (place a r) hs i no_hunk lt ∙ cond-false _ (one_more rest) (place_of 0 r) t in
      sym (e ∙ (ap (plus w) m ∙ plus_none w r))

  pub end : length hs ≤ i → place_of w 0 ≡ place a n hs
  end le = sym (e ∙ (ap (plus w) (at_drop_all (place a r) hs i le) ∙ plus_none w 0))

-- a cut, by what becomes of the lines ahead of it
abbrev pub cut : Ahead → ℕ → List Hunk → Cut
cut Leaves = cut_front
cut Stays = cut_back

-- a cut, by its place
pub record CutAt (c : Cut) (p : Place) (hs : List Hunk) : Type 0 where
  pub ahead : c.ahead ≡ ahead_at p hs
  pub behind : c.behind ≡ behind_at p hs

cut_none : CutAt (record { ahead = []; behind = [] }) (place_of 0 0) []
cut_none = record { ahead = refl; behind = refl }

cut_more : (b : Bool) (h x : Hunk) (hs : List Hunk) → h ∷ cond b hs (hs ++ (x ∷ [])) ≡ cond b (h ∷ hs) (h ∷ (hs ++ (x ∷ [])))
cut_more true h x hs = refl
cut_more false h x hs = refl

cond_ahead : (b : Bool) (x y : Cut) → (cond b x y).ahead ≡ cond b x.ahead y.ahead
cond_ahead true x y = refl
cond_ahead false x y = refl

cond_behind : (b : Bool) (x y : Cut) → (cond b x y).behind ≡ cond b x.behind y.behind
cond_behind true x y = refl
cond_behind false x y = refl

cut_step : (t : Bool) (n : ℕ) (h : Hunk) (hs : List Hunk) (c : Cut) (p : Place) → CutAt c p hs → CutAt (cond t (ahead_more h c) (cut_here n h hs)) (cond t (one_more p) (place_of 0 n)) (h ∷ hs)
cut_step true n h hs c p r = record {
  ahead = ap (λ (v : List Hunk). h ∷ v) r.ahead ∙ cut_more (eqb p.lines 0) h (first_lines p.lines (get_or hs p.whole no_hunk)) (take p.whole hs);
  behind = r.behind;
}
cut_step false n h hs c p r = record { ahead = cond_ahead (eqb n 0) _ _; behind = cond_behind (eqb n 0) _ _ }

pub cut_at : (a : Ahead) (n : ℕ) (hs : List Hunk) → CutAt (cut a n hs) (place a n hs) hs
cut_at Leaves n [] = cut_none
cut_at Leaves n (h ∷ hs) = cut_step (passes Leaves n h) n h hs (cut_front (n - hunk_size h) hs) (place Leaves (n - hunk_size h) hs) (cut_at Leaves (n - hunk_size h) hs)
cut_at Stays n [] = cut_none
cut_at Stays n (h ∷ hs) = cut_step (passes Stays n h) n h hs (cut_back (n - hunk_size h) hs) (place Stays (n - hunk_size h) hs) (cut_at Stays (n - hunk_size h) hs)

pub cut_behind : (a : Ahead) (n : ℕ) (hs : List Hunk) → (cut a n hs).behind ≡ behind_at (place a n hs) hs
cut_behind a n hs = (cut_at a n hs).behind

placed_step : (t : Bool) (n : ℕ) (h : Hunk) (hs : List Hunk) (p : Place) → (t ≡ false → n ≤ hunk_size h) → Placed p hs → Placed (cond t (one_more p) (place_of 0 n)) (h ∷ hs)
placed_step true n h hs p f r = let q = r.hunks in record { hunks = omega arith; lines = r.lines }
placed_step false n h hs p f r = record { hunks = omega arith; lines = f refl }

halted : (a : Ahead) (n : ℕ) (h : Hunk) → passes a n h ≡ false → n ≤ hunk_size h
halted Leaves n h e = by (and_cases (leb (hunk_size h) n) (not (eqb n 0)) e)
  where
    by : (leb (hunk_size h) n ≡ false) ⊎ (not (eqb n 0) ≡ false) → n ≤ hunk_size h
    by (inl p) = let k = leb-false (hunk_size h) n p in omega arith
    by (inr p) = let k = eqb-true n 0 (not-false (eqb n 0) p) in omega arith
halted Stays n h e = let k = leb-false (hunk_size h) n e in omega arith

pub placed : (a : Ahead) (n : ℕ) (hs : List Hunk) → Placed (place a n hs) hs
placed a n [] = record { hunks = omega arith; lines = omega arith }
placed a n (h ∷ hs) = placed_step (passes a n h) n h hs (place a (n - hunk_size h) hs) (halted a n h) (placed a (n - hunk_size h) hs)
