-- Which lines hunks stand for, and what fills a group's sides.
use Rattle.std.proofs.Common.{◌≡◌, ℕ, ◌-◌, ◌≤◌, Bool, true, false, ltb, List, [], ◌∷◌, ◌++◌, length, take, drop, sym, refl, ap, ◌∙◌, subst, ap₂, arith, length-drop, take-append-drop, length-take}
use Rattle.std.proofs.lemmas.List.{append-nil}
use Rattle.std.proofs.lemmas.Bool.{cond_both}
use Rattle.std.proofs.lemmas.List.Elements.{filter-append}
use Rattle.rules.specs.declared.hunk.Hunk.{Hunk}
use Rattle.rules.specs.declared.hunk.Side.{Side}
use Rattle.rules.specs.declared.hunk.Side.TheVariants.{Current, Other, Ancestor}
use Rattle.rules.specs.Lines.{Line, between}
use Rattle.rules.specs.Hunks.{Sheets, hunk_lines, lines_by, side_lines}
use Rattle.rules.specs.Walk.{picked, is_current, is_other, currents, others}
use Rattle.rules.specs.Groups.{from, to, members, Cluster}
use Rattle.rules.specs.Filling.{stretch, filled, side_of}
use Rattle.rules.specs.PutIn.{put_between}
use Rattle.rules.specs.HunkLaws.{HunkLaws, RangeOf}
use Rattle.rules.proofs.Texts.{between_rest, side_lines_append, stretch_lines}

range_of : (ls : List Line) (a b : ℕ) → a ≤ b → b ≤ length ls → RangeOf ls a b (between ls a b)
range_of ls a b p q = record {
  ahead = take a ls;
  behind = drop b ls;
  whole = sym (take-append-drop a ls) ∙ ap (λ (r : List Line). take a ls ++ r) (sym (between_rest ls a b p));
  starts = rw (length-take a ls) (omega arith);
  ends = rw (length-take a ls) (rw (length-take (b - a) (drop a ls)) (rw (length-drop a ls) (omega arith)));
}

by_side : (s : Sheets) (h : Hunk) (side : Side) → h.side ≡ side → hunk_lines s h ≡ lines_by s side h
by_side s h side e = ap (λ (x : Side). lines_by s x h) e

filled_put : (s : Sheets) (a b : ℕ) (hs : List Hunk) → side_lines s (filled a b hs) ≡ put_between s a b hs
filled_put s a b [] = stretch_lines s a b
filled_put s a b (h ∷ hs) =
    side_lines_append s (stretch a h.before.start) (h ∷ filled h.before.end b hs)
    ∙ ap₂ (λ (x y : List Line). x ++ (hunk_lines s h ++ y)) (stretch_lines s a h.before.start) (filled_put s h.before.end b hs)

-- a test that no Ancestor hunk passes
module _ (f : Side → Bool) (no : f Ancestor ≡ false) where
  no_stretch : (a b : ℕ) → picked f (stretch a b) ≡ []
  no_stretch a b = cond_both (ltb a b) (record { before = record { start = a; end = b }; after = record { start = a; end = b }; side = Ancestor } ∷ []) [] (λ hs. picked f hs ≡ []) (λ _. rw no) (λ _. refl)

  one_more : (h : Hunk) (xs ys : List Hunk) (b : Bool) → f h.side ≡ b → picked f xs ≡ picked f ys → picked f (h ∷ xs) ≡ picked f (h ∷ ys)
  one_more h xs ys true e q = rw e (ap (λ (x : List Hunk). h ∷ x) q)
  one_more h xs ys false e q = rw e q

  picked_filled : (a b : ℕ) (hs : List Hunk) → picked f (filled a b hs) ≡ picked f hs
  picked_filled a b [] = no_stretch a b
  picked_filled a b (h ∷ hs) =
      filter-append (λ (x : Hunk). f x.side) (stretch a h.before.start) (h ∷ filled h.before.end b hs)
      ∙ ap (λ (x : List Hunk). x ++ picked f (h ∷ filled h.before.end b hs)) (no_stretch a h.before.start)
      ∙ one_more h (filled h.before.end b hs) hs (f h.side) refl (picked_filled h.before.end b hs)

  again : (h : Hunk) (hs : List Hunk) (b : Bool) → f h.side ≡ b → picked f (picked f hs) ≡ picked f hs → picked f (picked f (h ∷ hs)) ≡ picked f (h ∷ hs)
  again h hs true e q = rw e (rw e (ap (λ (x : List Hunk). h ∷ x) q))
  again h hs false e q = rw e q

  picked_twice : (hs : List Hunk) → picked f (picked f hs) ≡ picked f hs
  picked_twice [] = refl
  picked_twice (h ∷ hs) = again h hs (f h.side) refl (picked_twice hs)

  side_picked : (k : Cluster) → picked f (side_of f k) ≡ picked f (members k)
  side_picked k = picked_filled (from k) (to k) (picked f (members k)) ∙ picked_twice (members k)

pub hunk_laws : (s : Sheets) → HunkLaws s
hunk_laws s = record {
  sheets = (refl, refl, refl);
  current = λ h e p q. subst (RangeOf s.current h.after.start h.after.end) (sym (by_side s h Current e)) (range_of s.current h.after.start h.after.end p q);
  other = λ h e p q. subst (RangeOf s.other h.after.start h.after.end) (sym (by_side s h Other e)) (range_of s.other h.after.start h.after.end p q);
  ancestor = λ h e p q. subst (RangeOf s.ancestor h.before.start h.before.end) (sym (by_side s h Ancestor e)) (range_of s.ancestor h.before.start h.before.end p q);
  none = refl;
  more = λ hs h. side_lines_append s hs (h ∷ []) ∙ ap (λ (x : List Line). side_lines s hs ++ x) (append-nil (hunk_lines s h));
  ours_filled = λ k. filled_put s (from k) (to k) (currents (members k));
  theirs_filled = λ k. filled_put s (from k) (to k) (others (members k));
  ours_hunks = side_picked is_current refl;
  theirs_hunks = side_picked is_other refl;
}
