-- What an exchange of sides makes of the lines, of the outline and of the verdict.
use Rattle.std.proofs.Common.{◌≡◌, ℕ, suc, Bool, true, false, cond, not, ◌&&◌, ◌||◌, ltb, List, [], ◌∷◌, ◌++◌, map, length, drop, sym, refl, ap, ◌∙◌, ap₂}
use mathlib.Core.List.{map-append}
use Rattle.std.proofs.lemmas.Bool.{cond_both}
use Rattle.rules.specs.declared.hunk.Hunk.{Hunk}
use Rattle.rules.specs.declared.hunk.Side.{Side}
use Rattle.rules.specs.declared.hunk.Side.TheVariants.{Current, Other, Ancestor}
use Rattle.rules.specs.declared.mode.Conflict as modes
use Rattle.rules.specs.declared.mode.Conflict.TheVariants.{Keep, ResolveWithOurs, ResolveWithTheirs, ResolveWithUnion}
use Rattle.rules.specs.declared.mode.ConflictStyle.{ConflictStyle}
use Rattle.rules.specs.declared.mode.Resolution.TheVariants.{Complete, CompleteWithAutoResolvedConflict, Conflict}
use Rattle.rules.specs.Lines.{Line, between, same_lines}
use Rattle.rules.specs.SharedLines.{shared_start, shared_end, middle}
use Rattle.rules.specs.Hunks.{Sheets, lines_by, hunk_lines, side_lines}
use Rattle.rules.specs.Walk.{walk, currents, others}
use Rattle.rules.specs.Groups.{Cluster, clusters, members, is_group, from, to}
use Rattle.rules.specs.Filling.{stretch, filled, sides_differ, ours_lines, theirs_lines}
use Rattle.rules.specs.Sides.{contracts, with_base}
use Rattle.rules.specs.Markers.{Labels}
use Rattle.rules.specs.Rendering.{rendering}
use Rattle.rules.specs.Verdict.{verdict}
use Rattle.rules.specs.Outline.{Item, line, block, outline}
use Rattle.rules.specs.GroupOutline.{drawn_in, block_items, base_part, group_items, cluster_items, items}
use Rattle.rules.specs.Exchange.{exchanged_item, facing_side, exchanged_hunk, exchanged_sheets, exchanged_mode}
use Rattle.rules.specs.Order.{InOrder, Kept}
use Rattle.rules.specs.WalkLaws.{Pairwise}
use Rattle.rules.specs.GroupLaws.{Exchanged}
use Rattle.rules.specs.VerdictLaws.{some_group_differs}
use Rattle.rules.proofs.Exchange.{exchange_keeps_groups}
use Rattle.rules.proofs.Outlines.{outlined}
use Rattle.rules.proofs.Shared.{same_line_sym, same_lines_true, start_sym, end_sym}
use Rattle.rules.proofs.Verdicts.{keep_verdict, ours_verdict, theirs_verdict}
use Rattle.rules.proofs.Words.{union_verdict}

-- the hunks are kept
side_turned : (side : Side) (na ns b a : ℕ) (hs : List Hunk) → InOrder side na ns b a hs → InOrder (facing_side side) na ns b a (map exchanged_hunk hs)
side_turned side na ns b a [] p = tt
side_turned side na ns b a (h ∷ hs) p =
    (ap facing_side p.0, p.1, p.2, p.3, p.4, p.5, p.6, side_turned side na ns (suc h.before.end) h.after.end hs p.7)

pub kept_turned : (s : Sheets) (cs os : List Hunk) → Kept s cs os → Kept (exchanged_sheets s) (map exchanged_hunk os) (map exchanged_hunk cs)
kept_turned s cs os p = record {
  current = side_turned Other (length s.ancestor) (length s.other) 0 0 os p.other;
  other = side_turned Current (length s.ancestor) (length s.current) 0 0 cs p.current;
}

-- the lines of a side
stretch_turned : (a b : ℕ) → map exchanged_hunk (stretch a b) ≡ stretch a b
stretch_turned a b =
    cond_both (ltb a b) (record { before = record { start = a; end = b }; after = record { start = a; end = b }; side = Ancestor } ∷ []) [] (λ hs. map exchanged_hunk hs ≡ hs) (λ _. refl) (λ _. refl)

filled_turned : (a b : ℕ) (hs : List Hunk) → filled a b (map exchanged_hunk hs) ≡ map exchanged_hunk (filled a b hs)
filled_turned a b [] = sym (stretch_turned a b)
filled_turned a b (h ∷ hs) =
    ap₂ (λ (x y : List Hunk). x ++ (exchanged_hunk h ∷ y)) (sym (stretch_turned a h.before.start)) (filled_turned h.before.end b hs)
    ∙ sym (map-append exchanged_hunk (stretch a h.before.start) (h ∷ filled h.before.end b hs))

same_filled : {a a' b b' : ℕ} {hs hs' : List Hunk} → a ≡ a' → b ≡ b' → hs ≡ hs' → filled a b hs ≡ filled a' b' hs'
same_filled p q r = cc

same_lines_sym : (x y : List Line) → same_lines x y ≡ same_lines y x
same_lines_sym [] [] = refl
same_lines_sym [] (y ∷ ys) = refl
same_lines_sym (x ∷ xs) [] = refl
same_lines_sym (x ∷ xs) (y ∷ ys) = ap₂ ◌&&◌ (same_line_sym x y) (same_lines_sym xs ys)

module _ (s : Sheets) where
  by_side : (sd : Side) (h : Hunk) → lines_by (exchanged_sheets s) (facing_side sd) (exchanged_hunk h) ≡ lines_by s sd h
  by_side Current h = refl
  by_side Other h = refl
  by_side Ancestor h = refl

  side_lines_turned : (hs : List Hunk) → side_lines (exchanged_sheets s) (map exchanged_hunk hs) ≡ side_lines s hs
  side_lines_turned [] = refl
  side_lines_turned (h ∷ hs) = ap₂ ◌++◌ (by_side h.side h) (side_lines_turned hs)

  module _ (k k' : Cluster) (e : Exchanged k k') where
    ours_turned : ours_lines (exchanged_sheets s) k' ≡ theirs_lines s k
    ours_turned = ap (side_lines (exchanged_sheets s)) (same_filled e.same_from e.same_to e.their_hunks ∙ filled_turned (from k) (to k) (others (members k)))
        ∙ side_lines_turned (filled (from k) (to k) (others (members k)))

    theirs_turned : theirs_lines (exchanged_sheets s) k' ≡ ours_lines s k
    theirs_turned = ap (side_lines (exchanged_sheets s)) (same_filled e.same_from e.same_to e.our_hunks ∙ filled_turned (from k) (to k) (currents (members k)))
        ∙ side_lines_turned (filled (from k) (to k) (currents (members k)))

    pub differ_turned : sides_differ (exchanged_sheets s) k' ≡ sides_differ s k
    differ_turned = ap₂ (λ (x y : List Line). not (same_lines x y)) ours_turned theirs_turned ∙ ap not (same_lines_sym (theirs_lines s k) (ours_lines s k))

-- the outline, item by item
items_turned : (ls : List Line) → map exchanged_item (map line ls) ≡ map line ls
items_turned [] = refl
items_turned (l ∷ ls) = ap (λ (is : List Item). line l ∷ is) (items_turned ls)

-- whichever side leads, the two share the same lines at both ends
drawn_turned : (xs b ys : List Line) → drawn_in ys b xs ≡ map exchanged_item (drawn_in xs b ys)
drawn_turned xs b ys =
    let m : Item = block (middle ys xs) b (middle xs ys) in
    ap₂ (λ (u v : List Line). map line u ++ (m ∷ map line v)) (start_sym ys xs) (end_sym ys xs)
    ∙ ap₂ (λ (u v : List Item). u ++ (m ∷ v)) (sym (items_turned (shared_start xs ys))) (sym (items_turned (shared_end xs ys)))
    ∙ sym (map-append exchanged_item (map line (shared_start xs ys)) (block (middle xs ys) b (middle ys xs) ∷ map line (shared_end xs ys)))

blocks_turned : (c : Bool) (xs b ys : List Line) → cond c (drawn_in ys b xs) (block ys b xs ∷ []) ≡ map exchanged_item (cond c (drawn_in xs b ys) (block xs b ys ∷ []))
blocks_turned true xs b ys = drawn_turned xs b ys
blocks_turned false xs b ys = refl

group_turned : (st : ConflictStyle) (xs b ys : List Line) (d : Bool) → same_lines xs ys ≡ d
    → cond (not d) (block_items st ys b xs) (map line ys) ≡ map exchanged_item (cond (not d) (block_items st xs b ys) (map line xs))
group_turned st xs b ys true q = ap (map line) (sym (same_lines_true xs ys q)) ∙ sym (items_turned xs)
group_turned st xs b ys false q = blocks_turned (contracts st) xs b ys

module _ (st : ConflictStyle) (s : Sheets) where
  base_turned : (k k' : Cluster) → Exchanged k k' → base_part st (exchanged_sheets s) k' ≡ base_part st s k
  base_turned k k' e = ap₂ (λ (a b : ℕ). cond (with_base st) (between s.ancestor a b) []) e.same_from e.same_to

  whole_turned : (k k' : Cluster) → Exchanged k k' → group_items st (exchanged_sheets s) k' ≡ map exchanged_item (group_items st s k)
  whole_turned k k' e =
      let eo = ours_turned s k k' e in
      let et = theirs_turned s k k' e in
      let eb = base_turned k k' e in
      let ed = differ_turned s k k' e in
      let step : group_items st (exchanged_sheets s) k' ≡ cond (sides_differ s k) (block_items st (theirs_lines s k) (base_part st s k) (ours_lines s k)) (map line (theirs_lines s k)) = cc in
      step ∙ group_turned st (ours_lines s k) (base_part st s k) (theirs_lines s k) (same_lines (ours_lines s k) (theirs_lines s k)) refl

  cluster_turned : (k k' : Cluster) → Exchanged k k' → cluster_items st (exchanged_sheets s) k' ≡ map exchanged_item (cluster_items st s k)
  cluster_turned k k' e = ap (λ (b : Bool). cond b (group_items st (exchanged_sheets s) k') (map line (hunk_lines (exchanged_sheets s) k'.first))) e.same_group ∙ by (is_group k) refl
    where
      by : (b : Bool) → is_group k ≡ b
          → cond b (group_items st (exchanged_sheets s) k') (map line (hunk_lines (exchanged_sheets s) k'.first)) ≡ map exchanged_item (cond b (group_items st s k) (map line (hunk_lines s k.first)))
      by true q = whole_turned k k' e
      by false q = ap (map line) (ap (hunk_lines (exchanged_sheets s)) (e.same_lone q) ∙ by_side s k.first.side k.first) ∙ sym (items_turned (hunk_lines s k.first))

  all_turned : (n : ℕ) (ks ks' : List Cluster) → Pairwise Exchanged ks ks' → items st (exchanged_sheets s) n ks' ≡ map exchanged_item (items st s n ks)
  all_turned n [] [] p = sym (items_turned (drop n s.ancestor))
  all_turned n [] (k' ∷ ks') p = absurd p
  all_turned n (k ∷ ks) [] p = absurd p
  all_turned n (k ∷ ks) (k' ∷ ks') p =
      let ls = between s.ancestor n (from k) in
      let er : items st (exchanged_sheets s) (to k') ks' ≡ map exchanged_item (items st s (to k) ks) = ap (λ (i : ℕ). items st (exchanged_sheets s) i ks') p.0.same_to ∙ all_turned (to k) ks ks' p.1 in
      ap₂ ◌++◌ (ap (λ (i : ℕ). map line (between s.ancestor n i)) p.0.same_from ∙ sym (items_turned ls))
      (ap₂ ◌++◌ (cluster_turned k k' p.0) er ∙ sym (map-append exchanged_item (cluster_items st s k) (items st s (to k) ks)))
      ∙ sym (map-append exchanged_item (map line ls) (cluster_items st s k ++ items st s (to k) ks))

some_turned : (s : Sheets) (ks ks' : List Cluster) → Pairwise Exchanged ks ks' → some_group_differs (exchanged_sheets s) ks' ≡ some_group_differs s ks
some_turned s [] [] p = refl
some_turned s [] (k' ∷ ks') p = absurd p
some_turned s (k ∷ ks) [] p = absurd p
some_turned s (k ∷ ks) (k' ∷ ks') p = ap₂ ◌||◌ (ap₂ ◌&&◌ p.0.same_group (differ_turned s k k' p.0)) (some_turned s ks ks' p.1)

module _ (s : Sheets) (cs os : List Hunk) (p : Kept s cs os) where
  pub same_outline : (st : ConflictStyle) (n n' : ℕ) (l l' : Labels)
      → outline st l' (rendering (Keep st n') (exchanged_sheets s) l' (map exchanged_hunk os) (map exchanged_hunk cs)) ≡ map exchanged_item (outline st l (rendering (Keep st n) s l cs os))
  same_outline st n n' l l' =
      outlined (exchanged_sheets s) (map exchanged_hunk os) (map exchanged_hunk cs) (kept_turned s cs os p) st n' l'
      ∙ all_turned st s 0 (clusters (walk cs os)) (clusters (walk (map exchanged_hunk os) (map exchanged_hunk cs))) (exchange_keeps_groups s cs os p)
      ∙ ap (map exchanged_item) (sym (outlined s cs os p st n l))

  pub same_verdict : (st : ConflictStyle) (n n' : ℕ) → verdict (Keep st n') (exchanged_sheets s) (map exchanged_hunk os) (map exchanged_hunk cs) ≡ verdict (Keep st n) s cs os
  same_verdict st n n' =
      keep_verdict (exchanged_sheets s) (map exchanged_hunk os) (map exchanged_hunk cs) (kept_turned s cs os p) st n'
      ∙ ap (λ (b : Bool). cond b Conflict Complete) (some_turned s (clusters (walk cs os)) (clusters (walk (map exchanged_hunk os) (map exchanged_hunk cs))) (exchange_keeps_groups s cs os p))
      ∙ sym (keep_verdict s cs os p st n)

  some_same : some_group_differs (exchanged_sheets s) (clusters (walk (map exchanged_hunk os) (map exchanged_hunk cs))) ≡ some_group_differs s (clusters (walk cs os))
  some_same = some_turned s (clusters (walk cs os)) (clusters (walk (map exchanged_hunk os) (map exchanged_hunk cs))) (exchange_keeps_groups s cs os p)

  pub same_judged : (m : modes.Conflict) → verdict (exchanged_mode m) (exchanged_sheets s) (map exchanged_hunk os) (map exchanged_hunk cs) ≡ verdict m s cs os
  same_judged (Keep st n) = same_verdict st n n
  same_judged ResolveWithOurs = theirs_verdict (exchanged_sheets s) (map exchanged_hunk os) (map exchanged_hunk cs) ∙ ap (λ (b : Bool). cond b CompleteWithAutoResolvedConflict Complete) some_same ∙ sym (ours_verdict s cs os)
  same_judged ResolveWithTheirs = ours_verdict (exchanged_sheets s) (map exchanged_hunk os) (map exchanged_hunk cs) ∙ ap (λ (b : Bool). cond b CompleteWithAutoResolvedConflict Complete) some_same ∙ sym (theirs_verdict s cs os)
  same_judged ResolveWithUnion = union_verdict (exchanged_sheets s) (map exchanged_hunk os) (map exchanged_hunk cs) (kept_turned s cs os p) ∙ ap (λ (b : Bool). cond b CompleteWithAutoResolvedConflict Complete) some_same ∙ sym (union_verdict s cs os p)
