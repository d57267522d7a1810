-- What the outline of a rendering that keeps conflicts spells.
use Rattle.std.proofs.Common.{◌≡◌, ℕ, Bool, true, false, cond, not, ◌&&◌, ◌||◌, List, [], ◌∷◌, ◌++◌, map, drop, sym, refl, ap, ◌∙◌, ap₂, append_assoc, append-nil}
use Rattle.std.specs.List.{AllByRecursion}
use Rattle.std.proofs.ByRecursion.{All-weaker}
use Rattle.rules.specs.declared.hunk.Hunk.{Hunk}
use Rattle.rules.specs.declared.mode.Conflict as modes
use Rattle.rules.specs.declared.mode.Conflict.TheVariants.{Keep}
use Rattle.rules.specs.declared.mode.ConflictStyle.{ConflictStyle}
use Rattle.rules.specs.Lines.{Line, between, same_lines}
use Rattle.rules.specs.SharedLines.{shared_start, middle, shared_end}
use Rattle.rules.specs.Hunks.{Sheets, hunk_lines, side_lines}
use Rattle.rules.specs.Walk.{walk}
use Rattle.rules.specs.Groups.{Cluster, clusters, from, to, is_group}
use Rattle.rules.specs.Filling.{sides_differ, ours_lines, theirs_lines}
use Rattle.rules.specs.Sides.{Sides, contracts, sides_in}
use Rattle.rules.specs.Pieces.{common}
use Rattle.rules.specs.Steps.{each}
use Rattle.rules.specs.Markers.{Labels}
use Rattle.rules.specs.Blocks.{blocked, keep_steps}
use Rattle.rules.specs.Rendering.{group_steps, cluster_steps, steps_from, rendering}
use Rattle.rules.specs.Outline.{Item, line, block, reads_as_line, all_lines, has_block, ours_part, theirs_part, every_part, spelled}
use Rattle.rules.specs.GroupOutline.{drawn_in, block_items, base_part, group_items, cluster_items, items}
use Rattle.rules.specs.Order.{Kept}
use Rattle.rules.specs.SideLaws.{with_groups}
use Rattle.rules.specs.VerdictLaws.{some_group_differs}
use Rattle.rules.proofs.Fits.{Fit, kept_fit}
use Rattle.rules.proofs.Outlines.{kept_items, group_is}
use Rattle.rules.proofs.Shared.{parts_join, parts_join_other, same_lines_true}
use Rattle.rules.proofs.Steps.{step_lines, pieces_lines, step_join, each_kept, agreed_lines, keep_is, either_steps}

module _ (f : Item → List Line) (fl : (x : Line) → f (line x) ≡ x ∷ []) where
  pub spelled_append : (a b : List Item) → spelled f (a ++ b) ≡ spelled f a ++ spelled f b
  spelled_append [] b = refl
  spelled_append (i ∷ is) b = ap (λ (r : List Line). f i ++ r) (spelled_append is b) ∙ sym (append_assoc (f i) (spelled f is) (spelled f b))

  pub spelled_lines : (ls : List Line) → spelled f (map line ls) ≡ ls
  spelled_lines [] = refl
  spelled_lines (l ∷ ls) = ap₂ ◌++◌ (fl l) (spelled_lines ls)

  spelled_join : (a b : List Item) {x y : List Line} → spelled f a ≡ x → spelled f b ≡ y → spelled f (a ++ b) ≡ x ++ y
  spelled_join a b p q = spelled_append a b ∙ ap₂ ◌++◌ p q

  either_spelled : (b : Bool) (u v : List Item) (x y : List Line) → spelled f u ≡ x → spelled f v ≡ y → spelled f (cond b u v) ≡ cond b x y
  either_spelled true u v x y p q = p
  either_spelled false u v x y p q = q

  -- cluster by cluster
  pub items_spelled : (st : ConflictStyle) (g : Cluster → List Line) (s : Sheets) (since : ℕ) (ks : List Cluster) → AllByRecursion (λ (k : Cluster). spelled f (group_items st s k) ≡ g k) ks → spelled f (items st s since ks) ≡ with_groups g s since ks
  items_spelled st g s since [] p = spelled_lines (drop since s.ancestor)
  items_spelled st g s since (k ∷ ks) p =
      let ls = between s.ancestor since (from k) in
      spelled_join (map line ls) (cluster_items st s k ++ items st s (to k) ks) (spelled_lines ls)
      (spelled_join (cluster_items st s k) (items st s (to k) ks)
      (either_spelled (is_group k) (group_items st s k) (map line (hunk_lines s k.first)) (g k) (hunk_lines s k.first) p.0 (spelled_lines (hunk_lines s k.first)))
      (items_spelled st g s (to k) ks p.1))

  pub drawn_spelled : (xs b ys m : List Line) → f (block (middle xs ys) b (middle ys xs)) ≡ m → spelled f (drawn_in xs b ys) ≡ shared_start xs ys ++ (m ++ shared_end xs ys)
  drawn_spelled xs b ys m e = spelled_join (map line (shared_start xs ys)) (block (middle xs ys) b (middle ys xs) ∷ map line (shared_end xs ys)) (spelled_lines (shared_start xs ys)) (ap₂ ◌++◌ e (spelled_lines (shared_end xs ys)))

-- a group by one of its sides
ours_block : (c : Bool) (xs b ys : List Line) → spelled ours_part (cond c (drawn_in xs b ys) (block xs b ys ∷ [])) ≡ xs
ours_block true xs b ys = drawn_spelled ours_part (λ _. refl) xs b ys (middle xs ys) refl ∙ parts_join xs ys
ours_block false xs b ys = append-nil xs

theirs_block : (c : Bool) (xs b ys : List Line) → spelled theirs_part (cond c (drawn_in xs b ys) (block xs b ys ∷ [])) ≡ ys
theirs_block true xs b ys = drawn_spelled theirs_part (λ _. refl) xs b ys (middle ys xs) refl ∙ parts_join_other xs ys
theirs_block false xs b ys = append-nil ys

ours_group : (st : ConflictStyle) (xs b ys : List Line) (d : Bool) → spelled ours_part (cond d (block_items st xs b ys) (map line xs)) ≡ xs
ours_group st xs b ys true = ours_block (contracts st) xs b ys
ours_group st xs b ys false = spelled_lines ours_part (λ _. refl) xs

theirs_group : (st : ConflictStyle) (xs b ys : List Line) (d : Bool) → same_lines xs ys ≡ d → spelled theirs_part (cond (not d) (block_items st xs b ys) (map line xs)) ≡ ys
theirs_group st xs b ys true q = spelled_lines theirs_part (λ _. refl) xs ∙ same_lines_true xs ys q
theirs_group st xs b ys false q = theirs_block (contracts st) xs b ys

pub all_given : {X : Type 0} (P : X → Type 0) (xs : List X) → ((x : X) → P x) → AllByRecursion P xs
all_given P [] f = tt
all_given P (x ∷ xs) f = (f x, all_given P xs f)

module _ (st : ConflictStyle) (s : Sheets) (ks : List Cluster) where
  pub ours_spelled : spelled ours_part (items st s 0 ks) ≡ with_groups (ours_lines s) s 0 ks
  ours_spelled = items_spelled ours_part (λ _. refl) st (ours_lines s) s 0 ks
      (all_given (λ (k : Cluster). spelled ours_part (group_items st s k) ≡ ours_lines s k) ks (λ k. ours_group st (ours_lines s k) (base_part st s k) (theirs_lines s k) (sides_differ s k)))

  pub theirs_spelled : spelled theirs_part (items st s 0 ks) ≡ with_groups (theirs_lines s) s 0 ks
  theirs_spelled = items_spelled theirs_part (λ _. refl) st (theirs_lines s) s 0 ks
      (all_given (λ (k : Cluster). spelled theirs_part (group_items st s k) ≡ theirs_lines s k) ks (λ k. theirs_group st (ours_lines s k) (base_part st s k) (theirs_lines s k) (same_lines (ours_lines s k) (theirs_lines s k)) refl))

-- every line
keep_spelled : (st : ConflictStyle) (s : Sheets) (n : ℕ) (l : Labels) (since : ℕ) (k : Cluster) (d : Sides)
    → step_lines reads_as_line (keep_steps st s n l since (from k) (to k) d) ≡ spelled every_part (kept_items st l s n k d)
keep_spelled st s n l since k d =
    let lb = side_lines s d.left ++ (base_part st s k ++ side_lines s d.right) in
    let ib : List Item = block (side_lines s d.left) (base_part st s k) (side_lines s d.right) ∷ [] in
    let ia = map line (agreed_lines st s d) in
    let fb = map line (side_lines s d.back) in
    keep_is reads_as_line refl refl st s n l since k d
    ∙ sym (spelled_join every_part (λ _. refl) (map line (side_lines s d.front)) (cond (blocked st s d.left d.right) ib ia ++ fb) (spelled_lines every_part (λ _. refl) (side_lines s d.front))
    (spelled_join every_part (λ _. refl) (cond (blocked st s d.left d.right) ib ia) fb
    (either_spelled every_part (λ _. refl) (blocked st s d.left d.right) ib ia lb (agreed_lines st s d) (append-nil lb) (spelled_lines every_part (λ _. refl) (agreed_lines st s d)))
    (spelled_lines every_part (λ _. refl) (side_lines s d.back))))

-- what a mode writes, cluster by cluster
module _ (m : modes.Conflict) (s : Sheets) (l : Labels) (g : Cluster → List Line) where
  abbrev pub Written : Cluster → Type 0
  Written k = (since : ℕ) → step_lines reads_as_line (group_steps m s l since k) ≡ g k

  steps_written : (since : ℕ) (ks : List Cluster) → AllByRecursion Written ks → step_lines reads_as_line (steps_from m s l since ks) ≡ with_groups g s since ks
  steps_written since [] p = each_kept reads_as_line common (drop since s.ancestor) refl
  steps_written since (k ∷ ks) p =
      let ls = between s.ancestor since (from k) in
      let c = cluster_steps m s l since k in
      let r = steps_from m s l (to k) ks in
      step_join reads_as_line (each common ls) (c ++ r) (each_kept reads_as_line common ls refl)
      (step_join reads_as_line c r
      (either_steps reads_as_line refl refl (is_group k) (group_steps m s l since k) (each common (hunk_lines s k.first)) (g k) (hunk_lines s k.first) (p.0 since) (each_kept reads_as_line common (hunk_lines s k.first) refl))
      (steps_written (to k) ks p.1))

  pub written : (cs os : List Hunk) → AllByRecursion Written (clusters (walk cs os)) → all_lines (rendering m s l cs os) ≡ with_groups g s 0 (clusters (walk cs os))
  written cs os p = pieces_lines reads_as_line refl false (steps_from m s l 0 (clusters (walk cs os))) ∙ steps_written 0 (clusters (walk cs os)) p

module _ (st : ConflictStyle) (s : Sheets) (n : ℕ) (l : Labels) where
  pub every_spelled : (cs os : List Hunk) → Kept s cs os → spelled every_part (items st s 0 (clusters (walk cs os))) ≡ all_lines (rendering (Keep st n) s l cs os)
  every_spelled cs os p =
      let ks = clusters (walk cs os) in
      let g : Cluster → List Line = λ k. spelled every_part (group_items st s k) in
      items_spelled every_part (λ _. refl) st g s 0 ks (all_given (λ (k : Cluster). spelled every_part (group_items st s k) ≡ g k) ks (λ k. refl))
      ∙ sym (written (Keep st n) s l g cs os (All-weaker (Fit s) (Written (Keep st n) s l g) (λ k fit since. keep_spelled st s n l since k (sides_in st s k) ∙ ap (spelled every_part) (group_is st l s n k fit)) ks (kept_fit s cs os p)))

-- whether it has a block
block_append : (a b : List Item) → has_block (a ++ b) ≡ (has_block a || has_block b)
block_append [] b = refl
block_append (line x ∷ is) b = block_append is b
block_append (block o c t ∷ is) b = refl

no_block : (ls : List Line) → has_block (map line ls) ≡ false
no_block [] = refl
no_block (l ∷ ls) = no_block ls

drawn_block : (st : ConflictStyle) (xs b ys : List Line) → has_block (block_items st xs b ys) ≡ true
drawn_block st xs b ys = by (contracts st)
  where
    by : (c : Bool) → has_block (cond c (drawn_in xs b ys) (block xs b ys ∷ [])) ≡ true
    by true = block_append (map line (shared_start xs ys)) (block (middle xs ys) b (middle ys xs) ∷ map line (shared_end xs ys)) ∙ ap (λ (x : Bool). x || true) (no_block (shared_start xs ys))
    by false = refl

group_block : (st : ConflictStyle) (xs b ys : List Line) (d : Bool) → has_block (cond d (block_items st xs b ys) (map line xs)) ≡ d
group_block st xs b ys true = drawn_block st xs b ys
group_block st xs b ys false = no_block xs

cluster_block : (g d : Bool) (is : List Item) (ls : List Line) → has_block is ≡ d → has_block (cond g is (map line ls)) ≡ (g && d)
cluster_block true d is ls e = e
cluster_block false d is ls e = no_block ls

pub some_block : (st : ConflictStyle) (s : Sheets) (since : ℕ) (ks : List Cluster) → has_block (items st s since ks) ≡ some_group_differs s ks
some_block st s since [] = no_block (drop since s.ancestor)
some_block st s since (k ∷ ks) =
    let ls = between s.ancestor since (from k) in
    block_append (map line ls) (cluster_items st s k ++ items st s (to k) ks)
    ∙ ap (λ (x : Bool). x || has_block (cluster_items st s k ++ items st s (to k) ks)) (no_block ls)
    ∙ block_append (cluster_items st s k) (items st s (to k) ks)
    ∙ ap₂ ◌||◌ (cluster_block (is_group k) (sides_differ s k) (group_items st s k) (hunk_lines s k.first) (group_block st (ours_lines s k) (base_part st s k) (theirs_lines s k) (sides_differ s k))) (some_block st s (to k) ks)
