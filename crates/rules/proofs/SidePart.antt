-- A rendering that keeps conflicts, every block replaced by the part of one side, has the lines of that side's rendering.
use Rattle.std.proofs.Common.{◌≡◌, ℕ, Bool, true, false, cond, not, List, [], ◌∷◌, ◌++◌, drop, sym, refl, ◌∙◌, ap₂, append-nil}
use Rattle.std.specs.List.{AllByRecursion}
use Rattle.std.proofs.ByRecursion.{All-weaker}
use Rattle.rules.specs.declared.hunk.Hunk.{Hunk}
use Rattle.rules.specs.declared.mode.Conflict as modes
use Rattle.rules.specs.declared.mode.Conflict.TheVariants.{Keep, ResolveWithOurs, ResolveWithTheirs}
use Rattle.rules.specs.declared.mode.ConflictStyle.{ConflictStyle}
use Rattle.rules.specs.declared.mode.ConflictStyle.TheVariants.{Merge, Diff3, ZealousDiff3}
use Rattle.rules.specs.Lines.{Line, between, same_lines}
use Rattle.rules.specs.Hunks.{Sheets, hunk_lines, side_lines}
use Rattle.rules.specs.Walk.{walk}
use Rattle.rules.specs.Groups.{Cluster, clusters, from, to, is_group}
use Rattle.rules.specs.Filling.{sides_differ, ours_lines, theirs_lines}
use Rattle.rules.specs.Sides.{Sides, line_left, whole_sides, contracted_sides, sides_in}
use Rattle.rules.specs.Pieces.{Kind, common, ours, theirs}
use Rattle.rules.specs.Steps.{Step, each}
use Rattle.rules.specs.Markers.{Labels}
use Rattle.rules.specs.Blocks.{keep_steps}
use Rattle.rules.specs.Rendering.{group_steps, cluster_steps, steps_from, rendering}
use Rattle.rules.specs.Outline.{lines_kept, reads_as_ours, reads_as_theirs, reads_as_line, all_lines}
use Rattle.rules.specs.Order.{Kept}
use Rattle.rules.proofs.Contracting.{SidesLines, sides_lines, nothing_left}
use Rattle.rules.proofs.Fits.{Fit, kept_fit}
use Rattle.rules.proofs.Shared.{parts_join, parts_join_other, same_lines_true}
use Rattle.rules.proofs.Steps.{step_lines, pieces_lines, step_join, each_kept, keep_is}

none_passed : (a b : Bool) → ◌≡◌ {A = List Line} (cond a [] [] ++ cond b [] []) []
none_passed true true = refl
none_passed true false = refl
none_passed false true = refl
none_passed false false = refl

-- a block's lines of a side
abbrev two_passed : (Kind → Bool) → List Line → List Line → List Line
two_passed f xs ys = cond (f ours) xs [] ++ cond (f theirs) ys []

-- where no line is left, a block would have none
left_passed : (f : Kind → Bool) (s : Sheets) (d : Sides)
    → cond (line_left s d.left d.right) (two_passed f (side_lines s d.left) (side_lines s d.right)) [] ≡ two_passed f (side_lines s d.left) (side_lines s d.right)
left_passed f s d = by (line_left s d.left d.right) refl
  where
    by : (b : Bool) → line_left s d.left d.right ≡ b → cond b (two_passed f (side_lines s d.left) (side_lines s d.right)) [] ≡ two_passed f (side_lines s d.left) (side_lines s d.right)
    by true e = refl
    by false e = let n = nothing_left s d e in rw (n.0, n.1) (sym (none_passed (f ours) (f theirs)))

-- of contracted sides
module _ (s : Sheets) (xs ys : List Line) (d : Sides) (p : SidesLines s xs ys d) where
  ours_mid : side_lines s d.front ++ (cond (line_left s d.left d.right) (two_passed reads_as_ours (side_lines s d.left) (side_lines s d.right)) [] ++ side_lines s d.back) ≡ xs
  ours_mid =
      rw (left_passed reads_as_ours s d)
      (ap₂ (λ (u v : List Line). u ++ v) p.front (ap₂ (λ (u v : List Line). u ++ v) (append-nil (side_lines s d.left) ∙ p.left) p.back) ∙ parts_join xs ys)

  theirs_mid : side_lines s d.front ++ (cond (line_left s d.left d.right) (two_passed reads_as_theirs (side_lines s d.left) (side_lines s d.right)) [] ++ side_lines s d.back) ≡ ys
  theirs_mid =
      rw (left_passed reads_as_theirs s d)
      (ap₂ (λ (u v : List Line). u ++ v) p.front (ap₂ (λ (u v : List Line). u ++ v) p.right p.back) ∙ parts_join_other xs ys)

-- of whole sides
ours_whole : (xs ys : List Line) (b : Bool) → cond b (two_passed reads_as_ours xs ys) xs ++ [] ≡ xs
ours_whole xs ys true = append-nil (xs ++ []) ∙ append-nil xs
ours_whole xs ys false = append-nil xs

theirs_whole : (xs ys : List Line) (b : Bool) → same_lines xs ys ≡ b → cond (not b) (two_passed reads_as_theirs xs ys) xs ++ [] ≡ ys
theirs_whole xs ys true e = append-nil xs ∙ same_lines_true xs ys e
theirs_whole xs ys false e = append-nil ys

module _ (s : Sheets) (n : ℕ) (l : Labels) (since : ℕ) (k : Cluster) (fit : Fit s k) where
  ours_kept : (st : ConflictStyle) → step_lines reads_as_ours (keep_steps st s n l since (from k) (to k) (sides_in st s k)) ≡ ours_lines s k
  ours_kept Merge =
      keep_is reads_as_ours refl refl Merge s n l since k (contracted_sides s k)
      ∙ ours_mid s (ours_lines s k) (theirs_lines s k) (contracted_sides s k) (sides_lines s k fit.ours fit.theirs)
  ours_kept Diff3 =
      keep_is reads_as_ours refl refl Diff3 s n l since k (whole_sides k)
      ∙ ours_whole (ours_lines s k) (theirs_lines s k) (sides_differ s k)
  ours_kept ZealousDiff3 =
      keep_is reads_as_ours refl refl ZealousDiff3 s n l since k (contracted_sides s k)
      ∙ ours_mid s (ours_lines s k) (theirs_lines s k) (contracted_sides s k) (sides_lines s k fit.ours fit.theirs)

  theirs_kept : (st : ConflictStyle) → step_lines reads_as_theirs (keep_steps st s n l since (from k) (to k) (sides_in st s k)) ≡ theirs_lines s k
  theirs_kept Merge =
      keep_is reads_as_theirs refl refl Merge s n l since k (contracted_sides s k)
      ∙ theirs_mid s (ours_lines s k) (theirs_lines s k) (contracted_sides s k) (sides_lines s k fit.ours fit.theirs)
  theirs_kept Diff3 =
      keep_is reads_as_theirs refl refl Diff3 s n l since k (whole_sides k)
      ∙ theirs_whole (ours_lines s k) (theirs_lines s k) (same_lines (ours_lines s k) (theirs_lines s k)) refl
  theirs_kept ZealousDiff3 =
      keep_is reads_as_theirs refl refl ZealousDiff3 s n l since k (contracted_sides s k)
      ∙ theirs_mid s (ours_lines s k) (theirs_lines s k) (contracted_sides s k) (sides_lines s k fit.ours fit.theirs)

-- two modes whose groups give the same lines give the same lines
module _ (f g : Kind → Bool) (fc : f common ≡ true) (gc : g common ≡ true) (m m' : modes.Conflict) (s : Sheets) (l l' : Labels) where
  abbrev pub Alike : Cluster → Type 0
  Alike k = (since : ℕ) → step_lines f (group_steps m s l since k) ≡ step_lines g (group_steps m' s l' since k)

  each_alike : (ls : List Line) → step_lines f (each common ls) ≡ step_lines g (each common ls)
  each_alike ls = each_kept f common ls fc ∙ sym (each_kept g common ls gc)

  either_alike : (b : Bool) (x y x' y' : List Step) → step_lines f x ≡ step_lines g x' → step_lines f y ≡ step_lines g y' → step_lines f (cond b x y) ≡ step_lines g (cond b x' y')
  either_alike true x y x' y' p q = p
  either_alike false x y x' y' p q = q

  pub steps_alike : (since : ℕ) (ks : List Cluster) → AllByRecursion Alike ks → step_lines f (steps_from m s l since ks) ≡ step_lines g (steps_from m' s l' since ks)
  steps_alike since [] p = each_alike (drop since s.ancestor)
  steps_alike since (k ∷ ks) p =
      let ec = each common (between s.ancestor since (from k)) in
      let eh = each common (hunk_lines s k.first) in
      let c = cluster_steps m s l since k in
      let c' = cluster_steps m' s l' since k in
      let r = steps_from m s l (to k) ks in
      let r' = steps_from m' s l' (to k) ks in
      let pc : step_lines f c ≡ step_lines g c' = either_alike (is_group k) (group_steps m s l since k) eh (group_steps m' s l' since k) eh (p.0 since) (each_alike (hunk_lines s k.first)) in
      step_join f ec (c ++ r) (each_alike (between s.ancestor since (from k))) (step_join f c r pc (steps_alike (to k) ks p.1))
      ∙ sym (step_join g ec (c' ++ r') refl (step_join g c' r' refl refl))

pub ours_part : (s : Sheets) (cs os : List Hunk) → Kept s cs os → (st : ConflictStyle) (n : ℕ) (l l' : Labels) → lines_kept reads_as_ours (rendering (Keep st n) s l cs os) ≡ all_lines (rendering ResolveWithOurs s l' cs os)
ours_part s cs os p st n l l' =
    let ks = clusters (walk cs os) in
    let m = Keep st n in
    pieces_lines reads_as_ours refl false (steps_from m s l 0 ks)
    ∙ steps_alike reads_as_ours reads_as_line refl refl m ResolveWithOurs s l l' 0 ks
    (All-weaker (Fit s) (Alike reads_as_ours reads_as_line refl refl m ResolveWithOurs s l l')
    (λ k fit since. ours_kept s n l since k fit st ∙ sym (each_kept reads_as_line common (ours_lines s k) refl)) ks (kept_fit s cs os p))
    ∙ sym (pieces_lines reads_as_line refl false (steps_from ResolveWithOurs s l' 0 ks))

pub theirs_part : (s : Sheets) (cs os : List Hunk) → Kept s cs os → (st : ConflictStyle) (n : ℕ) (l l' : Labels) → lines_kept reads_as_theirs (rendering (Keep st n) s l cs os) ≡ all_lines (rendering ResolveWithTheirs s l' cs os)
theirs_part s cs os p st n l l' =
    let ks = clusters (walk cs os) in
    let m = Keep st n in
    pieces_lines reads_as_theirs refl false (steps_from m s l 0 ks)
    ∙ steps_alike reads_as_theirs reads_as_line refl refl m ResolveWithTheirs s l l' 0 ks
    (All-weaker (Fit s) (Alike reads_as_theirs reads_as_line refl refl m ResolveWithTheirs s l l')
    (λ k fit since. theirs_kept s n l since k fit st ∙ sym (each_kept reads_as_line common (theirs_lines s k) refl)) ks (kept_fit s cs os p))
    ∙ sym (pieces_lines reads_as_line refl false (steps_from ResolveWithTheirs s l' 0 ks))
