-- Where Union closes an open line, and by which ending.
use Rattle.std.proofs.Common.{◌≡◌, ℕ, Bool, true, false, cond, ◌&&◌, List, [], ◌∷◌, ◌++◌, drop, Some, sym, refl, ap, ◌∙◌, subst, ap₂, subst₂}
use Rattle.std.proofs.lemmas.List.{append-nil, append_assoc}
use Rattle.std.proofs.lemmas.Bool.{not-false}
use Rattle.std.specs.List.{AllByRecursion}
use Rattle.rules.specs.declared.ending.Ending.{Ending}
use Rattle.rules.specs.declared.hunk.Hunk.{Hunk}
use Rattle.rules.specs.declared.mode.Conflict.TheVariants.{ResolveWithUnion}
use Rattle.rules.specs.declared.mode.ConflictStyle.TheVariants.{Merge}
use Rattle.rules.specs.Lines.{Line, between, same_lines}
use Rattle.rules.specs.Hunks.{Sheets, hunk_lines, side_lines}
use Rattle.rules.specs.Walk.{is_current, walk}
use Rattle.rules.specs.Groups.{from, to, is_group, Cluster, clusters}
use Rattle.rules.specs.Filling.{ours_lines, sides_differ, theirs_lines}
use Rattle.rules.specs.Sides.{Sides, contracted_sides, line_left}
use Rattle.rules.specs.Endings.{ending_of, or_newline}
use Rattle.rules.specs.Pieces.{common, ours, theirs}
use Rattle.rules.specs.Steps.{Step, close, each, left_open, pieces_of}
use Rattle.rules.specs.Markers.{Labels}
use Rattle.rules.specs.Unions.{back_close, both_steps, union_steps}
use Rattle.rules.specs.Rendering.{cluster_steps, group_steps, steps_from}
use Rattle.rules.specs.Order.{Kept}
use Rattle.rules.specs.MarkerLaws.{closed, first_shown}
use Rattle.rules.specs.UnionLaws.{in_common, in_left, in_right, union_end, union_common, union_ours, union_theirs, to_ours, to_theirs, to_back, no_back, Gaps, UnionForm, UnionLaw, UnionPlace, all_gaps, back_gap, union_gaps}
use Rattle.rules.proofs.Fits.{Fit, kept_fit}
use Rattle.rules.proofs.HunkCuts.{led_cuts, no_back_left}
use Rattle.rules.proofs.Marked.{one_shown}
use Rattle.rules.proofs.Shared.{same_lines_true}
use Rattle.rules.proofs.Unions.{contraction_law}
use Rattle.rules.proofs.Verdicts.{blocked_is}

-- steps that lead from one place to another with gaps of their own
abbrev Good : List Gaps → UnionPlace → List Step → UnionPlace → Type 0
Good gs p ss q = (rest : List Step) (fs : List Gaps) → ((o : Bool) → UnionForm fs q o (pieces_of o rest)) → (o : Bool) → UnionForm (gs ++ fs) p o (pieces_of o (ss ++ rest))

good_on : (gs hs : List Gaps) (p q r : UnionPlace) (a b : List Step) → Good gs p a q → Good hs q b r → Good (gs ++ hs) p (a ++ b) r
good_on gs hs p q r a b f g rest fs k o =
    subst₂ (λ (x : List Gaps) (y : List Step). UnionForm x p o (pieces_of o y)) (sym (append_assoc gs hs fs)) (sym (append_assoc a b rest)) (f (b ++ rest) (hs ++ fs) (g rest fs k) o)

commons : (ls : List Line) → Good [] in_common (each common ls) in_common
commons [] rest fs k o = k o
commons (x ∷ xs) rest fs k o = union_common x (commons xs rest fs k (left_open o x))

ours_good : (g : Gaps) (ls : List Line) → Good [] (in_left g) (each ours ls) (in_left g)
ours_good g [] rest fs k o = k o
ours_good g (x ∷ xs) rest fs k o = union_ours x (ours_good g xs rest fs k (left_open o x))

theirs_good : (g : Gaps) (ls : List Line) → Good [] (in_right g) (each theirs ls) (in_right g)
theirs_good g [] rest fs k o = k o
theirs_good g (x ∷ xs) rest fs k o = union_theirs x (theirs_good g xs rest fs k (left_open o x))

gap : (o : Bool) (e : Ending) (rest : List Step) → pieces_of o (close e ∷ rest) ≡ closed o e ++ pieces_of false rest
gap true e rest = refl
gap false e rest = refl

ours_next : (g : Gaps) → Good (g ∷ []) in_common (close g.ours ∷ []) (in_left g)
ours_next g rest fs k o = subst (UnionForm (g ∷ fs) in_common o) (sym (gap o g.ours rest)) (to_ours g (k false))

theirs_next : (g : Gaps) → Good [] (in_left g) (close g.theirs ∷ []) (in_right g)
theirs_next g rest fs k o = subst (UnionForm fs (in_left g) o) (sym (gap o g.theirs rest)) (to_theirs g (k false))

-- back, or none
back_next : (s : Sheets) (g : Gaps) (right back : List Hunk) → g.back ≡ back_gap s right back → Good [] (in_right g) (back_close s right back) in_common
back_next s g right [] e rest fs k o = no_back g e (k o)
back_next s g right (h ∷ hs) e rest fs k o =
    let x = or_newline (ending_of s right) in
    subst (UnionForm fs (in_right g) o) (sym (gap o x rest)) (to_back g x (e ∙ ap (λ (y : Ending). Some y) (sym (one_shown (ending_of s right)))) (k false))

-- the lines between front and back, where there are some
left_good : (s : Sheets) (g : Gaps) (left right : List Hunk) → Good (g ∷ []) in_common (close g.ours ∷ (each ours (side_lines s left) ++ (close g.theirs ∷ each theirs (side_lines s right)))) (in_right g)
left_good s g left right =
    let eo = each ours (side_lines s left) in
    let et = each theirs (side_lines s right) in
    good_on (g ∷ []) [] in_common (in_left g) (in_right g) (close g.ours ∷ []) (eo ++ (close g.theirs ∷ et)) (ours_next g)
    (good_on [] [] (in_left g) (in_left g) (in_right g) eo (close g.theirs ∷ et) (ours_good g (side_lines s left))
    (good_on [] [] (in_left g) (in_right g) (in_right g) (close g.theirs ∷ []) et (theirs_next g) (theirs_good g (side_lines s right))))

module _ (s : Sheets) (d : Sides) where
  abbrev gaps : Gaps
  gaps = record { ours = first_shown (ending_of s d.front ∷ []); theirs = first_shown (ending_of s d.left ∷ []); back = back_gap s d.right d.back }

  abbrev left_steps : Ending → Ending → List Step
  left_steps x y = close x ∷ (each ours (side_lines s d.left) ++ (close y ∷ each theirs (side_lines s d.right)))

  left_written : Good (gaps ∷ []) in_common (left_steps (or_newline (ending_of s d.front)) (or_newline (ending_of s d.left))) (in_right gaps)
  left_written = subst₂ (λ (x y : Ending). Good (gaps ∷ []) in_common (left_steps x y) (in_right gaps)) (sym (one_shown (ending_of s d.front))) (sym (one_shown (ending_of s d.left))) (left_good s gaps d.left d.right)

  differing : line_left s d.left d.right ≡ true → Good (gaps ∷ []) in_common (union_steps s d) in_common
  differing e =
      let ef = each common (side_lines s d.front) in
      let eb = each common (side_lines s d.back) in
      let bc = back_close s d.right d.back in
      let ls = left_steps (or_newline (ending_of s d.front)) (or_newline (ending_of s d.left)) in
      let w : both_steps s d.front d.left d.right ≡ ls = rw e in
      let g : Good (gaps ∷ []) in_common (ef ++ (ls ++ (bc ++ eb))) in_common =
      good_on [] (gaps ∷ []) in_common in_common in_common ef (ls ++ (bc ++ eb)) (commons (side_lines s d.front))
      (good_on (gaps ∷ []) [] in_common (in_right gaps) in_common ls (bc ++ eb) left_written
      (good_on [] [] (in_right gaps) in_common in_common bc eb (back_next s gaps d.right d.back refl) (commons (side_lines s d.back)))) in
      subst (λ (x : List Step). Good (gaps ∷ []) in_common (ef ++ (x ++ (bc ++ eb))) in_common) (sym w) g

  agreeing : line_left s d.left d.right ≡ false → d.back ≡ [] → Good [] in_common (union_steps s d) in_common
  agreeing e q =
      let ef = each common (side_lines s d.front) in
      let w : both_steps s d.front d.left d.right ≡ [] = rw e in
      let v : back_close s d.right d.back ≡ [] = ap (back_close s d.right) q in
      let u : each common (side_lines s d.back) ≡ [] = ap (λ (hs : List Hunk). each common (side_lines s hs)) q in
      let all : union_steps s d ≡ ef = ap (λ (x : List Step). ef ++ x) (ap₂ ◌++◌ w (ap₂ ◌++◌ v u)) ∙ append-nil ef in
      subst (λ (x : List Step). Good [] in_common x in_common) (sym all) (commons (side_lines s d.front))

module _ (s : Sheets) (l : Labels) where
  group_good : (k : Cluster) → Fit s k → (b : Bool) → sides_differ s k ≡ b → Good (cond b (union_gaps s k ∷ []) []) in_common (union_steps s (contracted_sides s k)) in_common
  group_good k fit true e = differing s (contracted_sides s k) (blocked_is Merge s k fit ∙ e)
  group_good k fit false e =
      let same = same_lines_true (ours_lines s k) (theirs_lines s k) (not-false (same_lines (ours_lines s k) (theirs_lines s k)) e) in
      let none = ((contraction_law s k fit).nothing_left same).2 in
      agreeing s (contracted_sides s k) (blocked_is Merge s k fit ∙ e) (no_back_left s k (is_current k.first.side) (contracted_sides s k) (led_cuts s k (is_current k.first.side) fit.ours fit.theirs) none)

  cluster_good : (since : ℕ) (k : Cluster) → Fit s k → (b : Bool) → is_group k ≡ b
      → Good (cond (b && sides_differ s k) (union_gaps s k ∷ []) []) in_common (cond b (group_steps ResolveWithUnion s l since k) (each common (hunk_lines s k.first))) in_common
  cluster_good since k fit true e = group_good k fit (sides_differ s k) refl
  cluster_good since k fit false e = commons (hunk_lines s k.first)

  steps_good : (since : ℕ) (ks : List Cluster) → AllByRecursion (Fit s) ks → Good (all_gaps s ks) in_common (steps_from ResolveWithUnion s l since ks) in_common
  steps_good since [] fit = commons (drop since s.ancestor)
  steps_good since (k ∷ ks) fit =
      let ls = between s.ancestor since (from k) in
      let c = cluster_steps ResolveWithUnion s l since k in
      let r = steps_from ResolveWithUnion s l (to k) ks in
      let gs = cond (is_group k && sides_differ s k) (union_gaps s k ∷ []) [] in
      good_on [] (gs ++ all_gaps s ks) in_common in_common in_common (each common ls) (c ++ r) (commons ls)
      (good_on gs (all_gaps s ks) in_common in_common in_common c r (cluster_good since k fit.0 (is_group k) refl) (steps_good (to k) ks fit.1))

pub union_law : (s : Sheets) (cs os : List Hunk) → Kept s cs os → UnionLaw s cs os
union_law s cs os p l =
    let ks = clusters (walk cs os) in
    let ss = steps_from ResolveWithUnion s l 0 ks in
    let gs = all_gaps s ks in
    subst₂ (λ (x : List Gaps) (y : List Step). UnionForm x in_common false (pieces_of false y)) (append-nil gs) (append-nil ss) (steps_good s l 0 ks (kept_fit s cs os p) [] [] (λ o. union_end) false)
