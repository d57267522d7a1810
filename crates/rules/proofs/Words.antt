-- The verdicts in words: there is a group whose sides are not the same lines.
use Rattle.std.specs.List.{AllByRecursion}
use Rattle.std.proofs.Common.{◌≡◌, Bool, true, false, cond, ◌&&◌, List, [], ◌∷◌, sym, refl, ap, ◌∙◌, subst, inl, inr, ⊎_elim}
use mathlib.Core.List.Memᴰ
use mathlib.Core.List.{Memᴰ}
use Rattle.std.proofs.lemmas.Bool.{false≢true, cases_Bool, and_parts, and_from, or_cases, or_left, or_right, not-true, not_from_false}
use Rattle.std.proofs.ByRecursion.{All-weaker}
use Rattle.rules.specs.declared.hunk.Hunk.{Hunk}
use Rattle.rules.specs.declared.mode.Conflict.TheVariants.{Keep, ResolveWithUnion}
use Rattle.rules.specs.declared.mode.Resolution.{Resolution}
use Rattle.rules.specs.declared.mode.Resolution.TheVariants.{Complete, CompleteWithAutoResolvedConflict, Conflict}
use Rattle.rules.specs.Lines.{Line, same_lines}
use Rattle.rules.specs.Hunks.{Sheets}
use Rattle.rules.specs.Walk.{walk}
use Rattle.rules.specs.Groups.{Cluster, clusters, is_group}
use Rattle.rules.specs.Filling.{sides_differ, ours_lines, theirs_lines}
use Rattle.rules.specs.Sides.{contracted_sides}
use Rattle.rules.specs.Verdict.{marks, verdict}
use Rattle.rules.specs.Order.{Kept}
use Rattle.rules.specs.ContractionLaws.{ContractionLaw}
use Rattle.rules.specs.VerdictLaws.{some_group_differs, SomeGroupDiffers, ExactlyWhen, VerdictLaws, SomeLeftDiffers}
use Rattle.rules.proofs.Fits.{Fit, kept_fit}
use Rattle.rules.proofs.Shared.{same_lines_true, same_lines_refl}
use Rattle.rules.proofs.Unions.{union_marks, contraction_law}
use Rattle.rules.proofs.Verdicts.{marked_is, keep_verdict, ours_verdict, theirs_verdict}

same_from : (xs ys : List Line) → xs ≡ ys → same_lines xs ys ≡ true
same_from xs ys e = rw (← e) (same_lines_refl xs)

unlike : (s : Sheets) (k : Cluster) → sides_differ s k ≡ true → ours_lines s k ≡ theirs_lines s k → ⊥
unlike s k e q = false≢true (sym (not-true (same_lines (ours_lines s k) (theirs_lines s k)) e) ∙ same_from (ours_lines s k) (theirs_lines s k) q)

differ : (s : Sheets) (k : Cluster) → (ours_lines s k ≡ theirs_lines s k → ⊥) → sides_differ s k ≡ true
differ s k f = ⊎_elim
    (λ (e : same_lines (ours_lines s k) (theirs_lines s k) ≡ true). absurd (f (same_lines_true (ours_lines s k) (theirs_lines s k) e)))
    (λ (e : same_lines (ours_lines s k) (theirs_lines s k) ≡ false). not_from_false (same_lines (ours_lines s k) (theirs_lines s k)) e)
    (cases_Bool (same_lines (ours_lines s k) (theirs_lines s k)))

found : (s : Sheets) (ks : List Cluster) → some_group_differs s ks ≡ true → (k : Cluster) × Memᴰ k ks × (is_group k ≡ true) × (sides_differ s k ≡ true)
found s [] e = absurd (false≢true e)
found s (k ∷ ks) e = ⊎_elim
    (λ (h : (is_group k && sides_differ s k) ≡ true). let p = and_parts (is_group k) (sides_differ s k) h in (k, Memᴰ.head refl, p.0, p.1))
    (λ (h : some_group_differs s ks ≡ true). let (j, m, g, d) = found s ks h in (j, Memᴰ.tail m, g, d))
    (or_cases (is_group k && sides_differ s k) (some_group_differs s ks) e)

given : (s : Sheets) (ks : List Cluster) (k : Cluster) → Memᴰ k ks → is_group k ≡ true → sides_differ s k ≡ true → some_group_differs s ks ≡ true
given s [] k m g d = absurd (Memᴰ.not-nil m)
given s (x ∷ xs) k m g d = ⊎_elim
    (λ (q : k ≡ x). or_left (is_group x && sides_differ s x) (some_group_differs s xs) (and_from (is_group x) (sides_differ s x) (ap is_group (sym q) ∙ g) (ap (sides_differ s) (sym q) ∙ d)))
    (λ (i : Memᴰ k xs). or_right (is_group x && sides_differ s x) (some_group_differs s xs) (given s xs k i g d))
    (Memᴰ.cases_cons m)

module _ (s : Sheets) (hs : List Hunk) where
  pub differ_told : some_group_differs s (clusters hs) ≡ true → SomeGroupDiffers s hs
  differ_told e = let (k, m, g, d) = found s (clusters hs) e in (k, record { there = m; group = g; unlike = unlike s k d })

  pub told_differ : SomeGroupDiffers s hs → some_group_differs s (clusters hs) ≡ true
  told_differ (k, d) = given s (clusters hs) k d.there d.group (differ s k d.unlike)

exactly : (P : Type 0) (b : Bool) (v r : Resolution) → (b ≡ true → P) → (P → b ≡ true) → r ≡ cond b v Complete → ExactlyWhen P v r
exactly P true v r f g e = inl (f refl, e)
exactly P false v r f g e = inr (λ x. false≢true (g x), e)

pub union_verdict : (s : Sheets) (cs os : List Hunk) → Kept s cs os → verdict ResolveWithUnion s cs os ≡ cond (some_group_differs s (clusters (walk cs os))) CompleteWithAutoResolvedConflict Complete
union_verdict s cs os p =
    let ks = clusters (walk cs os) in
    ap (λ (b : Bool). cond b CompleteWithAutoResolvedConflict Complete)
    (marked_is ResolveWithUnion s ks (All-weaker (Fit s) (λ (k : Cluster). marks ResolveWithUnion s k ≡ sides_differ s k) (union_marks s) ks (kept_fit s cs os p)))

-- the sides of a group differ exactly when what is left of them does
all_mem : {X : Type 0} (P : X → Type 0) (xs : List X) → AllByRecursion P xs → (x : X) → Memᴰ x xs → P x
all_mem P [] a x m = absurd (Memᴰ.not-nil m)
all_mem P (y ∷ ys) a x m = ⊎_elim (λ (e : x ≡ y). subst P (sym e) a.0) (λ (i : Memᴰ x ys). all_mem P ys a.1 x i) (Memᴰ.cases_cons m)

module _ (s : Sheets) (cs os : List Hunk) (p : Kept s cs os) where
  law_of : (k : Cluster) → Memᴰ k (clusters (walk cs os)) → ContractionLaw s k (contracted_sides s k)
  law_of k m = contraction_law s k (all_mem (Fit s) (clusters (walk cs os)) (kept_fit s cs os p) k m)

  left_told : SomeGroupDiffers s (walk cs os) → SomeLeftDiffers s (walk cs os)
  left_told (k, d) = (k, record { there = d.there; group = d.group; unlike = λ e. d.unlike ((law_of k d.there).then_equal e) })

  told_left : SomeLeftDiffers s (walk cs os) → SomeGroupDiffers s (walk cs os)
  told_left (k, d) = (k, record { there = d.there; group = d.group; unlike = λ e. let n = (law_of k d.there).nothing_left e in d.unlike (n.0 ∙ sym n.1) })

pub verdict_laws : (s : Sheets) (cs os : List Hunk) → Kept s cs os → VerdictLaws s cs os
verdict_laws s cs os p =
    let hs = walk cs os in
    let b = some_group_differs s (clusters hs) in
    let P = SomeGroupDiffers s hs in
    record {
      keep = λ st n. exactly P b Conflict (verdict (Keep st n) s cs os) (differ_told s hs) (told_differ s hs) (keep_verdict s cs os p st n);
      ours = exactly P b CompleteWithAutoResolvedConflict _ (differ_told s hs) (told_differ s hs) (ours_verdict s cs os);
      theirs = exactly P b CompleteWithAutoResolvedConflict _ (differ_told s hs) (told_differ s hs) (theirs_verdict s cs os);
      union = exactly P b CompleteWithAutoResolvedConflict _ (differ_told s hs) (told_differ s hs) (union_verdict s cs os p);
      union_left = exactly (SomeLeftDiffers s hs) b CompleteWithAutoResolvedConflict _ (λ e. left_told s cs os p (differ_told s hs e)) (λ d. told_differ s hs (told_left s cs os p d)) (union_verdict s cs os p);
      differ_test = (differ_told s hs, told_differ s hs);
      same_test = λ xs ys. (same_lines_true xs ys, same_from xs ys);
    }
