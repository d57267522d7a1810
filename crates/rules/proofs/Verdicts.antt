-- The verdicts: what a rendering reports is whether the two sides of some group differ.
use Rattle.std.proofs.Common.{◌≡◌, ℕ, Bool, cond, ◌&&◌, ◌||◌, List, [], ◌∷◌, refl, ap, ap₂}
use Rattle.std.specs.List.{AllByRecursion}
use Rattle.std.proofs.ByRecursion.{All-weaker}
use Rattle.rules.specs.declared.hunk.Hunk.{Hunk}
use Rattle.rules.specs.declared.mode.Conflict as modes
use Rattle.rules.specs.declared.mode.Conflict.TheVariants.{Keep, ResolveWithOurs, ResolveWithTheirs}
use Rattle.rules.specs.declared.mode.ConflictStyle.{ConflictStyle}
use Rattle.rules.specs.declared.mode.ConflictStyle.TheVariants.{Merge, Diff3, ZealousDiff3}
use Rattle.rules.specs.declared.mode.Resolution.TheVariants.{Complete, CompleteWithAutoResolvedConflict, Conflict}
use Rattle.rules.specs.Hunks.{Sheets}
use Rattle.rules.specs.Walk.{walk}
use Rattle.rules.specs.Groups.{Cluster, clusters, is_group}
use Rattle.rules.specs.Filling.{sides_differ, ours_lines, theirs_lines}
use Rattle.rules.specs.Sides.{sides_in, contracted_sides}
use Rattle.rules.specs.Blocks.{blocked}
use Rattle.rules.specs.Verdict.{marks, any_marked, verdict}
use Rattle.rules.specs.Order.{Kept}
use Rattle.rules.specs.VerdictLaws.{some_group_differs}
use Rattle.rules.proofs.Contracting.{sides_lines, left_is}
use Rattle.rules.proofs.Fits.{Fit, kept_fit}

pub blocked_is : (st : ConflictStyle) (s : Sheets) (k : Cluster) → Fit s k → blocked st s (sides_in st s k).left (sides_in st s k).right ≡ sides_differ s k
blocked_is Merge s k p = left_is s (ours_lines s k) (theirs_lines s k) (contracted_sides s k) (sides_lines s k p.ours p.theirs)
blocked_is Diff3 s k p = refl
blocked_is ZealousDiff3 s k p = left_is s (ours_lines s k) (theirs_lines s k) (contracted_sides s k) (sides_lines s k p.ours p.theirs)

pub marked_is : (m : modes.Conflict) (s : Sheets) (ks : List Cluster) → AllByRecursion (λ (k : Cluster). marks m s k ≡ sides_differ s k) ks → any_marked m s ks ≡ some_group_differs s ks
marked_is m s [] p = refl
marked_is m s (k ∷ ks) p = ap₂ (λ (x y : Bool). (is_group k && x) || y) p.0 (marked_is m s ks p.1)

all_same : (s : Sheets) (ks : List Cluster) → AllByRecursion (λ (k : Cluster). sides_differ s k ≡ sides_differ s k) ks
all_same s [] = tt
all_same s (k ∷ ks) = (refl, all_same s ks)

module _ (s : Sheets) (cs os : List Hunk) where
  pub keep_verdict : Kept s cs os → (st : ConflictStyle) (n : ℕ) → verdict (Keep st n) s cs os ≡ cond (some_group_differs s (clusters (walk cs os))) Conflict Complete
  keep_verdict p st n =
      ap (λ (b : Bool). cond b Conflict Complete)
      (marked_is (Keep st n) s (clusters (walk cs os)) (All-weaker (Fit s) (λ (k : Cluster). marks (Keep st n) s k ≡ sides_differ s k) (blocked_is st s) (clusters (walk cs os)) (kept_fit s cs os p)))

  pub ours_verdict : verdict ResolveWithOurs s cs os ≡ cond (some_group_differs s (clusters (walk cs os))) CompleteWithAutoResolvedConflict Complete
  ours_verdict = ap (λ (b : Bool). cond b CompleteWithAutoResolvedConflict Complete) (marked_is ResolveWithOurs s (clusters (walk cs os)) (all_same s (clusters (walk cs os))))

  pub theirs_verdict : verdict ResolveWithTheirs s cs os ≡ cond (some_group_differs s (clusters (walk cs os))) CompleteWithAutoResolvedConflict Complete
  theirs_verdict = ap (λ (b : Bool). cond b CompleteWithAutoResolvedConflict Complete) (marked_is ResolveWithTheirs s (clusters (walk cs os)) (all_same s (clusters (walk cs os))))
