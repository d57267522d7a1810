-- The laws of the verdict.
use Rattle.std.specs.Prelude.{◌≡◌, ℕ, Bool, true, false, ◌&&◌, ◌||◌, ◌⊎◌, List, [], ◌∷◌}
use mathlib.Core.List.{Memᴰ}
use Rattle.rules.specs.declared.hunk.Hunk.{Hunk}
use Rattle.rules.specs.declared.mode.Conflict.TheVariants.{Keep, ResolveWithOurs, ResolveWithTheirs, ResolveWithUnion}
use Rattle.rules.specs.declared.mode.ConflictStyle.{ConflictStyle}
use Rattle.rules.specs.declared.mode.Resolution.{Resolution}
use Rattle.rules.specs.declared.mode.Resolution.TheVariants.{Complete, CompleteWithAutoResolvedConflict, Conflict}
use Rattle.rules.specs.Lines.{Line, same_lines}
use Rattle.rules.specs.Hunks.{Sheets, side_lines}
use Rattle.rules.specs.Walk.{walk}
use Rattle.rules.specs.Groups.{Cluster, clusters, is_group}
use Rattle.rules.specs.Filling.{sides_differ, ours_lines, theirs_lines}
use Rattle.rules.specs.Sides.{contracted_sides}
use Rattle.rules.specs.Verdict.{verdict}

abbrev pub some_group_differs : Sheets → List Cluster → Bool
some_group_differs s [] = false
some_group_differs s (k ∷ ks) = (is_group k && sides_differ s k) || some_group_differs s ks

-- There is a group whose two sides are not the same lines.
pub record Differs (s : Sheets) (hs : List Hunk) (k : Cluster) : Type 0 where
  pub there : Memᴰ k (clusters hs)
  pub group : is_group k ≡ true
  pub unlike : ours_lines s k ≡ theirs_lines s k → ⊥

abbrev pub SomeGroupDiffers : Sheets → List Hunk → Type 0
SomeGroupDiffers s hs = (k : Cluster) × Differs s hs k

-- There is a group of which contraction leaves lines that differ between the sides.
pub record LeftDiffers (s : Sheets) (hs : List Hunk) (k : Cluster) : Type 0 where
  pub there : Memᴰ k (clusters hs)
  pub group : is_group k ≡ true
  pub unlike : side_lines s (contracted_sides s k).left ≡ side_lines s (contracted_sides s k).right → ⊥

abbrev pub SomeLeftDiffers : Sheets → List Hunk → Type 0
SomeLeftDiffers s hs = (k : Cluster) × LeftDiffers s hs k

-- A verdict that is v exactly when P holds, and otherwise Complete.
abbrev pub ExactlyWhen : Type 0 → Resolution → Resolution → Type 0
ExactlyWhen P v r = (P × (r ≡ v)) ⊎ ((P → ⊥) × (r ≡ Complete))

pub record VerdictLaws (s : Sheets) (cs os : List Hunk) : Type 0 where
  pub keep : (st : ConflictStyle) (n : ℕ) → ExactlyWhen (SomeGroupDiffers s (walk cs os)) Conflict (verdict (Keep st n) s cs os)
  pub ours : ExactlyWhen (SomeGroupDiffers s (walk cs os)) CompleteWithAutoResolvedConflict (verdict ResolveWithOurs s cs os)
  pub theirs : ExactlyWhen (SomeGroupDiffers s (walk cs os)) CompleteWithAutoResolvedConflict (verdict ResolveWithTheirs s cs os)
  pub union : ExactlyWhen (SomeGroupDiffers s (walk cs os)) CompleteWithAutoResolvedConflict (verdict ResolveWithUnion s cs os)
  pub union_left : ExactlyWhen (SomeLeftDiffers s (walk cs os)) CompleteWithAutoResolvedConflict (verdict ResolveWithUnion s cs os)
  -- the tests say what they should
  pub differ_test : (some_group_differs s (clusters (walk cs os)) ≡ true → SomeGroupDiffers s (walk cs os)) × (SomeGroupDiffers s (walk cs os) → some_group_differs s (clusters (walk cs os)) ≡ true)
  pub same_test : (xs ys : List Line) → (same_lines xs ys ≡ true → xs ≡ ys) × (xs ≡ ys → same_lines xs ys ≡ true)
