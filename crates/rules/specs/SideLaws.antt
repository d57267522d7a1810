-- What each mode writes of the groups: ours, theirs, both.
use Rattle.std.specs.Prelude.{◌≡◌, ℕ, cond, List, [], ◌∷◌, ◌++◌, drop}
use Rattle.std.specs.List.{AllByRecursion}
use Rattle.rules.specs.declared.hunk.Hunk.{Hunk}
use Rattle.rules.specs.declared.mode.Conflict.TheVariants.{ResolveWithOurs, ResolveWithTheirs, ResolveWithUnion}
use Rattle.rules.specs.Lines.{Line, between}
use Rattle.rules.specs.Hunks.{Sheets, hunk_lines, side_lines}
use Rattle.rules.specs.Walk.{walk, is_current, is_other}
use Rattle.rules.specs.Groups.{Cluster, clusters, is_group, from, to}
use Rattle.rules.specs.Filling.{side_of}
use Rattle.rules.specs.Sides.{contracted_sides}
use Rattle.rules.specs.Markers.{Labels}
use Rattle.rules.specs.Rendering.{rendering}
use Rattle.rules.specs.Outline.{all_lines}
use Rattle.rules.specs.ContractionLaws.{ContractionLaw}

-- The ancestor's lines from line n on, the lines of each lone hunk in its place, and in that of each group lines that it gives.
abbrev pub with_groups : (Cluster → List Line) → Sheets → ℕ → List Cluster → List Line
with_groups g s n [] = drop n s.ancestor
with_groups g s n (k ∷ ks) = between s.ancestor n (from k) ++ (cond (is_group k) (g k) (hunk_lines s k.first) ++ with_groups g s (to k) ks)

-- Union's lines of a group: front, ours that is left, theirs that is left, back.
abbrev pub union_lines : Sheets → Cluster → List Line
union_lines s k = let d = contracted_sides s k in side_lines s d.front ++ (side_lines s d.left ++ (side_lines s d.right ++ side_lines s d.back))

-- Group by group: ResolveWithOurs writes the lines of the current side, ResolveWithTheirs those of the other, Union both.
pub record SideLaws (s : Sheets) (cs os : List Hunk) : Type 0 where
  pub ours : (l : Labels) → all_lines (rendering ResolveWithOurs s l cs os) ≡ with_groups (λ k. side_lines s (side_of is_current k)) s 0 (clusters (walk cs os))
  pub theirs : (l : Labels) → all_lines (rendering ResolveWithTheirs s l cs os) ≡ with_groups (λ k. side_lines s (side_of is_other k)) s 0 (clusters (walk cs os))
  pub union : (l : Labels) → all_lines (rendering ResolveWithUnion s l cs os) ≡ with_groups (union_lines s) s 0 (clusters (walk cs os))
  pub contraction : AllByRecursion (λ (k : Cluster). ContractionLaw s k (contracted_sides s k)) (clusters (walk cs os))
