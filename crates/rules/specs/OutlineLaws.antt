-- The laws of the outline of a rendering that keeps conflicts.
use Rattle.std.specs.Prelude.{◌≡◌, ℕ, List}
use Rattle.rules.specs.declared.hunk.Hunk.{Hunk}
use Rattle.rules.specs.declared.mode.Conflict.TheVariants.{Keep, ResolveWithOurs, ResolveWithTheirs}
use Rattle.rules.specs.declared.mode.ConflictStyle.{ConflictStyle}
use Rattle.rules.specs.Hunks.{Sheets}
use Rattle.rules.specs.Walk.{walk}
use Rattle.rules.specs.Groups.{clusters}
use Rattle.rules.specs.Markers.{Labels}
use Rattle.rules.specs.Rendering.{rendering}
use Rattle.rules.specs.Outline.{outline, all_lines, has_block, ours_part, theirs_part, every_part, spelled}
use Rattle.rules.specs.GroupOutline.{items}
use Rattle.rules.specs.Order.{Kept}
use Rattle.rules.specs.VerdictLaws.{some_group_differs}

abbrev pub Outlined : Type 0
Outlined = (s : Sheets) (cs os : List Hunk) → Kept s cs os → (st : ConflictStyle) (n : ℕ) (l : Labels)
    → outline st l (rendering (Keep st n) s l cs os) ≡ items st s 0 (clusters (walk cs os))

-- The outline of a rendering that keeps conflicts: it comes from the groups alone, has a block exactly when the sides of some group differ,
-- reads as ours where each block gives its ours part and as theirs where each gives its theirs part, and has every line of the rendering once.
pub record OutlineLaws (s : Sheets) (cs os : List Hunk) : Type 0 where
  pub drawn : (st : ConflictStyle) (n : ℕ) (l : Labels) → outline st l (rendering (Keep st n) s l cs os) ≡ items st s 0 (clusters (walk cs os))
  pub told : (st : ConflictStyle) (n : ℕ) (l : Labels) → has_block (outline st l (rendering (Keep st n) s l cs os)) ≡ some_group_differs s (clusters (walk cs os))
  pub with_ours : (st : ConflictStyle) (n : ℕ) (l l' : Labels) → spelled ours_part (outline st l (rendering (Keep st n) s l cs os)) ≡ all_lines (rendering ResolveWithOurs s l' cs os)
  pub with_theirs : (st : ConflictStyle) (n : ℕ) (l l' : Labels) → spelled theirs_part (outline st l (rendering (Keep st n) s l cs os)) ≡ all_lines (rendering ResolveWithTheirs s l' cs os)
  pub whole : (st : ConflictStyle) (n : ℕ) (l : Labels) → spelled every_part (outline st l (rendering (Keep st n) s l cs os)) ≡ all_lines (rendering (Keep st n) s l cs os)
