-- What holds of the renderings of one unit, and what two units that hold the same hunks agree on.
use Rattle.std.specs.Prelude.{◌≡◌, ℕ, cond, List, map}
use Rattle.rules.specs.declared.hunk.Hunk.{Hunk}
use Rattle.rules.specs.declared.mode.Conflict as modes
use Rattle.rules.specs.declared.mode.Conflict.TheVariants.{Keep, ResolveWithOurs, ResolveWithTheirs}
use Rattle.rules.specs.declared.mode.ConflictStyle.{ConflictStyle}
use Rattle.rules.specs.declared.mode.Resolution.TheVariants.{Complete, CompleteWithAutoResolvedConflict, Conflict}
use Rattle.rules.specs.Hunks.{Sheets, lone_ones}
use Rattle.rules.specs.Walk.{walk}
use Rattle.rules.specs.Groups.{clusters}
use Rattle.rules.specs.Markers.{Labels}
use Rattle.rules.specs.Rendering.{rendering}
use Rattle.rules.specs.Verdict.{verdict}
use Rattle.rules.specs.Outline.{reads_as_ours, reads_as_theirs, lines_kept, all_lines, outline}
use Rattle.rules.specs.PutIn.{put_in}
use Rattle.rules.specs.Exchange.{exchanged_item, exchanged_hunk, exchanged_sheets, exchanged_mode}
use Rattle.rules.specs.Order.{Kept}
use Rattle.rules.specs.HunkLaws.{HunkLaws}
use Rattle.rules.specs.WalkLaws.{TouchLaw, Walked}
use Rattle.rules.specs.GroupLaws.{GroupsAreChains, RangeLaws}
use Rattle.rules.specs.EndingLaws.{EndingLaws}
use Rattle.rules.specs.MarkerLaws.{MarkerLaws}
use Rattle.rules.specs.UnionLaws.{UnionLaw}
use Rattle.rules.specs.SideLaws.{SideLaws}
use Rattle.rules.specs.OutlineLaws.{OutlineLaws}
use Rattle.rules.specs.VerdictLaws.{some_group_differs, VerdictLaws}

-- What holds of the renderings of one unit.
pub record OwnLaws (s : Sheets) (cs os : List Hunk) : Type 0 where
  -- every block replaced by its ours part, a Keep rendering has the lines of ours; theirs likewise
  pub ours_part : (st : ConflictStyle) (n : ℕ) (l l' : Labels) → lines_kept reads_as_ours (rendering (Keep st n) s l cs os) ≡ all_lines (rendering ResolveWithOurs s l' cs os)
  pub theirs_part : (st : ConflictStyle) (n : ℕ) (l l' : Labels) → lines_kept reads_as_theirs (rendering (Keep st n) s l cs os) ≡ all_lines (rendering ResolveWithTheirs s l' cs os)
  -- and those are the ancestor's with each hunk of that side and each lone hunk of the other put in
  pub ours_lines : (l : Labels) → all_lines (rendering ResolveWithOurs s l cs os) ≡ put_in s 0 (walk cs (lone_ones cs os))
  pub theirs_lines : (l : Labels) → all_lines (rendering ResolveWithTheirs s l cs os) ≡ put_in s 0 (walk (lone_ones os cs) os)
  -- the verdict tells whether the sides of some group differ
  pub keep_verdict : (st : ConflictStyle) (n : ℕ) → verdict (Keep st n) s cs os ≡ cond (some_group_differs s (clusters (walk cs os))) Conflict Complete
  pub ours_verdict : verdict ResolveWithOurs s cs os ≡ cond (some_group_differs s (clusters (walk cs os))) CompleteWithAutoResolvedConflict Complete
  pub theirs_verdict : verdict ResolveWithTheirs s cs os ≡ cond (some_group_differs s (clusters (walk cs os))) CompleteWithAutoResolvedConflict Complete
  pub groups : GroupsAreChains (walk cs os)

-- All of them.
pub record Laws (s : Sheets) (cs os : List Hunk) : Type 0 where
  pub hunks : HunkLaws s
  pub touch : TouchLaw
  pub walked : Walked cs os
  pub own : OwnLaws s cs os
  pub outlines : OutlineLaws s cs os
  pub verdicts : VerdictLaws s cs os
  pub ranges : RangeLaws cs os
  pub sides : SideLaws s cs os
  pub markers : MarkerLaws s cs os
  pub union : UnionLaw s cs os
  pub endings : EndingLaws s

-- What two units show alike, the second with the sheets of current and other exchanged: in one style, any marker sizes and labels,
-- the outlines are equal with ours and theirs exchanged in each block, and so are the verdicts.
pub record Alike (s : Sheets) (cs os cs' os' : List Hunk) : Type 0 where
  pub same_outline : (st : ConflictStyle) (n n' : ℕ) (l l' : Labels)
      → outline st l' (rendering (Keep st n') (exchanged_sheets s) l' cs' os') ≡ map exchanged_item (outline st l (rendering (Keep st n) s l cs os))
  pub same_verdict : (st : ConflictStyle) (n n' : ℕ) → verdict (Keep st n') (exchanged_sheets s) cs' os' ≡ verdict (Keep st n) s cs os
  -- and in the other modes too, ours for theirs
  pub same_judged : (m : modes.Conflict) → verdict (exchanged_mode m) (exchanged_sheets s) cs' os' ≡ verdict m s cs os

pub record Agreement (s : Sheets) (cs os : List Hunk) : Type 0 where
  pub own : OwnLaws s cs os
  pub alike : Alike s cs os (map exchanged_hunk os) (map exchanged_hunk cs)

abbrev pub UnitsAgree : Type 0
UnitsAgree = (s : Sheets) (cs os : List Hunk) → Kept s cs os → Agreement s cs os
