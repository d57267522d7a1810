-- The agreement of two units, told of their renders. They have the same three sheets, current on one being other on the second. The table of each is
-- opened with the counts of its sheets, and then used by any enters, withdrawals and renders, accepted or refused.
use Rattle.std.specs.Prelude.{◌≡◌, ℕ, Bool, true, false, ◌⊎◌, List, ◌∷◌, ◌++◌, map, Ok}
use Rattle.std.specs.List.{AllByRecursion}
use Rattle.rules.specs.declared.hunk.Hunk.{Hunk}
use Rattle.rules.specs.declared.mode.Conflict.TheVariants.{Keep, ResolveWithOurs, ResolveWithTheirs}
use Rattle.rules.specs.declared.mode.ConflictStyle.{ConflictStyle}
use Rattle.rules.specs.declared.mode.Resolution.{Resolution}
use Rattle.rules.specs.declared.mode.Resolution.TheVariants.{CompleteWithAutoResolvedConflict, Conflict}
use Rattle.rules.specs.Hunks.{Sheets, lone_ones}
use Rattle.rules.specs.Walk.{walk}
use Rattle.rules.specs.Pieces.{Chunk}
use Rattle.rules.specs.Rendering.{rendering}
use Rattle.rules.specs.Tables.{Held}
use Rattle.rules.specs.Renders.{Asked, render_answer}
use Rattle.rules.specs.Runs.{opening, Call, NoOpening, after_run}
use Rattle.rules.specs.Outline.{outline, spelled, all_lines, has_block, ours_part, theirs_part}
use Rattle.rules.specs.PutIn.{put_in}
use Rattle.rules.specs.Exchange.{HoldsExchanged, exchanged_item, exchanged_sheets}
use Rattle.rules.specs.WalkLaws.{InTurn}
use Rattle.rules.specs.GroupLaws.{Behind}
use Rattle.rules.specs.VerdictLaws.{ExactlyWhen, SomeGroupDiffers}
use Rattle.rules.specs.RunLaws.{FewLines}

-- A unit with these sheets: the calls before it was opened with their counts, and the calls since.
pub record UnitOf (s : Sheets) : Type 0 where
  pub earlier : List Call
  pub since : List Call
  pub few : FewLines s
  pub no_opening : AllByRecursion NoOpening since

abbrev pub table_of : (s : Sheets) → UnitOf s → Held
table_of s u = after_run (u.earlier ++ (opening s ∷ u.since))

-- The pieces that an accepted render gives its sink.
abbrev pub shown : Sheets → Held → Asked → List Chunk
shown s t a = rendering a.mode s a.labels t.current t.other

-- Ours: the hunks of current and the lone ones of other. Theirs: those of other and the lone ones of current.
abbrev pub ours_put : Held → List Hunk
ours_put t = walk t.current (lone_ones t.current t.other)

abbrev pub theirs_put : Held → List Hunk
theirs_put t = walk (lone_ones t.other t.current) t.other

-- There is a group whose two lists of lines are not equal.
abbrev pub GroupDiffers : Sheets → Held → Type 0
GroupDiffers s t = SomeGroupDiffers s (walk t.current t.other)

abbrev pub TrueWhen : Type 0 → Bool → Type 0
TrueWhen P b = (P × (b ≡ true)) ⊎ ((P → ⊥) × (b ≡ false))

-- An accepted render that keeps conflicts. Every block of its outline replaced by its ours part gives the ancestor's lines with those of ours put in,
-- and by its theirs part those of theirs. It says Conflict exactly when there is such a group, exactly when its outline has a block.
pub record KeepTold (s : Sheets) (t : Held) (st : ConflictStyle) (a : Asked) (v : Resolution) : Type 0 where
  pub with_ours : spelled ours_part (outline st a.labels (shown s t a)) ≡ put_in s 0 (ours_put t)
  pub with_theirs : spelled theirs_part (outline st a.labels (shown s t a)) ≡ put_in s 0 (theirs_put t)
  pub judged : ExactlyWhen (GroupDiffers s t) Conflict v
  pub blocked : TrueWhen (GroupDiffers s t) (has_block (outline st a.labels (shown s t a)))

-- An accepted render of ours or theirs: its lines are those of that side, and it says that a conflict was resolved exactly when there is such a group.
pub record SideTold (s : Sheets) (t : Held) (put : List Hunk) (a : Asked) (v : Resolution) : Type 0 where
  pub lines : all_lines (shown s t a) ≡ put_in s 0 put
  pub judged : ExactlyWhen (GroupDiffers s t) CompleteWithAutoResolvedConflict v

pub record OneUnit (s : Sheets) (t : Held) : Type 0 where
  pub keep : (st : ConflictStyle) (n : ℕ) (a : Asked) (v : Resolution) → a.mode ≡ Keep st n → render_answer t s a ≡ Ok v → KeepTold s t st a v
  pub ours : (a : Asked) (v : Resolution) → a.mode ≡ ResolveWithOurs → render_answer t s a ≡ Ok v → SideTold s t (ours_put t) a v
  pub theirs : (a : Asked) (v : Resolution) → a.mode ≡ ResolveWithTheirs → render_answer t s a ≡ Ok v → SideTold s t (theirs_put t) a v
  -- the hunks put in lie apart in the ancestor
  pub ours_apart : InTurn Behind (ours_put t)
  pub theirs_apart : InTurn Behind (theirs_put t)

-- Two units that hold the same hunks, sides exchanged: their outlines in one style, with any labels and marker sizes, are equal with ours and theirs
-- exchanged in each block, and so are the verdicts.
abbrev pub AlikeShown : Sheets → Held → Held → Type 0
AlikeShown s t t' = HoldsExchanged t t'
    → (st : ConflictStyle) (n n' : ℕ) (a a' : Asked) (v v' : Resolution) → a.mode ≡ Keep st n → a'.mode ≡ Keep st n' → render_answer t s a ≡ Ok v → render_answer t' (exchanged_sheets s) a' ≡ Ok v'
    → (outline st a'.labels (shown (exchanged_sheets s) t' a') ≡ map exchanged_item (outline st a.labels (shown s t a))) × (v' ≡ v)

pub record TwoUnits (s : Sheets) (u : UnitOf s) (u' : UnitOf (exchanged_sheets s)) : Type 0 where
  pub first : OneUnit s (table_of s u)
  pub second : OneUnit (exchanged_sheets s) (table_of (exchanged_sheets s) u')
  pub alike : AlikeShown s (table_of s u) (table_of (exchanged_sheets s) u')
