-- The laws over runs of calls: what a table keeps and holds, and what the same calls with sides exchanged answer and leave.
use Rattle.std.specs.Prelude.{◌≡◌, ℕ, ◌<◌, ◌≤◌, List, [], ◌∷◌, ◌++◌, map, reverse, length, Ok, Err, Result}
use Rattle.rules.specs.declared.hunk.Hunk.{Hunk}
use Rattle.rules.specs.declared.hunk.Side.{Side}
use Rattle.rules.specs.declared.mode.Resolution.{Resolution}
use Rattle.rules.specs.declared.refusal.RenderRefusal.{RenderRefusal}
use Rattle.rules.specs.declared.refusal.RenderRefusal.TheVariants.{SinkTooSmall}
use Rattle.rules.specs.declared.refusal.TableRefusal.{TableRefusal}
use Rattle.rules.specs.Limits.{max_lines}
use Rattle.rules.specs.Hunks.{Sheets}
use Rattle.rules.specs.Refusals.{render_number, table_number}
use Rattle.rules.specs.Tables.{new_table, open_after, enter_after, withdraw_after, held_of}
use Rattle.rules.specs.Renders.{Asked}
use Rattle.rules.specs.Runs.{Call, open_with, enter, withdraw, render, after_run, Answer, counted_as, judged_as, made_calls, opened_as, standing, answers}
use Rattle.rules.specs.Exchange.{HoldsExchanged, exchanged_call}
use Rattle.rules.specs.WalkLaws.{Pairwise}
use Rattle.rules.specs.TableLaws.{TableKeeps, TwoSided}

abbrev pub TablesKeep : Type 0
TablesKeep = (xs : List Call) → TableKeeps (after_run xs)

pub record FewLines (s : Sheets) : Type 0 where
  pub ancestor : length s.ancestor ≤ max_lines
  pub current : length s.current ≤ max_lines
  pub other : length s.other ≤ max_lines

-- What is held of a side is the accepted enters not withdrawn.
abbrev pub HeldLaw : List Call → Type 0
HeldLaw xs = (side : Side) → TwoSided side → held_of (after_run xs) side ≡ standing side 0 (reverse (made_calls new_table xs))

-- The answers of two units to the same calls, sides exchanged. Enter and withdrawal answer the same; an opening is accepted by both or refused by
-- both with one number; and so is a render, with one verdict, except that the two renderings may differ in length, since their line endings may:
-- one of them can then be too long for its sink.
pub data AlikeAnswers : Answer → Answer → Type 0 where
  both_open : AlikeAnswers (opened_as (Ok tt)) (opened_as (Ok tt))
  none_opens : (r r' : TableRefusal) → table_number r ≡ table_number r' → AlikeAnswers (opened_as (Err r)) (opened_as (Err r'))
  one_count : (x : Result ℕ TableRefusal) → AlikeAnswers (counted_as x) (counted_as x)
  one_verdict : (v : Resolution) → AlikeAnswers (judged_as (Ok v)) (judged_as (Ok v))
  one_number : (r r' : RenderRefusal) → render_number r ≡ render_number r' → AlikeAnswers (judged_as (Err r)) (judged_as (Err r'))
  first_too_long : (n c : ℕ) (v : Resolution) → c < n → AlikeAnswers (judged_as (Err (SinkTooSmall n c))) (judged_as (Ok v))
  second_too_long : (n c : ℕ) (v : Resolution) → c < n → AlikeAnswers (judged_as (Ok v)) (judged_as (Err (SinkTooSmall n c)))

pub record SameCalls (xs : List Call) : Type 0 where
  pub same_answers : Pairwise AlikeAnswers (answers new_table xs) (answers new_table (map exchanged_call xs))
  pub same_hunks : HoldsExchanged (after_run xs) (after_run (map exchanged_call xs))

abbrev pub SameCallsSameHunks : Type 0
SameCallsSameHunks = (xs : List Call) → SameCalls xs

-- A run begins with a new table, and each further call leaves what its own rule says.
pub record CallLaws (xs : List Call) : Type 0 where
  pub begun : after_run [] ≡ new_table
  pub opened_next : (a c o : ℕ) → after_run (xs ++ (open_with a c o ∷ [])) ≡ open_after (after_run xs) a c o
  pub entered_next : (h : Hunk) → after_run (xs ++ (enter h ∷ [])) ≡ enter_after (after_run xs) h
  pub withdrawn_next : (side : Side) → after_run (xs ++ (withdraw side ∷ [])) ≡ withdraw_after (after_run xs) side
  pub rendered_next : (s : Sheets) (a : Asked) → after_run (xs ++ (render s a ∷ [])) ≡ after_run xs
