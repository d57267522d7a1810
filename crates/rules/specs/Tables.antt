-- The hunk table: what its calls ask, answer and leave.
use Rattle.std.specs.Prelude.{ℕ, ◌+◌, ◌-◌, Bool, true, false, ◌&&◌, ◌||◌, List, [], ◌∷◌, ◌++◌, length, take, Some, None, Option, Result, nat_le, nat_lt}
use Rattle.std.specs.List.{slice_get}
use Rattle.rules.specs.declared.hunk.Hunk.{Hunk}
use Rattle.rules.specs.declared.hunk.Side.{Side}
use Rattle.rules.specs.declared.hunk.Side.TheVariants.{Current, Other, Ancestor}
use Rattle.rules.specs.declared.hunk.Span.{Span}
use Rattle.rules.specs.declared.refusal.HunkRange.TheVariants.{Before, After}
use Rattle.rules.specs.declared.refusal.TableRefusal.{TableRefusal}
use Rattle.rules.specs.declared.refusal.TableRefusal.TheVariants.{CountTooLarge, NoHunksOfSide, SideFull, RangeOutside, HunkEmpty, NotBehindLast, NothingHeld}
use Rattle.rules.specs.Limits.{max_lines, max_hunks}
use Rattle.rules.specs.Questions.{ask, answered, changed}

-- A hunk table: the line counts that it was opened with, and the hunks held of each side in the order of their enters.
pub record Held : Type 0 where
  pub ancestor_lines : ℕ
  pub current_lines : ℕ
  pub other_lines : ℕ
  pub current : List Hunk
  pub other : List Hunk

abbrev pub opened : ℕ → ℕ → ℕ → Held
opened a c o = record { ancestor_lines = a; current_lines = c; other_lines = o; current = []; other = [] }

-- A new table, before any opening.
abbrev pub new_table : Held
new_table = opened 0 0 0

abbrev pub held_of : Held → Side → List Hunk
held_of t Current = t.current
held_of t Other = t.other
held_of t Ancestor = []

-- Hunk n of a side, or nothing.
abbrev pub held_at : Held → Side → ℕ → Option Hunk
held_at t side n = slice_get (held_of t side) n

abbrev pub count_of : Held → Side → ℕ
count_of t Current = t.current_lines
count_of t Other = t.other_lines
count_of t Ancestor = t.ancestor_lines

-- The table with other hunks held of one side.
abbrev pub holding : Held → Side → List Hunk → Held
holding t Current hs = record { ancestor_lines = t.ancestor_lines; current_lines = t.current_lines; other_lines = t.other_lines; current = hs; other = t.other }
holding t Other hs = record { ancestor_lines = t.ancestor_lines; current_lines = t.current_lines; other_lines = t.other_lines; current = t.current; other = hs }
holding t Ancestor hs = t

-- The sides that hunks are held of.
abbrev pub has_hunks : Side → Bool
has_hunks Current = true
has_hunks Other = true
has_hunks Ancestor = false

-- A range that runs forward and ends within a sheet of n lines.
abbrev pub within : ℕ → Span → Bool
within n r = nat_le r.start r.end && nat_le r.end n

-- One of the two ranges has a line.
abbrev pub changes : Hunk → Bool
changes h = nat_lt h.before.start h.before.end || nat_lt h.after.start h.after.end

-- Behind the hunk before it, if there is one: a gap in the ancestor, and none needed in the side's sheet.
abbrev pub follows : Option Hunk → Hunk → Bool
follows None h = true
follows (Some g) h = nat_lt g.before.end h.before.start && nat_le g.after.end h.after.start

abbrev pub last_from : Option Hunk → List Hunk → Option Hunk
last_from g [] = g
last_from g (h ∷ hs) = last_from (Some h) hs

-- The last hunk of a list, if there is one.
abbrev pub last_of : List Hunk → Option Hunk
last_of hs = last_from None hs

-- Open: the table is emptied and takes the line counts of ancestor, current and other.
abbrev pub open_questions : ℕ → ℕ → ℕ → Option TableRefusal
open_questions a c o =
    ask (nat_le a max_lines) (CountTooLarge Ancestor)
    (ask (nat_le c max_lines) (CountTooLarge Current)
    (ask (nat_le o max_lines) (CountTooLarge Other) None))

abbrev pub open_answer : ℕ → ℕ → ℕ → Result (Unit {0}) TableRefusal
open_answer a c o = answered (open_questions a c o) tt

abbrev pub open_after : Held → ℕ → ℕ → ℕ → Held
open_after t a c o = changed (open_questions a c o) (opened a c o) t

-- Enter: the questions for a hunk, behind those held of its side, for an ancestor of na lines and a sheet of ns lines.
abbrev pub hunk_questions : ℕ → ℕ → List Hunk → Hunk → Option TableRefusal
hunk_questions na ns hs h =
    ask (nat_lt (length hs) max_hunks) SideFull
    (ask (within na h.before) (RangeOutside Before)
    (ask (within ns h.after) (RangeOutside After)
    (ask (changes h) HunkEmpty
    (ask (follows (last_of hs) h) NotBehindLast None))))

abbrev pub enter_questions : Held → Side → Hunk → Option TableRefusal
enter_questions t side h = ask (has_hunks side) NoHunksOfSide (hunk_questions t.ancestor_lines (count_of t side) (held_of t side) h)

-- Accepted, it goes behind the side's last one; the answer is the side's new count.
abbrev pub enter_answer : Held → Hunk → Result ℕ TableRefusal
enter_answer t h = answered (enter_questions t h.side h) (length (held_of t h.side) + 1)

abbrev pub enter_after : Held → Hunk → Held
enter_after t h = changed (enter_questions t h.side h) (holding t h.side (held_of t h.side ++ (h ∷ []))) t

-- Withdraw: the side's last hunk goes; the answer is the side's new count.
abbrev pub withdraw_questions : Held → Side → Option TableRefusal
withdraw_questions t side = ask (has_hunks side) NoHunksOfSide (ask (nat_lt 0 (length (held_of t side))) NothingHeld None)

abbrev pub withdraw_answer : Held → Side → Result ℕ TableRefusal
withdraw_answer t side = answered (withdraw_questions t side) (length (held_of t side) - 1)

abbrev pub without_last : List Hunk → List Hunk
without_last hs = take (length hs - 1) hs

abbrev pub withdraw_after : Held → Side → Held
withdraw_after t side = changed (withdraw_questions t side) (holding t side (without_last (held_of t side))) t

-- What every table keeps of the hunks of one side, as a test: each is of the side, within the sheets and not empty, and behind the one before it.
abbrev pub same_side : Side → Side → Bool
same_side Current Current = true
same_side Current Other = false
same_side Current Ancestor = false
same_side Other Current = false
same_side Other Other = true
same_side Other Ancestor = false
same_side Ancestor Current = false
same_side Ancestor Other = false
same_side Ancestor Ancestor = true

abbrev pub sound : ℕ → ℕ → Side → Hunk → Bool
sound na ns side h = same_side h.side side && (within na h.before && (within ns h.after && changes h))

abbrev pub keeps_from : ℕ → ℕ → Side → Option Hunk → List Hunk → Bool
keeps_from na ns side g [] = true
keeps_from na ns side g (h ∷ hs) = (sound na ns side h && follows g h) && keeps_from na ns side (Some h) hs

abbrev pub keeps : ℕ → ℕ → Side → List Hunk → Bool
keeps na ns side hs = keeps_from na ns side None hs
