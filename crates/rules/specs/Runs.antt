-- Runs of calls: opens, enters, withdrawals and renders in any order, accepted or refused.
use Rattle.std.specs.Prelude.{ℕ, zero, suc, Bool, true, false, cond, List, [], ◌∷◌, ◌++◌, length, Ok, Err, Result}
use Rattle.rules.specs.declared.hunk.Hunk.{Hunk}
use Rattle.rules.specs.declared.hunk.Side.{Side}
use Rattle.rules.specs.declared.mode.Resolution.{Resolution}
use Rattle.rules.specs.declared.refusal.RenderRefusal.{RenderRefusal}
use Rattle.rules.specs.declared.refusal.TableRefusal.{TableRefusal}
use Rattle.rules.specs.Hunks.{Sheets}
use Rattle.rules.specs.Tables.{Held, new_table, open_after, enter_after, withdraw_after, enter_answer, open_answer, same_side, withdraw_answer}
use Rattle.rules.specs.Renders.{Asked, render_answer}

-- A call. A render is of any three sheets, and leaves the table as it is.
pub data Call : Type 0 where
  open_with : (a c o : ℕ) → Call
  enter : Hunk → Call
  withdraw : Side → Call
  render : Sheets → Asked → Call

abbrev pub after_call : Held → Call → Held
after_call t (open_with a c o) = open_after t a c o
after_call t (enter h) = enter_after t h
after_call t (withdraw side) = withdraw_after t side
after_call t (render s a) = t

-- A run: any calls, accepted or refused.
abbrev pub after_calls : Held → List Call → Held
after_calls t [] = t
after_calls t (x ∷ xs) = after_calls (after_call t x) xs

abbrev pub after_run : List Call → Held
after_run = after_calls new_table

-- A unit's run: any calls, then an opening with the counts of its sheets, and since then no opening.
abbrev pub opening : Sheets → Call
opening s = open_with (length s.ancestor) (length s.current) (length s.other)

abbrev pub NoOpening : Call → Type 0
NoOpening (open_with a c o) = ⊥
NoOpening (enter h) = Unit {0}
NoOpening (withdraw side) = Unit {0}
NoOpening (render s a) = Unit {0}

-- What a call answers.
pub data Answer : Type 0 where
  opened_as : Result (Unit {0}) TableRefusal → Answer
  counted_as : Result ℕ TableRefusal → Answer
  judged_as : Result Resolution RenderRefusal → Answer

abbrev pub answer : Held → Call → Answer
answer t (open_with a c o) = opened_as (open_answer a c o)
answer t (enter h) = counted_as (enter_answer t h)
answer t (withdraw side) = counted_as (withdraw_answer t side)
answer t (render s a) = judged_as (render_answer t s a)

abbrev pub answers : Held → List Call → List Answer
answers t [] = []
answers t (x ∷ xs) = answer t x ∷ answers (after_call t x) xs

-- A run as its calls, each with whether it was accepted.
abbrev pub is_ok : {A R : Type 0} → Result A R → Bool
is_ok (Ok x) = true
is_ok (Err r) = false

abbrev pub accepts : Answer → Bool
accepts (opened_as x) = is_ok x
accepts (counted_as x) = is_ok x
accepts (judged_as x) = is_ok x

pub record MadeCall : Type 0 where
  pub call : Call
  pub accepted : Bool

abbrev pub made_calls : Held → List Call → List MadeCall
made_calls t [] = []
made_calls t (x ∷ xs) = record { call = x; accepted = accepts (answer t x) } ∷ made_calls (after_call t x) xs

-- The hunks of a side that were entered and not withdrawn, read off the calls alone, from the last one back: an accepted withdrawal takes off the
-- accepted enter before it that none behind it has taken off, n of them being taken off by calls behind; an accepted opening ends the reading.
abbrev pub entered_ahead : ℕ → Hunk → (ℕ → List Hunk) → List Hunk
entered_ahead zero h ahead = ahead 0 ++ (h ∷ [])
entered_ahead (suc n) h ahead = ahead n

abbrev pub standing_by : Side → ℕ → Call → (ℕ → List Hunk) → List Hunk
standing_by side n (open_with a c o) ahead = []
standing_by side n (enter h) ahead = cond (same_side h.side side) (entered_ahead n h ahead) (ahead n)
standing_by side n (withdraw from) ahead = cond (same_side from side) (ahead (suc n)) (ahead n)
standing_by side n (render s a) ahead = ahead n

abbrev pub standing : Side → ℕ → List MadeCall → List Hunk
standing side n [] = []
standing side n (x ∷ xs) = cond x.accepted (standing_by side n x.call (λ m. standing side m xs)) (standing side n xs)
