-- A whole run of one unit, in the words of the rules: its calls, their answers, and what they leave in a sink.
use Rattle.std.specs.Prelude.{◌≡◌, ℕ, max, List, [], ◌∷◌, map}
use Rattle.rules.specs.Hunks.{Sheets}
use Rattle.rules.specs.Pieces.{Chunk, total}
use Rattle.rules.specs.Questions.{changed}
use Rattle.rules.specs.Renders.{render_answer, render_questions, render_sink, SinkState}
use Rattle.rules.specs.Runs.{Call as RulesCall, open_with, enter, withdraw, render, opening, after_call, Answer as RulesAnswer, counted_as, judged_as}
use Rattle.rules.specs.Tables.{Held, enter_answer, withdraw_answer}
use Rattle.rules.specs.TwoUnits.{UnitOf, table_of, shown}
use Rattle.merge.specs.Asking.{asked}
use Rattle.merge.specs.declared.run.Answer.{Answer}
use Rattle.merge.specs.declared.run.Answer.TheVariants.{Counted, Judged}
use Rattle.merge.specs.declared.run.Call.{Call}
use Rattle.merge.specs.declared.run.Call.TheVariants.{Enter, Withdraw, Render}

-- The call of the rules that a call of the code stands for: a render is of the unit's sheets, into a sink of so much capacity.
abbrev pub call_in : Sheets → ℕ → Call → RulesCall
call_in s capacity (Enter h) = enter h
call_in s capacity (Withdraw side) = withdraw side
call_in s capacity (Render mode labels) = render s (asked mode labels capacity)

abbrev pub calls_in : Sheets → ℕ → List Call → List RulesCall
calls_in s capacity xs = map (call_in s capacity) xs

-- The run: the opening with the sheets' counts of lines, and the calls since.
abbrev pub run_in : Sheets → ℕ → List Call → List RulesCall
run_in s capacity xs = opening s ∷ calls_in s capacity xs

-- The answer of the rules that an answer of the code stands for.
abbrev pub answer_in : Answer → RulesAnswer
answer_in (Counted x) = counted_as x
answer_in (Judged x) = judged_as x

-- What a call answers, the table being t.
abbrev pub answer_to : Sheets → ℕ → Held → Call → Answer
answer_to s capacity t (Enter h) = Counted (enter_answer t h)
answer_to s capacity t (Withdraw side) = Counted (withdraw_answer t side)
answer_to s capacity t (Render mode labels) = Judged (render_answer t s (asked mode labels capacity))

-- What calls in order answer, each with the table as those before it left it.
abbrev pub answers_to : Sheets → ℕ → Held → List Call → List Answer
answers_to s capacity t [] = []
answers_to s capacity t (x ∷ xs) = answer_to s capacity t x ∷ answers_to s capacity (after_call t (call_in s capacity x)) xs

-- The first list written over the front of the second, as far as that has places.
abbrev pub written_over : {A : Type 0} → List A → List A → List A
written_over [] ys = ys
written_over (x ∷ xs) [] = []
written_over (x ∷ xs) (y ∷ ys) = x ∷ written_over xs ys

-- What a call leaves in a sink: a render what it writes, any other what was there.
abbrev pub call_sink : {V : Type 0} → (V → Chunk → V) → V → Held → RulesCall → SinkState V → SinkState V
call_sink rule fresh t (open_with a c o) k = k
call_sink rule fresh t (enter h) k = k
call_sink rule fresh t (withdraw side) k = k
call_sink rule fresh t (render s a) k = render_sink rule fresh t s a k

-- What calls in order leave in a sink, each with the table as those before it left it.
abbrev pub sink_after : {V : Type 0} → (V → Chunk → V) → V → Held → List RulesCall → SinkState V → SinkState V
sink_after rule fresh t [] k = k
sink_after rule fresh t (x ∷ xs) k = sink_after rule fresh (after_call t x) xs (call_sink rule fresh t x k)

-- How many bytes a call writes: an accepted render its rendering's length, any other none.
abbrev pub written_by : Held → RulesCall → ℕ
written_by t (open_with a c o) = 0
written_by t (enter h) = 0
written_by t (withdraw side) = 0
written_by t (render s a) = changed (render_questions t s a) (total (shown s t a)) 0

-- The length of the longest rendering that calls in order write.
abbrev pub furthest : Held → List RulesCall → ℕ
furthest t [] = 0
furthest t (x ∷ xs) = max (written_by t x) (furthest (after_call t x) xs)

-- A table is that of a unit with these sheets, after these calls before its opening and these since.
pub record UnitTable (s : Sheets) (earlier since : List RulesCall) (t : Held) : Type 0 where
  pub the_unit : UnitOf s
  pub its_earlier : the_unit.earlier ≡ earlier
  pub its_since : the_unit.since ≡ since
  pub its_table : t ≡ table_of s the_unit
