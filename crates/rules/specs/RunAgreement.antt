-- The agreement over runs, whole: every law above, of what two units hold and show after any two runs of calls.
use Rattle.std.specs.Prelude.{◌≡◌, ℕ, List, [], ◌∷◌, ◌++◌, Ok}
use Rattle.std.specs.List.{AllByRecursion}
use Rattle.rules.specs.declared.mode.Resolution.{Resolution}
use Rattle.rules.specs.Hunks.{Sheets}
use Rattle.rules.specs.Pieces.{Chunk, one_more, more_bytes}
use Rattle.rules.specs.Tables.{Held}
use Rattle.rules.specs.Renders.{Asked, render_answer}
use Rattle.rules.specs.Runs.{Call, after_run, opening, NoOpening}
use Rattle.rules.specs.Exchange.{exchanged_sheets, HoldsExchanged}
use Rattle.rules.specs.TableLaws.{TableRules, TableKeeps, KeepsLaw}
use Rattle.rules.specs.RenderLaws.{Counted, RenderRules}
use Rattle.rules.specs.Lengths.{LengthLaw}
use Rattle.rules.specs.Agreement.{Alike, Laws}
use Rattle.rules.specs.RunLaws.{CallLaws, FewLines, HeldLaw, SameCalls}
use Rattle.rules.specs.TwoUnits.{TwoUnits, UnitOf}

-- Two units, the second with the sheets of current and other exchanged.
pub record AgreementAfter (s : Sheets) (t t' : Held) : Type 0 where
  -- what holds of each one's renderings
  pub first : Laws s t.current t.other
  pub second : Laws (exchanged_sheets s) t'.current t'.other
  pub first_short : LengthLaw s t.current t.other
  pub second_short : LengthLaw (exchanged_sheets s) t'.current t'.other
  -- whenever they hold the same hunks, sides exchanged, they show the same
  pub alike : HoldsExchanged t t' → Alike s t.current t.other t'.current t'.other

-- Over runs from a new table, of any calls, accepted or refused; a front of a run is a run, so all this holds after each call. The two units
-- have sinks of their own: values of V and of V', each with a rule for one more piece and a fresh value.
pub record AgreementOverRuns (V : Type 0) (rule : V → Chunk → V) (fresh : V) (V' : Type 0) (rule' : V' → Chunk → V') (fresh' : V') : Type 0 where
  -- the table: what it keeps, and what its calls answer and leave
  pub keeps : (xs : List Call) → TableKeeps (after_run xs)
  pub keeps_test : KeepsLaw
  pub rules : (xs : List Call) → TableRules (after_run xs)
  pub calls : (xs : List Call) → CallLaws xs
  pub held : (xs : List Call) → HeldLaw xs
  pub same_calls : (xs : List Call) → SameCalls xs
  -- size and render, of any three sheets
  pub renders : (xs : List Call) (s : Sheets) → RenderRules V rule fresh (after_run xs) s
  pub renders' : (xs : List Call) (s : Sheets) → RenderRules V' rule' fresh' (after_run xs) s
  -- a table has the counts of the sheets whenever it was opened with them and not again since, and whenever a render of them is accepted
  pub since_opening : (s : Sheets) (xs ys : List Call) → FewLines s → AllByRecursion NoOpening ys → Counted s (after_run (xs ++ (opening s ∷ ys)))
  pub when_accepted : (s : Sheets) (xs : List Call) (a : Asked) (v : Resolution) → render_answer (after_run xs) s a ≡ Ok v → Counted s (after_run xs)
  -- two units whose tables have the counts of their sheets, each after a run of its own
  pub agree : (s : Sheets) (xs ys : List Call) → Counted s (after_run xs) → Counted (exchanged_sheets s) (after_run ys) → AgreementAfter s (after_run xs) (after_run ys)
  -- the same, told of their renders
  pub told : (s : Sheets) (u : UnitOf s) (u' : UnitOf (exchanged_sheets s)) → TwoUnits s u u'

abbrev pub UnitsAgreeOverRuns : Type 0
UnitsAgreeOverRuns = AgreementOverRuns (List Chunk) one_more [] (List ℕ) more_bytes []
