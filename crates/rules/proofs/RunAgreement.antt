-- The agreement over runs.
use Rattle.std.proofs.Common.{List, [], ◌∷◌, sym, refl, subst₂}
use Rattle.rules.specs.declared.hunk.Hunk.{Hunk}
use Rattle.rules.specs.Hunks.{Sheets}
use Rattle.rules.specs.Pieces.{Chunk}
use Rattle.rules.specs.Tables.{Held, new_table}
use Rattle.rules.specs.Runs.{Call, open_with, enter, withdraw, render, after_run}
use Rattle.rules.specs.Exchange.{exchanged_sheets, HoldsExchanged}
use Rattle.rules.specs.Order.{Kept}
use Rattle.rules.specs.Agreement.{Alike}
use Rattle.rules.specs.RunLaws.{CallLaws}
use Rattle.rules.specs.RunAgreement.{AgreementOverRuns, UnitsAgreeOverRuns}
use Rattle.rules.proofs.Agreed.{laws, units_agree}
use Rattle.rules.proofs.Answers.{same_calls}
use Rattle.rules.proofs.Lengths.{length_law}
use Rattle.rules.proofs.Rendered.{render_rules, accepted_counted}
use Rattle.rules.proofs.Rules.{follow_rules}
use Rattle.rules.proofs.Standing.{held_law}
use Rattle.rules.proofs.TableKeeps.{tables_keep, keeps_law, table_kept, after_both, since_opening}
use Rattle.rules.proofs.TwoUnits.{two_units}

alike_after : (s : Sheets) (t t' : Held) → Kept s t.current t.other → HoldsExchanged t t' → Alike s t.current t.other t'.current t'.other
alike_after s t t' p q = subst₂ (λ (x y : List Hunk). Alike s t.current t.other x y) (sym q.0) (sym q.1) (units_agree s t.current t.other p).alike

call_laws : (xs : List Call) → CallLaws xs
call_laws xs = record {
  begun = refl;
  opened_next = λ a c o. after_both new_table xs (open_with a c o ∷ []);
  entered_next = λ h. after_both new_table xs (enter h ∷ []);
  withdrawn_next = λ side. after_both new_table xs (withdraw side ∷ []);
  rendered_next = λ s a. after_both new_table xs (render s a ∷ []);
}

pub agree_over_runs : (V : Type 0) (rule : V → Chunk → V) (fresh : V) (V' : Type 0) (rule' : V' → Chunk → V') (fresh' : V') → AgreementOverRuns V rule fresh V' rule' fresh'
agree_over_runs V rule fresh V' rule' fresh' = record {
  keeps = tables_keep;
  keeps_test = keeps_law;
  rules = λ xs. follow_rules (after_run xs);
  calls = call_laws;
  held = held_law;
  same_calls = same_calls;
  renders = λ xs. render_rules V rule fresh (after_run xs);
  renders' = λ xs. render_rules V' rule' fresh' (after_run xs);
  since_opening = since_opening;
  when_accepted = λ s xs. accepted_counted (after_run xs) s;
  agree = λ s xs ys p q.
      let t = after_run xs in
      let t' = after_run ys in
      let k = tables_keep xs in
      let k' = tables_keep ys in
      let h = table_kept s t k p in
      let h' = table_kept (exchanged_sheets s) t' k' q in
      record {
        first = laws s t.current t.other h;
        second = laws (exchanged_sheets s) t'.current t'.other h';
        first_short = length_law s t.current t.other h k.few_current k.few_other;
        second_short = length_law (exchanged_sheets s) t'.current t'.other h' k'.few_current k'.few_other;
        alike = alike_after s t t' h;
      };
  told = two_units;
}

pub units_agree_over_runs : UnitsAgreeOverRuns
units_agree_over_runs = agree_over_runs _ _ _ _ _ _
