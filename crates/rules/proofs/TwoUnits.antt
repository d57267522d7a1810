-- The agreement of two units, told of their renders.
use Rattle.std.proofs.Common.{◌≡◌, ℕ, Bool, true, false, List, ◌∷◌, ◌++◌, map, Some, None, Ok, Option, sym, refl, ap, ◌∙◌, subst, subst₂, inl, inr, arith}
use Rattle.std.proofs.lemmas.Bool.{false≢true}
use Rattle.rules.specs.declared.hunk.Hunk.{Hunk}
use Rattle.rules.specs.declared.mode.Conflict as modes
use Rattle.rules.specs.declared.mode.Conflict.TheVariants.{Keep, ResolveWithOurs, ResolveWithTheirs}
use Rattle.rules.specs.declared.mode.Resolution.{Resolution}
use Rattle.rules.specs.declared.mode.Resolution.TheVariants.{CompleteWithAutoResolvedConflict, Conflict}
use Rattle.rules.specs.Hunks.{Sheets}
use Rattle.rules.specs.Walk.{walk}
use Rattle.rules.specs.Groups.{clusters}
use Rattle.rules.specs.Pieces.{Chunk}
use Rattle.rules.specs.Rendering.{rendering}
use Rattle.rules.specs.Verdict.{verdict}
use Rattle.rules.specs.Questions.{answered}
use Rattle.rules.specs.Tables.{Held}
use Rattle.rules.specs.Renders.{Asked, render_answer, render_questions}
use Rattle.rules.specs.Runs.{opening}
use Rattle.rules.specs.Outline.{outline, spelled, all_lines, has_block, ours_part, theirs_part}
use Rattle.rules.specs.Exchange.{exchanged_item, exchanged_sheets}
use Rattle.rules.specs.Order.{Kept}
use Rattle.rules.specs.VerdictLaws.{ExactlyWhen, some_group_differs}
use Rattle.rules.specs.Agreement.{Alike}
use Rattle.rules.specs.TwoUnits.{shown, AlikeShown, GroupDiffers, OneUnit, TrueWhen, TwoUnits, UnitOf, table_of}
use Rattle.rules.proofs.Agreed.{laws, units_agree}
use Rattle.rules.proofs.TableKeeps.{tables_keep, table_kept, since_opening}

same_answer : {A R : Type 0} (q : Option R) (x y : A) → answered q x ≡ Ok y → x ≡ y
same_answer None x y e = cc
same_answer (Some r) x y e = let z : ◌≡◌ {A = ℕ} 0 1 = cc in absurd (omega arith)

-- the verdict that an accepted render answers
told_verdict : (t : Held) (s : Sheets) (a : Asked) (m : modes.Conflict) (v : Resolution) → a.mode ≡ m → render_answer t s a ≡ Ok v → verdict m s t.current t.other ≡ v
told_verdict t s a m v e q = ap (λ (x : modes.Conflict). verdict x s t.current t.other) (sym e) ∙ same_answer (render_questions t s a) (verdict a.mode s t.current t.other) v q

-- a render in a mode of another name
in_mode : (s : Sheets) (t : Held) (a : Asked) (m : modes.Conflict) → a.mode ≡ m → rendering m s a.labels t.current t.other ≡ shown s t a
in_mode s t a m e = ap (λ (x : modes.Conflict). rendering x s a.labels t.current t.other) (sym e)

true_when : (P : Type 0) (b c : Bool) → (b ≡ true → P) → (P → b ≡ true) → c ≡ b → TrueWhen P c
true_when P true c f g e = inl (f refl, e)
true_when P false c f g e = inr (λ p. false≢true (g p), e)

pub one_unit : (s : Sheets) (t : Held) → Kept s t.current t.other → OneUnit s t
one_unit s t p =
    let l = laws s t.current t.other p in
    let P = GroupDiffers s t in
    record {
      keep = λ st n a v e q.
          let r = in_mode s t a (Keep st n) e in
          let w = told_verdict t s a (Keep st n) v e q in
          record {
            with_ours = ap (λ (x : List Chunk). spelled ours_part (outline st a.labels x)) (sym r) ∙ l.outlines.with_ours st n a.labels a.labels ∙ l.own.ours_lines a.labels;
            with_theirs = ap (λ (x : List Chunk). spelled theirs_part (outline st a.labels x)) (sym r) ∙ l.outlines.with_theirs st n a.labels a.labels ∙ l.own.theirs_lines a.labels;
            judged = subst (ExactlyWhen P Conflict) w (l.verdicts.keep st n);
            blocked = true_when P (some_group_differs s (clusters (walk t.current t.other))) (has_block (outline st a.labels (shown s t a))) l.verdicts.differ_test.0 l.verdicts.differ_test.1
                (ap (λ (x : List Chunk). has_block (outline st a.labels x)) (sym r) ∙ l.outlines.told st n a.labels);
          };
      ours = λ a v e q. record {
        lines = ap all_lines (sym (in_mode s t a ResolveWithOurs e)) ∙ l.own.ours_lines a.labels;
        judged = subst (ExactlyWhen P CompleteWithAutoResolvedConflict) (told_verdict t s a ResolveWithOurs v e q) l.verdicts.ours;
      };
      theirs = λ a v e q. record {
        lines = ap all_lines (sym (in_mode s t a ResolveWithTheirs e)) ∙ l.own.theirs_lines a.labels;
        judged = subst (ExactlyWhen P CompleteWithAutoResolvedConflict) (told_verdict t s a ResolveWithTheirs v e q) l.verdicts.theirs;
      };
      ours_apart = l.ranges.ours_apart;
      theirs_apart = l.ranges.theirs_apart;
    }

pub alike_shown : (s : Sheets) (t t' : Held) → Kept s t.current t.other → AlikeShown s t t'
alike_shown s t t' p x st n n' a a' v v' e e' q q' =
    let y : Alike s t.current t.other t'.current t'.other = subst₂ (λ (c o : List Hunk). Alike s t.current t.other c o) (sym x.0) (sym x.1) (units_agree s t.current t.other p).alike in (
      ap (outline st a'.labels) (sym (in_mode (exchanged_sheets s) t' a' (Keep st n') e')) ∙ y.same_outline st n n' a.labels a'.labels ∙ ap (λ (r : List Chunk). map exchanged_item (outline st a.labels r)) (in_mode s t a (Keep st n) e),
      sym (told_verdict t' (exchanged_sheets s) a' (Keep st n') v' e' q') ∙ y.same_verdict st n n' ∙ told_verdict t s a (Keep st n) v e q,
    )

pub unit_kept : (s : Sheets) (u : UnitOf s) → Kept s (table_of s u).current (table_of s u).other
unit_kept s u = table_kept s (table_of s u) (tables_keep (u.earlier ++ (opening s ∷ u.since))) (since_opening s u.earlier u.since u.few u.no_opening)

pub two_units : (s : Sheets) (u : UnitOf s) (u' : UnitOf (exchanged_sheets s)) → TwoUnits s u u'
two_units s u u' = record {
  first = one_unit s (table_of s u) (unit_kept s u);
  second = one_unit (exchanged_sheets s) (table_of (exchanged_sheets s) u') (unit_kept (exchanged_sheets s) u');
  alike = alike_shown s (table_of s u) (table_of (exchanged_sheets s) u') (unit_kept s u);
}
