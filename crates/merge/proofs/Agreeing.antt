-- What two units show.
use Rattle.std.proofs.Common.{◌≡◌, List, ◌∷◌, ◌++◌, sym, refl, subst}
use Rattle.rules.specs.Exchange.{HoldsExchanged, exchanged_sheets}
use Rattle.rules.specs.Hunks.{Sheets, sheets_of}
use Rattle.rules.specs.Lines.{Line}
use Rattle.rules.specs.Pieces.{Chunk}
use Rattle.rules.specs.Runs.{opening}
use Rattle.rules.specs.TableLaws.{TableKeeps}
use Rattle.rules.specs.Tables.{Held}
use Rattle.rules.specs.TwoUnits.{table_of}
use Rattle.rules.proofs.Rendered.{accepted_counted}
use Rattle.rules.proofs.RunAgreement.{agree_over_runs}
use Rattle.rules.proofs.TableKeeps.{table_kept, tables_keep}
use Rattle.rules.proofs.TwoUnits.{alike_shown}
use Rattle.merge.specs.Units.{Crosswise, ShownAlike, UnitsTold, KindsAgree}
use Rattle.merge.proofs.Rendered.{render_told}

same_lists : (a a' c c' o o' : List Line) → a ≡ a' → c ≡ c' → o ≡ o' → sheets_of a c o ≡ sheets_of a' c' o'
same_lists a a' c c' o o' p q r = cc

crosswise : (s s' : Sheets) → Crosswise s s' → s' ≡ exchanged_sheets s
crosswise s s' x = same_lists _ _ _ _ _ _ x.ancestor x.current x.other

shown_alike : (s s' : Sheets) (t t' : Held) → TableKeeps t → HoldsExchanged t t' → s' ≡ exchanged_sheets s → ShownAlike s t s' t'
shown_alike s s' t t' keeps x e =
    subst (λ (y : Sheets). ShownAlike s t y t') (sym e)
    (λ st n n' a a' v v' p p' q q'. alike_shown s t t' (table_kept s t keeps (accepted_counted t s a v q)) x st n n' a a' v v' p p' q q')

module _ {V V' : Type 0} (rule : V → Chunk → V) (fresh : V) (rule' : V' → Chunk → V') (fresh' : V') where
  pub units_told : (s s' : Sheets) (t t' : Held) → TableKeeps t → TableKeeps t' → UnitsTold rule fresh rule' fresh' s t s' t'
  units_told s s' t t' keeps keeps' = record {
    first = λ a k v q. render_told t s a rule fresh v _ k keeps refl q;
    second = λ a k v q. render_told t' s' a rule' fresh' v _ k keeps' refl q;
    alike = λ x h. shown_alike s s' t t' keeps h (crosswise s s' x);
  }

  pub kinds_agree : KindsAgree rule fresh rule' fresh'
  kinds_agree = record {
    over_runs = agree_over_runs _ _ _ _ _ _;
    told = λ s s' u u'. units_told s s' (table_of s u) (table_of s' u') (tables_keep (u.earlier ++ (opening s ∷ u.since))) (tables_keep (u'.earlier ++ (opening s' ∷ u'.since)));
  }
