-- The agreement whole.
use Rattle.std.proofs.Common.{List, sym, ap, ◌∙◌}
use Rattle.rules.specs.declared.hunk.Hunk.{Hunk}
use Rattle.rules.specs.Hunks.{Sheets}
use Rattle.rules.specs.Walk.{walk}
use Rattle.rules.specs.Groups.{clusters}
use Rattle.rules.specs.Outline.{has_block, spelled}
use Rattle.rules.specs.Outline as read
use Rattle.rules.specs.Order.{Kept}
use Rattle.rules.specs.OutlineLaws.{OutlineLaws}
use Rattle.rules.specs.Agreement.{OwnLaws, UnitsAgree, Laws}
use Rattle.rules.proofs.Chains.{groups_are_chains}
use Rattle.rules.proofs.HunkWords.{hunk_laws}
use Rattle.rules.proofs.Marked.{marker_laws}
use Rattle.rules.proofs.Mirror.{same_outline, same_verdict, same_judged}
use Rattle.rules.proofs.Outlines.{outlined}
use Rattle.rules.proofs.Ranges.{range_laws}
use Rattle.rules.proofs.Shown.{ending_laws}
use Rattle.rules.proofs.SidePart.{ours_part, theirs_part}
use Rattle.rules.proofs.Spelled.{ours_spelled, theirs_spelled, every_spelled, some_block}
use Rattle.rules.proofs.Texts.{ours_put_in, theirs_put_in}
use Rattle.rules.proofs.UnionForm.{union_law}
use Rattle.rules.proofs.Unions.{ours_written, theirs_written, side_laws}
use Rattle.rules.proofs.Verdicts.{keep_verdict, ours_verdict, theirs_verdict}
use Rattle.rules.proofs.Walks.{walked, touch_law}
use Rattle.rules.proofs.Words.{verdict_laws}

pub own_laws : (s : Sheets) (cs os : List Hunk) → Kept s cs os → OwnLaws s cs os
own_laws s cs os p = record {
  ours_part = ours_part s cs os p;
  theirs_part = theirs_part s cs os p;
  ours_lines = λ l. ours_written s cs os l ∙ ours_put_in s cs os p;
  theirs_lines = λ l. theirs_written s cs os l ∙ theirs_put_in s cs os p;
  keep_verdict = keep_verdict s cs os p;
  ours_verdict = ours_verdict s cs os;
  theirs_verdict = theirs_verdict s cs os;
  groups = groups_are_chains s cs os p;
}

outline_laws : (s : Sheets) (cs os : List Hunk) → Kept s cs os → OutlineLaws s cs os
outline_laws s cs os p =
    let ks = clusters (walk cs os) in
    record {
      drawn = outlined s cs os p;
      told = λ st n l. ap has_block (outlined s cs os p st n l) ∙ some_block st s 0 ks;
      with_ours = λ st n l l'. ap (spelled read.ours_part) (outlined s cs os p st n l) ∙ ours_spelled st s ks ∙ sym (ours_written s cs os l');
      with_theirs = λ st n l l'. ap (spelled read.theirs_part) (outlined s cs os p st n l) ∙ theirs_spelled st s ks ∙ sym (theirs_written s cs os l');
      whole = λ st n l. ap (spelled read.every_part) (outlined s cs os p st n l) ∙ every_spelled st s n l cs os p;
    }

pub laws : (s : Sheets) (cs os : List Hunk) → Kept s cs os → Laws s cs os
laws s cs os p = record {
  hunks = hunk_laws s;
  touch = touch_law;
  walked = walked s cs os p;
  own = own_laws s cs os p;
  outlines = outline_laws s cs os p;
  verdicts = verdict_laws s cs os p;
  ranges = range_laws s cs os p;
  sides = side_laws s cs os p;
  markers = marker_laws s cs os p;
  union = union_law s cs os p;
  endings = ending_laws s;
}

pub units_agree : UnitsAgree
units_agree s cs os p = record { own = own_laws s cs os p; alike = record { same_outline = same_outline s cs os p; same_verdict = same_verdict s cs os p; same_judged = same_judged s cs os p } }
