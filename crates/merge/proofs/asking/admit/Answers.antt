use Rattle.std.proofs.Common.{sym, refl}
use Rattle.writing.specs.Marks.{labels_in}
use Rattle.rendering.proofs.Measured.{size_bound}
use Rattle.merge.proofs.Admitted.{admitted, answered_yes}
use Rattle.merge.proofs.asking.admit.Goals as goal

pub returns-clause-answer : goal.returns-clause-answer
returns-clause-answer g c =
    let q = (answered_yes _ tt _ (sym c.in_ok-ask.ensures)).0 in
    let a = admitted c.args.table.now (g.T.ThreeSheets.sheets c.args.three.now) c.args.mode (labels_in c.args.labels) c.current-current.ensures.keeps q in
    let ours = c.current-current.ensures.hunks in
    let theirs = c.other-other.ensures.hunks in
    record {
      accepted = q;
      sheets = refl;
      mode = refl;
      labels = refl;
      current = ours;
      other = theirs;
      writable = record {
        kept = rw (ours, theirs) a.kept;
        few = rw (ours, theirs) a.few;
        size = size_bound c.args.mode a.size;
      };
      bounded = record { size = a.size; labels = a.labels };
    }
