use Rattle.std.proofs.Common.{sym, subst}
use Rattle.rules.specs.Walk.{is_current}
use Rattle.writing.specs.Sides.{Readables}
use Rattle.writing.proofs.Grouping.{lists_readable}
use Rattle.writing.proofs.pen.Pen.keep_group.Goals as goal

pub keep-requires-clause-readable : goal.keep-requires-clause-readable
keep-requires-clause-readable g c =
    let s = g.T.ThreeSheets.sheets c.args.three.now in
    subst (Readables s) (sym c.settle-sides.ensures.lists) (lists_readable c.args.marks.style s (is_current c.args.lead) _ _ c.requires.legible.ours c.requires.legible.theirs)
