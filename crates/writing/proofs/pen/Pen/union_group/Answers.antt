use Rattle.std.proofs.Common.{sym, subst}
use Rattle.rules.specs.Walk.{is_current}
use Rattle.writing.specs.Sides.{Readables, lists_lent}
use Rattle.writing.proofs.Grouping.{contracted_readable}
use Rattle.writing.proofs.pen.Pen.union_group.Goals as goal
use Rattle.writing.proofs.pen.Pen.union_group.Goals.{After-contract-sides}

-- the sides as they were contracted can be read
readable : (g : _) (c : After-contract-sides g) → Readables (g.T.ThreeSheets.sheets c.args.three.now) (lists_lent c.contract-sides.result)
readable g c =
    let s = g.T.ThreeSheets.sheets c.args.three.now in
    subst (Readables s) (sym c.contract-sides.ensures.lists) (contracted_readable s (is_current c.args.lead) _ _ c.requires.legible.ours c.requires.legible.theirs)

pub union-requires-clause-readable : goal.union-requires-clause-readable
union-requires-clause-readable g c = readable g (goal.at.union-requires-clause-readable g c).After-contract-sides

pub hunks_differ-requires-clause-ours : goal.hunks_differ-requires-clause-ours
hunks_differ-requires-clause-ours g c = (readable g (goal.at.hunks_differ-requires-clause-ours g c).After-contract-sides).left

pub hunks_differ-requires-clause-theirs : goal.hunks_differ-requires-clause-theirs
hunks_differ-requires-clause-theirs g c = (readable g (goal.at.hunks_differ-requires-clause-theirs g c).After-contract-sides).right
