use Rattle.std.proofs.Common.{ap, ◌∙◌}
use Rattle.rules.specs.declared.hunk.Side.TheVariants.{Current, Other}
use Rattle.rules.specs.Runs.{enter as enter_call}
use Rattle.hunks.specs.declared.table.HeldSide.{HeldSide}
use Rattle.hunks.specs.Tables.{table_of}
use Rattle.hunks.proofs.Entering.{keeps_after, entered}
use Rattle.hunks.proofs.table.HunkTable.enter.Goals as goal

pub invariant_of-self : goal.invariant_of-self
invariant_of-self c =
    let a = c.self.inside in
    let t = table_of a in
    keeps_after t _ (enter_call c.args.hunk) c.self.invariant
    (ap (λ (s : HeldSide). table_of (record { ancestor_lines = a.ancestor_lines; current = s; other = a.other })) c.enter.ensures.after ∙ entered t c.args.hunk Current c.in-Current.is)

pub invariant_of-self-in-Other : goal.invariant_of-self-in-Other
invariant_of-self-in-Other c =
    let a = c.self.inside in
    let t = table_of a in
    keeps_after t _ (enter_call c.args.hunk) c.self.invariant
    (ap (λ (s : HeldSide). table_of (record { ancestor_lines = a.ancestor_lines; current = a.current; other = s })) c.enter-in-Other.ensures.after ∙ entered t c.args.hunk Other c.in-Other.is)
