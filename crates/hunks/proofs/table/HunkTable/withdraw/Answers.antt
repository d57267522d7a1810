use Rattle.std.proofs.Common.{ap, ◌∙◌}
use Rattle.rules.specs.declared.hunk.Side.TheVariants.{Current, Other}
use Rattle.rules.specs.Runs.{withdraw as withdraw_call}
use Rattle.hunks.specs.declared.table.HeldSide.{HeldSide}
use Rattle.hunks.specs.Tables.{table_of}
use Rattle.hunks.proofs.Entering.{keeps_after, withdrawn}
use Rattle.hunks.proofs.table.HunkTable.withdraw.Goals as goal

pub invariant_of-self : goal.invariant_of-self
invariant_of-self c =
    let a = c.self.inside in
    let t = table_of a in
    keeps_after t _ (withdraw_call c.args.side) c.self.invariant
    (ap (λ (s : HeldSide). table_of (record { ancestor_lines = a.ancestor_lines; current = s; other = a.other })) c.withdraw.ensures.after ∙ withdrawn t c.args.side Current c.in-Current.is)

pub invariant_of-self-in-Other : goal.invariant_of-self-in-Other
invariant_of-self-in-Other c =
    let a = c.self.inside in
    let t = table_of a in
    keeps_after t _ (withdraw_call c.args.side) c.self.invariant
    (ap (λ (s : HeldSide). table_of (record { ancestor_lines = a.ancestor_lines; current = a.current; other = s })) c.withdraw-in-Other.ensures.after ∙ withdrawn t c.args.side Other c.in-Other.is)
