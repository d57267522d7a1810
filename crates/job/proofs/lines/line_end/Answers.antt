use Rattle.std.proofs.Common.{sym, ◌∙◌}
use Rattle.job.proofs.Folds.{ends_at_newline}
use Rattle.job.proofs.lines.line_end.Goals as goal

pub returns-in-Some-clause-answer : goal.returns-in-Some-clause-answer
returns-in-Some-clause-answer c = ends_at_newline c.args.job.now c.args.from c.in-Some.n (sym c.find_from.ensures ∙ c.in-Some.is)
