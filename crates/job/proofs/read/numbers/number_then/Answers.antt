use Rattle.std.proofs.Common.{rules}
use Rattle.job.proofs.Words.{stripped}
use Rattle.job.proofs.read.numbers.number_then.Goals as goal

pub returns : goal.returns
returns c = let h = stripped c.in_ok-n.behind.now c.args.mark.now c.strip_prefix.result c.strip_prefix.ensures.cases in search rules
