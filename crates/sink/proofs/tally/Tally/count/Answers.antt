use Rattle.std.proofs.Common.{◌∙◌, arith}
use Rattle.sink.proofs.Folds.{made_total}
use Rattle.sink.proofs.tally.Tally.count.Goals as goal

pub returns : goal.returns
returns c = record { count = c.taken.ensures; total = λ cs e. c.taken.ensures ∙ e ∙ made_total 0 cs ∙ omega arith }
