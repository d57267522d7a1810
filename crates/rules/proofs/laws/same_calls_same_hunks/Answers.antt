use Rattle.rules.proofs.Answers.{same_calls}
use Rattle.rules.proofs.laws.same_calls_same_hunks.Goals as goal

pub returns : goal.returns
returns c = same_calls
