use Rattle.rules.proofs.Lengths.{length_law}
use Rattle.rules.proofs.laws.lengths_stand.Goals as goal

pub returns : goal.returns
returns c = length_law
