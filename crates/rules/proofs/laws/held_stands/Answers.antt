use Rattle.rules.proofs.Standing.{held_law}
use Rattle.rules.proofs.laws.held_stands.Goals as goal

pub returns : goal.returns
returns c = held_law
