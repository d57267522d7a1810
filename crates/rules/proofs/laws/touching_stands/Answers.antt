use Rattle.rules.proofs.Walks.{touch_law}
use Rattle.rules.proofs.laws.touching_stands.Goals as goal

pub returns : goal.returns
returns c = touch_law
