use Rattle.rules.proofs.TwoUnits.{two_units}
use Rattle.rules.proofs.laws.two_units_agree.Goals as goal

pub returns : goal.returns
returns c = two_units
