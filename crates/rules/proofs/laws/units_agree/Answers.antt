use Rattle.rules.proofs.Agreed.{units_agree}
use Rattle.rules.proofs.laws.units_agree.Goals as goal

pub returns : goal.returns
returns c = units_agree
