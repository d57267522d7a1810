use Rattle.rules.proofs.Worked.{cases}
use Rattle.rules.proofs.laws.cases_stand.Goals as goal

pub returns : goal.returns
returns c = cases
