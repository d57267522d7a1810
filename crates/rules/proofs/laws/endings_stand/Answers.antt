use Rattle.rules.proofs.Shown.{ending_laws}
use Rattle.rules.proofs.laws.endings_stand.Goals as goal

pub returns : goal.returns
returns c = ending_laws
