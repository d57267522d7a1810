use Rattle.rules.proofs.RunAgreement.{agree_over_runs}
use Rattle.rules.proofs.laws.units_agree_over_runs.Goals as goal

pub returns : goal.returns
returns g c = agree_over_runs _ _ _ _ _ _
