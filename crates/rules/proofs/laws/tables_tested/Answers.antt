use Rattle.rules.proofs.TableKeeps.{keeps_law}
use Rattle.rules.proofs.laws.tables_tested.Goals as goal

pub returns : goal.returns
returns c = keeps_law
