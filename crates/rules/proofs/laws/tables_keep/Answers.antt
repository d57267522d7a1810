use Rattle.rules.proofs.TableKeeps.{tables_keep}
use Rattle.rules.proofs.laws.tables_keep.Goals as goal

pub returns : goal.returns
returns c = tables_keep
