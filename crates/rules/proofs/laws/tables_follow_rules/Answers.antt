use Rattle.rules.proofs.Rules.{follow_rules}
use Rattle.rules.proofs.laws.tables_follow_rules.Goals as goal

pub returns : goal.returns
returns c = follow_rules
