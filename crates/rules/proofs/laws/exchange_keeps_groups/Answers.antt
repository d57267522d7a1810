use Rattle.rules.proofs.Exchange.{exchange_keeps_groups}
use Rattle.rules.proofs.laws.exchange_keeps_groups.Goals as goal

pub returns : goal.returns
returns c = exchange_keeps_groups
