use Rattle.rules.proofs.Rendered.{render_rules}
use Rattle.rules.proofs.laws.renders_follow_rules.Goals as goal

pub returns : goal.returns
returns g c = render_rules _ _ _
