use Rattle.rules.proofs.Agreed.{laws}
use Rattle.rules.proofs.laws.outlines_stand.Goals as goal

pub returns : goal.returns
returns c = λ s cs os p. (laws s cs os p).outlines
