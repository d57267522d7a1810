use Rattle.std.proofs.Common.{refl}
use Rattle.writing.proofs.mark.Mark.run.Goals as goal

pub returns-in-Ours : goal.returns-in-Ours
returns-in-Ours c = rw c.in-Ours.is refl

pub returns-in-Base : goal.returns-in-Base
returns-in-Base c = rw c.in-Base.is refl

pub returns-in-Middle : goal.returns-in-Middle
returns-in-Middle c = rw c.in-Middle.is refl

pub returns-in-Theirs : goal.returns-in-Theirs
returns-in-Theirs c = rw c.in-Theirs.is refl
