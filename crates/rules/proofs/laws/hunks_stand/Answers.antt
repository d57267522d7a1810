use Rattle.rules.proofs.HunkWords.{hunk_laws}
use Rattle.rules.proofs.laws.hunks_stand.Goals as goal

pub returns : goal.returns
returns c = hunk_laws
