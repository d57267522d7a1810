use Rattle.std.proofs.Common.{rules}
use Rattle.hunks.proofs.Helds.{last_held}
use Rattle.groups.proofs.take.is_offered.Goals as goal

pub returns-in-Some-Some : goal.returns-in-Some-Some
returns-in-Some-Some c = search (rules, last_held)

pub returns-in_default-2 : goal.returns-in_default-2
returns-in_default-2 c = search (rules, last_held)
