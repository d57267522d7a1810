use Rattle.std.proofs.Common.{rules}
use Rattle.reading.proofs.Cursors.{gives_back, begins_back, whole_back}
use Rattle.reading.proofs.cursor.BackIterator.next.Goals as goal

pub returns-in-Some-clause-steps : goal.returns-in-Some-clause-steps
returns-in-Some-clause-steps g c = search (rules, gives_back)

pub hunk-preserved : goal.hunk-preserved
hunk-preserved g c = search (rules, begins_back, whole_back)
