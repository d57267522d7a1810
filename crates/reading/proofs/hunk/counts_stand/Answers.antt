use Rattle.std.proofs.Common.{sym}
use Rattle.reading.proofs.Counting.{counted, lines_there}
use Rattle.reading.proofs.hunk.counts_stand.Goals as goal

pub returns : goal.returns
returns c = λ s hs r. record { how_many = sym (counted s hs r); whether = lines_there s hs r }
