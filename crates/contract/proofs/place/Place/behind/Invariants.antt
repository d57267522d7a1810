use Rattle.std.proofs.Common.{◌≡◌, drop}
use Rattle.contract.specs.Places.{place}
use Rattle.contract.proofs.Places.{plus}
use Rattle.contract.proofs.place.Place.behind.Given as goal

abbrev pub invariant-loop-whole : goal.invariant-loop-whole
invariant-loop-whole l = place l.ahead l.n l.hunks ≡ plus l.whole (place l.ahead l.rest (drop l.whole l.hunks))
