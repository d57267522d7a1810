use Rattle.std.proofs.Common.{◌≡◌, ◌+◌, ◌-◌, ◌≤◌, false, length}
use Rattle.groups.proofs.Growing.{Growing}
use Rattle.groups.proofs.Offered.{offer}
use Rattle.groups.proofs.take.take_intersecting.Given as goal

abbrev pub invariant-group : goal.invariant-group
invariant-group l = Growing l.current l.other l.i l.j

abbrev pub decreases-group : goal.decreases-group
decreases-group l = length l.current + length l.other - (l.i + l.j)

abbrev pub invariant-loop-j : goal.invariant-loop-j
invariant-loop-j l = Growing l.current l.other l.i l.j × (l.initial.j ≤ l.j)

abbrev pub decreases-loop-j : goal.decreases-loop-j
decreases-loop-j l = length l.other - l.j

abbrev pub invariant-more : goal.invariant-more
invariant-more l = Growing l.current l.other l.i l.j × (l.initial.i ≤ l.i) × (false ≡ offer l.other l.j l.current l.i)

abbrev pub decreases-more : goal.decreases-more
decreases-more l = length l.current - l.i
