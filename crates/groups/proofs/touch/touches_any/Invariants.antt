use Rattle.std.proofs.Common.{◌≡◌, drop}
use Rattle.rules.specs.Hunks.{touches_any}
use Rattle.groups.proofs.touch.touches_any.Given as goal

abbrev pub invariant-loop-other : goal.invariant-loop-other
invariant-loop-other l = touches_any l.hunk l.others ≡ touches_any l.hunk (drop l.other-index l.others)
