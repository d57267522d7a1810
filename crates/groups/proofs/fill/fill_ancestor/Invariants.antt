use Rattle.std.proofs.Common.{◌≡◌, ◌*◌, ◌≤◌, ◌++◌, length, drop}
use Rattle.rules.specs.Filling.{filled}
use Rattle.groups.proofs.fill.fill_ancestor.Given as goal

abbrev pub invariant-loop-hunk : goal.invariant-loop-hunk
invariant-loop-hunk l =
    (length l.list ≤ 2 * l.hunk-index)
    × (l.list ++ filled l.at l.range.end (drop l.hunk-index l.hunks) ≡ filled l.range.start l.range.end l.hunks)
