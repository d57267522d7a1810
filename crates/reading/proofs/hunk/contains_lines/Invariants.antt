use Rattle.std.proofs.Common.{◌≡◌, false, take}
use Rattle.reading.specs.Reading.{any_lines}
use Rattle.reading.proofs.hunk.contains_lines.Given as goal

abbrev pub invariant-loop-hunk : goal.invariant-loop-hunk
invariant-loop-hunk l = any_lines (take l.hunk-index l.hunks) ≡ false
