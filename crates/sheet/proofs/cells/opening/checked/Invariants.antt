use Rattle.std.proofs.Common.{◌≡◌, ◌-◌, ◌*◌, length, drop}
use Rattle.sheet.specs.Cells.{first_bad}
use Rattle.sheet.proofs.cells.opening.checked.Given as goal

abbrev pub invariant-loop-i : goal.invariant-loop-i
invariant-loop-i l = first_bad l.i (length l.cells - l.i) (drop (l.i * 48) l.memory) ≡ first_bad 0 (length l.cells) l.memory
