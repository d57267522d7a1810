use Rattle.std.proofs.Common.{◌≡◌, ◌≤◌, ◌++◌, length, take, drop}
use Rattle.sheet.specs.Starts.{starts_of}
use Rattle.sheet.proofs.StartLaws.{starts_from}
use Rattle.sheet.proofs.split.starts_stand.Given as goal

abbrev pub invariant-loop-i : goal.invariant-loop-i
invariant-loop-i l =
    (l.count ≤ length l.starts) ×
    (take l.count l.starts ++ starts_from l.i l.fresh (drop l.i l.text) ≡ starts_of l.text)
