use Rattle.std.proofs.Common.{◌≡◌, length}
use Rattle.reading.specs.Cursors.{lines_behind, InSheets}
use Rattle.reading.proofs.cursor.BackIterator.next.Given as goal

abbrev pub invariant-hunk : goal.invariant-hunk
invariant-hunk g l =
    let s = g.T.ThreeSheets.sheets l.initial.lines.three.now in
    (l.lines.three.now ≡ l.initial.lines.three.now) × InSheets s l.lines × (lines_behind s l.initial.lines ≡ lines_behind s l.lines)

abbrev pub decreases-hunk : goal.decreases-hunk
decreases-hunk g l = length l.lines.hunks.now
