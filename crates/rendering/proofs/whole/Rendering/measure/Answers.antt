use Rattle.std.proofs.Common.{arith}
use Rattle.writing.specs.Marks.{labels_in}
use Rattle.rendering.proofs.Measured.{length_fits}
use Rattle.rendering.proofs.whole.Rendering.measure.Goals as goal

pub write-requires-clause-room : goal.write-requires-clause-room
write-requires-clause-room g c =
    let r = c.args.self.now in
    let q = c.requires.writable in
    let b = c.requires.bounded in
    let n = length_fits (g.T.ThreeSheets.sheets r.three.now) r.current.now r.other.now (g.T.ThreeSheets.formed r.three.now) q.kept q.few.0 q.few.1 r.mode (labels_in r.labels) b.size b.labels in
    omega (arith, n, c.begin.ensures.taken (omega arith), c.begin.ensures.announced (omega arith))

pub overflow_cast-result : goal.overflow_cast-result
overflow_cast-result g c =
    let r = c.args.self.now in
    let q = c.requires.writable in
    let b = c.requires.bounded in
    let n = length_fits (g.T.ThreeSheets.sheets r.three.now) r.current.now r.other.now (g.T.ThreeSheets.formed r.three.now) q.kept q.few.0 q.few.1 r.mode (labels_in r.labels) b.size b.labels in
    omega (arith, n, c.write.ensures.took.taken, c.count.ensures.count, c.begin.ensures.taken (omega arith))

pub returns : goal.returns
returns g c = omega (arith, c.write.ensures.took.taken, c.count.ensures.count, c.begin.ensures.taken (omega arith))
