use Rattle.rules.specs.Lines.{between}
use Rattle.rules.specs.Hunks.{sheet_of}
use Rattle.rules.specs.Steps.{each}
use Rattle.sink.specs.Pieces.{kind_of}
use Rattle.writing.proofs.Steps.{UnderWay}
use Rattle.writing.proofs.pen.Pen.lines.Given as goal

abbrev pub invariant-loop-n : goal.invariant-loop-n
invariant-loop-n g l =
    let ls = sheet_of (g.T.ThreeSheets.sheets l.three) l.side in
    UnderWay g.S.Sink l.initial.self (each (kind_of l.kind) (between ls l.initial.n l.n-end)) l.self (each (kind_of l.kind) (between ls l.n l.n-end))
