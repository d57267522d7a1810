use Rattle.std.proofs.Common.{drop}
use Rattle.rules.specs.Hunks.{side_lines}
use Rattle.rules.specs.Steps.{each}
use Rattle.sink.specs.Pieces.{kind_of}
use Rattle.writing.proofs.Steps.{UnderWay}
use Rattle.writing.proofs.pen.Pen.hunks.Given as goal

abbrev pub invariant-loop-hunk : goal.invariant-loop-hunk
invariant-loop-hunk g l =
    let s = g.T.ThreeSheets.sheets l.three in
    UnderWay g.S.Sink l.initial.self (each (kind_of l.kind) (side_lines s l.hunks)) l.self (each (kind_of l.kind) (side_lines s (drop l.hunk-index l.hunks)))
