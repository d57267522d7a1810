use Rattle.std.proofs.Common.{rules, ◌≤◌, reverse, length, ap, arith}
use Rattle.std.proofs.lemmas.Iterator.Consumers.{YieldsList-from_first}
use Rattle.std.proofs.lemmas.List.{length-reverse}
use Rattle.rules.specs.Hunks.{side_lines}
use Rattle.reading.specs.Cursors.{lines_behind}
use Rattle.reading.proofs.Reading.{lines_fit}
use Rattle.reading.proofs.shared.shared_back.Goals as goal

pub count_alike-requires : goal.count_alike-requires
count_alike-requires g c κs =
    let s = g.T.ThreeSheets.sheets c.args.three.now in
    let fit = lines_fit s (g.T.ThreeSheets.formed c.args.three.now) c.args.a.now c.requires.ours c.requires.few in
    let e = ap length c.of.ensures.behind in
    let r = length-reverse (side_lines s c.args.a.now) in
    let few : length (lines_behind (g.T.ThreeSheets.sheets c.of.result.three.now) c.of.result) ≤ 4294967295 = omega arith in
    search rules

pub returns : goal.returns
returns g c =
    let s = g.T.ThreeSheets.sheets c.args.three.now in
    c.count_alike.ensures (reverse (side_lines s c.args.a.now)) (reverse (side_lines s c.args.b.now)) (YieldsList-from_first _ _ _ c.of.ensures.behind).runs (YieldsList-from_first _ _ _ c.of-2.ensures.behind).runs
