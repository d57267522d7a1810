use Rattle.std.proofs.Common.{sym, ◌∙◌}
use Rattle.rules.specs.Hunks.{side_lines}
use Rattle.reading.proofs.Counting.{few_counted, counted, differ_first, differ_last}
use Rattle.reading.proofs.shared.hunks_differ.Goals as goal

pub count_lines-requires : goal.count_lines-requires
count_lines-requires g c =
    let s = g.T.ThreeSheets.sheets c.args.three.now in
    let few = g.T.ThreeSheets.formed c.args.three.now in
    few_counted s few c.args.a.now c.requires.ours c.requires.few.0

pub count_lines-requires-else-n-count_lines : goal.count_lines-requires-else-n-count_lines
count_lines-requires-else-n-count_lines g c =
    let s = g.T.ThreeSheets.sheets c.args.three.now in
    let few = g.T.ThreeSheets.formed c.args.three.now in
    few_counted s few c.args.b.now c.requires.theirs c.requires.few.1

pub returns-then-n-count_lines : goal.returns-then-n-count_lines
returns-then-n-count_lines g c =
    let s = g.T.ThreeSheets.sheets c.args.three.now in
    let a = c.args.a.now in
    let b = c.args.b.now in
    differ_first (side_lines s a) (side_lines s b) _ _ c.shared_front-n.ensures (c.count_lines.ensures ∙ sym (counted s a c.requires.ours)) c.if-n-count_lines.true

pub returns-else-n-count_lines : goal.returns-else-n-count_lines
returns-else-n-count_lines g c =
    let s = g.T.ThreeSheets.sheets c.args.three.now in
    let a = c.args.a.now in
    let b = c.args.b.now in
    differ_last (side_lines s a) (side_lines s b) _ _ _ c.shared_front-n.ensures (c.count_lines.ensures ∙ sym (counted s a c.requires.ours)) (c.count_lines-else-n-count_lines.ensures ∙ sym (counted s b c.requires.theirs)) c.if-n-count_lines.false
