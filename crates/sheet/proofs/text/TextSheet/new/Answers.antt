use Rattle.std.proofs.Common.{sym}
use Rattle.sheet.proofs.AnswerLaws.{text_fits, text_law}
use Rattle.sheet.proofs.LineLaws.{formed_split}
use Rattle.sheet.proofs.text.TextSheet.new.Goals as goal

pub returns-in_err-lines-clause-law : goal.returns-in_err-lines-clause-law
returns-in_err-lines-clause-law c = text_law c.args.text.now c.args.starts.now

pub invariant_of-result : goal.invariant_of-result
invariant_of-result c =
    let f = text_fits c.args.text.now c.args.starts.now c.in_ok-lines.lines (sym c.in_ok-lines.ensures) in
    record { formed = formed_split c.args.text.now f.small f.few; placed = f.placed; counted = f.counted }

pub returns-clause-law : goal.returns-clause-law
returns-clause-law c = text_law c.args.text.now c.args.starts.now
