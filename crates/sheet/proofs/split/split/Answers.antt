use Rattle.sheet.proofs.LineLaws.{line_law}
use Rattle.sheet.proofs.split.split.Goals as goal

pub returns-in_err-count-clause-law : goal.returns-in_err-count-clause-law
returns-in_err-count-clause-law c = line_law c.args.text.now

pub returns-clause-law : goal.returns-clause-law
returns-clause-law c = line_law c.args.text.now
