use Rattle.std.proofs.Common.{◌-◌, length, arith}
use Rattle.sheet.proofs.CellLaws.{line_is}
use Rattle.sheet.proofs.cells.opening.line_stands.Goals as goal

pub returns-then-open : goal.returns-then-open
returns-then-open c = line_is c.args.«open» c.contains.result _ c.args.line.now (length c.args.line.now - 1) (omega arith) c.contains.ensures.value cc

pub returns-else-open : goal.returns-else-open
returns-else-open c = line_is c.args.«open» c.contains.result _ c.args.line.now (length c.args.line.now - 1) (omega arith) c.contains.ensures.value cc

pub returns-else-not-contains : goal.returns-else-not-contains
returns-else-not-contains c = line_is c.args.«open» c.contains.result _ c.args.line.now (length c.args.line.now - 1) (omega arith) c.contains.ensures.value cc
