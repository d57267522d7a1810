use Rattle.std.proofs.Common.{sym}
use Rattle.sheet.proofs.CellLaws.{length_cells}
use Rattle.sheet.proofs.cells.ops.CellSheetSheet.count.Goals as goal

pub returns : goal.returns
returns c = sym (length_cells _ c.args.self.now.memory.now)
