-- A sheet as its file is laid out: the list of the kind that the file has.
use Rattle.rules.specs.Texts.{LineList}
use Rattle.sheet.specs.contracts.text.ops.TextSheetSheet.TheImpl.{ghosts as text_meaning}
use Rattle.sheet.specs.contracts.cells.ops.CellSheetSheet.TheImpl.{ghosts as cell_meaning}
use Rattle.sheetmerge.specs.declared.file_sheet.FileSheet.{FileSheet}
use Rattle.sheetmerge.specs.declared.file_sheet.FileSheet.TheVariants.{Text, Cells}

abbrev pub shown : FileSheet → LineList
shown (Text text) = text_meaning.sheet text
shown (Cells cells) = cell_meaning.sheet cells
