-- The number, the layer and the place of each refusal of this layer, and the words that it is printed in.
use Rattle.std.specs.Prelude.{ℕ, List, codes}
use Rattle.rules.specs.declared.refusal.Layer.{Layer}
use Rattle.rules.specs.declared.refusal.Layer.TheVariants.{Sheet}
use Rattle.sheet.specs.declared.refusal.SheetRefusal.{SheetRefusal}
use Rattle.sheet.specs.declared.refusal.SheetRefusal.TheVariants.{TextTooLong, TooManyLines, TableTooSmall, StartsAbsent, CellsUnfit, BadCell}

abbrev pub number_of : SheetRefusal → ℕ
number_of TextTooLong = 1
number_of TooManyLines = 2
number_of TableTooSmall = 3
number_of StartsAbsent = 4
number_of CellsUnfit = 5
number_of (BadCell n) = 6

abbrev pub layer_of : SheetRefusal → Layer
layer_of TextTooLong = Sheet
layer_of TooManyLines = Sheet
layer_of TableTooSmall = Sheet
layer_of StartsAbsent = Sheet
layer_of CellsUnfit = Sheet
layer_of (BadCell n) = Sheet

-- A bad cell's place is its number; the others have place 0.
abbrev pub place_of : SheetRefusal → ℕ
place_of TextTooLong = 0
place_of TooManyLines = 0
place_of TableTooSmall = 0
place_of StartsAbsent = 0
place_of CellsUnfit = 0
place_of (BadCell n) = n

-- What is printed of a sheet's refusal.
abbrev pub words_of : SheetRefusal → List ℕ
words_of TextTooLong = codes "the text has more than 60000 bytes"
words_of TooManyLines = codes "the text has more than 4096 lines"
words_of TableTooSmall = codes "the table of line starts has too few places"
words_of StartsAbsent = codes "the table does not begin with the line starts"
words_of CellsUnfit = codes "the memory is not made of whole cells, or has more than 1024"
words_of (BadCell n) = codes "this cell holds no line"
