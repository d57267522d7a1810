-- Cells: a byte that is a line's length, the line, and bytes that say nothing.
use Rattle.std.specs.Prelude.{◌≡◌, ℕ, zero, suc, ◌+◌, ◌*◌, ◌/◌, ◌%◌, ◌<◌, ◌≤◌, Bool, true, false, cond, List, [], ◌∷◌, length, take, drop, Some, None, Ok, Err, Option, Result, ◌==◌, nat_lt, slice_index}
use Rattle.rules.specs.Lines.{Line}
use Rattle.rules.specs.Texts.{is_line, nth_line}
use Rattle.sheet.specs.declared.refusal.SheetRefusal.{SheetRefusal}
use Rattle.sheet.specs.declared.refusal.SheetRefusal.TheVariants.{CellsUnfit, BadCell}

abbrev pub cell_size : ℕ
cell_size = 48

abbrev pub max_cells : ℕ
max_cells = 1024

-- The line in a cell.
abbrev pub cell_line : List ℕ → Line
cell_line cell = take (slice_index cell 0) (drop 1 cell)

-- Whether a cell holds a line: its length fits behind the length byte, and it is a line, which only in the last cell may lack its newline.
abbrev pub cell_good : Bool → List ℕ → Bool
cell_good last cell = cond (nat_lt (slice_index cell 0) cell_size) (is_line last (cell_line cell)) false

-- The lines in the first n cells.
abbrev pub cell_lines : ℕ → List ℕ → List Line
cell_lines zero memory = []
cell_lines (suc n) memory = cell_line (take cell_size memory) ∷ cell_lines n (drop cell_size memory)

abbrev pub cells_in : List ℕ → ℕ
cells_in memory = length memory / cell_size

-- The lines in all cells of a memory.
abbrev pub memory_lines : List ℕ → List Line
memory_lines memory = cell_lines (cells_in memory) memory

-- The first of n cells, counted from `at`, that holds no line.
abbrev pub first_bad : ℕ → ℕ → List ℕ → Option ℕ
first_bad at zero memory = None
first_bad at (suc n) memory = cond (cell_good (n == 0) (take cell_size memory)) (first_bad (at + 1) n (drop cell_size memory)) (Some at)

abbrev pub judged : Option ℕ → ℕ → Result ℕ SheetRefusal
judged None count = Ok count
judged (Some n) count = Err (BadCell n)

-- A cell sheet asks in order: is the memory made of whole cells, are they few enough, does each hold a line? It answers the number of lines.
abbrev pub cells_answer : List ℕ → Result ℕ SheetRefusal
cells_answer memory =
    cond (length memory % cell_size == 0)
    (cond (nat_lt max_cells (cells_in memory)) (Err CellsUnfit) (judged (first_bad 0 (cells_in memory) memory) (cells_in memory)))
    (Err CellsUnfit)

-- Cell n of a memory.
abbrev pub nth_cell : List ℕ → ℕ → List ℕ
nth_cell memory n = take cell_size (drop (n * cell_size) memory)

-- Whether cell n of a memory holds a line; only the last one may lack its newline.
abbrev pub holds_line : List ℕ → ℕ → Bool
holds_line memory n = cell_good (n + 1 == cells_in memory) (nth_cell memory n)

-- What an answer says of the cells: all hold lines, or the one that is named is the first that holds none. Line n of a memory is that of cell n.
pub record CellLaw (memory : List ℕ) : Type 0 where
  pub accepted : (c : ℕ) → cells_answer memory ≡ Ok c → (length memory ≡ c * cell_size) × (c ≤ max_cells) × ((n : ℕ) → n < c → holds_line memory n ≡ true)
  pub named : (b : ℕ) → cells_answer memory ≡ Err (BadCell b) → (length memory % cell_size ≡ 0) × (cells_in memory ≤ max_cells) × (b < cells_in memory) × (holds_line memory b ≡ false) × ((n : ℕ) → n < b → holds_line memory n ≡ true)
  pub unfit : cells_answer memory ≡ Err CellsUnfit → (length memory % cell_size ≡ 0) → max_cells < cells_in memory
  pub shown : (n : ℕ) → n < cells_in memory → nth_line (memory_lines memory) n ≡ Some (cell_line (nth_cell memory n))
