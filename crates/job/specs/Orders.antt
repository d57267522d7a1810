-- What a line of a job asks for, how it is read and how it is spelled.
use Rattle.std.specs.Prelude.{◌≡◌, ℕ, Bool, true, cond, List, [], ◌∷◌, ◌++◌, Some, None, codes, decimal, Option, option_and_then, ◌==◌}
use Rattle.std.specs.Option.{option_map, option_or}
use Rattle.rules.specs.declared.hunk.Hunk.{Hunk}
use Rattle.rules.specs.declared.hunk.Side.{Side}
use Rattle.rules.specs.declared.hunk.Span.{Span}
use Rattle.job.specs.declared.command.SheetKind.{SheetKind}
use Rattle.job.specs.declared.command.Command.{Command}
use Rattle.job.specs.declared.command.Command.TheVariants.{Nothing, Sheet, Lines, Row, Open, OpenBy, Enter, Withdraw, Held, Help}
use Rattle.job.specs.declared.command.Verb.{Verb}
use Rattle.job.specs.Numbers.{Fits32, last_number, number_then}
use Rattle.job.specs.Words.{and_then, front_named, front_side, kind_word, kinds, named, side_named, side_word, verb_word, verbs}

pub data Order : Type 0 where
  nothing : Order
  sheet : Side → SheetKind → List ℕ → Order
  lines : Side → Order
  row : Side → ℕ → Order
  open_by_sheets : Order
  open_by : ℕ → ℕ → ℕ → Order
  enter : Hunk → Order
  withdraw : Side → Order
  held : Order
  help : Order

-- What a command asks for.
abbrev pub order : Command → Order
order Nothing = nothing
order (Sheet side kind path) = sheet side kind path.now
order (Lines side) = lines side
order (Row side n) = row side n
order Open = open_by_sheets
order (OpenBy counts) = open_by counts.ancestor counts.current counts.other
order (Enter hunk) = enter hunk
order (Withdraw side) = withdraw side
order Held = held
order Help = help

-- How a range is written: its start and its end with two dots between them; a hunk's two ranges with a slash between them.
abbrev pub span_text : Span → List ℕ
span_text s = decimal s.start ++ (codes ".." ++ decimal s.end)

abbrev pub hunk_text : Hunk → List ℕ
hunk_text h = span_text h.before ++ (codes "/" ++ span_text h.after)

abbrev pub numbers_text : ℕ → ℕ → ℕ → List ℕ
numbers_text a c o = decimal a ++ (codes " " ++ (decimal c ++ (codes " " ++ decimal o)))

-- How an order is written: words with one space between them; a path goes to the end of the line.
abbrev pub spelled : Order → List ℕ
spelled nothing = []
spelled (sheet side kind path) = codes "sheet " ++ (side_word side ++ (codes " " ++ (kind_word kind ++ (codes " " ++ path))))
spelled (lines side) = codes "lines " ++ side_word side
spelled (row side n) = codes "row " ++ (side_word side ++ (codes " " ++ decimal n))
spelled open_by_sheets = codes "open"
spelled (open_by a c o) = codes "open " ++ numbers_text a c o
spelled (enter h) = codes "enter " ++ (side_word h.side ++ (codes " " ++ hunk_text h))
spelled (withdraw side) = codes "withdraw " ++ side_word side
spelled held = codes "held"
spelled help = codes "help"

-- A line that asks for nothing: it is empty, or a comment.
abbrev pub asks_nothing : List ℕ → Bool
asks_nothing [] = true
asks_nothing (b ∷ bs) = b == 35

-- A path is not empty.
abbrev pub sheet_order : Side → SheetKind → List ℕ → Option Order
sheet_order side kind [] = None
sheet_order side kind (b ∷ bs) = Some (sheet side kind (b ∷ bs))

abbrev pub read_kind : Side → List ℕ → Option Order
read_kind side line = and_then (front_named kind_word kinds line) (sheet_order side)

abbrev pub read_sheet : List ℕ → Option Order
read_sheet line = and_then (front_side line) read_kind

abbrev pub read_lines : List ℕ → Option Order
read_lines line = option_map lines (side_named line)

abbrev pub row_order : Side → List ℕ → Option Order
row_order side line = option_map (row side) (last_number line)

abbrev pub read_row : List ℕ → Option Order
read_row line = and_then (front_side line) row_order

-- Three numbers with a space between them: of the ancestor, the current and the other sheet.
abbrev pub read_open : List ℕ → Option Order
read_open line =
    and_then (number_then (codes " ") line) (λ a line_c.
    and_then (number_then (codes " ") line_c) (λ c line_o.
    option_map (open_by a c) (last_number line_o)))

-- A hunk of a side by its two ranges.
abbrev pub hunk_of : Side → ℕ → ℕ → ℕ → ℕ → Hunk
hunk_of side b e start end = record { before = record { start = b; end = e }; after = record { start = start; end = end }; side = side }

abbrev pub hunk_order : Side → List ℕ → Option Order
hunk_order side line =
    and_then (number_then (codes "..") line) (λ b line_e.
    and_then (number_then (codes "/") line_e) (λ e line_after.
    and_then (number_then (codes "..") line_after) (λ start line_end.
    option_map (λ end. enter (hunk_of side b e start end)) (last_number line_end))))

abbrev pub read_enter : List ℕ → Option Order
read_enter line = and_then (front_side line) hunk_order

abbrev pub read_withdraw : List ℕ → Option Order
read_withdraw line = option_map withdraw (side_named line)

-- The orders that are a word alone, or no word.
abbrev pub alone : Verb → Option Order
alone Verb.Help = Some help
alone Verb.Open = Some open_by_sheets
alone Verb.Held = Some held
alone v = None

abbrev pub read_word : List ℕ → Option Order
read_word line = option_and_then alone (named verb_word verbs line)

abbrev pub read_alone : List ℕ → Option Order
read_alone line = cond (asks_nothing line) (Some nothing) (read_word line)

-- The orders that go on behind their first word.
abbrev pub worded : Verb → List ℕ → Option Order
worded Verb.Lines rest = read_lines rest
worded Verb.Sheet rest = read_sheet rest
worded Verb.Row rest = read_row rest
worded Verb.Open rest = read_open rest
worded Verb.Enter rest = read_enter rest
worded Verb.Withdraw rest = read_withdraw rest
worded v rest = None

abbrev pub read_worded : List ℕ → Option Order
read_worded line = and_then (front_named verb_word verbs line) worded

-- What a line asks for, or nothing where it is not understood.
abbrev pub order_of : List ℕ → Option Order
order_of line = option_or (read_alone line) (read_worded line)

-- The law of the reader: every order, spelled, reads back as itself, if only a path that it has is not empty and its numbers fit 32 bits.
abbrev pub Spellable : Order → Type 0
Spellable nothing = Unit {0}
Spellable (sheet side kind path) = path ≡ [] → ⊥
Spellable (lines side) = Unit {0}
Spellable (row side n) = Fits32 n
Spellable open_by_sheets = Unit {0}
Spellable (open_by a c o) = Fits32 a × Fits32 c × Fits32 o
Spellable (enter h) = Fits32 h.before.start × Fits32 h.before.end × Fits32 h.after.start × Fits32 h.after.end
Spellable (withdraw side) = Unit {0}
Spellable held = Unit {0}
Spellable help = Unit {0}

abbrev pub ReadsBack : Type 0
ReadsBack = (o : Order) → Spellable o → order_of (spelled o) ≡ Some o
