-- Refusals: the layer, the number and the place of each case, and the words that it is printed in.
use Rattle.std.specs.Prelude.{◌≡◌, ℕ, List, Err, Result, codes}
use Rattle.rules.specs.declared.hunk.Side.{Side}
use Rattle.rules.specs.declared.hunk.Side.TheVariants.{Current, Other, Ancestor}
use Rattle.rules.specs.declared.refusal.HunkRange.{HunkRange}
use Rattle.rules.specs.declared.refusal.HunkRange.TheVariants.{Before, After}
use Rattle.rules.specs.declared.refusal.Layer.{Layer}
use Rattle.rules.specs.declared.refusal.Layer.TheVariants.{Sheet, Table, Render}
use Rattle.rules.specs.declared.refusal.RenderRefusal.{RenderRefusal}
use Rattle.rules.specs.declared.refusal.RenderRefusal.TheVariants.{CountsDiffer, MarkerSize, LabelTooLong, SinkTooSmall}
use Rattle.rules.specs.declared.refusal.TableRefusal.{TableRefusal}
use Rattle.rules.specs.declared.refusal.TableRefusal.TheVariants.{CountTooLarge, NoHunksOfSide, SideFull, RangeOutside, HunkEmpty, NotBehindLast, NothingHeld}

-- The place of a sheet, and that of a hunk's range.
abbrev pub side_place : Side → ℕ
side_place Ancestor = 0
side_place Current = 1
side_place Other = 2

abbrev pub range_place : HunkRange → ℕ
range_place Before = 0
range_place After = 1

-- What is printed of a layer.
abbrev pub layer_word : Layer → List ℕ
layer_word Sheet = codes "sheet"
layer_word Table = codes "table"
layer_word Render = codes "render"

-- The table's refusals.
abbrev pub table_number : TableRefusal → ℕ
table_number (CountTooLarge side) = 7
table_number NoHunksOfSide = 8
table_number SideFull = 9
table_number (RangeOutside range) = 10
table_number HunkEmpty = 11
table_number NotBehindLast = 12
table_number NothingHeld = 13

abbrev pub table_layer : TableRefusal → Layer
table_layer (CountTooLarge side) = Table
table_layer NoHunksOfSide = Table
table_layer SideFull = Table
table_layer (RangeOutside range) = Table
table_layer HunkEmpty = Table
table_layer NotBehindLast = Table
table_layer NothingHeld = Table

-- The place is 0 unless the case names one.
abbrev pub table_place : TableRefusal → ℕ
table_place (CountTooLarge side) = side_place side
table_place NoHunksOfSide = 0
table_place SideFull = 0
table_place (RangeOutside range) = range_place range
table_place HunkEmpty = 0
table_place NotBehindLast = 0
table_place NothingHeld = 0

-- What is printed of a table's refusal.
abbrev pub range_words : HunkRange → List ℕ
range_words Before = codes "the before range runs backward or past the ancestor's end"
range_words After = codes "the after range runs backward or past the sheet's end"

abbrev pub table_words : TableRefusal → List ℕ
table_words (CountTooLarge side) = codes "this sheet has more than 4096 lines"
table_words NoHunksOfSide = codes "no hunks are held of the ancestor"
table_words SideFull = codes "the side holds 256 hunks"
table_words (RangeOutside range) = range_words range
table_words HunkEmpty = codes "both ranges are empty"
table_words NotBehindLast = codes "the hunk does not lie behind the side's last one, with an ancestor line between"
table_words NothingHeld = codes "no hunk is held of the side"

-- The render's refusals.
abbrev pub render_number : RenderRefusal → ℕ
render_number (CountsDiffer side) = 14
render_number MarkerSize = 15
render_number (LabelTooLong side) = 16
render_number (SinkTooSmall needed capacity) = 17

abbrev pub render_layer : RenderRefusal → Layer
render_layer (CountsDiffer side) = Render
render_layer MarkerSize = Render
render_layer (LabelTooLong side) = Render
render_layer (SinkTooSmall needed capacity) = Render

abbrev pub render_place : RenderRefusal → ℕ
render_place (CountsDiffer side) = side_place side
render_place MarkerSize = 0
render_place (LabelTooLong side) = side_place side
render_place (SinkTooSmall needed capacity) = 0

-- The length that was needed and the capacity that was there: both 0 unless the sink is too small.
abbrev pub needed_length : RenderRefusal → ℕ
needed_length (CountsDiffer side) = 0
needed_length MarkerSize = 0
needed_length (LabelTooLong side) = 0
needed_length (SinkTooSmall needed capacity) = needed

abbrev pub sink_capacity : RenderRefusal → ℕ
sink_capacity (CountsDiffer side) = 0
sink_capacity MarkerSize = 0
sink_capacity (LabelTooLong side) = 0
sink_capacity (SinkTooSmall needed capacity) = capacity

-- An answer that is a refusal of this number and place.
pub record TableRefuses {A : Type 0} (x : Result A TableRefusal) (number place : ℕ) : Type 0 where
  pub why : TableRefusal
  pub refused : x ≡ Err why
  pub numbered : table_number why ≡ number
  pub placed : table_place why ≡ place
  pub layered : table_layer why ≡ Table

pub record RenderRefuses {A : Type 0} (x : Result A RenderRefusal) (number place needed capacity : ℕ) : Type 0 where
  pub why : RenderRefusal
  pub refused : x ≡ Err why
  pub numbered : render_number why ≡ number
  pub placed : render_place why ≡ place
  pub length : needed_length why ≡ needed
  pub room : sink_capacity why ≡ capacity
  pub layered : render_layer why ≡ Render
