-- Reading a rendering: its lines by part, and its outline. The outline of a rendering that keeps conflicts lists its common lines and its blocks, each
-- block with its ours, base and theirs lines. It is read off the pieces by counting a marker's pieces, never by their bytes: a label may look like a marker.
use Rattle.std.specs.Prelude.{ℕ, ◌-◌, Bool, true, false, cond, List, [], ◌∷◌, ◌++◌, Some, None, Option, ◌==◌}
use Rattle.rules.specs.declared.mode.ConflictStyle.{ConflictStyle}
use Rattle.rules.specs.Lines.{Line}
use Rattle.rules.specs.Sides.{with_base}
use Rattle.rules.specs.Pieces.{Kind, common, ours, base, theirs, marker, ending, Chunk}
use Rattle.rules.specs.Markers.{Labels}

-- The lines of a rendering, every block replaced by its ours part, or by its theirs part.
abbrev pub reads_as_ours : Kind → Bool
reads_as_ours common = true
reads_as_ours ours = true
reads_as_ours base = false
reads_as_ours theirs = false
reads_as_ours marker = false
reads_as_ours ending = false

abbrev pub reads_as_theirs : Kind → Bool
reads_as_theirs common = true
reads_as_theirs ours = false
reads_as_theirs base = false
reads_as_theirs theirs = true
reads_as_theirs marker = false
reads_as_theirs ending = false

abbrev pub reads_as_line : Kind → Bool
reads_as_line common = true
reads_as_line ours = true
reads_as_line base = true
reads_as_line theirs = true
reads_as_line marker = false
reads_as_line ending = false

abbrev pub lines_kept : (Kind → Bool) → List Chunk → List Line
lines_kept f [] = []
lines_kept f (c ∷ cs) = cond (f c.kind) (c.bytes ∷ lines_kept f cs) (lines_kept f cs)

abbrev pub all_lines : List Chunk → List Line
all_lines = lines_kept reads_as_line

-- An outline is a list of common lines and blocks.
pub data Item : Type 0 where
  line : Line → Item
  block : (o b t : List Line) → Item

-- The part of a rendering that is being read.
pub data Part : Type 0 where
  reading_common : Part
  reading_ours : Part
  reading_base : Part
  reading_theirs : Part

-- How many pieces of a marker follow its first.
abbrev pub more_pieces : Option (List ℕ) → ℕ
more_pieces None = 1
more_pieces (Some l) = 3

-- Where the reading stands: in which part, how many pieces of a marker are still to come, and the lines of the block so far.
pub record Reading : Type 0 where
  pub part : Part
  pub skip : ℕ
  pub ours : List Line
  pub base : List Line
  pub theirs : List Line

abbrev pub start : Reading
start = record { part = reading_common; skip = 0; ours = []; base = []; theirs = [] }

-- A marker's first piece leads to the next part, and its other pieces are passed over.
abbrev pub next_part : ConflictStyle → Part → Part
next_part st reading_common = reading_ours
next_part st reading_ours = cond (with_base st) reading_base reading_theirs
next_part st reading_base = reading_theirs
next_part st reading_theirs = reading_common

abbrev pub next_skip : Labels → Part → ℕ
next_skip l reading_common = more_pieces l.other
next_skip l reading_ours = more_pieces l.current
next_skip l reading_base = more_pieces l.ancestor
next_skip l reading_theirs = 1

abbrev pub closing : Reading → Part → List Item
closing r reading_common = []
closing r reading_ours = []
closing r reading_base = []
closing r reading_theirs = block r.ours r.base r.theirs ∷ []

abbrev pub moved : ConflictStyle → Labels → Reading → Part → Reading
moved st l r reading_common = record { part = next_part st reading_common; skip = next_skip l (next_part st reading_common); ours = []; base = []; theirs = [] }
moved st l r reading_ours = record { part = next_part st reading_ours; skip = next_skip l (next_part st reading_ours); ours = r.ours; base = r.base; theirs = r.theirs }
moved st l r reading_base = record { part = next_part st reading_base; skip = next_skip l (next_part st reading_base); ours = r.ours; base = r.base; theirs = r.theirs }
moved st l r reading_theirs = record { part = next_part st reading_theirs; skip = next_skip l (next_part st reading_theirs); ours = []; base = []; theirs = [] }

abbrev pub skipped : Reading → Reading
skipped r = record { part = r.part; skip = r.skip - 1; ours = r.ours; base = r.base; theirs = r.theirs }

abbrev pub read_kind : ConflictStyle → Labels → Reading → Kind → Line → Reading
read_kind st l r common x = r
read_kind st l r ours x = record { part = r.part; skip = r.skip; ours = r.ours ++ (x ∷ []); base = r.base; theirs = r.theirs }
read_kind st l r base x = record { part = r.part; skip = r.skip; ours = r.ours; base = r.base ++ (x ∷ []); theirs = r.theirs }
read_kind st l r theirs x = record { part = r.part; skip = r.skip; ours = r.ours; base = r.base; theirs = r.theirs ++ (x ∷ []) }
read_kind st l r marker x = cond (r.skip == 0) (moved st l r r.part) (skipped r)
read_kind st l r ending x = r

-- What a piece adds to the outline: a common line itself, and the last marker its block.
abbrev pub given_by : Reading → Kind → Line → List Item
given_by r common x = line x ∷ []
given_by r ours x = []
given_by r base x = []
given_by r theirs x = []
given_by r marker x = cond (r.skip == 0) (closing r r.part) []
given_by r ending x = []

abbrev pub read_on : ConflictStyle → Labels → Reading → List Chunk → List Item
read_on st l r [] = []
read_on st l r (c ∷ cs) = given_by r c.kind c.bytes ++ read_on st l (read_kind st l r c.kind c.bytes) cs

abbrev pub outline : ConflictStyle → Labels → List Chunk → List Item
outline st l cs = read_on st l start cs

-- Whether an outline has a block, and its lines where each block gives its ours part, its theirs part, or all of its lines.
abbrev pub has_block : List Item → Bool
has_block [] = false
has_block (line x ∷ is) = has_block is
has_block (block o b t ∷ is) = true

abbrev pub ours_part : Item → List Line
ours_part (line x) = x ∷ []
ours_part (block o b t) = o

abbrev pub theirs_part : Item → List Line
theirs_part (line x) = x ∷ []
theirs_part (block o b t) = t

abbrev pub every_part : Item → List Line
every_part (line x) = x ∷ []
every_part (block o b t) = o ++ (b ++ t)

abbrev pub spelled : (Item → List Line) → List Item → List Line
spelled f [] = []
spelled f (i ∷ is) = f i ++ spelled f is
