-- The laws of markers, and of the endings that open lines are given.
use Rattle.std.specs.Prelude.{◌≡◌, ℕ, Bool, true, false, cond, ◌&&◌, List, [], ◌∷◌, ◌++◌, replicate, Some, None, Option, ◌≢◌}
use Rattle.std.specs.List.{AllByRecursion}
use Rattle.rules.specs.declared.ending.Ending.{Ending}
use Rattle.rules.specs.declared.ending.Ending.TheVariants.{Newline}
use Rattle.rules.specs.declared.hunk.Hunk.{Hunk}
use Rattle.rules.specs.declared.mode.Conflict as modes
use Rattle.rules.specs.declared.mode.Conflict.TheVariants.{Keep, ResolveWithOurs, ResolveWithTheirs, ResolveWithUnion}
use Rattle.rules.specs.declared.mode.ConflictStyle.{ConflictStyle}
use Rattle.rules.specs.declared.mode.ConflictStyle.TheVariants.{Merge, Diff3, ZealousDiff3}
use Rattle.rules.specs.Lines.{Line}
use Rattle.rules.specs.Hunks.{Sheets}
use Rattle.rules.specs.Walk.{walk}
use Rattle.rules.specs.Groups.{Cluster, clusters, from, to, is_group}
use Rattle.rules.specs.Filling.{stretch, sides_differ}
use Rattle.rules.specs.Sides.{with_base, sides_in, contracts}
use Rattle.rules.specs.Endings.{ending_bytes, ending_of}
use Rattle.rules.specs.Pieces.{Kind, common, ours, base, theirs, marker, ending, Chunk, all_bytes}
use Rattle.rules.specs.Steps.{left_open}
use Rattle.rules.specs.Markers.{Labels}
use Rattle.rules.specs.Rendering.{rendering}

-- The four markers: ahead of ours, ahead of the base, ahead of theirs, and behind theirs.
pub data Mark : Type 0 where
  less : Mark
  bar : Mark
  equals : Mark
  greater : Mark

abbrev pub mark_byte : Mark → ℕ
mark_byte less = 60
mark_byte bar = 124
mark_byte equals = 61
mark_byte greater = 62

-- Each has its own label, and `=` has none.
abbrev pub mark_label : Labels → Mark → Option (List ℕ)
mark_label l less = l.current
mark_label l bar = l.ancestor
mark_label l equals = None
mark_label l greater = l.other

abbrev pub piece : Kind → List ℕ → Chunk
piece k bs = record { kind = k; bytes = bs }

abbrev pub label_pieces : Option (List ℕ) → List Chunk
label_pieces None = []
label_pieces (Some x) = piece marker (32 ∷ []) ∷ (piece marker x ∷ [])

-- A marker: its character n times, a space and its label if one is given, its line ending.
abbrev pub marker_pieces : ℕ → Labels → Mark → Ending → List Chunk
marker_pieces n l m e = piece marker (replicate n (mark_byte m)) ∷ (label_pieces (mark_label l m) ++ (piece marker (ending_bytes e) ∷ []))

-- An ending piece where a line is open.
abbrev pub closed : Bool → Ending → List Chunk
closed true e = piece ending (ending_bytes e) ∷ []
closed false e = []

-- A place in a rendering: outside the blocks, or in a part of a block whose markers have an ending.
pub data Place : Type 0 where
  out : Place
  in_ours : Ending → Place
  in_base : Ending → Place
  in_theirs : Ending → Place

-- Which marker, with which ending, leads from one place to which. A block's markers have one ending, that of the base its own; the base stands
-- only in the styles that write the ancestor's lines.
pub data Moves (st : ConflictStyle) : Place → Mark → Ending → Place → Type 0 where
  opens : {e : Ending} → Moves st out less e (in_ours e)
  bases : {e f : Ending} → with_base st ≡ true → Moves st (in_ours e) bar f (in_base e)
  splits : {e : Ending} → with_base st ≡ false → Moves st (in_ours e) equals e (in_theirs e)
  splits_base : {e : Ending} → Moves st (in_base e) equals e (in_theirs e)
  ends : {e : Ending} → Moves st (in_theirs e) greater e out

-- The form of a rendering that keeps conflicts, from a place on, a line being open or not, with the endings of the markers to come. Common lines
-- stand outside the blocks, the others in their parts; every marker begins a line: where one is open, an ending piece with the marker's own ending
-- closes it, and no ending piece stands elsewhere.
pub data Form (st : ConflictStyle) (n : ℕ) (l : Labels) : List Ending → Place → Bool → List Chunk → Type 0 where
  end : {o : Bool} → Form st n l [] out o []
  common_line : {es : List Ending} {o : Bool} {cs : List Chunk} (x : Line) → Form st n l es out (left_open o x) cs → Form st n l es out o (piece common x ∷ cs)
  ours_line : {es : List Ending} {e : Ending} {o : Bool} {cs : List Chunk} (x : Line) → Form st n l es (in_ours e) (left_open o x) cs → Form st n l es (in_ours e) o (piece ours x ∷ cs)
  base_line : {es : List Ending} {e : Ending} {o : Bool} {cs : List Chunk} (x : Line) → Form st n l es (in_base e) (left_open o x) cs → Form st n l es (in_base e) o (piece base x ∷ cs)
  theirs_line : {es : List Ending} {e : Ending} {o : Bool} {cs : List Chunk} (x : Line) → Form st n l es (in_theirs e) (left_open o x) cs → Form st n l es (in_theirs e) o (piece theirs x ∷ cs)
  mark : {es : List Ending} {p q : Place} {o : Bool} {cs : List Chunk} (m : Mark) (e : Ending) → Moves st p m e q → Form st n l es q false cs → Form st n l (e ∷ es) p o (closed o e ++ (marker_pieces n l m e ++ cs))

-- The first ending that is shown, or else newline.
abbrev pub first_shown : List (Option Ending) → Ending
first_shown [] = Newline
first_shown (None ∷ xs) = first_shown xs
first_shown (Some e ∷ xs) = e

-- Ahead of a block: its front or, with no front, the ancestor's lines since the last group or lone hunk.
abbrev pub ahead_shown : Sheets → ℕ → Cluster → List Hunk → Option Ending
ahead_shown s since k [] = ending_of s (stretch since (from k))
ahead_shown s since k (h ∷ hs) = ending_of s (h ∷ hs)

-- A block's markers have the ending shown ahead of it, or else by ours; the base's the one that the group's range in the ancestor shows.
abbrev pub block_shown : ConflictStyle → Sheets → ℕ → Cluster → Ending
block_shown st s since k = first_shown (ahead_shown s since k (sides_in st s k).front ∷ (ending_of s (sides_in st s k).left ∷ []))

abbrev pub base_shown : Sheets → Cluster → Ending
base_shown s k = first_shown (ending_of s (stretch (from k) (to k)) ∷ [])

-- The endings of all markers: of each group whose sides differ, those of its block.
abbrev pub block_endings : ConflictStyle → Ending → Ending → List Ending
block_endings st e f = e ∷ (cond (with_base st) (f ∷ []) [] ++ (e ∷ (e ∷ [])))

abbrev pub marker_endings : ConflictStyle → Sheets → ℕ → List Cluster → List Ending
marker_endings st s since [] = []
marker_endings st s since (k ∷ ks) = cond (is_group k && sides_differ s k) (block_endings st (block_shown st s since k) (base_shown s k)) [] ++ marker_endings st s (to k) ks

-- An open line: some byte was written, and the last is not a newline.
abbrev pub OpenLine : List ℕ → Type 0
OpenLine bs = (xs : List ℕ) × (b : ℕ) × (bs ≡ xs ++ (b ∷ [])) × (b ≢ 10)

-- Ending pieces stand only behind an open line, and are line endings.
pub record Closes (ps : List Chunk) (c : Chunk) : Type 0 where
  pub behind_open : OpenLine (all_bytes ps)
  pub an_ending : (e : Ending) × (c.bytes ≡ ending_bytes e)

abbrev pub is_marker : Kind → Bool
is_marker common = false
is_marker ours = false
is_marker base = false
is_marker theirs = false
is_marker marker = true
is_marker ending = false

abbrev pub Unmarked : Chunk → Type 0
Unmarked c = is_marker c.kind ≡ false

pub record MarkerLaws (s : Sheets) (cs os : List Hunk) : Type 0 where
  pub keep : (st : ConflictStyle) (n : ℕ) (l : Labels) → Form st n l (marker_endings st s 0 (clusters (walk cs os))) out false (rendering (Keep st n) s l cs os)
  -- after bytes a line is open exactly when the last is not a newline
  pub open_none : (o : Bool) → left_open o [] ≡ o
  pub open_closed : (o : Bool) (xs : List ℕ) → left_open o (xs ++ (10 ∷ [])) ≡ false
  pub open_left : (o : Bool) (xs : List ℕ) (b : ℕ) → (b ≢ 10) → left_open o (xs ++ (b ∷ [])) ≡ true
  -- the styles that have a base, and those that contract
  pub base_styles : (with_base Merge ≡ false) × (with_base Diff3 ≡ true) × (with_base ZealousDiff3 ≡ true)
  pub contracting_styles : (contracts Merge ≡ true) × (contracts Diff3 ≡ false) × (contracts ZealousDiff3 ≡ true)
  pub closes : (m : modes.Conflict) (l : Labels) (ps qs : List Chunk) (c : Chunk) → rendering m s l cs os ≡ ps ++ (c ∷ qs) → c.kind ≡ ending → Closes ps c
  pub ours_unmarked : (l : Labels) → AllByRecursion Unmarked (rendering ResolveWithOurs s l cs os)
  pub theirs_unmarked : (l : Labels) → AllByRecursion Unmarked (rendering ResolveWithTheirs s l cs os)
  pub union_unmarked : (l : Labels) → AllByRecursion Unmarked (rendering ResolveWithUnion s l cs os)
