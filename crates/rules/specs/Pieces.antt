-- Pieces: a kind and bytes. What they hold together, and what a sink's rule makes of them.
use Rattle.std.specs.Prelude.{ℕ, ◌+◌, List, [], ◌∷◌, ◌++◌, length}

-- The six kinds of pieces.
pub data Kind : Type 0 where
  common : Kind
  ours : Kind
  base : Kind
  theirs : Kind
  marker : Kind
  ending : Kind

-- A piece: its kind and its bytes.
pub record Chunk : Type 0 where
  pub kind : Kind
  pub bytes : List ℕ

-- A piece's length in bytes.
abbrev pub size : Chunk → ℕ
size c = length c.bytes

-- The bytes of pieces in order.
abbrev pub all_bytes : List Chunk → List ℕ
all_bytes [] = []
all_bytes (c ∷ cs) = c.bytes ++ all_bytes cs

-- The length of pieces in bytes.
abbrev pub total : List Chunk → ℕ
total [] = 0
total (c ∷ cs) = size c + total cs

-- What a rule makes of pieces in order, from a value on.
abbrev pub made : {V : Type 0} → (V → Chunk → V) → V → List Chunk → V
made rule v [] = v
made rule v (c ∷ cs) = made rule (rule v c) cs

-- Two rules: one that keeps the pieces, and one that keeps their bytes.
abbrev pub one_more : List Chunk → Chunk → List Chunk
one_more cs c = cs ++ (c ∷ [])

abbrev pub more_bytes : List ℕ → Chunk → List ℕ
more_bytes bs c = bs ++ c.bytes
