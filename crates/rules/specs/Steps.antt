-- Steps of writing: a piece, or an ending piece where a line is open. An open line is one that bytes were written to, and not a newline last.
use Rattle.std.specs.Prelude.{ℕ, Bool, false, cond, not, List, [], ◌∷◌, length, ◌==◌, slice_index}
use Rattle.rules.specs.declared.ending.Ending.{Ending}
use Rattle.rules.specs.Lines.{Line}
use Rattle.rules.specs.Endings.{ending_bytes}
use Rattle.rules.specs.Pieces.{Kind, ending, Chunk}

pub data Step : Type 0 where
  put : Chunk → Step
  close : Ending → Step

-- Each line is one piece.
abbrev pub each : Kind → List Line → List Step
each k [] = []
each k (l ∷ ls) = put (record { kind = k; bytes = l }) ∷ each k ls

-- Whether a line is open after a piece: something was written, and not a newline last.
abbrev pub left_open : Bool → List ℕ → Bool
left_open o [] = o
left_open o (b ∷ bs) = not (slice_index (b ∷ bs) (length bs) == 10)

-- The pieces of steps, a line being open or not.
abbrev pub pieces_of : Bool → List Step → List Chunk
pieces_of o [] = []
pieces_of o (put c ∷ ss) = c ∷ pieces_of (left_open o c.bytes) ss
pieces_of o (close e ∷ ss) = cond o (record { kind = ending; bytes = ending_bytes e } ∷ pieces_of false ss) (pieces_of false ss)
