-- What the pieces of the code mean.
use Rattle.std.specs.Prelude.{ℕ, List, [], ◌∷◌}
use Rattle.rules.specs.Pieces.{Kind, common, ours, base, theirs, marker, ending, Chunk}
use Rattle.sink.specs.declared.piece.Kind as code
use Rattle.sink.specs.declared.piece.Kind.TheVariants as word
use Rattle.sink.specs.declared.piece.Piece.{Piece}
use Rattle.sink.specs.declared.piece.Piece.TheVariants.{Common, Ours, Base, Theirs, Marker, Ending}

-- The kind that a word of the code names.
abbrev pub kind_of : code.Kind → Kind
kind_of word.Common = common
kind_of word.Ours = ours
kind_of word.Base = base
kind_of word.Theirs = theirs
kind_of word.Marker = marker
kind_of word.Ending = ending

-- A kind and bytes as a piece.
abbrev pub chunk_of : code.Kind → List ℕ → Chunk
chunk_of k bs = record { kind = kind_of k; bytes = bs }

-- A piece of the code, as its kind and the bytes that it borrows.
abbrev pub chunk : Piece → Chunk
chunk (Common b) = record { kind = common; bytes = b.now }
chunk (Ours b) = record { kind = ours; bytes = b.now }
chunk (Base b) = record { kind = base; bytes = b.now }
chunk (Theirs b) = record { kind = theirs; bytes = b.now }
chunk (Marker b) = record { kind = marker; bytes = b.now }
chunk (Ending b) = record { kind = ending; bytes = b.now }

-- Pieces in order.
abbrev pub chunks : List Piece → List Chunk
chunks [] = []
chunks (p ∷ ps) = chunk p ∷ chunks ps
