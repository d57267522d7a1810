-- A log keeps the pieces themselves, as many as it has places.
use Rattle.std.specs.Prelude.{ℕ, Bool, true, false, cond, List, [], ◌∷◌, ◌++◌, length, nat_lt}
use Rattle.rules.specs.Pieces.{Chunk}

-- The most bytes of a log, and its places.
abbrev pub log_bytes : ℕ
log_bytes = 64

abbrev pub log_places : ℕ
log_places = 16

pub record LogValue : Type 0 where
  pub pieces : List Chunk
  pub lost : Bool

abbrev pub fresh_log : LogValue
fresh_log = record { pieces = []; lost = false }

-- One more piece goes behind the others; with no place left, it is lost. (Pieces of length 0 are taken without end.)
abbrev pub log_rule : LogValue → Chunk → LogValue
log_rule v c =
    cond (nat_lt (length v.pieces) log_places) (record { pieces = v.pieces ++ c ∷ []; lost = v.lost }) (record { pieces = v.pieces; lost = true })
