-- Rows of bytes, and what a row sink makes of pieces.
use Rattle.std.specs.Prelude.{ℕ, zero, suc, ◌+◌, cond, List, [], ◌∷◌, ◌++◌, length, take, ◌==◌, nat_lt}
use Rattle.rules.specs.Limits.{row_width}
use Rattle.rules.specs.Pieces.{Chunk}

-- The bytes before the first newline (byte 10).
abbrev pub before_newline : List ℕ → List ℕ
before_newline [] = []
before_newline (b ∷ bs) = cond (b == 10) [] (b ∷ before_newline bs)

-- The bytes behind the first newline.
abbrev pub behind_newline : List ℕ → List ℕ
behind_newline [] = []
behind_newline (b ∷ bs) = cond (b == 10) bs (behind_newline bs)

-- Row r of some bytes, newline excluded, rows counted by newlines from 0. Past the last row there is nothing.
abbrev pub row : ℕ → List ℕ → List ℕ
row zero bs = before_newline bs
row (suc r) bs = row r (behind_newline bs)

-- What is shown of row r.
abbrev pub shown_row : ℕ → List ℕ → List ℕ
shown_row r bs = take row_width (row r bs)

-- What a row sink holds: the row that it was made for, the newlines so far, and the bytes shown.
pub record RowValue : Type 0 where
  pub wanted : ℕ
  pub newlines : ℕ
  pub bytes : List ℕ

abbrev pub fresh_row : ℕ → RowValue
fresh_row r = record { wanted = r; newlines = 0; bytes = [] }

-- One more byte: a newline counts, and a byte of the wanted row is shown while there is place.
abbrev pub shows : RowValue → ℕ → RowValue
shows v b =
    cond (b == 10)
    (record { wanted = v.wanted; newlines = v.newlines + 1; bytes = v.bytes })
    (cond (v.newlines == v.wanted)
    (cond (nat_lt (length v.bytes) row_width) (record { wanted = v.wanted; newlines = v.newlines; bytes = v.bytes ++ b ∷ [] }) v)
    v)

abbrev pub shows_all : RowValue → List ℕ → RowValue
shows_all v [] = v
shows_all v (b ∷ bs) = shows_all (shows v b) bs

-- A piece is its bytes, one after another.
abbrev pub row_rule : RowValue → Chunk → RowValue
row_rule v c = shows_all v c.bytes
