-- How bytes are shown: printable ones as they are, the others by a backslash and what they are.
use Rattle.std.specs.Prelude.{ℕ, ◌+◌, ◌/◌, ◌%◌, cond, ◌&&◌, List, [], ◌∷◌, ◌++◌, codes, ◌==◌, nat_le, nat_lt}

abbrev pub hex_digit : ℕ → ℕ
hex_digit d = cond (nat_lt d 10) (48 + d) (87 + d)

abbrev pub shown_byte : ℕ → List ℕ
shown_byte b =
    cond (b == 10) (codes "\\n")
    (cond (b == 13) (codes "\\r")
    (cond (b == 9) (codes "\\t")
    (cond (b == 92) (codes "\\\\")
    (cond (nat_le 32 b && nat_le b 126) (b ∷ [])
    (92 ∷ (120 ∷ (hex_digit (b / 16) ∷ (hex_digit (b % 16) ∷ []))))))))

abbrev pub shown : List ℕ → List ℕ
shown [] = []
shown (b ∷ bs) = shown_byte b ++ shown bs
