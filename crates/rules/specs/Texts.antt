-- A text's lines, and the lists of lines that sheets may mean.
use Rattle.std.specs.Prelude.{◌≡◌, ℕ, zero, suc, ◌≤◌, Bool, true, false, cond, List, [], ◌∷◌, ◌++◌, length, Some, None, Option, ◌==◌}
use Rattle.rules.specs.Limits.{max_lines, max_bytes}
use Rattle.rules.specs.Lines.{Line}

-- A byte goes in front of the first line; with no line there, it is one.
abbrev pub onto : ℕ → List Line → List Line
onto b [] = (b ∷ []) ∷ []
onto b (l ∷ ls) = (b ∷ l) ∷ ls

-- A text's lines: the text is cut after each newline, which stays in its line. An empty text has none.
abbrev pub text_lines : List ℕ → List Line
text_lines [] = []
text_lines (b ∷ bs) = cond (b == 10) ((b ∷ []) ∷ text_lines bs) (onto b (text_lines bs))

-- The bytes of lines in order.
abbrev pub joined_lines : List Line → List ℕ
joined_lines [] = []
joined_lines (l ∷ ls) = l ++ joined_lines ls

-- Line n, or nothing past the last.
abbrev pub nth_line : List Line → ℕ → Option Line
nth_line [] n = None
nth_line (l ∷ ls) zero = Some l
nth_line (l ∷ ls) (suc n) = nth_line ls n

-- A line is not empty and has a newline only as its last byte; it may lack the newline only where it may be open.
abbrev pub is_line : Bool → Line → Bool
is_line may_lack [] = false
is_line may_lack (b ∷ []) = cond (b == 10) true may_lack
is_line may_lack (b ∷ (c ∷ bs)) = cond (b == 10) false (is_line may_lack (c ∷ bs))

-- Lines of which only the last may lack its newline.
abbrev pub are_lines : List Line → Bool
are_lines [] = true
are_lines (l ∷ []) = is_line true l
are_lines (l ∷ (m ∷ ls)) = cond (is_line false l) (are_lines (m ∷ ls)) false

-- What every sheet's list keeps: it is made of lines and stays within the limits.
abbrev pub Formed : List Line → Type 0
Formed ls = (are_lines ls ≡ true) × (length ls ≤ max_lines) × (length (joined_lines ls) ≤ max_bytes)

-- A well-formed list of lines: what a sheet means.
pub record LineList : Type 0 where
  pub lines : List Line
  pub formed : Formed lines

abbrev pub listed : (ls : List Line) → Formed ls → LineList
listed ls h = record { lines = ls; formed = h }
