-- Where a text's lines start.
use Rattle.std.specs.Prelude.{ℕ, ◌+◌, List, [], ◌∷◌, length}
use Rattle.rules.specs.Lines.{Line}
use Rattle.rules.specs.Texts.{text_lines}

-- Where each of some lines starts among their bytes, the first at `at`.
abbrev pub starts_at : ℕ → List Line → List ℕ
starts_at at [] = []
starts_at at (l ∷ ls) = at ∷ starts_at (at + length l) ls

abbrev pub starts_of : List ℕ → List ℕ
starts_of text = starts_at 0 (text_lines text)
