-- Two lists of lines: the longest equal run at the front, then the longest equal run at the back of the rest, and what is left between.
use Rattle.std.specs.Prelude.{ℕ, suc, ◌-◌, cond, List, [], ◌∷◌, reverse, length, take, drop}
use Rattle.rules.specs.Lines.{Line, same_line}

-- How long the longest equal run of leading lines is, and that of trailing lines.
abbrev pub shared_front : List Line → List Line → ℕ
shared_front [] ys = 0
shared_front (x ∷ xs) [] = 0
shared_front (x ∷ xs) (y ∷ ys) = cond (same_line x y) (suc (shared_front xs ys)) 0

abbrev pub shared_back : List Line → List Line → ℕ
shared_back xs ys = shared_front (reverse xs) (reverse ys)

-- The run at the front, and what stands behind it in the first list.
abbrev pub shared_start : List Line → List Line → List Line
shared_start xs ys = take (shared_front xs ys) xs

abbrev pub past_start : List Line → List Line → List Line
past_start xs ys = drop (shared_front xs ys) xs

-- The run at the back, and what stands ahead of it in the first list.
abbrev pub before_end : List Line → List Line → List Line
before_end xs ys = take (length xs - shared_back xs ys) xs

abbrev pub at_end : List Line → List Line → List Line
at_end xs ys = drop (length xs - shared_back xs ys) xs

-- Front first: what is left of the first list between the two runs, and the run at the back of the rest.
abbrev pub middle : List Line → List Line → List Line
middle xs ys = before_end (past_start xs ys) (past_start ys xs)

abbrev pub shared_end : List Line → List Line → List Line
shared_end xs ys = at_end (past_start xs ys) (past_start ys xs)
