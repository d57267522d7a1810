-- Split and the text sheet: what they ask, answer and leave.
use Rattle.std.specs.Prelude.{◌≡◌, ℕ, ◌<◌, ◌≤◌, Bool, true, false, cond, List, [], ◌∷◌, ◌++◌, length, take, drop, Ok, Err, Result, ◌==◌, ◌≢◌, nat_lt}
use Rattle.rules.specs.Limits.{max_lines, max_bytes}
use Rattle.rules.specs.Lines.{Line}
use Rattle.rules.specs.Texts.{text_lines, joined_lines, are_lines}
use Rattle.sheet.specs.Starts.{starts_of}
use Rattle.sheet.specs.declared.refusal.SheetRefusal.{SheetRefusal}
use Rattle.sheet.specs.declared.refusal.SheetRefusal.TheVariants.{TextTooLong, TooManyLines, TableTooSmall, StartsAbsent}

-- What the lines of a text are: joined they are the text, each of them is a line, and no other lines are such.
pub record LineLaw (text : List ℕ) : Type 0 where
  pub joined : joined_lines (text_lines text) ≡ text
  pub lines : are_lines (text_lines text) ≡ true
  pub only : (ls : List Line) → are_lines ls ≡ true → joined_lines ls ≡ text → ls ≡ text_lines text

-- Split asks in order: is the text short enough, are its lines few enough, does the table have a place for each? It answers the number of lines.
abbrev pub split_answer : List ℕ → ℕ → Result ℕ SheetRefusal
split_answer text room =
    cond (nat_lt max_bytes (length text)) (Err TextTooLong)
    (cond (nat_lt max_lines (length (text_lines text))) (Err TooManyLines)
    (cond (nat_lt room (length (text_lines text))) (Err TableTooSmall)
    (Ok (length (text_lines text)))))

-- The table with the line starts in its first places; later places keep what they had.
abbrev pub filled : List ℕ → List ℕ → List ℕ
filled text table = starts_of text ++ drop (length (text_lines text)) table

-- The table after a split; a refusal leaves it.
abbrev pub table_after : {N : Type 0} → Result N SheetRefusal → List ℕ → List ℕ → List ℕ
table_after (Ok n) text table = filled text table
table_after (Err e) text table = table

-- Whether two lists of numbers are equal.
abbrev pub same : List ℕ → List ℕ → Bool
same [] [] = true
same [] (y ∷ ys) = false
same (x ∷ xs) [] = false
same (x ∷ xs) (y ∷ ys) = cond (x == y) (same xs ys) false

-- A text sheet asks the same, and then whether the table begins with the line starts.
abbrev pub text_answer : List ℕ → List ℕ → Result ℕ SheetRefusal
text_answer text table =
    cond (nat_lt max_bytes (length text)) (Err TextTooLong)
    (cond (nat_lt max_lines (length (text_lines text))) (Err TooManyLines)
    (cond (nat_lt (length table) (length (text_lines text))) (Err TableTooSmall)
    (cond (same (take (length (text_lines text)) table) (starts_of text)) (Ok (length (text_lines text))) (Err StartsAbsent))))

-- What an answer says of a text and its table: all is within the limits and the table begins with the line starts, or the first question
-- that is named fails and those before it do not.
pub record TextLaw (text table : List ℕ) : Type 0 where
  pub accepted : (n : ℕ) → text_answer text table ≡ Ok n → (length text ≤ max_bytes) × (n ≤ max_lines) × (n ≡ length (text_lines text)) × (take n table ≡ starts_of text)
  pub too_long : text_answer text table ≡ Err TextTooLong → max_bytes < length text
  pub too_many : text_answer text table ≡ Err TooManyLines → (length text ≤ max_bytes) × (max_lines < length (text_lines text))
  pub too_small : text_answer text table ≡ Err TableTooSmall → (length text ≤ max_bytes) × (length (text_lines text) ≤ max_lines) × (length table < length (text_lines text))
  pub absent : text_answer text table ≡ Err StartsAbsent → (length text ≤ max_bytes) × (length (text_lines text) ≤ max_lines) × (length (text_lines text) ≤ length table) × (take (length (text_lines text)) table ≢ starts_of text)

-- The lines of a sheet after an opening: the new ones, or after a refusal the old ones.
abbrev pub lines_after : Result ℕ SheetRefusal → List Line → List Line → List Line
lines_after (Ok n) new old = new
lines_after (Err e) new old = old
