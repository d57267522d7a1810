-- The laws of line endings.
use Rattle.std.specs.Prelude.{◌≡◌, ℕ, ◌-◌, ◌<◌, ◌≤◌, List, [], ◌∷◌, ◌++◌, Some, None, ◌≢◌, slice_index_or}
use Rattle.rules.specs.declared.ending.Ending.TheVariants.{Newline, ReturnNewline}
use Rattle.rules.specs.declared.hunk.Hunk.{Hunk}
use Rattle.rules.specs.Lines.{Line}
use Rattle.rules.specs.Hunks.{Sheets, sheet_of}
use Rattle.rules.specs.Filling.{stretch}
use Rattle.rules.specs.Endings.{ending_before, ending_of, ending_bytes}

-- The rules of line endings in words. Of a list of hunks the last that has a range which is not empty decides: its after range, in its side's sheet,
-- or else its before range, in the ancestor.
pub record EndingLaws (s : Sheets) : Type 0 where
  -- the bytes of the two endings
  pub newline_bytes : ending_bytes Newline ≡ 10 ∷ []
  pub return_bytes : ending_bytes ReturnNewline ≡ 13 ∷ (10 ∷ [])
  pub no_hunk : ending_of s [] ≡ None
  pub by_after : (hs : List Hunk) (h : Hunk) → h.after.start < h.after.end → ending_of s (hs ++ (h ∷ [])) ≡ ending_before (sheet_of s h.side) h.after.end
  pub by_before : (hs : List Hunk) (h : Hunk) → h.after.end ≤ h.after.start → h.before.start < h.before.end → ending_of s (hs ++ (h ∷ [])) ≡ ending_before s.ancestor h.before.end
  pub passed_over : (hs : List Hunk) (h : Hunk) → h.after.end ≤ h.after.start → h.before.end ≤ h.before.start → ending_of s (hs ++ (h ∷ [])) ≡ ending_of s hs
  -- a last line that ends in carriage return and newline gives both, another of two bytes or more that ends in newline gives newline, a newline alone none
  pub both_bytes : (ls : List Line) (b : ℕ) (xs : List ℕ) → slice_index_or ls (b - 1) [] ≡ xs ++ (13 ∷ (10 ∷ [])) → ending_before ls b ≡ Some ReturnNewline
  pub one_byte : (ls : List Line) (b : ℕ) (xs : List ℕ) (c : ℕ) → slice_index_or ls (b - 1) [] ≡ xs ++ (c ∷ (10 ∷ [])) → (c ≢ 13) → ending_before ls b ≡ Some Newline
  pub newline_alone : (ls : List Line) (b : ℕ) → slice_index_or ls (b - 1) [] ≡ 10 ∷ [] → ending_before ls b ≡ None
  -- behind a last line without newline the second-last byte of the line before it decides, if there are such a line and byte
  pub before_open : (ls : List Line) (b : ℕ) (xs ys : List ℕ) (c d z : ℕ) → slice_index_or ls (b - 1) [] ≡ xs ++ (c ∷ []) → (c ≢ 10) → 2 ≤ b → slice_index_or ls (b - 2) [] ≡ ys ++ (d ∷ (z ∷ []))
      → ((d ≡ 13 → ending_before ls b ≡ Some ReturnNewline) × ((d ≢ 13) → ending_before ls b ≡ Some Newline))
  pub short_before : (ls : List Line) (b : ℕ) (xs : List ℕ) (c z : ℕ) → slice_index_or ls (b - 1) [] ≡ xs ++ (c ∷ []) → (c ≢ 10) → slice_index_or ls (b - 2) [] ≡ z ∷ [] → ending_before ls b ≡ None
  pub first_line : (ls : List Line) (xs : List ℕ) (c : ℕ) → slice_index_or ls 0 [] ≡ xs ++ (c ∷ []) → (c ≢ 10) → ending_before ls 1 ≡ None
  -- a stretch of the ancestor shows the ending of its last line, and none where it is empty
  pub of_stretch : (a b : ℕ) → a < b → ending_of s (stretch a b) ≡ ending_before s.ancestor b
  pub no_stretch : (a b : ℕ) → b ≤ a → ending_of s (stretch a b) ≡ None
