-- Markers: a marker is its character so many times, then, if a label is given, a space and the label, then a line ending. A given label may be empty.
use Rattle.std.specs.Prelude.{ℕ, List, [], ◌∷◌, ◌++◌, replicate, Some, None, Option}
use Rattle.rules.specs.declared.ending.Ending.{Ending}
use Rattle.rules.specs.Endings.{ending_bytes}
use Rattle.rules.specs.Pieces.{marker}
use Rattle.rules.specs.Steps.{Step, put, close}

-- The labels of the three sheets.
pub record Labels : Type 0 where
  pub ancestor : Option (List ℕ)
  pub current : Option (List ℕ)
  pub other : Option (List ℕ)

abbrev pub labels_of : Option (List ℕ) → Option (List ℕ) → Option (List ℕ) → Labels
labels_of a c o = record { ancestor = a; current = c; other = o }

-- A space and the label.
abbrev pub label_steps : Option (List ℕ) → List Step
label_steps None = []
label_steps (Some l) = put (record { kind = marker; bytes = 32 ∷ [] }) ∷ (put (record { kind = marker; bytes = l }) ∷ [])

-- A marker begins a line: an open one is closed first, by the marker's own ending.
abbrev pub marker_steps : ℕ → ℕ → Option (List ℕ) → Ending → List Step
marker_steps c n label e = close e ∷ (put (record { kind = marker; bytes = replicate n c }) ∷ (label_steps label ++ (put (record { kind = marker; bytes = ending_bytes e }) ∷ [])))
