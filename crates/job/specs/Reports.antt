-- What a report takes in.
use Rattle.std.specs.Prelude.{◌≡◌, ℕ, List, ◌++◌, Result, OnOk}

-- Bytes were added behind what a report had, where there was memory for them.
abbrev pub Adds : {E : Type 0} → Result (Unit {0}) E → List ℕ → List ℕ → List ℕ → Type 0
Adds result old new bytes = OnOk result (new ≡ old ++ bytes)
