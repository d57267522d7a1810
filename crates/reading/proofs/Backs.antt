-- A line of a hunk is there only where the hunk is.
use Rattle.std.proofs.Common.{ℕ, ◌<◌, ◌≤◌, List, length, get_or, ap, ⊎_elim, arith}
use Rattle.std.proofs.lemmas.List.{get_or_past}
use Rattle.std.proofs.lemmas.Bool.{cases_lt}
use Rattle.rules.specs.declared.hunk.Hunk.{Hunk}
use Rattle.rules.specs.Contraction.{hunk_size}
use Rattle.reading.specs.Reading.{no_hunk}

pub inside : (hs : List Hunk) (i k : ℕ) → 0 < k → k ≤ hunk_size (get_or hs i no_hunk) → i < length hs
inside hs i k pos le = ⊎_elim (λ h. h) (λ h. let e = ap hunk_size (get_or_past hs i no_hunk h) in absurd (omega arith)) (cases_lt i (length hs))
