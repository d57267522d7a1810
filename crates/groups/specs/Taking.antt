-- Which hunks of the two sides the first cluster of the walk takes.
use Rattle.std.specs.Prelude.{◌≡◌, ℕ, ◌+◌, ◌<◌, ◌≤◌, Bool, false, List, [], ◌∷◌, length, take, drop, Some, None, Option}
use Rattle.rules.specs.declared.hunk.Hunk.{Hunk}
use Rattle.rules.specs.declared.hunk.Side.{Side}
use Rattle.rules.specs.declared.hunk.Side.TheVariants.{Current, Other, Ancestor}
use Rattle.rules.specs.Hunks.{Sheets, touches}
use Rattle.rules.specs.Walk.{walk, currents, others}
use Rattle.rules.specs.Groups.{Cluster, members, clusters}
use Rattle.rules.specs.Order.{Kept}

-- The hunks of the two sides, current and other, are such as a table keeps for some sheets.
abbrev pub KeptHunks : List Hunk → List Hunk → Type 0
KeptHunks cs os = (s : Sheets) × Kept s cs os

-- A side offers its next hunk if that touches the last one taken of the facing side.
abbrev pub offers : Option Hunk → Option Hunk → Bool
offers None g = false
offers (Some h) None = false
offers (Some h) (Some g) = touches h g

-- A single hunk of a side, as numbers of current and other hunks.
abbrev pub one_of : Side → ℕ × ℕ
one_of Current = (1, 0)
one_of Other = (0, 1)
one_of Ancestor = (0, 0)

-- The hunks that face a side.
abbrev pub facing_of : Side → List Hunk → List Hunk → List Hunk
facing_of Current cs os = os
facing_of Other cs os = cs
facing_of Ancestor cs os = []

-- How many hunks of the current and of the other side the first cluster has.
abbrev pub taken : List Cluster → ℕ × ℕ
taken [] = (0, 0)
taken (k ∷ ks) = (length (currents (members k)), length (others (members k)))

-- The first cluster takes the first m hunks of the current side and the first n of the other; the later ones are those of the hunks left.
pub record Taken (cs os : List Hunk) (m n : ℕ) : Type 0 where
  pub cluster : Cluster
  pub walked : clusters (walk cs os) ≡ cluster ∷ clusters (walk (drop m cs) (drop n os))
  pub ours : currents (members cluster) ≡ take m cs
  pub theirs : others (members cluster) ≡ take n os
  pub our_bound : m ≤ length cs
  pub their_bound : n ≤ length os
  pub some : 0 < m + n
