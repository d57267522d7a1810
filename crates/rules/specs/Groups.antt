-- Groups. The walk is cut wherever the next hunk touches none of those since the last cut. A cluster of one hunk is a lone hunk, a larger one a
-- group; its range in the ancestor runs from its smallest before.start to its largest before.end.
use Rattle.std.specs.Prelude.{ℕ, max, Bool, true, false, cond, List, [], ◌∷◌, ◌++◌}
use Rattle.rules.specs.declared.hunk.Hunk.{Hunk}
use Rattle.rules.specs.Hunks.{touches_any}

-- A cluster: its first hunk in the walk, and the others.
pub record Cluster : Type 0 where
  pub first : Hunk
  pub more : List Hunk

abbrev pub members : Cluster → List Hunk
members k = k.first ∷ k.more

abbrev pub joined : Cluster → Hunk → Cluster
joined k h = record { first = k.first; more = k.more ++ (h ∷ []) }

-- A running cluster takes the next hunk if that touches one of its own; otherwise it is complete, and the next hunk begins another.
abbrev pub clusters_from : Cluster → List Hunk → List Cluster
clusters_from k [] = k ∷ []
clusters_from k (h ∷ hs) = cond (touches_any h (members k)) (clusters_from (joined k h) hs) (k ∷ clusters_from (record { first = h; more = [] }) hs)

abbrev pub clusters : List Hunk → List Cluster
clusters [] = []
clusters (h ∷ hs) = clusters_from (record { first = h; more = [] }) hs

-- A group has more hunks than one.
abbrev pub is_group : Cluster → Bool
is_group k = elim k.more [ [] ↦ false | ◌∷◌ h hs ↦ true ]

-- Its range in the ancestor. The walk is sorted, so that its first hunk has the smallest start.
abbrev pub from : Cluster → ℕ
from k = k.first.before.start

abbrev pub last_end : List Hunk → ℕ
last_end [] = 0
last_end (h ∷ hs) = max h.before.end (last_end hs)

abbrev pub to : Cluster → ℕ
to k = last_end (members k)
