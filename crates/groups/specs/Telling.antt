-- What is told of the next cluster.
use Rattle.std.specs.Prelude.{◌≡◌, List, [], ◌∷◌, length, Some, None, Option}
use Rattle.rules.specs.declared.hunk.Hunk.{Hunk}
use Rattle.rules.specs.Walk.{walk, currents, others}
use Rattle.rules.specs.Groups.{Cluster, members, clusters, is_group, from, to}
use Rattle.groups.specs.declared.next.NextCluster.{NextCluster}
use Rattle.groups.specs.Taking.{Taken}

-- How many hunks it has of each side, its range in the ancestor, whether it is a group, and the side of its first hunk.
abbrev pub told : Cluster → NextCluster
told k = record { current = length (currents (members k)); other = length (others (members k)); range = record { start = from k; end = to k }; is_group = is_group k; lead = k.first.side }

-- The first of the clusters, if there is one.
abbrev pub first_told : List Cluster → Option NextCluster
first_told [] = None
first_told (k ∷ ks) = Some (told k)

-- What is told is the first cluster, and the later ones are those of the hunks that it leaves.
pub record Next (cs os : List Hunk) (x : NextCluster) : Type 0 where
  pub takes : Taken cs os x.current x.other
  pub tells : x ≡ told takes.cluster

abbrev pub Rest : List Hunk → List Hunk → Option NextCluster → Type 0
Rest cs os None = clusters (walk cs os) ≡ []
Rest cs os (Some x) = Next cs os x
