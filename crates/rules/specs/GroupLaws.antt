-- The laws of groups: they are the chains of touching hunks, and lie apart in the ancestor.
use Rattle.std.specs.Prelude.{◌≡◌, ◌<◌, ◌≤◌, true, false, T, List, [], ◌∷◌, ◌++◌, map}
use mathlib.Core.List.{Memᴰ}
use Rattle.std.specs.List.{AllByRecursion}
use Rattle.rules.specs.declared.hunk.Hunk.{Hunk}
use Rattle.rules.specs.Hunks.{Sheets, touches, lone_ones}
use Rattle.rules.specs.Walk.{walk, currents, others}
use Rattle.rules.specs.Groups.{Cluster, clusters, members, is_group, from, to}
use Rattle.rules.specs.Exchange.{exchanged_hunk}
use Rattle.rules.specs.Order.{Kept}
use Rattle.rules.specs.WalkLaws.{InTurn, Pairwise}

-- A chain of touching hunks of a list.
pub data Chain (hs : List Hunk) : Hunk → Hunk → Type 0 where
  here : {h : Hunk} → Memᴰ h hs → Chain hs h h
  by : {g h k : Hunk} → Memᴰ g hs → T (touches g h) → Chain hs h k → Chain hs g k

abbrev pub all_members : List Cluster → List Hunk
all_members [] = []
all_members (k ∷ ks) = members k ++ all_members ks

-- The groups are the chains: the clusters part the hunks held, a chain joins any two members of one, no hunk of one touches a hunk
-- of another, and no chain leaves one. So two hunks are of one cluster exactly when a chain of touching hunks joins them.
pub record GroupsAreChains (hs : List Hunk) : Type 0 where
  pub parted : all_members (clusters hs) ≡ hs
  pub chained : (k : Cluster) → Memᴰ k (clusters hs) → (g h : Hunk) → Memᴰ g (members k) → Memᴰ h (members k) → Chain hs g h
  pub apart : (k : Cluster) → Memᴰ k (clusters hs) → (g h : Hunk) → Memᴰ g (members k) → Memᴰ h hs → T (touches g h) → Memᴰ h (members k)
  pub stays : (k : Cluster) → Memᴰ k (clusters hs) → (g h : Hunk) → Memᴰ g (members k) → Chain hs g h → Memᴰ h (members k)
  -- a group has more hunks than one; a lone hunk touches none
  pub group : (k : Cluster) → is_group k ≡ true → (g h : Hunk) × (more : List Hunk) × (members k ≡ g ∷ (h ∷ more))
  pub alone : (k : Cluster) → is_group k ≡ false → members k ≡ k.first ∷ []
  pub lone : (k : Cluster) → Memᴰ k (clusters hs) → is_group k ≡ false → (h : Hunk) → Memᴰ h hs → T (touches k.first h) → ⊥

-- A cluster's range runs from the least before.start of its hunks to the greatest before.end.
pub record Range (k : Cluster) : Type 0 where
  pub starts : AllByRecursion (λ (h : Hunk). from k ≤ h.before.start) (members k)
  pub first_start : (h : Hunk) × Memᴰ h (members k) × (h.before.start ≡ from k)
  pub ends : AllByRecursion (λ (h : Hunk). h.before.end ≤ to k) (members k)
  pub last_end : (h : Hunk) × Memᴰ h (members k) × (h.before.end ≡ to k)

-- At least one line of the ancestor lies between.
abbrev pub Apart : Cluster → Cluster → Type 0
Apart j k = to j < from k

abbrev pub Behind : Hunk → Hunk → Type 0
Behind g h = g.before.end < h.before.start

-- Neighbouring groups and lone hunks lie apart, and so do the hunks that ours and theirs put in.
pub record RangeLaws (cs os : List Hunk) : Type 0 where
  pub ranges : AllByRecursion Range (clusters (walk cs os))
  pub apart : InTurn Apart (clusters (walk cs os))
  pub ours_apart : InTurn Behind (walk cs (lone_ones cs os))
  pub theirs_apart : InTurn Behind (walk (lone_ones os cs) os)

-- A cluster, and the same one after the sides are exchanged.
pub record Exchanged (k k' : Cluster) : Type 0 where
  pub same_from : from k' ≡ from k
  pub same_to : to k' ≡ to k
  pub same_group : is_group k' ≡ is_group k
  pub same_lone : is_group k ≡ false → k'.first ≡ exchanged_hunk k.first
  pub their_hunks : currents (members k') ≡ map exchanged_hunk (others (members k))
  pub our_hunks : others (members k') ≡ map exchanged_hunk (currents (members k))

abbrev pub ExchangeKeepsGroups : Type 0
ExchangeKeepsGroups = (s : Sheets) (cs os : List Hunk) → Kept s cs os
    → Pairwise Exchanged (clusters (walk cs os)) (clusters (walk (map exchanged_hunk os) (map exchanged_hunk cs)))
