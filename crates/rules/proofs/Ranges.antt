-- The ranges of the clusters: least start, greatest end, and apart from each other.
use Rattle.std.proofs.Common.{◌≡◌, ℕ, ◌<◌, ◌≤◌, List, [], ◌∷◌, length, sym, refl, subst, ⊎_elim, arith}
use mathlib.Core.List.{Memᴰ}
use Rattle.std.specs.List.{AllByRecursion}
use Rattle.std.proofs.lemmas.Bool.{cases_lt}
use Rattle.rules.specs.declared.hunk.Hunk.{Hunk}
use Rattle.rules.specs.declared.hunk.Side.{Side}
use Rattle.rules.specs.declared.hunk.Side.TheVariants.{Current, Other}
use Rattle.rules.specs.Hunks.{Sheets}
use Rattle.rules.specs.Walk.{walk}
use Rattle.rules.specs.Groups.{Cluster, clusters, members, from, to, last_end}
use Rattle.rules.specs.Order.{Kept}
use Rattle.rules.specs.WalkLaws.{InTurn}
use Rattle.rules.specs.GroupLaws.{all_members, Range, Apart, RangeLaws}
use Rattle.rules.proofs.Chains.{Cut, cut, parted, in_all}
use Rattle.rules.proofs.Texts.{after, woven_parts, last_end_above}
use Rattle.rules.proofs.Walks.{all_of, ours_apart, theirs_apart}
use Rattle.rules.proofs.Woven.{Woven, next, next_start, woven_above, runs, walk_woven}

-- some hunk of a list has the greatest end
greatest : (h : Hunk) (hs : List Hunk) → (g : Hunk) × Memᴰ g (h ∷ hs) × (g.before.end ≡ last_end (h ∷ hs))
greatest h [] = (h, Memᴰ.head refl, omega arith)
greatest h (x ∷ xs) =
    let (g, m, e) = greatest x xs in
    ⊎_elim
    (λ (lt : h.before.end < g.before.end). (g, Memᴰ.tail m, omega arith))
    (λ (le : g.before.end ≤ h.before.end). (h, Memᴰ.head refl, omega arith))
    (cases_lt h.before.end g.before.end)

range : (b : Side → ℕ) (k : Cluster) → Woven b (members k) → Range k
range b k w = record {
  starts = (omega arith, all_of (λ (h : Hunk). from k ≤ h.before.start) k.more (woven_above (next b k.first) k.more (from k) w.3 (next_start b k.first w.2)));
  first_start = (k.first, Memᴰ.head refl, refl);
  ends = all_of (λ (h : Hunk). h.before.end ≤ to k) (members k) (last_end_above (members k));
  last_end = greatest k.first k.more;
}

all_ranges : (b : Side → ℕ) (ks : List Cluster) → Woven b (all_members ks) → AllByRecursion Range ks
all_ranges b [] w = tt
all_ranges b (k ∷ ks) w = let (p, q) = woven_parts b (members k) (all_members ks) w in (range b k p, all_ranges (after b (members k)) ks q)

all_apart : (ks : List Cluster) → Cut ks → InTurn Apart ks
all_apart [] c = tt
all_apart (k ∷ ks) c =
    let (g, m, e) = greatest k.first k.more in
    (all_of (Apart k) ks (λ j i. let lt = c.0 g j.first m (in_all ks j i j.first (Memᴰ.head refl)) in omega arith), all_apart ks c.1)

pub range_laws : (s : Sheets) (cs os : List Hunk) → Kept s cs os → RangeLaws cs os
range_laws s cs os p =
    let rc = runs Current (length s.ancestor) (length s.current) 0 0 cs p.current in
    let ro = runs Other (length s.ancestor) (length s.other) 0 0 os p.other in
    let b : Side → ℕ = λ _. 0 in
    let w : Woven b (walk cs os) = walk_woven cs os 0 0 b rc ro (omega arith) (omega arith) in
    record {
      ranges = all_ranges b (clusters (walk cs os)) (subst (Woven b) (sym (parted (walk cs os))) w);
      apart = all_apart (clusters (walk cs os)) (cut b (walk cs os) w);
      ours_apart = ours_apart s cs os p;
      theirs_apart = theirs_apart s cs os p;
    }
