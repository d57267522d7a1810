-- What a table keeps of its hunks holds of those that a cluster leaves.
use Rattle.std.proofs.Common.{◌≡◌, ℕ, zero, suc, ◌+◌, ◌-◌, ◌<◌, ◌≤◌, List, [], ◌∷◌, length, take, drop, sym, ap, ◌∙◌, subst, ap₂, arith}
use Rattle.std.proofs.lemmas.List.{take_rest, length-drop}
use Rattle.rules.specs.declared.hunk.Hunk.{Hunk}
use Rattle.rules.specs.declared.hunk.Side.{Side}
use Rattle.rules.specs.declared.hunk.Side.TheVariants.{Current, Other}
use Rattle.rules.specs.Hunks.{Sheets}
use Rattle.rules.specs.Groups.{Cluster, clusters}
use Rattle.rules.specs.Order.{InOrder, Kept}
use Rattle.rules.specs.Walk.{walk}
use Rattle.groups.specs.declared.next.NextCluster.{NextCluster}
use Rattle.groups.specs.Taking.{KeptHunks}
use Rattle.groups.specs.Telling.{Next}

lower : (s : Side) (na ns b a b' a' : ℕ) (hs : List Hunk) → b' ≤ b → a' ≤ a → InOrder s na ns b a hs → InOrder s na ns b' a' hs
lower s na ns b a b' a' [] p q r = tt
lower s na ns b a b' a' (h ∷ hs) p q r = let x = r.1 in let y = r.4 in (r.0, omega arith, r.2, r.3, omega arith, r.5, r.6, r.7)

pub order_drop : (s : Side) (na ns b a : ℕ) (m : ℕ) (hs : List Hunk) → InOrder s na ns b a hs → InOrder s na ns 0 0 (drop m hs)
order_drop s na ns b a zero hs r = lower s na ns b a 0 0 hs (omega arith) (omega arith) r
order_drop s na ns b a (suc m) [] r = tt
order_drop s na ns b a (suc m) (h ∷ hs) r = order_drop s na ns (suc h.before.end) h.after.end m hs r.7

pub order_take : (s : Side) (na ns b a : ℕ) (m : ℕ) (hs : List Hunk) → InOrder s na ns b a hs → InOrder s na ns b a (take m hs)
order_take s na ns b a zero hs r = tt
order_take s na ns b a (suc m) [] r = tt
order_take s na ns b a (suc m) (h ∷ hs) r = (r.0, r.1, r.2, r.3, r.4, r.5, r.6, order_take s na ns (suc h.before.end) h.after.end m hs r.7)

pub kept_drop : (s : Sheets) (cs os : List Hunk) (m n : ℕ) → Kept s cs os → Kept s (drop m cs) (drop n os)
kept_drop s cs os m n k = record {
  current = order_drop Current (length s.ancestor) (length s.current) 0 0 m cs k.current;
  other = order_drop Other (length s.ancestor) (length s.other) 0 0 n os k.other;
}

pub kept_take : (s : Sheets) (cs os : List Hunk) (m n : ℕ) → Kept s cs os → Kept s (take m cs) (take n os)
kept_take s cs os m n k = record {
  current = order_take Current (length s.ancestor) (length s.current) 0 0 m cs k.current;
  other = order_take Other (length s.ancestor) (length s.other) 0 0 n os k.other;
}

pub kept_hunks_drop : (cs os : List Hunk) (m n : ℕ) → KeptHunks cs os → KeptHunks (drop m cs) (drop n os)
kept_hunks_drop cs os m n k = (k.0, kept_drop k.0 cs os m n k.1)

-- The hunks from place m on, as a slice's part `[m..]` has them.
abbrev pub rest_of : ℕ → List Hunk → List Hunk
rest_of m hs = take (length hs - m) (drop m hs)

-- What a cluster leaves: the later clusters, hunks that a table keeps, fewer than there were.
pub record Left (s : Sheets) (cs os : List Hunk) (x : NextCluster) (k : Cluster) : Type 0 where
  pub walked : clusters (walk cs os) ≡ k ∷ clusters (walk (rest_of x.current cs) (rest_of x.other os))
  pub kept : Kept s (rest_of x.current cs) (rest_of x.other os)
  pub fewer : length (rest_of x.current cs) + length (rest_of x.other os) < length cs + length os
  pub few_current : length (rest_of x.current cs) ≤ length cs
  pub few_other : length (rest_of x.other os) ≤ length os

rest_length : (m : ℕ) (hs : List Hunk) → length (rest_of m hs) ≡ length hs - m
rest_length m hs = ap length (take_rest hs m) ∙ length-drop m hs

pub left : (s : Sheets) (cs os : List Hunk) → Kept s cs os → (x : NextCluster) (n : Next cs os x) → Left s cs os x n.takes.cluster
left s cs os kept x n = record {
  walked = n.takes.walked ∙ ap (λ (ks : List Cluster). n.takes.cluster ∷ ks) (ap₂ (λ (a b : List Hunk). clusters (walk a b)) (sym (take_rest cs x.current)) (sym (take_rest os x.other)));
  kept = subst (λ (l : List Hunk). Kept s l (rest_of x.other os)) (sym (take_rest cs x.current)) (subst (λ (l : List Hunk). Kept s (drop x.current cs) l) (sym (take_rest os x.other)) (kept_drop s cs os x.current x.other kept));
  fewer = omega (arith, rest_length x.current cs, rest_length x.other os, n.takes.some, n.takes.our_bound, n.takes.their_bound);
  few_current = omega (arith, rest_length x.current cs);
  few_other = omega (arith, rest_length x.other os);
}
