-- What a caller that writes cluster by cluster needs of the next one: its sides filled, their length, their hunks readable, its range, its first hunk.
use Rattle.std.proofs.Common.{◌≡◌, ℕ, zero, suc, ◌<◌, ◌≤◌, ltb, List, [], ◌∷◌, length, get_or, take, sym, ap, ◌∙◌, subst, ap₂, arith}
use Rattle.std.specs.List.{AllByRecursion}
use Rattle.std.proofs.ByRecursion.{All-append}
use Rattle.std.proofs.lemmas.List.{length-take-le}
use Rattle.std.proofs.lemmas.Bool.{cond_both, cond-true}
use Rattle.rules.specs.declared.hunk.Hunk.{Hunk}
use Rattle.rules.specs.declared.hunk.Side.{Side}
use Rattle.rules.specs.declared.hunk.Side.TheVariants.{Current, Other, Ancestor}
use Rattle.rules.specs.Contraction.{Readable}
use Rattle.rules.specs.Filling.{stretch, filled, ours_of, theirs_of}
use Rattle.rules.specs.Groups.{Cluster, members, from, to, last_end}
use Rattle.rules.specs.Hunks.{Sheets, sheet_of}
use Rattle.rules.specs.Limits.{max_hunks, max_filled}
use Rattle.rules.specs.Order.{InOrder, Kept}
use Rattle.rules.specs.Walk.{currents, others, is_current, is_other}
use Rattle.rules.proofs.Woven.{Run}
use Rattle.hunks.proofs.Helds.{no_hunk}
use Rattle.groups.specs.declared.next.NextCluster.{NextCluster}
use Rattle.groups.specs.Taking.{Taken}
use Rattle.groups.specs.Telling.{Next}
use Rattle.groups.proofs.Clustered.{our_run, their_run, members_all, to_is}
use Rattle.groups.proofs.Filling.{filled_length}
use Rattle.groups.proofs.Leaving.{order_take}

stretch_readable : (s : Sheets) (a b : ℕ) → b ≤ length s.ancestor → AllByRecursion (Readable s) (stretch a b)
stretch_readable s a b le =
    cond_both (ltb a b) (record { before = record { start = a; end = b }; after = record { start = a; end = b }; side = Ancestor } ∷ []) [] (AllByRecursion (Readable s))
    (λ _. (le, tt))
    (λ _. tt)

-- The hunks of a side can be read.
hunk_readable : (s : Sheets) (h : Hunk) (side : Side) → h.side ≡ side → h.before.end ≤ length s.ancestor → h.after.end ≤ length (sheet_of s side) → Readable s h
hunk_readable s h Current e b a = rw e a
hunk_readable s h Other e b a = rw e a
hunk_readable s h Ancestor e b a = rw e b

pub order_readable : (s : Sheets) (side : Side) (x y : ℕ) (hs : List Hunk) → InOrder side (length s.ancestor) (length (sheet_of s side)) x y hs → AllByRecursion (Readable s) hs
order_readable s side x y [] r = tt
order_readable s side x y (h ∷ hs) r = (hunk_readable s h side r.0 r.3 r.6, order_readable s side (suc h.before.end) h.after.end hs r.7)

-- A side filled is readable.
pub filled_readable : (s : Sheets) (side : Side) (x y a b : ℕ) (hs : List Hunk) → b ≤ length s.ancestor
    → InOrder side (length s.ancestor) (length (sheet_of s side)) x y hs → AllByRecursion (Readable s) (filled a b hs)
filled_readable s side x y a b [] le r = stretch_readable s a b le
filled_readable s side x y a b (h ∷ hs) le r =
    let p = r.2 in
    let q = r.3 in
    All-append (Readable s) (stretch a h.before.start) (h ∷ filled h.before.end b hs) (stretch_readable s a h.before.start (omega arith))
    (hunk_readable s h side r.0 q r.6, filled_readable s side (suc h.before.end) h.after.end h.before.end b hs le r.7)

-- and has at most as many hunks as a working list has places.
pub filled_few : (a b : ℕ) (hs : List Hunk) → length hs ≤ max_hunks → length (filled a b hs) ≤ max_filled
filled_few a b hs le = let f = filled_length a b hs in omega arith

last_end_within : (side : Side) (na ns x y : ℕ) (hs : List Hunk) → InOrder side na ns x y hs → last_end hs ≤ na
last_end_within side na ns x y [] r = omega arith
last_end_within side na ns x y (h ∷ hs) r = let q = r.3 in let l = last_end_within side na ns (suc h.before.end) h.after.end hs r.7 in omega arith

pub few_taken : (m : ℕ) (hs : List Hunk) → m ≤ length hs → length hs ≤ max_hunks → length (take m hs) ≤ max_hunks
few_taken m hs b le = let e = length-take-le m hs b in omega arith

-- What holds of the next cluster.
pub record Ready (s : Sheets) (cs os : List Hunk) (x : NextCluster) (k : Cluster) : Type 0 where
  pub starts : x.range.start ≡ from k
  pub ends : x.range.end ≡ to k
  pub forward : x.range.start ≤ x.range.end
  pub within : x.range.end ≤ length s.ancestor
  -- its sides, filled over its range
  pub ours : filled x.range.start x.range.end (take x.current cs) ≡ ours_of k
  pub theirs : filled x.range.start x.range.end (take x.other os) ≡ theirs_of k
  pub few_ours : length (ours_of k) ≤ max_filled
  pub few_theirs : length (theirs_of k) ≤ max_filled
  pub ours_readable : AllByRecursion (Readable s) (ours_of k)
  pub theirs_readable : AllByRecursion (Readable s) (theirs_of k)
  -- its first hunk is the first left of the side that leads
  pub side : x.lead ≡ k.first.side
  pub our_first : x.lead ≡ Current → (0 < length cs) × (get_or cs 0 no_hunk ≡ k.first)
  pub their_first : x.lead ≡ Other → (0 < length os) × (get_or os 0 no_hunk ≡ k.first)

-- the first of a list that begins with a part of another
head_of : (h : Hunk) (hs xs : List Hunk) (m : ℕ) → h ∷ hs ≡ take m xs → (0 < length xs) × (get_or xs 0 no_hunk ≡ h)
head_of h hs xs zero e = let z : ◌≡◌ {A = ℕ} 0 1 = cc in absurd (omega arith)
head_of h hs [] (suc m) e = let z : ◌≡◌ {A = ℕ} 0 1 = cc in absurd (omega arith)
head_of h hs (x ∷ xs) (suc m) e = (omega arith, cc)

abbrev Forward : Hunk → Type 0
Forward h = h.before.start ≤ h.before.end

run_forward : (s : Side) (n : ℕ) (hs : List Hunk) → Run s n hs → AllByRecursion Forward hs
run_forward s n [] r = tt
run_forward s n (h ∷ hs) r = (r.2, run_forward s (suc h.before.end) hs r.3)

-- a side of a cluster: the hunks taken, over a range of the ancestor
module _ (s : Sheets) (side : Side) (hs ms : List Hunk) (m a b : ℕ) (is : ms ≡ take m hs) (le : m ≤ length hs) (few : length hs ≤ max_hunks) (in_range : b ≤ length s.ancestor)
    (kept : InOrder side (length s.ancestor) (length (sheet_of s side)) 0 0 hs) where
  side_few : length (filled a b ms) ≤ max_filled
  side_few = filled_few a b ms (subst (λ (l : List Hunk). length l ≤ max_hunks) (sym is) (few_taken m hs le few))

  side_readable : AllByRecursion (Readable s) (filled a b ms)
  side_readable = filled_readable s side 0 0 a b ms in_range (subst (InOrder side (length s.ancestor) (length (sheet_of s side)) 0 0) (sym is) (order_take side (length s.ancestor) (length (sheet_of s side)) 0 0 m hs kept))

pub ready : (s : Sheets) (cs os : List Hunk) → Kept s cs os → length cs ≤ max_hunks → length os ≤ max_hunks → (x : NextCluster) (n : Next cs os x) → Ready s cs os x n.takes.cluster
ready s cs os kept few_cs few_os x n = record {
  starts = starts;
  ends = ends;
  forward = subst (λ (p : ℕ). p ≤ x.range.end) (sym starts) (subst (λ (p : ℕ). from k ≤ p) (sym ends) forward);
  within = subst (λ (p : ℕ). p ≤ length s.ancestor) (sym ends) in_range;
  ours = ap₂ (λ (a b : ℕ). filled a b (take x.current cs)) starts ends ∙ ap (filled (from k) (to k)) (sym t.ours);
  theirs = ap₂ (λ (a b : ℕ). filled a b (take x.other os)) starts ends ∙ ap (filled (from k) (to k)) (sym t.theirs);
  few_ours = side_few s Current cs (currents (members k)) x.current (from k) (to k) t.ours t.our_bound few_cs in_range kept.current;
  few_theirs = side_few s Other os (others (members k)) x.other (from k) (to k) t.theirs t.their_bound few_os in_range kept.other;
  ours_readable = side_readable s Current cs (currents (members k)) x.current (from k) (to k) t.ours t.our_bound few_cs in_range kept.current;
  theirs_readable = side_readable s Other os (others (members k)) x.other (from k) (to k) t.theirs t.their_bound few_os in_range kept.other;
  side = lead;
  our_first = λ e. head_of k.first (currents k.more) cs x.current (sym (cond-true (is_current k.first.side) (k.first ∷ currents k.more) (currents k.more) (ap is_current (sym lead ∙ e))) ∙ t.ours);
  their_first = λ e. head_of k.first (others k.more) os x.other (sym (cond-true (is_other k.first.side) (k.first ∷ others k.more) (others k.more) (ap is_other (sym lead ∙ e))) ∙ t.theirs);
}
  where
    t : Taken cs os x.current x.other
    t = n.takes

    k : Cluster
    k = n.takes.cluster

    starts : x.range.start ≡ from k
    starts = ap (λ (y : NextCluster). y.range.start) n.tells

    ends : x.range.end ≡ to k
    ends = ap (λ (y : NextCluster). y.range.end) n.tells

    lead : x.lead ≡ k.first.side
    lead = ap (λ (y : NextCluster). y.lead) n.tells

    in_range : to k ≤ length s.ancestor
    in_range =
        let a = last_end_within Current (length s.ancestor) (length s.current) 0 0 (take x.current cs) (order_take Current (length s.ancestor) (length s.current) 0 0 x.current cs kept.current) in
        let b = last_end_within Other (length s.ancestor) (length s.other) 0 0 (take x.other os) (order_take Other (length s.ancestor) (length s.other) 0 0 x.other os kept.other) in
        let e = to_is cs os (s, kept) x.current x.other t in
        omega arith

    forward : from k ≤ to k
    forward =
        let f = (members_all Forward cs os (run_forward Current 0 cs (our_run cs os (s, kept))) (run_forward Other 0 os (their_run cs os (s, kept))) x.current x.other t).0 in
        omega arith
