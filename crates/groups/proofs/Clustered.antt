-- What is told of the first cluster: its range, its first hunk, and whether it is a group.
use Rattle.std.proofs.Common.{◌≡◌, ℕ, suc, ◌+◌, ◌<◌, max, Bool, true, false, cond, T, List, [], ◌∷◌, ◌++◌, length, take, drop, Some, None, filter, sym, refl, ap, ◌∙◌, subst, ap₂, ⊎_elim, arith}
use mathlib.Core.List.{Memᴰ}
use Rattle.std.specs.List.{AllByRecursion, slice_get}
use Rattle.std.proofs.lemmas.List.{length-take-le}
use Rattle.std.proofs.lemmas.Bool.{cases_Bool, cond_both}
use Rattle.rules.specs.declared.hunk.Hunk.{Hunk}
use Rattle.rules.specs.declared.hunk.Side.{Side}
use Rattle.rules.specs.declared.hunk.Side.TheVariants.{Current, Other, Ancestor}
use Rattle.rules.specs.Hunks.{touches, touches_any}
use Rattle.rules.specs.Walk.{walk, currents, others, is_current, is_other}
use Rattle.rules.specs.Groups.{Cluster, members, clusters, is_group, to, last_end}
use Rattle.rules.specs.GroupLaws.{all_members}
use Rattle.rules.proofs.Chains.{parted, groups_are_chains}
use Rattle.rules.proofs.Fits.{walk_all, AllMembers, clusters_all}
use Rattle.rules.proofs.Kept.{currents_walk, others_walk}
use Rattle.rules.proofs.Woven.{Sided, Run, runs, any_true}
use Rattle.groups.specs.declared.next.NextCluster.{NextCluster}
use Rattle.groups.specs.Taking.{KeptHunks, one_of, facing_of, Taken}
use Rattle.groups.proofs.Growing.{taken_is}
use Rattle.groups.proofs.Starting.{lone}
use Rattle.groups.specs.Telling.{told, first_told, Next}

-- The runs of the two sides.
pub our_run : (cs os : List Hunk) → KeptHunks cs os → Run Current 0 cs
our_run cs os k = runs Current (length k.0.ancestor) (length k.0.current) 0 0 cs k.1.current

pub their_run : (cs os : List Hunk) → KeptHunks cs os → Run Other 0 os
their_run cs os k = runs Other (length k.0.ancestor) (length k.0.other) 0 0 os k.1.other

-- What holds of each hunk of both sides holds of each member of the first cluster.
pub members_all : (P : Hunk → Type 0) (cs os : List Hunk) → AllByRecursion P cs → AllByRecursion P os → (m n : ℕ) (t : Taken cs os m n) → AllByRecursion P (members t.cluster)
members_all P cs os pc po m n t = (subst (AllMembers P) t.walked (clusters_all P (walk cs os) (walk_all P cs os pc po))).0

-- Each member is of one of the two sides.
abbrev pub OfSides : Hunk → Type 0
OfSides h = Sided h.side

run_sided : (s : Side) (n : ℕ) (hs : List Hunk) → Sided s → Run s n hs → AllByRecursion OfSides hs
run_sided s n [] p r = tt
run_sided s n (h ∷ hs) p r = (subst Sided (sym r.0) p, run_sided s (suc h.before.end) hs p r.3)

pub members_sided : (cs os : List Hunk) → KeptHunks cs os → (m n : ℕ) (t : Taken cs os m n) → AllByRecursion OfSides (members t.cluster)
members_sided cs os kept = members_all OfSides cs os (run_sided Current 0 cs tt (our_run cs os kept)) (run_sided Other 0 os tt (their_run cs os kept))

-- So its members are those of the two sides, in number and in ends.
pub record Parts (ms : List Hunk) : Type 0 where
  pub number : length ms ≡ length (currents ms) + length (others ms)
  pub ends : last_end ms ≡ max (last_end (currents ms)) (last_end (others ms))

parts_more : (h : Hunk) (n e : ℕ) (xs ys : List Hunk) (s : Side) → Sided s → n ≡ length xs + length ys → e ≡ max (last_end xs) (last_end ys)
    → (suc n ≡ length (cond (is_current s) (h ∷ xs) xs) + length (cond (is_other s) (h ∷ ys) ys))
    × (max h.before.end e ≡ max (last_end (cond (is_current s) (h ∷ xs) xs)) (last_end (cond (is_other s) (h ∷ ys) ys)))
parts_more h n e xs ys Current p a b = (omega arith, omega arith)
parts_more h n e xs ys Other p a b = (omega arith, omega arith)
parts_more h n e xs ys Ancestor p a b = absurd p

parts : (ms : List Hunk) → AllByRecursion OfSides ms → Parts ms
parts [] p = record { number = refl; ends = refl }
parts (h ∷ hs) p =
    let r = parts hs p.1 in
    let m = parts_more h (length hs) (last_end hs) (currents hs) (others hs) h.side p.0 r.number r.ends in
    record { number = m.0; ends = m.1 }

-- A cluster's range ends where the last of its hunks does.
pub to_is : (cs os : List Hunk) → KeptHunks cs os → (m n : ℕ) (t : Taken cs os m n) → to t.cluster ≡ max (last_end (take m cs)) (last_end (take n os))
to_is cs os kept m n t =
    (parts (members t.cluster) (members_sided cs os kept m n t)).ends
    ∙ ap₂ (λ (xs ys : List Hunk). max (last_end xs) (last_end ys)) t.ours t.theirs

-- The cluster's first hunk leads the walk.
same_lead : (a b : Hunk) (xs : List Hunk) → slice_get (a ∷ xs) 0 ≡ Some b → a ≡ b
same_lead a b xs e = cc

pub first_is : (cs os : List Hunk) (first : Hunk) → slice_get (walk cs os) 0 ≡ Some first → (k : Cluster) (ks : List Cluster) → clusters (walk cs os) ≡ k ∷ ks → k.first ≡ first
first_is cs os first lead k ks e =
    let p : members k ++ all_members ks ≡ walk cs os = sym (ap all_members e) ∙ parted (walk cs os) in
    same_lead k.first first (k.more ++ all_members ks) (ap (λ (l : List Hunk). slice_get l 0) p ∙ lead)

-- A cluster of one hunk is no group.
one_member : (k : Cluster) → length (members k) ≡ 1 → is_group k ≡ false
one_member k = by k.more
  where
    by : (hs : List Hunk) → suc (length hs) ≡ 1 → elim hs [ [] ↦ false | ◌∷◌ h more ↦ true ] ≡ false
    by [] e = refl
    by (h ∷ hs) e = absurd (omega arith)

kept_mem : (p : Hunk → Bool) (xs : List Hunk) (g : Hunk) → Memᴰ g (filter p xs) → Memᴰ g xs
kept_mem p [] g m = m
kept_mem p (x ∷ xs) g m =
    cond_both (p x) (x ∷ filter p xs) (filter p xs) (λ (l : List Hunk). Memᴰ g l → Memᴰ g (x ∷ xs))
    (λ _ i. ⊎_elim (λ (q : g ≡ x). mathlib.Core.List.Memᴰ.head q) (λ (n : Memᴰ g (filter p xs)). mathlib.Core.List.Memᴰ.tail (kept_mem p xs g n)) (mathlib.Core.List.Memᴰ.cases_cons i))
    (λ _ i. mathlib.Core.List.Memᴰ.tail (kept_mem p xs g i))
    m

in_walk : (cs os : List Hunk) → KeptHunks cs os → (s : Side) (g : Hunk) → Memᴰ g (facing_of s cs os) → Memᴰ g (walk cs os)
in_walk cs os kept Current g m = kept_mem (λ h. is_other h.side) (walk cs os) g (subst (Memᴰ g) (sym (others_walk cs os 0 0 (our_run cs os kept) (their_run cs os kept))) m)
in_walk cs os kept Other g m = kept_mem (λ h. is_current h.side) (walk cs os) g (subst (Memᴰ g) (sym (currents_walk cs os 0 0 (our_run cs os kept) (their_run cs os kept))) m)
in_walk cs os kept Ancestor g m = absurd (mathlib.Core.List.Memᴰ.not-nil m)

module _ (cs os : List Hunk) (kept : KeptHunks cs os) (first : Hunk) (lead : slice_get (walk cs os) 0 ≡ Some first) where
  -- A cluster whose first hunk touches one of the facing side is a group.
  pub touching_group : (m n : ℕ) (t : Taken cs os m n) → touches_any first (facing_of first.side cs os) ≡ true → is_group t.cluster ≡ true
  touching_group m n t e =
      let k = t.cluster in
      let law = groups_are_chains kept.0 cs os kept.1 in
      let mem : Memᴰ k (clusters (walk cs os)) = subst (λ (l : List Cluster). Memᴰ k l) (sym t.walked) (mathlib.Core.List.Memᴰ.head refl) in
      let mate = any_true first (facing_of first.side cs os) e in
      let f : k.first ≡ first = first_is cs os first lead k (clusters (walk (drop m cs) (drop n os))) t.walked in
      let touch : T (touches k.first mate.0) = subst T (sym (ap (λ (h : Hunk). touches h mate.0) f ∙ mate.2)) tt in
      ⊎_elim
      (λ (y : is_group k ≡ true). y)
      (λ (y : is_group k ≡ false). absurd (law.lone k mem y mate.0 (in_walk cs os kept first.side mate.0 mate.1) touch))
      (cases_Bool (is_group k))

  -- One taken alone is none.
  pub lone_group : (m n : ℕ) (t : Taken cs os m n) → m + n ≡ 1 → is_group t.cluster ≡ false
  lone_group m n t e =
      let k = t.cluster in
      let p = (parts (members k) (members_sided cs os kept m n t)).number in
      let a = ap length t.ours ∙ length-take-le m cs t.our_bound in
      let b = ap length t.theirs ∙ length-take-le n os t.their_bound in
      one_member k (omega arith)

  -- So the first hunk's touching tells a group from a lone hunk, which is taken alone.
  told_group : (m n : ℕ) (t : Taken cs os m n) → is_group t.cluster ≡ touches_any first (facing_of first.side cs os)
  told_group m n t =
      ⊎_elim
      (λ (y : touches_any first (facing_of first.side cs os) ≡ true). touching_group m n t y ∙ sym y)
      (λ (y : touches_any first (facing_of first.side cs os) ≡ false).
      let o = lone cs os first (our_run cs os kept) (their_run cs os kept) lead y in
      let e : ◌≡◌ {A = ℕ × ℕ} (m, n) ((one_of first.side).0, (one_of first.side).1) = taken_is cs os m n t ∙ sym (taken_is cs os _ _ o) in
      let p = ap (λ (x : ℕ × ℕ). x.0) e in
      let q = ap (λ (x : ℕ × ℕ). x.1) e in
      lone_group m n t (omega (arith, one first.side o.some)) ∙ sym y)
      (cases_Bool (touches_any first (facing_of first.side cs os)))
    where
      one : (s : Side) → 0 < (one_of s).0 + (one_of s).1 → (one_of s).0 + (one_of s).1 ≡ 1
      one Current p = refl
      one Other p = refl
      one Ancestor p = absurd (omega arith)

  pub next_is : (m n end : ℕ) (b : Bool) → Taken cs os m n → b ≡ touches_any first (facing_of first.side cs os) → end ≡ max (last_end (take m cs)) (last_end (take n os))
      → Next cs os (record { current = m; other = n; range = record { start = first.before.start; end = end }; is_group = b; lead = first.side })
  next_is m n end b t g e = record { takes = t; tells = same t.cluster a c f r (told_group m n t ∙ sym g) }
    where
      a : length (currents (members t.cluster)) ≡ m
      a = ap length t.ours ∙ length-take-le m cs t.our_bound

      c : length (others (members t.cluster)) ≡ n
      c = ap length t.theirs ∙ length-take-le n os t.their_bound

      f : t.cluster.first ≡ first
      f = first_is cs os first lead t.cluster (clusters (walk (drop m cs) (drop n os))) t.walked

      r : to t.cluster ≡ end
      r = to_is cs os kept m n t ∙ sym e

      same : (k : Cluster) → length (currents (members k)) ≡ m → length (others (members k)) ≡ n → k.first ≡ first → to k ≡ end → is_group k ≡ b
          → ◌≡◌ {A = NextCluster} (record { current = m; other = n; range = record { start = first.before.start; end = end }; is_group = b; lead = first.side }) (told k)
      same k p q u v w =
          let x = ap (λ (h : Hunk). h.before.start) u in
          let y = ap (λ (h : Hunk). h.side) u in
          cc

-- What is told is the first cluster's.
pub told_first : (cs os : List Hunk) (x : NextCluster) → Next cs os x → Some x ≡ first_told (clusters (walk cs os))
told_first cs os x n = ap Some n.tells ∙ sym (ap first_told n.takes.walked)

pub none_left : (cs os : List Hunk) → None ≡ slice_get (walk cs os) 0 → clusters (walk cs os) ≡ []
none_left cs os e = by (walk cs os) e
  where
    by : (hs : List Hunk) → None ≡ slice_get hs 0 → clusters hs ≡ []
    by [] q = refl
    by (h ∷ hs) q = let z : ◌≡◌ {A = ℕ} 0 1 = cc in absurd (omega arith)
