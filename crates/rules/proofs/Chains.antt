-- The groups of a walk are its chains.
use Rattle.std.proofs.Common.{◌≡◌, ℕ, ◌<◌, ◌≤◌, Bool, true, false, ◌&&◌, T, leb, List, [], ◌∷◌, ◌++◌, length, sym, refl, ap, ◌∙◌, subst, ⊎_elim, append_assoc, arith}
use mathlib.Core.List.Memᴰ
use mathlib.Core.List.{Memᴰ}
use Rattle.std.proofs.lemmas.Bool.{true≢false, cond_both, false≢true}
use Rattle.rules.specs.declared.hunk.Hunk.{Hunk}
use Rattle.rules.specs.declared.hunk.Side.{Side}
use Rattle.rules.specs.declared.hunk.Side.TheVariants.{Current, Other, Ancestor}
use Rattle.rules.specs.Hunks.{Sheets, touches, touches_any, opposite}
use Rattle.rules.specs.Walk.{walk}
use Rattle.rules.specs.Groups.{Cluster, clusters, clusters_from, members, joined, is_group}
use Rattle.rules.specs.Order.{Kept}
use Rattle.rules.specs.GroupLaws.{Chain, here, by, all_members, GroupsAreChains}
use Rattle.rules.proofs.Woven.{Sided, Woven, Behind, next, next_start, behind_next, behind_self, past, untouched, touches_sym, any_false, any_true, woven_above, runs, walk_woven}

abbrev pub alone : Hunk → Cluster
alone h = record { first = h; more = [] }

-- the clusters part the walk
pub parted_from : (k : Cluster) (hs : List Hunk) → all_members (clusters_from k hs) ≡ members k ++ hs
parted_from k [] = refl
parted_from k (h ∷ hs) = cond_both (touches_any h (members k)) (clusters_from (joined k h) hs) (k ∷ clusters_from (alone h) hs) (λ ks. all_members ks ≡ members k ++ (h ∷ hs))
    (λ _. parted_from (joined k h) hs ∙ append_assoc (members k) (h ∷ []) hs)
    (λ _. ap (λ (r : List Hunk). members k ++ r) (parted_from (alone h) hs))

pub parted : (hs : List Hunk) → all_members (clusters hs) ≡ hs
parted [] = refl
parted (h ∷ hs) = parted_from (alone h) hs

-- every hunk of a later cluster starts behind the ends of an earlier one
abbrev pub Cut : List Cluster → Type 0
Cut [] = Unit {0}
Cut (k ∷ ks) = ((g h : Hunk) → Memᴰ g (members k) → Memᴰ h (all_members ks) → g.before.end < h.before.start) × Cut ks

-- what a bound has passed stays passed as the running cluster grows or starts anew
pub behind_alone : (b : Side → ℕ) (h : Hunk) → Sided h.side → h.before.start ≤ h.before.end → (g : Hunk) → Memᴰ g (h ∷ []) → Behind (next b h) g
behind_alone b h p q g m = subst (Behind (next b h)) (sym (Memᴰ.eq_of_singleton m)) (behind_self b h p q)

pub behind_joined : (b : Side → ℕ) (ms : List Hunk) (h : Hunk) → Sided h.side → h.before.start ≤ h.before.end → ((g : Hunk) → Memᴰ g ms → Behind b g) → (g : Hunk) → Memᴰ g (ms ++ (h ∷ [])) → Behind (next b h) g
behind_joined b ms h p q old g m = ⊎_elim (λ (n : Memᴰ g ms). behind_next b h g (old g n)) (λ (n : Memᴰ g (h ∷ [])). behind_alone b h p q g n) (Memᴰ.append_cases ms m)

cut_from : (b : Side → ℕ) (k : Cluster) (hs : List Hunk) → Woven b hs → ((g : Hunk) → Memᴰ g (members k) → Behind b g) → Cut (clusters_from k hs)
cut_from b k [] w old = (λ g h m n. absurd (Memᴰ.not-nil n), tt)
cut_from b k (h ∷ hs) w old = cond_both (touches_any h (members k)) (clusters_from (joined k h) hs) (k ∷ clusters_from (alone h) hs) Cut
    (λ e. cut_from (next b h) (joined k h) hs w.3 (behind_joined b (members k) h w.0 w.2 old))
    (λ e. (λ g x m n. behind g x m (subst (λ (l : List Hunk). Memᴰ x l) (parted_from (alone h) hs) n) e, cut_from (next b h) (alone h) hs w.3 (behind_alone b h w.0 w.2)))
  where
    later : (x : Hunk) → Memᴰ x (h ∷ hs) → h.before.start ≤ x.before.start
    later x n = ⊎_elim (λ (q : x ≡ h). subst (λ (y : Hunk). h.before.start ≤ y.before.start) (sym q) (omega arith)) (λ (i : Memᴰ x hs). woven_above (next b h) hs h.before.start w.3 (next_start b h w.2) x i) (Memᴰ.cases_cons n)

    behind : (g x : Hunk) → Memᴰ g (members k) → Memᴰ x (h ∷ hs) → touches_any h (members k) ≡ false → g.before.end < x.before.start
    behind g x m n e = omega (arith, past b h g w.0 w.1 w.2 (old g m) (any_false h (members k) e g m), later x n)

pub cut : (b : Side → ℕ) (hs : List Hunk) → Woven b hs → Cut (clusters hs)
cut b [] w = tt
cut b (h ∷ hs) w = cut_from (next b h) (alone h) hs w.3 (behind_alone b h w.0 w.2)

T_to : (b : Bool) → T b → b ≡ true
T_to true t = refl
T_to false t = absurd t

T_of : (b : Bool) → b ≡ true → T b
T_of b e = subst T (sym e) tt

apart_touch : (g h : Hunk) → g.before.end < h.before.start → T (touches g h) → ⊥
apart_touch g h lt t = true≢false (sym (T_to (touches g h) t) ∙ touches_sym g h ∙ untouched g h lt)

pub in_all : (ks : List Cluster) (k : Cluster) → Memᴰ k ks → (g : Hunk) → Memᴰ g (members k) → Memᴰ g (all_members ks)
in_all [] k mk g mg = absurd (Memᴰ.not-nil mk)
in_all (x ∷ xs) k mk g mg = ⊎_elim
    (λ (q : k ≡ x). Memᴰ.append_left (all_members xs) (subst (λ (y : Cluster). Memᴰ g (members y)) q mg))
    (λ (n : Memᴰ k xs). Memᴰ.append_right (members x) (in_all xs k n g mg))
    (Memᴰ.cases_cons mk)

apart_in : (ks : List Cluster) → Cut ks → (k : Cluster) → Memᴰ k ks → (g h : Hunk) → Memᴰ g (members k) → Memᴰ h (all_members ks) → T (touches g h) → Memᴰ h (members k)
apart_in [] c k mk g h mg mh t = absurd (Memᴰ.not-nil mk)
apart_in (x ∷ xs) c k mk g h mg mh t = ⊎_elim
    (λ (q : k ≡ x). ⊎_elim
    (λ (m : Memᴰ h (members x)). subst (λ (y : Cluster). Memᴰ h (members y)) (sym q) m)
    (λ (m : Memᴰ h (all_members xs)). absurd (apart_touch g h (c.0 g h (subst (λ (y : Cluster). Memᴰ g (members y)) q mg) m) t))
    (Memᴰ.append_cases (members x) mh))
    (λ (n : Memᴰ k xs). ⊎_elim
    (λ (m : Memᴰ h (members x)). absurd (apart_touch h g (c.0 h g m (in_all xs k n g mg)) (subst T (touches_sym g h) t)))
    (λ (m : Memᴰ h (all_members xs)). apart_in xs c.1 k n g h mg m t)
    (Memᴰ.append_cases (members x) mh))
    (Memᴰ.cases_cons mk)

chain_trans : {all : List Hunk} {f g h : Hunk} → Chain all f g → Chain all g h → Chain all f h
chain_trans (here m) d = d
chain_trans (by m t c) d = by m t (chain_trans c d)

-- the members of a cluster are joined by chains
abbrev Joined : List Hunk → Cluster → Type 0
Joined all k = (g h : Hunk) → Memᴰ g (members k) → Memᴰ h (members k) → Chain all g h

chain_first : {all : List Hunk} {g h : Hunk} → Chain all g h → Memᴰ g all
chain_first (here m) = m
chain_first (by m t c) = m

joined_alone : (all : List Hunk) (h : Hunk) → Memᴰ h all → Joined all (alone h)
joined_alone all h m x y mx my = subst (λ (z : Hunk). Chain all x z) (sym (Memᴰ.eq_of_singleton my)) (subst (λ (z : Hunk). Chain all z h) (sym (Memᴰ.eq_of_singleton mx)) (here m))

joined_more : (all : List Hunk) (k : Cluster) (h : Hunk) → Memᴰ h all → touches_any h (members k) ≡ true → Joined all k → Joined all (joined k h)
joined_more all k h m e c x y mx my = ⊎_elim
    (λ (ix : Memᴰ x (members k)). ⊎_elim (λ (iy : Memᴰ y (members k)). c x y ix iy) (λ (iy : Memᴰ y (h ∷ [])). subst (λ (z : Hunk). Chain all x z) (sym (Memᴰ.eq_of_singleton iy)) (to_new x ix)) (Memᴰ.append_cases (members k) my))
    (λ (ix : Memᴰ x (h ∷ [])). subst (λ (z : Hunk). Chain all z y) (sym (Memᴰ.eq_of_singleton ix)) (⊎_elim (λ (iy : Memᴰ y (members k)). from_new y iy) (λ (iy : Memᴰ y (h ∷ [])). subst (λ (z : Hunk). Chain all h z) (sym (Memᴰ.eq_of_singleton iy)) (here m)) (Memᴰ.append_cases (members k) my)))
    (Memᴰ.append_cases (members k) mx)
  where
    mate : (g : Hunk) × Memᴰ g (members k) × (touches h g ≡ true)
    mate = any_true h (members k) e

    to_new : (x : Hunk) → Memᴰ x (members k) → Chain all x h
    to_new x ix = chain_trans (c x mate.0 ix mate.1) (by (chain_first (c mate.0 x mate.1 ix)) (T_of (touches mate.0 h) (touches_sym mate.0 h ∙ mate.2)) (here m))

    from_new : (y : Hunk) → Memᴰ y (members k) → Chain all h y
    from_new y iy = by m (T_of (touches h mate.0) mate.2) (c mate.0 y mate.1 iy)

joined_from : (all : List Hunk) (k : Cluster) (hs : List Hunk) → ((h : Hunk) → Memᴰ h hs → Memᴰ h all) → Joined all k → (x : Cluster) → Memᴰ x (clusters_from k hs) → Joined all x
joined_from all k [] sub c = λ x m. subst (Joined all) (sym (Memᴰ.eq_of_singleton m)) c
joined_from all k (h ∷ hs) sub c = cond_both (touches_any h (members k)) (clusters_from (joined k h) hs) (k ∷ clusters_from (alone h) hs) (λ ks. (x : Cluster) → Memᴰ x ks → Joined all x)
    (λ e. joined_from all (joined k h) hs (λ g m. sub g (Memᴰ.tail m)) (joined_more all k h (sub h (Memᴰ.head refl)) e c))
    (λ e x m. ⊎_elim (λ (q : x ≡ k). subst (Joined all) (sym q) c) (λ (n : Memᴰ x (clusters_from (alone h) hs)). joined_from all (alone h) hs (λ g m. sub g (Memᴰ.tail m)) (joined_alone all h (sub h (Memᴰ.head refl))) x n) (Memᴰ.cases_cons m))

chained : (hs : List Hunk) (k : Cluster) → Memᴰ k (clusters hs) → Joined hs k
chained [] k m = absurd (Memᴰ.not-nil m)
chained (h ∷ hs) k m = joined_from (h ∷ hs) (alone h) hs (λ g n. Memᴰ.tail n) (joined_alone (h ∷ hs) h (Memᴰ.head refl)) k m

-- groups and lone hunks
group_more : (k : Cluster) → is_group k ≡ true → (g h : Hunk) × (more : List Hunk) × (members k ≡ g ∷ (h ∷ more))
group_more k = by k.more refl
  where
    by : (hs : List Hunk) → k.more ≡ hs → elim hs [ [] ↦ false | ◌∷◌ h more ↦ true ] ≡ true → (g h : Hunk) × (more : List Hunk) × (members k ≡ g ∷ (h ∷ more))
    by [] q e = absurd (false≢true e)
    by (h ∷ more) q e = (k.first, h, more, ap (λ (x : List Hunk). k.first ∷ x) q)

lone_one : (k : Cluster) → is_group k ≡ false → members k ≡ k.first ∷ []
lone_one k = by k.more refl
  where
    by : (hs : List Hunk) → k.more ≡ hs → elim hs [ [] ↦ false | ◌∷◌ h more ↦ true ] ≡ false → members k ≡ k.first ∷ []
    by [] q e = ap (λ (x : List Hunk). k.first ∷ x) q
    by (h ∷ more) q e = absurd (true≢false e)

not_opposite : (a : Side) → opposite a a ≡ false
not_opposite Current = refl
not_opposite Other = refl
not_opposite Ancestor = refl

self_untouched : (h : Hunk) → T (touches h h) → ⊥
self_untouched h t = true≢false (sym (T_to (touches h h) t) ∙ ap (λ (b : Bool). b && (leb h.before.start h.before.end && leb h.before.start h.before.end)) (not_opposite h.side))

pub chains_of_woven : (b : Side → ℕ) (hs : List Hunk) → Woven b hs → GroupsAreChains hs
chains_of_woven b hs w = record { parted = parted hs; chained = chained hs; apart = apart; stays = stays; group = group_more; alone = lone_one; lone = lone }
  where
    apart : (k : Cluster) → Memᴰ k (clusters hs) → (g h : Hunk) → Memᴰ g (members k) → Memᴰ h hs → T (touches g h) → Memᴰ h (members k)
    apart k mk g h mg mh t = apart_in (clusters hs) (cut b hs w) k mk g h mg (subst (λ (l : List Hunk). Memᴰ h l) (sym (parted hs)) mh) t

    lone : (k : Cluster) → Memᴰ k (clusters hs) → is_group k ≡ false → (h : Hunk) → Memᴰ h hs → T (touches k.first h) → ⊥
    lone k mk e h mh t =
        let m = subst (λ (l : List Hunk). Memᴰ h l) (lone_one k e) (apart k mk k.first h (Memᴰ.head refl) mh t) in
        self_untouched k.first (subst (λ (x : Hunk). T (touches k.first x)) (Memᴰ.eq_of_singleton m) t)

    along : (k : Cluster) → Memᴰ k (clusters hs) → {g h : Hunk} → Chain hs g h → Memᴰ g (members k) → Memᴰ h (members k)
    along k mk (here m) mg = mg
    along k mk (by {g = g} {h = h} m t c) mg = along k mk c (apart k mk g h mg (chain_first c) t)

    stays : (k : Cluster) → Memᴰ k (clusters hs) → (g h : Hunk) → Memᴰ g (members k) → Chain hs g h → Memᴰ h (members k)
    stays k mk g h mg c = along k mk c mg

pub groups_are_chains : (s : Sheets) (cs os : List Hunk) → Kept s cs os → GroupsAreChains (walk cs os)
groups_are_chains s cs os kept = chains_of_woven (λ _. 0) (walk cs os) (walk_woven cs os 0 0 (λ _. 0) (runs Current (length s.ancestor) (length s.current) 0 0 cs kept.current) (runs Other (length s.ancestor) (length s.other) 0 0 os kept.other) (omega arith) (omega arith))
