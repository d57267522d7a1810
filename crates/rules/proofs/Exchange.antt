-- An exchange of sides keeps the groups.
use Rattle.std.proofs.Common.{◌≡◌, ℕ, suc, ◌<◌, ◌≤◌, max, Bool, true, false, cond, ◌&&◌, ◌||◌, leb, ◌⊎◌, List, [], ◌∷◌, ◌++◌, map, length, sym, refl, ap, ◌∙◌, subst, ap₂, subst₂, ⊎_elim, arith}
use mathlib.Core.List.Memᴰ
use mathlib.Core.List.{map-append, Memᴰ}
use Rattle.std.proofs.lemmas.Bool.{true≢false, le-leb, lt-leb, cond_both, cond-true, cond-false, cases_order, and_from, or_left}
use Rattle.std.proofs.lemmas.List.Elements.{filter-append}
use Rattle.rules.specs.declared.hunk.Hunk.{Hunk}
use Rattle.rules.specs.declared.hunk.Side.{Side}
use Rattle.rules.specs.declared.hunk.Side.TheVariants.{Current, Other, Ancestor}
use Rattle.rules.specs.Hunks.{opposite, touches, touches_any}
use Rattle.rules.specs.Walk.{walk, currents, others, is_current, is_other}
use Rattle.rules.specs.Groups.{Cluster, clusters, clusters_from, members, joined, is_group, last_end}
use Rattle.rules.specs.Exchange.{exchanged_hunk, facing_side}
use Rattle.rules.specs.WalkLaws.{Pairwise}
use Rattle.rules.specs.GroupLaws.{Exchanged, ExchangeKeepsGroups}
use Rattle.rules.proofs.Chains.{alone, behind_alone, behind_joined}
use Rattle.rules.proofs.Picked.{any_others, any_currents}
use Rattle.rules.proofs.Woven.{Sided, Woven, Behind, next, behind_next, behind_self, untouched, touches_sym, any_none, Run, runs, walk_woven}

-- two walks that differ by the exchange and by the order of hunks with equal starts
data Swapped : List Hunk → List Hunk → Type 0 where
  none : Swapped [] []
  same : {h : Hunk} {xs ys : List Hunk} → Swapped xs ys → Swapped (h ∷ xs) (exchanged_hunk h ∷ ys)
  tie : {c o : Hunk} {xs ys : List Hunk} → c.side ≡ Current → o.side ≡ Other → c.before.start ≡ o.before.start → Swapped xs ys → Swapped (c ∷ (o ∷ xs)) (exchanged_hunk o ∷ (exchanged_hunk c ∷ ys))

abbrev pub Headed : ℕ → List Hunk → Type 0
Headed n [] = Unit {0}
Headed n (h ∷ hs) = n < h.before.start

run_headed : (s : Side) (n k : ℕ) (hs : List Hunk) → n < k → Run s k hs → Headed n hs
run_headed s n k [] lt r = tt
run_headed s n k (h ∷ hs) lt r = omega arith

run_headed_map : (s : Side) (n k : ℕ) (hs : List Hunk) → n < k → Run s k hs → Headed n (map exchanged_hunk hs)
run_headed_map s n k [] lt r = tt
run_headed_map s n k (h ∷ hs) lt r = omega arith

-- a hunk ahead of the first list comes first
pub second_first : (o : Hunk) (xs os : List Hunk) → Headed o.before.start xs → walk xs (o ∷ os) ≡ o ∷ walk xs os
second_first o [] os a = refl
second_first o (x ∷ xs) os a = cond-false (leb x.before.start o.before.start) (x ∷ walk xs (o ∷ os)) (o ∷ walk (x ∷ xs) os) (lt-leb x.before.start o.before.start a)

abbrev Swaps : List Hunk → Type 0
Swaps cs = (os : List Hunk) (m n : ℕ) → Run Current m cs → Run Other n os → Swapped (walk cs os) (walk (map exchanged_hunk os) (map exchanged_hunk cs))

others_swap : Swaps []
others_swap [] m n rc ro = none
others_swap (o ∷ os) m n rc ro = same (others_swap os m (suc o.before.end) tt ro.3)

from_swap : (c : Hunk) (cs : List Hunk) → Swaps cs → Swaps (c ∷ cs)
from_swap c cs ih [] m n rc ro = same (ih [] (suc c.before.end) n rc.3 tt)
from_swap c cs ih (o ∷ os) m n rc ro = ⊎_elim equal (λ (u : (c.before.start < o.before.start) ⊎ (o.before.start < c.before.start)). ⊎_elim ahead (behind (from_swap c cs ih os m (suc o.before.end) rc ro.3)) u) (cases_order c.before.start o.before.start)
  where
    ahead : c.before.start < o.before.start → Swapped (walk (c ∷ cs) (o ∷ os)) (walk (map exchanged_hunk (o ∷ os)) (map exchanged_hunk (c ∷ cs)))
    ahead lt = rw (le-leb c.before.start o.before.start (omega arith), lt-leb o.before.start c.before.start lt) (same (ih (o ∷ os) (suc c.before.end) n rc.3 ro))

    behind : Swapped (walk (c ∷ cs) os) (walk (map exchanged_hunk os) (map exchanged_hunk (c ∷ cs))) → o.before.start < c.before.start → Swapped (walk (c ∷ cs) (o ∷ os)) (walk (map exchanged_hunk (o ∷ os)) (map exchanged_hunk (c ∷ cs)))
    behind below lt = rw (lt-leb c.before.start o.before.start lt, le-leb o.before.start c.before.start (omega arith)) (same below)

    equal : c.before.start ≡ o.before.start → Swapped (walk (c ∷ cs) (o ∷ os)) (walk (map exchanged_hunk (o ∷ os)) (map exchanged_hunk (c ∷ cs)))
    equal q = rw (le-leb c.before.start o.before.start (omega arith), le-leb o.before.start c.before.start (omega arith), second_first o cs os (run_headed Current o.before.start (suc c.before.end) cs (omega arith) rc.3), second_first (exchanged_hunk c) (map exchanged_hunk os) (map exchanged_hunk cs) (run_headed_map Other c.before.start (suc o.before.end) os (omega arith) ro.3)) (tie rc.0 ro.0 q (ih os (suc c.before.end) (suc o.before.end) rc.3 ro.3))

swapped : (cs : List Hunk) → Swaps cs
swapped [] = others_swap
swapped (c ∷ cs) = from_swap c cs (swapped cs)

-- what an exchange does to a list of hunks
facing_opposite : (s t : Side) → opposite (facing_side s) (facing_side t) ≡ opposite s t
facing_opposite Current Current = refl
facing_opposite Current Other = refl
facing_opposite Current Ancestor = refl
facing_opposite Other Current = refl
facing_opposite Other Other = refl
facing_opposite Other Ancestor = refl
facing_opposite Ancestor Current = refl
facing_opposite Ancestor Other = refl
facing_opposite Ancestor Ancestor = refl

facing_current : (s : Side) → is_current (facing_side s) ≡ is_other s
facing_current Current = refl
facing_current Other = refl
facing_current Ancestor = refl

facing_other : (s : Side) → is_other (facing_side s) ≡ is_current s
facing_other Current = refl
facing_other Other = refl
facing_other Ancestor = refl

exchange_touches : (g h : Hunk) → touches (exchanged_hunk g) (exchanged_hunk h) ≡ touches g h
exchange_touches g h = ap (λ (x : Bool). x && (leb g.before.start h.before.end && leb h.before.start g.before.end)) (facing_opposite g.side h.side)

exchange_any : (h : Hunk) (ms : List Hunk) → touches_any (exchanged_hunk h) (map exchanged_hunk ms) ≡ touches_any h ms
exchange_any h [] = refl
exchange_any h (m ∷ ms) = ap₂ ◌||◌ (exchange_touches h m) (exchange_any h ms)

map_cond : (b : Bool) (xs ys : List Hunk) → map exchanged_hunk (cond b xs ys) ≡ cond b (map exchanged_hunk xs) (map exchanged_hunk ys)
map_cond true xs ys = refl
map_cond false xs ys = refl

exchange_currents : (h : Hunk) → currents (exchanged_hunk h ∷ []) ≡ map exchanged_hunk (others (h ∷ []))
exchange_currents h = rw (facing_current h.side) (sym (map_cond (is_other h.side) (h ∷ []) []))

exchange_others : (h : Hunk) → others (exchanged_hunk h ∷ []) ≡ map exchanged_hunk (currents (h ∷ []))
exchange_others h = rw (facing_other h.side) (sym (map_cond (is_current h.side) (h ∷ []) []))

last_end_more : (ms : List Hunk) (h : Hunk) → last_end (ms ++ (h ∷ [])) ≡ max (last_end ms) h.before.end
last_end_more [] h = omega arith
last_end_more (m ∷ ms) h = omega (arith, last_end_more ms h)

joined_group : (x : Hunk) (ms : List Hunk) (h : Hunk) → is_group (joined (record { first = x; more = ms }) h) ≡ true
joined_group x [] h = refl
joined_group x (m ∷ ms) h = refl

-- the running clusters of both walks
exchanged_alone : (h : Hunk) → Exchanged (alone h) (alone (exchanged_hunk h))
exchanged_alone h = record { same_from = refl; same_to = refl; same_group = refl; same_lone = λ _. refl; their_hunks = exchange_currents h; our_hunks = exchange_others h }

exchanged_joined : (k k' : Cluster) (h : Hunk) → Exchanged k k' → Exchanged (joined k h) (joined k' (exchanged_hunk h))
exchanged_joined k k' h e = record {
  same_from = e.same_from;
  same_to = last_end_more (members k') (exchanged_hunk h) ∙ ap (λ (x : ℕ). max x h.before.end) e.same_to ∙ sym (last_end_more (members k) h);
  same_lone = λ q. absurd (true≢false (sym (joined_group k.first k.more h) ∙ q));
  same_group = joined_group k'.first k'.more (exchanged_hunk h) ∙ sym (joined_group k.first k.more h);
  their_hunks = filter-append (λ g. is_current g.side) (members k') (exchanged_hunk h ∷ []) ∙ ap₂ ◌++◌ e.their_hunks (exchange_currents h) ∙ sym (ap (map exchanged_hunk) (filter-append (λ g. is_other g.side) (members k) (h ∷ [])) ∙ map-append exchanged_hunk (others (members k)) (others (h ∷ [])));
  our_hunks = filter-append (λ g. is_other g.side) (members k') (exchanged_hunk h ∷ []) ∙ ap₂ ◌++◌ e.our_hunks (exchange_others h) ∙ sym (ap (map exchanged_hunk) (filter-append (λ g. is_current g.side) (members k) (h ∷ [])) ∙ map-append exchanged_hunk (currents (members k)) (currents (h ∷ [])));
}

abbrev pair : Hunk → Hunk → Cluster
pair c o = record { first = c; more = o ∷ [] }

exchanged_pair : (c o : Hunk) → c.side ≡ Current → o.side ≡ Other → c.before.start ≡ o.before.start → Exchanged (pair c o) (pair (exchanged_hunk o) (exchanged_hunk c))
exchanged_pair c o p q e = record {
  same_from = sym e;
  same_to = omega arith;
  same_group = refl;
  same_lone = λ q. absurd (true≢false q);
  their_hunks = rw (p, q) refl;
  our_hunks = rw (p, q) refl;
}

same_touch : (k k' : Cluster) (h : Hunk) → Exchanged k k' → (s : Side) → h.side ≡ s → Sided s → touches_any (exchanged_hunk h) (members k') ≡ touches_any h (members k)
same_touch k k' h e Current q p =
    any_currents (exchanged_hunk h) (ap facing_side q) (members k') ∙ ap (touches_any (exchanged_hunk h)) e.their_hunks ∙ exchange_any h (others (members k)) ∙ sym (any_others h q (members k))
same_touch k k' h e Other q p =
    any_others (exchanged_hunk h) (ap facing_side q) (members k') ∙ ap (touches_any (exchanged_hunk h)) e.our_hunks ∙ exchange_any h (currents (members k)) ∙ sym (any_currents h q (members k))
same_touch k k' h e Ancestor q p = absurd p

-- two hunks with equal starts open a group of their own
both_touch : (c o : Hunk) → c.side ≡ Current → o.side ≡ Other → c.before.start ≡ o.before.start → c.before.start ≤ c.before.end → o.before.start ≤ o.before.end → touches o c ≡ true
both_touch c o p q e u v = rw (p, q) (and_from (leb o.before.start c.before.end) (leb c.before.start o.before.end) (le-leb o.before.start c.before.end (omega arith)) (le-leb c.before.start o.before.end (omega arith)))

opens_pair : (c o : Hunk) (hs : List Hunk) → touches o c ≡ true → clusters_from (alone c) (o ∷ hs) ≡ clusters_from (pair c o) hs
opens_pair c o hs t = cond-true (touches_any o (c ∷ [])) (clusters_from (pair c o) hs) (alone c ∷ clusters_from (alone o) hs) (or_left (touches o c) false t)

closes_for_pair : (k : Cluster) (c o : Hunk) (hs : List Hunk) → touches_any c (members k) ≡ false → touches o c ≡ true → clusters_from k (c ∷ (o ∷ hs)) ≡ k ∷ clusters_from (pair c o) hs
closes_for_pair k c o hs n t = cond-false (touches_any c (members k)) (clusters_from (joined k c) (o ∷ hs)) (k ∷ clusters_from (alone c) (o ∷ hs)) n ∙ ap (λ (l : List Cluster). k ∷ l) (opens_pair c o hs t)

bound_of : (b : Side → ℕ) (n : ℕ) → b Current ≤ n → b Other ≤ n → (s : Side) → Sided s → b s ≤ n
bound_of b n p q Current u = p
bound_of b n p q Other u = q
bound_of b n p q Ancestor u = absurd u

-- and touch nothing before them
tie_free : (b : Side → ℕ) (k : Cluster) (h : Hunk) → b Current ≤ h.before.start → b Other ≤ h.before.start → ((g : Hunk) → Memᴰ g (members k) → Behind b g) → touches_any h (members k) ≡ false
tie_free b k h u v old = any_none h (members k) (λ g m. untouched g h (ends g (old g m)))
  where
    ends : (g : Hunk) → Behind b g → g.before.end < h.before.start
    ends g w = omega (arith, bound_of b h.before.start u v g.side w.0)

pair_behind : (b : Side → ℕ) (c o : Hunk) → Sided c.side → c.before.start ≤ c.before.end → Sided o.side → o.before.start ≤ o.before.end
    → (g : Hunk) → Memᴰ g (c ∷ (o ∷ [])) → Behind (next (next b c) o) g
pair_behind b c o p u q v g m = ⊎_elim
    (λ (e : g ≡ c). subst (λ (x : Hunk). Behind (next (next b c) o) x) (sym e) (behind_next (next b c) o c (behind_self b c p u)))
    (λ (n : Memᴰ g (o ∷ [])). subst (λ (x : Hunk). Behind (next (next b c) o) x) (sym (Memᴰ.eq_of_singleton n)) (behind_self (next b c) o q v))
    (Memᴰ.cases_cons m)

exchange_from : {hs hs' : List Hunk} → Swapped hs hs' → (b : Side → ℕ) (k k' : Cluster) → Woven b hs → ((g : Hunk) → Memᴰ g (members k) → Behind b g) → Exchanged k k'
    → Pairwise Exchanged (clusters_from k hs) (clusters_from k' hs')
exchange_from none b k k' w old e = (e, tt)
exchange_from (same {h = h} {xs = hs} {ys = hs'} sw) b k k' w old e = cond_both (touches_any h (members k)) (clusters_from (joined k h) hs) (k ∷ clusters_from (alone h) hs) (λ l. Pairwise Exchanged l (clusters_from k' (exchanged_hunk h ∷ hs')))
    (λ t. subst (Pairwise Exchanged (clusters_from (joined k h) hs)) (sym (cond-true (touches_any (exchanged_hunk h) (members k')) (clusters_from (joined k' (exchanged_hunk h)) hs') (k' ∷ clusters_from (alone (exchanged_hunk h)) hs') (alike ∙ t)))
    (exchange_from sw (next b h) (joined k h) (joined k' (exchanged_hunk h)) w.3 (behind_joined b (members k) h w.0 w.2 old) (exchanged_joined k k' h e)))
    (λ t. subst (Pairwise Exchanged (k ∷ clusters_from (alone h) hs)) (sym (cond-false (touches_any (exchanged_hunk h) (members k')) (clusters_from (joined k' (exchanged_hunk h)) hs') (k' ∷ clusters_from (alone (exchanged_hunk h)) hs') (alike ∙ t)))
    (e, exchange_from sw (next b h) (alone h) (alone (exchanged_hunk h)) w.3 (behind_alone b h w.0 w.2) (exchanged_alone h)))
  where
    alike : touches_any (exchanged_hunk h) (members k') ≡ touches_any h (members k)
    alike = same_touch k k' h e h.side refl w.0
exchange_from (tie {c = c} {o = o} {xs = hs} {ys = hs'} p q s sw) b k k' w old e =
    subst₂ (Pairwise Exchanged) (sym (closes_for_pair k c o hs (tie_free b k c lo lo' old) meets)) (sym (closes_for_pair k' (exchanged_hunk o) (exchanged_hunk c) hs' (same_touch k k' o e Other q tt ∙ tie_free b k o lo'' lo''' old) (exchange_touches c o ∙ touches_sym c o ∙ meets)))
    (e, exchange_from sw (next (next b c) o) (pair c o) (pair (exchanged_hunk o) (exchanged_hunk c)) w.3.3 (pair_behind b c o w.0 w.2 w.3.0 w.3.2) (exchanged_pair c o p q s))
  where
    meets : touches o c ≡ true
    meets = both_touch c o p q s w.2 w.3.2

    lo : b Current ≤ c.before.start
    lo = rw p at w.1

    lo''' : b Other ≤ o.before.start
    lo''' = let n : next b c Other ≤ o.before.start = rw q at w.3.1 in omega arith

    lo' : b Other ≤ c.before.start
    lo' = omega (arith, lo''')

    lo'' : b Current ≤ o.before.start
    lo'' = omega (arith, lo)

exchange : {hs hs' : List Hunk} → Swapped hs hs' → (b : Side → ℕ) → Woven b hs → Pairwise Exchanged (clusters hs) (clusters hs')
exchange none b w = tt
exchange (same {h = h} sw) b w = exchange_from sw (next b h) (alone h) (alone (exchanged_hunk h)) w.3 (behind_alone b h w.0 w.2) (exchanged_alone h)
exchange (tie {c = c} {o = o} {xs = hs} {ys = hs'} p q s sw) b w =
    subst₂ (Pairwise Exchanged) (sym (opens_pair c o hs meets)) (sym (opens_pair (exchanged_hunk o) (exchanged_hunk c) hs' (exchange_touches c o ∙ touches_sym c o ∙ meets)))
    (exchange_from sw (next (next b c) o) (pair c o) (pair (exchanged_hunk o) (exchanged_hunk c)) w.3.3 (pair_behind b c o w.0 w.2 w.3.0 w.3.2) (exchanged_pair c o p q s))
  where
    meets : touches o c ≡ true
    meets = both_touch c o p q s w.2 w.3.2

pub exchange_keeps_groups : ExchangeKeepsGroups
exchange_keeps_groups s cs os kept =
    let rc : Run Current 0 cs = runs Current (length s.ancestor) (length s.current) 0 0 cs kept.current in
    let ro : Run Other 0 os = runs Other (length s.ancestor) (length s.other) 0 0 os kept.other in
    exchange (swapped cs os 0 0 rc ro) (λ _. 0) (walk_woven cs os 0 0 (λ _. 0) rc ro (omega arith) (omega arith))
