-- A cluster as it grows: the first i hunks of the current side and the first j of the other are taken.
use Rattle.std.proofs.Common.{◌≡◌, ℕ, ◌+◌, ◌-◌, ◌<◌, ◌≤◌, Bool, true, false, List, [], ◌∷◌, ◌++◌, length, get_or, take, drop, sym, refl, ap, ◌∙◌, subst, ap₂, ⊎_elim, arith}
use Rattle.std.proofs.lemmas.List.Elements.{filter-append}
use Rattle.std.proofs.lemmas.List.{append-nil, drop_more, take_more, length-drop, length-take-le}
use Rattle.std.proofs.lemmas.Bool.{cond-true, cond-false}
use Rattle.rules.specs.declared.hunk.Hunk.{Hunk}
use Rattle.rules.specs.declared.hunk.Side.{Side}
use Rattle.rules.specs.declared.hunk.Side.TheVariants.{Current, Other}
use Rattle.rules.specs.Hunks.{opposite, touches_any}
use Rattle.rules.specs.Walk.{walk, picked, currents, others, is_current, is_other}
use Rattle.rules.specs.Groups.{Cluster, members, joined, clusters, clusters_from}
use Rattle.rules.proofs.Chains.{alone}
use Rattle.rules.proofs.Picked.{any_currents, any_others}
use Rattle.rules.proofs.Woven.{Run}
use Rattle.hunks.proofs.Helds.{no_hunk}
use Rattle.groups.specs.Taking.{taken, Taken}
use Rattle.groups.proofs.Ordered.{run_at, run_gap, touch_ranges, front_one, touches_none}
use Rattle.groups.proofs.Heads.{drop_head, lead_current, lead_other, head_is}
use Rattle.groups.proofs.Offered.{offer, offer_is, offered, offered_is}

pub record Growing (cs os : List Hunk) (i j : ℕ) : Type 0 where
  pub cluster : Cluster
  pub ours : currents (members cluster) ≡ take i cs
  pub theirs : others (members cluster) ≡ take j os
  pub goal : clusters_from cluster (walk (drop i cs) (drop j os)) ≡ clusters (walk cs os)
  pub our_bound : i ≤ length cs
  pub their_bound : j ≤ length os
  pub some : 0 < i + j
  -- every hunk taken starts no later than those left of the facing side
  pub ours_first : 0 < i → j < length os → (get_or cs (i - 1) no_hunk).before.start ≤ (get_or os j no_hunk).before.start
  pub theirs_first : 0 < j → i < length cs → (get_or os (j - 1) no_hunk).before.start ≤ (get_or cs i no_hunk).before.start

-- one more hunk of a list, by the test of its side
pick_in : (f : Side → Bool) (ms : List Hunk) (h : Hunk) → f h.side ≡ true → picked f (ms ++ (h ∷ [])) ≡ picked f ms ++ (h ∷ [])
pick_in f ms h e = filter-append (λ x. f x.side) ms (h ∷ []) ∙ ap (λ (l : List Hunk). picked f ms ++ l) (cond-true (f h.side) (h ∷ []) [] e)

pick_out : (f : Side → Bool) (ms : List Hunk) (h : Hunk) → f h.side ≡ false → picked f (ms ++ (h ∷ [])) ≡ picked f ms
pick_out f ms h e = filter-append (λ x. f x.side) ms (h ∷ []) ∙ (ap (λ (l : List Hunk). picked f ms ++ l) (cond-false (f h.side) (h ∷ []) [] e) ∙ append-nil (picked f ms))

-- the next hunk of the walk joins the cluster
join : (k : Cluster) (h : Hunk) (ws rest : List Hunk) → ws ≡ h ∷ rest → touches_any h (members k) ≡ true → clusters_from (joined k h) rest ≡ clusters_from k ws
join k h ws rest e t = sym (ap (clusters_from k) e ∙ cond-true (touches_any h (members k)) (clusters_from (joined k h) rest) (k ∷ clusters_from (alone h) rest) t)

-- or begins the next one
cut : (k : Cluster) (ws : List Hunk) → ((h : Hunk) (hs : List Hunk) → ws ≡ h ∷ hs → touches_any h (members k) ≡ false) → clusters_from k ws ≡ k ∷ clusters ws
cut k [] f = refl
cut k (h ∷ hs) f = cond-false (touches_any h (members k)) (clusters_from (joined k h) hs) (k ∷ clusters_from (alone h) hs) (f h hs refl)

add_back : (i : ℕ) → i + 1 - 1 ≡ i
add_back i = omega arith

module _ (cs os : List Hunk) (rc : Run Current 0 cs) (ro : Run Other 0 os) where
  -- the walk goes on with the other side's hunk j
  walk_other : (i j : ℕ) → j < length os → (i < length cs → (get_or os j no_hunk).before.start < (get_or cs i no_hunk).before.start)
      → walk (drop i cs) (drop j os) ≡ get_or os j no_hunk ∷ walk (drop i cs) (drop (j + 1) os)
  walk_other i j b f =
      ap (walk (drop i cs)) (drop_more os j no_hunk b)
      ∙ lead_other (get_or os j no_hunk) (drop i cs) (drop (j + 1) os) (λ p. let l = length-drop i cs in subst (λ (h : Hunk). (get_or os j no_hunk).before.start < h.before.start) (sym (drop_head cs i)) (f (omega arith)))

  walk_current : (i j : ℕ) → i < length cs → (j < length os → (get_or cs i no_hunk).before.start ≤ (get_or os j no_hunk).before.start)
      → walk (drop i cs) (drop j os) ≡ get_or cs i no_hunk ∷ walk (drop (i + 1) cs) (drop j os)
  walk_current i j b f =
      ap (λ (l : List Hunk). walk l (drop j os)) (drop_more cs i no_hunk b)
      ∙ lead_current (get_or cs i no_hunk) (drop (i + 1) cs) (drop j os) (λ p. let l = length-drop j os in subst (λ (h : Hunk). (get_or cs i no_hunk).before.start ≤ h.before.start) (sym (drop_head os j)) (f (omega arith)))

  pub grow_other : (i j : ℕ) → Growing cs os i j → true ≡ offer os j cs i → Growing cs os i (j + 1)
  grow_other i j g e =
      let o = offered os cs j i g.our_bound e in
      let h = get_or os j no_hunk in
      let t = touch_ranges h (get_or cs (i - 1) no_hunk) o.touching in
      let side : h.side ≡ Other = (run_at Other 0 os ro j o.below).0 in
      let span = (run_at Other 0 os ro j o.below).2 in
      let ahead : i < length cs → h.before.start < (get_or cs i no_hunk).before.start = λ lt. let p = o.some in let q = run_gap Current 0 cs rc (i - 1) i (omega arith) lt in let u = t.0 in omega arith in
      let touched : touches_any h (members g.cluster) ≡ true
      = any_currents h side (members g.cluster) ∙ (ap (touches_any h) g.ours ∙ (let p = o.some in let b = g.our_bound in front_one h cs i (i - 1) (omega arith) (omega arith) o.touching)) in
      record {
        cluster = joined g.cluster h;
        ours = pick_out is_current (members g.cluster) h (ap is_current side) ∙ g.ours;
        theirs = pick_in is_other (members g.cluster) h (ap is_other side) ∙ (ap (λ (l : List Hunk). l ++ (h ∷ [])) g.theirs ∙ sym (take_more os j no_hunk o.below));
        goal = join g.cluster h _ _ (walk_other i j o.below ahead) touched ∙ g.goal;
        our_bound = g.our_bound;
        their_bound = let b = o.below in omega arith;
        some = omega arith;
        ours_first = λ p lt. let q = g.ours_first p o.below in let r = run_gap Other 0 os ro j (j + 1) (omega arith) lt in omega arith;
        theirs_first = λ p lt. subst (λ (x : ℕ). (get_or os x no_hunk).before.start ≤ (get_or cs i no_hunk).before.start) (sym (add_back j)) (let a = ahead lt in omega arith);
      }

  pub grow_current : (i j : ℕ) → Growing cs os i j → true ≡ offer cs i os j → Growing cs os (i + 1) j
  grow_current i j g e =
      let o = offered cs os i j g.their_bound e in
      let h = get_or cs i no_hunk in
      let t = touch_ranges h (get_or os (j - 1) no_hunk) o.touching in
      let side : h.side ≡ Current = (run_at Current 0 cs rc i o.below).0 in
      let span = (run_at Current 0 cs rc i o.below).2 in
      let ahead : j < length os → h.before.start ≤ (get_or os j no_hunk).before.start = λ lt. let p = o.some in let q = run_gap Other 0 os ro (j - 1) j (omega arith) lt in let u = t.0 in omega arith in
      let touched : touches_any h (members g.cluster) ≡ true
      = any_others h side (members g.cluster) ∙ (ap (touches_any h) g.theirs ∙ (let p = o.some in let b = g.their_bound in front_one h os j (j - 1) (omega arith) (omega arith) o.touching)) in
      record {
        cluster = joined g.cluster h;
        ours = pick_in is_current (members g.cluster) h (ap is_current side) ∙ (ap (λ (l : List Hunk). l ++ (h ∷ [])) g.ours ∙ sym (take_more cs i no_hunk o.below));
        theirs = pick_out is_other (members g.cluster) h (ap is_other side) ∙ g.theirs;
        goal = join g.cluster h _ _ (walk_current i j o.below ahead) touched ∙ g.goal;
        our_bound = let b = o.below in omega arith;
        their_bound = g.their_bound;
        some = omega arith;
        ours_first = λ p lt. subst (λ (x : ℕ). (get_or cs x no_hunk).before.start ≤ (get_or os j no_hunk).before.start) (sym (add_back i)) (ahead lt);
        theirs_first = λ p lt. let q = g.theirs_first p o.below in let r = run_gap Current 0 cs rc i (i + 1) (omega arith) lt in omega arith;
      }

  -- Neither side offers a hunk: the next one of the walk touches none of the cluster.
  pub complete : (i j : ℕ) → Growing cs os i j → false ≡ offer os j cs i → false ≡ offer cs i os j → Taken cs os i j
  complete i j g po pc =
      record {
        cluster = g.cluster;
        walked = sym g.goal ∙ cut g.cluster (walk (drop i cs) (drop j os)) apart;
        ours = g.ours;
        theirs = g.theirs;
        our_bound = g.our_bound;
        their_bound = g.their_bound;
        some = g.some;
      }
    where
      other_apart : (h : Hunk) → j < length os → h ≡ get_or os j no_hunk → touches_any h (members g.cluster) ≡ false
      other_apart h b e =
          let x = get_or os j no_hunk in
          let at = run_at Other 0 os ro j b in
          let side : x.side ≡ Other = at.0 in
          ap (λ (y : Hunk). touches_any y (members g.cluster)) e
          ∙ (any_currents x side (members g.cluster)
          ∙ (ap (touches_any x) g.ours
          ∙ touches_none Current cs rc x i g.our_bound (ap (λ (s : Side). opposite s Current) side) at.2 (λ p. g.ours_first p b) (λ p. sym (offered_is os cs j i b p g.our_bound) ∙ sym (po ∙ offer_is os cs j i))))

      current_apart : (h : Hunk) → i < length cs → h ≡ get_or cs i no_hunk → touches_any h (members g.cluster) ≡ false
      current_apart h b e =
          let x = get_or cs i no_hunk in
          let at = run_at Current 0 cs rc i b in
          let side : x.side ≡ Current = at.0 in
          ap (λ (y : Hunk). touches_any y (members g.cluster)) e
          ∙ (any_others x side (members g.cluster)
          ∙ (ap (touches_any x) g.theirs
          ∙ touches_none Other os ro x j g.their_bound (ap (λ (s : Side). opposite s Other) side) at.2 (λ p. g.theirs_first p b) (λ p. sym (offered_is cs os i j b p g.their_bound) ∙ sym (pc ∙ offer_is cs os i j))))

      apart : (h : Hunk) (hs : List Hunk) → walk (drop i cs) (drop j os) ≡ h ∷ hs → touches_any h (members g.cluster) ≡ false
      apart h hs e =
          ⊎_elim
          (λ (p : (0 < length (drop i cs)) × (h ≡ get_or (drop i cs) 0 no_hunk)). let l = length-drop i cs in let b = p.0 in current_apart h (omega arith) (p.1 ∙ drop_head cs i))
          (λ (p : (0 < length (drop j os)) × (h ≡ get_or (drop j os) 0 no_hunk)). let l = length-drop j os in let b = p.0 in other_apart h (omega arith) (p.1 ∙ drop_head os j))
          (head_is (drop i cs) (drop j os) h hs e)

-- The numbers are those of the first cluster.
pub taken_is : (cs os : List Hunk) (i j : ℕ) → Taken cs os i j → ◌≡◌ {A = ℕ × ℕ} (i, j) (taken (clusters (walk cs os)))
taken_is cs os i j t =
    let a : length (currents (members t.cluster)) ≡ i = ap length t.ours ∙ length-take-le i cs t.our_bound in
    let b : length (others (members t.cluster)) ≡ j = ap length t.theirs ∙ length-take-le j os t.their_bound in
    sym (ap taken t.walked ∙ ap₂ (λ (x y : ℕ). (x, y)) a b)
