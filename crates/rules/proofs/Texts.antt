-- What ours and theirs read of the clusters: one side's hunks and the lone ones, put in.
use Rattle.std.proofs.Common.{◌≡◌, ℕ, suc, ◌-◌, ◌≤◌, Bool, true, false, cond, not, ◌&&◌, ◌||◌, T, ltb, leb, List, [], ◌∷◌, ◌++◌, length, take, drop, filter, sym, refl, ap, ◌∙◌, subst, ap₂, ⊎_elim, append_assoc, append-nil, arith, take-append-drop, drop-drop, take-add}
use mathlib.Core.List.{Memᴰ}
use Rattle.std.proofs.lemmas.Bool.{true≢false, ltb-false, cond_both, cases_Bool, or_right, and_left}
use Rattle.std.proofs.lemmas.List.Elements.{filter-append}
use Rattle.rules.specs.declared.hunk.Hunk.{Hunk}
use Rattle.rules.specs.declared.hunk.Side.{Side}
use Rattle.rules.specs.declared.hunk.Side.TheVariants.{Current, Other, Ancestor}
use Rattle.rules.specs.Lines.{Line, between}
use Rattle.rules.specs.Hunks.{Sheets, opposite, touches, touches_any, side_lines, hunk_lines, lone_ones}
use Rattle.rules.specs.Walk.{walk, is_current, is_other, picked}
use Rattle.rules.specs.Groups.{Cluster, clusters, clusters_from, members, joined, is_group, from, to, last_end}
use Rattle.rules.specs.Filling.{stretch, filled, side_of}
use Rattle.rules.specs.PutIn.{put_in}
use Rattle.rules.specs.Order.{Kept}
use Rattle.rules.specs.GroupLaws.{all_members}
use Rattle.rules.specs.SideLaws.{with_groups}
use Rattle.rules.proofs.Chains.{alone, parted, Cut, cut, in_all, chains_of_woven}
use Rattle.rules.proofs.Kept.{Low, low_weaken, low_kept, stays, ours_stay, theirs_stay}
use Rattle.rules.proofs.Picked.{kept_same}
use Rattle.rules.proofs.Woven.{Woven, Run, runs, walk_woven, next, next_own, next_start, touches_sym, any_true, any_from, any_none, woven_above}

-- a hunk of a group touches one of its group; a lone hunk touches none
abbrev Linked : Cluster → Type 0
Linked k = is_group k ≡ true → (g : Hunk) → Memᴰ g (members k) → touches_any g (members k) ≡ true

lone_member : (x : Hunk) (ms : List Hunk) → is_group (record { first = x; more = ms }) ≡ false → (g : Hunk) → Memᴰ g (x ∷ ms) → g ≡ x
lone_member x [] e g m = mathlib.Core.List.Memᴰ.eq_of_singleton m
lone_member x (y ∷ ys) e g m = absurd (true≢false e)

any_more : (g : Hunk) (xs ys : List Hunk) → touches_any g xs ≡ true → touches_any g (xs ++ ys) ≡ true
any_more g xs ys e = let (h, m, t) = any_true g xs e in any_from g (xs ++ ys) h (mathlib.Core.List.Memᴰ.append_left ys m) t

linked_more : (k : Cluster) (h : Hunk) → touches_any h (members k) ≡ true → Linked k → Linked (joined k h)
linked_more k h e link _ g m = ⊎_elim
    (λ (i : Memᴰ g (members k)). ⊎_elim (λ (q : is_group k ≡ true). any_more g (members k) (h ∷ []) (link q g i)) (λ (q : is_group k ≡ false). any_from g (members k ++ (h ∷ [])) h (mathlib.Core.List.Memᴰ.append_right (members k) (mathlib.Core.List.Memᴰ.head refl)) (lone q i)) (cases_Bool (is_group k)))
    (λ (i : Memᴰ g (h ∷ [])). subst (λ (x : Hunk). touches_any x (members k ++ (h ∷ [])) ≡ true) (sym (mathlib.Core.List.Memᴰ.eq_of_singleton i)) (any_more h (members k) (h ∷ []) e))
    (mathlib.Core.List.Memᴰ.append_cases (members k) m)
  where
    lone : is_group k ≡ false → Memᴰ g (members k) → touches g h ≡ true
    lone q i = let (x, mx, t) = any_true h (members k) e in
        touches_sym g h ∙ ap (touches h) (lone_member k.first k.more q g i ∙ sym (lone_member k.first k.more q x mx)) ∙ t

linked_from : (k : Cluster) (hs : List Hunk) → Linked k → (x : Cluster) → Memᴰ x (clusters_from k hs) → Linked x
linked_from k [] link = λ x m. subst Linked (sym (mathlib.Core.List.Memᴰ.eq_of_singleton m)) link
linked_from k (h ∷ hs) link = cond_both (touches_any h (members k)) (clusters_from (joined k h) hs) (k ∷ clusters_from (alone h) hs) (λ ks. (x : Cluster) → Memᴰ x ks → Linked x)
    (λ e. linked_from (joined k h) hs (linked_more k h e link))
    (λ e x m. ⊎_elim (λ (q : x ≡ k). subst Linked (sym q) link) (λ (n : Memᴰ x (clusters_from (alone h) hs)). linked_from (alone h) hs (λ q. absurd (true≢false (sym q))) x n) (mathlib.Core.List.Memᴰ.cases_cons m))

linked : (hs : List Hunk) (k : Cluster) → Memᴰ k (clusters hs) → Linked k
linked [] k m = absurd (mathlib.Core.List.Memᴰ.not-nil m)
linked (h ∷ hs) k m = linked_from (alone h) hs (λ q. absurd (true≢false (sym q))) k m

not_itself : (s : Side) → opposite s s ≡ false
not_itself Current = refl
not_itself Other = refl
not_itself Ancestor = refl

tied : (b : Side → ℕ) (hs : List Hunk) → Woven b hs → (k : Cluster) → Memᴰ k (clusters hs) → (g : Hunk) → Memᴰ g (members k) → touches_any g hs ≡ is_group k
tied b hs w k mk g mg = ⊎_elim group lone (cases_Bool (is_group k))
  where
    group : is_group k ≡ true → touches_any g hs ≡ is_group k
    group q = let (h, m, t) = any_true g (members k) (linked hs k mk q g mg) in
        any_from g hs h (subst (λ (l : List Hunk). Memᴰ h l) (parted hs) (in_all (clusters hs) k mk h m)) t ∙ sym q

    alone_there : is_group k ≡ false → (h : Hunk) → Memᴰ h hs → touches g h ≡ true → ⊥
    alone_there q h m t =
        let i : Memᴰ h (members k) = (chains_of_woven b hs w).apart k mk g h mg m (subst T (sym t) tt) in
        let e : h ≡ g = lone_member k.first k.more q h i ∙ sym (lone_member k.first k.more q g mg) in
        let n : touches g g ≡ false = and_left (opposite g.side g.side) (leb g.before.start g.before.end && leb g.before.start g.before.end) (not_itself g.side) in
        true≢false (sym t ∙ ap (touches g) e ∙ n)

    lone : is_group k ≡ false → touches_any g hs ≡ is_group k
    lone q = any_none g hs (λ h m. ⊎_elim (λ (t : touches g h ≡ true). absurd (alone_there q h m t)) (λ (t : touches g h ≡ false). t) (cases_Bool (touches g h))) ∙ sym q

-- the hunks that are read of each cluster
abbrev chosen : (Side → Bool) → Cluster → List Hunk
chosen f k = cond (is_group k) (picked f (members k)) (k.first ∷ [])

abbrev all_chosen : (Side → Bool) → List Cluster → List Hunk
all_chosen f [] = []
all_chosen f (k ∷ ks) = chosen f k ++ all_chosen f ks

or_false : (b : Bool) → (b || false) ≡ b
or_false true = refl
or_false false = refl

chosen_kept : (f : Side → Bool) (all : List Hunk) (x : Hunk) (ms : List Hunk) → ((g : Hunk) → Memᴰ g (x ∷ ms) → touches_any g all ≡ is_group (record { first = x; more = ms }))
    → filter (stays f all) (x ∷ ms) ≡ chosen f (record { first = x; more = ms })
chosen_kept f all x [] t = ap (λ (b : Bool). cond b (x ∷ []) []) (or_right (f x.side) (not (touches_any x all)) (ap not (t x (mathlib.Core.List.Memᴰ.head refl))))
chosen_kept f all x (y ∷ ys) t = kept_same (stays f all) (λ h. f h.side) (x ∷ (y ∷ ys)) (λ g m. ap (λ (b : Bool). f g.side || not b) (t g m) ∙ or_false (f g.side))

all_chosen_kept : (f : Side → Bool) (all : List Hunk) (ks : List Cluster) → ((k : Cluster) → Memᴰ k ks → (g : Hunk) → Memᴰ g (members k) → touches_any g all ≡ is_group k)
    → filter (stays f all) (all_members ks) ≡ all_chosen f ks
all_chosen_kept f all [] t = refl
all_chosen_kept f all (k ∷ ks) t = filter-append (stays f all) (members k) (all_members ks) ∙ ap₂ ◌++◌ (chosen_kept f all k.first k.more (t k (mathlib.Core.List.Memᴰ.head refl))) (all_chosen_kept f all ks (λ x m. t x (mathlib.Core.List.Memᴰ.tail m)))

-- lines between places of the ancestor
pub between_more : (ls : List Line) (n m k : ℕ) → n ≤ m → m ≤ k → between ls n m ++ between ls m k ≡ between ls n k
between_more ls n m k p q =
    ap (λ (r : List Line). take (m - n) (drop n ls) ++ take (k - m) r) (ap (λ (i : ℕ). drop i ls) (omega arith) ∙ sym (drop-drop (m - n) n ls))
    ∙ sym (take-add (m - n) (k - m) (drop n ls))
    ∙ ap (λ (i : ℕ). take i (drop n ls)) (omega arith)

pub between_rest : (ls : List Line) (n m : ℕ) → n ≤ m → between ls n m ++ drop m ls ≡ drop n ls
between_rest ls n m p =
    ap (λ (r : List Line). take (m - n) (drop n ls) ++ r) (ap (λ (i : ℕ). drop i ls) (omega arith) ∙ sym (drop-drop (m - n) n ls))
    ∙ take-append-drop (m - n) (drop n ls)

between_none : (ls : List Line) (a b : ℕ) → b ≤ a → between ls a b ≡ []
between_none ls a b p = let z : b - a ≡ 0 = omega arith in ap (λ (i : ℕ). take i (drop a ls)) z

put_in_from : (s : Sheets) (n m : ℕ) (hs : List Hunk) → n ≤ m → Low m hs → between s.ancestor n m ++ put_in s m hs ≡ put_in s n hs
put_in_from s n m [] p l = between_rest s.ancestor n m p
put_in_from s n m (h ∷ hs) p l =
    sym (append_assoc (between s.ancestor n m) (between s.ancestor m h.before.start) (hunk_lines s h ++ put_in s h.before.end hs))
    ∙ ap (λ (r : List Line). r ++ (hunk_lines s h ++ put_in s h.before.end hs)) (between_more s.ancestor n m h.before.start p l.0)

pub side_lines_append : (s : Sheets) (xs ys : List Hunk) → side_lines s (xs ++ ys) ≡ side_lines s xs ++ side_lines s ys
side_lines_append s [] ys = refl
side_lines_append s (x ∷ xs) ys = ap (λ (r : List Line). hunk_lines s x ++ r) (side_lines_append s xs ys) ∙ sym (append_assoc (hunk_lines s x) (side_lines s xs) (side_lines s ys))

pub stretch_lines : (s : Sheets) (a b : ℕ) → side_lines s (stretch a b) ≡ between s.ancestor a b
stretch_lines s a b = cond_both (ltb a b) (record { before = record { start = a; end = b }; after = record { start = a; end = b }; side = Ancestor } ∷ []) [] (λ l. side_lines s l ≡ between s.ancestor a b)
    (λ e. append-nil (between s.ancestor a b))
    (λ e. sym (between_none s.ancestor a b (ltb-false a b e)))

-- hunks in order between two places
abbrev pub Within : ℕ → ℕ → List Hunk → Type 0
Within a e [] = a ≤ e
Within a e (h ∷ hs) = (a ≤ h.before.start) × (h.before.start ≤ h.before.end) × Within h.before.end e hs

filled_lines : (s : Sheets) (a e : ℕ) (hs rest : List Hunk) → Within a e hs → Low e rest → side_lines s (filled a e hs) ++ put_in s e rest ≡ put_in s a (hs ++ rest)
filled_lines s a e [] rest w l = ap (λ (r : List Line). r ++ put_in s e rest) (stretch_lines s a e) ∙ put_in_from s a e rest w l
filled_lines s a e (h ∷ hs) rest w l =
    ap (λ (r : List Line). r ++ put_in s e rest) (side_lines_append s (stretch a h.before.start) (h ∷ filled h.before.end e hs) ∙ ap (λ (r : List Line). r ++ (hunk_lines s h ++ side_lines s (filled h.before.end e hs))) (stretch_lines s a h.before.start))
    ∙ append_assoc (between s.ancestor a h.before.start) (hunk_lines s h ++ side_lines s (filled h.before.end e hs)) (put_in s e rest)
    ∙ ap (λ (r : List Line). between s.ancestor a h.before.start ++ r) (append_assoc (hunk_lines s h) (side_lines s (filled h.before.end e hs)) (put_in s e rest) ∙ ap (λ (r : List Line). hunk_lines s h ++ r) (filled_lines s h.before.end e hs rest w.2 l))

low_append : (n : ℕ) (xs ys : List Hunk) → Low n xs → Low n ys → Low n (xs ++ ys)
low_append n [] ys p q = q
low_append n (x ∷ xs) ys p q = (p.0, low_append n xs ys p.1 q)

low_parts : (n : ℕ) (xs ys : List Hunk) → Low n (xs ++ ys) → Low n xs × Low n ys
low_parts n [] ys l = (tt, l)
low_parts n (x ∷ xs) ys l = let (p, q) = low_parts n xs ys l.1 in ((l.0, p), q)

pub low_each : (n : ℕ) (hs : List Hunk) → ((h : Hunk) → Memᴰ h hs → n ≤ h.before.start) → Low n hs
low_each n [] f = tt
low_each n (h ∷ hs) f = (f h (mathlib.Core.List.Memᴰ.head refl), low_each n hs (λ g m. f g (mathlib.Core.List.Memᴰ.tail m)))

low_chosen : (f : Side → Bool) (n : ℕ) (ks : List Cluster) → Low n (all_members ks) → Low n (all_chosen f ks)
low_chosen f n [] l = tt
low_chosen f n (k ∷ ks) l =
    let (p, q) = low_parts n (members k) (all_members ks) l in
    low_append n (chosen f k) (all_chosen f ks) (cond_both (is_group k) (picked f (members k)) (k.first ∷ []) (Low n) (λ _. low_kept (λ h. f h.side) n (members k) p) (λ _. (p.0, tt))) (low_chosen f n ks q)

pub last_end_above : (ms : List Hunk) (h : Hunk) → Memᴰ h ms → h.before.end ≤ last_end ms
last_end_above [] h m = absurd (mathlib.Core.List.Memᴰ.not-nil m)
last_end_above (x ∷ xs) h m = ⊎_elim (λ (q : h ≡ x). subst (λ (y : Hunk). y.before.end ≤ last_end (x ∷ xs)) (sym q) (omega arith)) (λ (i : Memᴰ h xs). omega (arith, last_end_above xs h i)) (mathlib.Core.List.Memᴰ.cases_cons m)

pub last_end_below : (ms : List Hunk) (n : ℕ) → ((h : Hunk) → Memᴰ h ms → h.before.end ≤ n) → last_end ms ≤ n
last_end_below [] n f = omega arith
last_end_below (x ∷ xs) n f = omega (arith, f x (mathlib.Core.List.Memᴰ.head refl), last_end_below xs n (λ h m. f h (mathlib.Core.List.Memᴰ.tail m)))

lone_to : (x : Hunk) (ms : List Hunk) → is_group (record { first = x; more = ms }) ≡ false → to (record { first = x; more = ms }) ≡ x.before.end
lone_to x [] e = omega arith
lone_to x (y ∷ ys) e = absurd (true≢false e)

-- the bounds behind a list, and a walk cut in two
abbrev pub after : (Side → ℕ) → List Hunk → Side → ℕ
after b [] = b
after b (h ∷ hs) = after (next b h) hs

pub woven_parts : (b : Side → ℕ) (xs ys : List Hunk) → Woven b (xs ++ ys) → Woven b xs × Woven (after b xs) ys
woven_parts b [] ys w = (tt, w)
woven_parts b (x ∷ xs) ys w = let (p, q) = woven_parts (next b x) xs ys w.3 in ((w.0, w.1, w.2, p), q)

-- the ancestor's lines from line n on, each lone hunk's lines and each group's lines of one side in their places
abbrev pub text : (Side → Bool) → Sheets → ℕ → List Cluster → List Line
text f s = with_groups (λ k. side_lines s (side_of f k)) s

module _ (f : Side → Bool) (side : Side) (only : (t : Side) → f t ≡ true → t ≡ side) where
  own_next : (b : Side → ℕ) (h : Hunk) → f h.side ≡ true → suc h.before.end ≤ next b h side
  own_next b h e = subst (λ (t : Side). suc h.before.end ≤ next b h t) (only h.side e) (next_own b h)

  picked_within : (b : Side → ℕ) (hs : List Hunk) (a e : ℕ) → Woven b hs → a ≤ e → a ≤ b side → ((h : Hunk) → Memᴰ h hs → h.before.end ≤ e) → Within a e (picked f hs)
  picked_within b [] a e w p q ends = p
  picked_within b (h ∷ hs) a e w p q ends = cond_both (f h.side) (h ∷ picked f hs) (picked f hs) (Within a e)
      (λ t. (omega (arith, subst (λ (x : Side). b x ≤ h.before.start) (only h.side t) w.1), w.2, picked_within (next b h) hs h.before.end e w.3 (ends h (mathlib.Core.List.Memᴰ.head refl)) (omega (arith, own_next b h t)) (λ g m. ends g (mathlib.Core.List.Memᴰ.tail m))))
      (λ _. picked_within (next b h) hs a e w.3 p (omega arith) (λ g m. ends g (mathlib.Core.List.Memᴰ.tail m)))

  pub cluster_within : (b : Side → ℕ) (k : Cluster) → Woven b (members k) → Within (from k) (to k) (picked f (members k))
  cluster_within b k w =
      let ends : k.first.before.end ≤ to k = last_end_above (members k) k.first (mathlib.Core.List.Memᴰ.head refl) in
      cond_both (f k.first.side) (k.first ∷ picked f k.more) (picked f k.more) (Within (from k) (to k))
      (λ t. (omega arith, w.2, picked_within (next b k.first) k.more k.first.before.end (to k) w.3 ends (omega (arith, own_next b k.first t)) (λ g m. last_end_above (members k) g (mathlib.Core.List.Memᴰ.tail m))))
      (λ _. picked_within (next b k.first) k.more (from k) (to k) w.3 (omega (arith, w.2)) (next_start b k.first w.2 side) (λ g m. last_end_above (members k) g (mathlib.Core.List.Memᴰ.tail m)))

  text_put : (s : Sheets) (b : Side → ℕ) (ks : List Cluster) (n : ℕ) → Woven b (all_members ks) → Cut ks → Low n (all_members ks) → text f s n ks ≡ put_in s n (all_chosen f ks)
  text_put s b [] n w c l = refl
  text_put s b (k ∷ ks) n w c l = by_kind (is_group k) refl (text_put s (after b (members k)) ks (to k) ws.1 c.1 behind)
    where
      ws : Woven b (members k) × Woven (after b (members k)) (all_members ks)
      ws = woven_parts b (members k) (all_members ks) w

      behind : Low (to k) (all_members ks)
      behind = low_each (to k) (all_members ks) (λ h m. last_end_below (members k) h.before.start (λ g i. omega (arith, c.0 g h i m)))

      rest : List Hunk
      rest = all_chosen f ks

      low : Low (from k) (picked f (members k) ++ rest)
      low = low_append (from k) (picked f (members k)) rest
          (low_kept (λ h. f h.side) (from k) (members k) (omega arith, low_each (from k) k.more (woven_above (next b k.first) k.more (from k) ws.0.3 (next_start b k.first ws.0.2))))
          (low_weaken (from k) (to k) rest (omega (arith, ws.0.2, last_end_above (members k) k.first (mathlib.Core.List.Memᴰ.head refl))) (low_chosen f (to k) ks behind))

      by_kind : (t : Bool) → is_group k ≡ t → text f s (to k) ks ≡ put_in s (to k) rest
          → between s.ancestor n (from k) ++ (cond t (side_lines s (filled (from k) (to k) (picked f (members k)))) (hunk_lines s k.first) ++ text f s (to k) ks) ≡ put_in s n (cond t (picked f (members k)) (k.first ∷ []) ++ rest)
      by_kind true q ih =
          ap (λ (r : List Line). between s.ancestor n (from k) ++ r) (ap (λ (r : List Line). side_lines s (filled (from k) (to k) (picked f (members k))) ++ r) ih ∙ filled_lines s (from k) (to k) (picked f (members k)) rest (cluster_within b k ws.0) (low_chosen f (to k) ks behind))
          ∙ put_in_from s n (from k) (picked f (members k) ++ rest) l.0 low
      by_kind false q ih = ap (λ (r : List Line). between s.ancestor n (from k) ++ (hunk_lines s k.first ++ r)) (ih ∙ ap (λ (i : ℕ). put_in s i rest) (lone_to k.first k.more q))

pub only_current : (t : Side) → is_current t ≡ true → t ≡ Current
only_current Current e = refl
only_current Other e = absurd (true≢false (sym e))
only_current Ancestor e = absurd (true≢false (sym e))

pub only_other : (t : Side) → is_other t ≡ true → t ≡ Other
only_other Current e = absurd (true≢false (sym e))
only_other Other e = refl
only_other Ancestor e = absurd (true≢false (sym e))

pub low_zero : (hs : List Hunk) → Low 0 hs
low_zero [] = tt
low_zero (h ∷ hs) = (omega arith, low_zero hs)

reads : (f : Side → Bool) (side : Side) → ((t : Side) → f t ≡ true → t ≡ side) → (s : Sheets) (b : Side → ℕ) (hs : List Hunk) → Woven b hs → text f s 0 (clusters hs) ≡ put_in s 0 (filter (stays f hs) hs)
reads f side only s b hs w =
    text_put f side only s b (clusters hs) 0 (subst (Woven b) (sym (parted hs)) w) (cut b hs w) (low_zero (all_members (clusters hs)))
    ∙ ap (put_in s 0) (sym (all_chosen_kept f hs (clusters hs) (tied b hs w)) ∙ ap (filter (stays f hs)) (parted hs))

pub ours_put_in : (s : Sheets) (cs os : List Hunk) → Kept s cs os → text is_current s 0 (clusters (walk cs os)) ≡ put_in s 0 (walk cs (lone_ones cs os))
ours_put_in s cs os held =
    let rc : Run Current 0 cs = runs Current (length s.ancestor) (length s.current) 0 0 cs held.current in
    let ro : Run Other 0 os = runs Other (length s.ancestor) (length s.other) 0 0 os held.other in
    reads is_current Current only_current s (λ _. 0) (walk cs os) (walk_woven cs os 0 0 (λ _. 0) rc ro (omega arith) (omega arith)) ∙ ap (put_in s 0) (ours_stay cs os 0 0 rc ro)

pub theirs_put_in : (s : Sheets) (cs os : List Hunk) → Kept s cs os → text is_other s 0 (clusters (walk cs os)) ≡ put_in s 0 (walk (lone_ones os cs) os)
theirs_put_in s cs os held =
    let rc : Run Current 0 cs = runs Current (length s.ancestor) (length s.current) 0 0 cs held.current in
    let ro : Run Other 0 os = runs Other (length s.ancestor) (length s.other) 0 0 os held.other in
    reads is_other Other only_other s (λ _. 0) (walk cs os) (walk_woven cs os 0 0 (λ _. 0) rc ro (omega arith) (omega arith)) ∙ ap (put_in s 0) (theirs_stay cs os 0 0 rc ro)
