-- The hunks that a table keeps lie within their sheets, and so do the sides of every cluster of the walk.
use Rattle.std.proofs.Common.{◌≡◌, ℕ, suc, ◌-◌, ◌≤◌, Bool, true, false, cond, ltb, leb, List, [], ◌∷◌, length, sym, subst, arith, length-drop, length-take}
use Rattle.std.specs.List.{AllByRecursion}
use Rattle.std.proofs.ByRecursion.{All-append, All-push, All-weaker, all_kept_by}
use Rattle.rules.specs.declared.hunk.Hunk.{Hunk}
use Rattle.rules.specs.declared.hunk.Side.TheVariants.{Current, Other, Ancestor}
use Rattle.rules.specs.Lines.{Line, between}
use Rattle.rules.specs.Hunks.{Sheets, touches_any}
use Rattle.rules.specs.Walk.{walk, walk_from, currents, others, is_current, is_other}
use Rattle.rules.specs.Groups.{Cluster, members, joined, clusters, clusters_from, last_end, from, to}
use Rattle.rules.specs.Filling.{stretch, filled, ours_of, theirs_of}
use Rattle.rules.specs.Order.{InOrder, Kept}
use Rattle.rules.proofs.Cuts.{Whole}
use Rattle.rules.proofs.Woven.{Sided}

pub between_length : (ls : List Line) (a b : ℕ) → b ≤ length ls → length (between ls a b) ≡ b - a
between_length ls a b h = rw (length-take, length-drop) (omega arith)

-- what is used of a hunk kept
pub record Held (s : Sheets) (h : Hunk) : Type 0 where
  pub starts : h.before.start ≤ length s.ancestor
  pub ends : h.before.end ≤ length s.ancestor
  pub whole : Whole s h
  pub sided : Sided h.side

module _ (s : Sheets) where
  current_whole : (h : Hunk) → h.side ≡ Current → h.after.end ≤ length s.current → Whole s h
  current_whole h e le = rw e (between_length s.current h.after.start h.after.end le)

  other_whole : (h : Hunk) → h.side ≡ Other → h.after.end ≤ length s.other → Whole s h
  other_whole h e le = rw e (between_length s.other h.after.start h.after.end le)

  currents_held : (b a : ℕ) (hs : List Hunk) → InOrder Current (length s.ancestor) (length s.current) b a hs → AllByRecursion (Held s) hs
  currents_held b a [] p = tt
  currents_held b a (h ∷ hs) p =
      (record { starts = omega arith; ends = p.3; whole = current_whole h p.0 p.6; sided = subst Sided (sym p.0) tt }, currents_held (suc h.before.end) h.after.end hs p.7)

  others_held : (b a : ℕ) (hs : List Hunk) → InOrder Other (length s.ancestor) (length s.other) b a hs → AllByRecursion (Held s) hs
  others_held b a [] p = tt
  others_held b a (h ∷ hs) p =
      (record { starts = omega arith; ends = p.3; whole = other_whole h p.0 p.6; sided = subst Sided (sym p.0) tt }, others_held (suc h.before.end) h.after.end hs p.7)

-- what holds of each hunk holds of each in the walk, and of each member of a cluster
module _ (P : Hunk → Type 0) where
  all_either : (b : Bool) (x y : List Hunk) → AllByRecursion P x → AllByRecursion P y → AllByRecursion P (cond b x y)
  all_either true x y p q = p
  all_either false x y p q = q

  walk_from_all : (c : Hunk) (rest : List Hunk → List Hunk) → P c → ((os : List Hunk) → AllByRecursion P os → AllByRecursion P (rest os)) → (os : List Hunk) → AllByRecursion P os → AllByRecursion P (walk_from c rest os)
  walk_from_all c rest pc pr [] po = (pc, pr [] tt)
  walk_from_all c rest pc pr (o ∷ os) po =
      all_either (leb c.before.start o.before.start) (c ∷ rest (o ∷ os)) (o ∷ walk_from c rest os) (pc, pr (o ∷ os) po) (po.0, walk_from_all c rest pc pr os po.1)

  pub walk_all : (cs os : List Hunk) → AllByRecursion P cs → AllByRecursion P os → AllByRecursion P (walk cs os)
  walk_all [] os pc po = po
  walk_all (c ∷ cs) os pc po = walk_from_all c (walk cs) pc.0 (λ os p. walk_all cs os pc.1 p) os po

  abbrev pub AllMembers : List Cluster → Type 0
  AllMembers ks = AllByRecursion (λ (k : Cluster). AllByRecursion P (members k)) ks

  clusters_either : (b : Bool) (x y : List Cluster) → AllMembers x → AllMembers y → AllMembers (cond b x y)
  clusters_either true x y p q = p
  clusters_either false x y p q = q

  clusters_from_all : (k : Cluster) (hs : List Hunk) → AllByRecursion P (members k) → AllByRecursion P hs → AllMembers (clusters_from k hs)
  clusters_from_all k [] pk ph = (pk, tt)
  clusters_from_all k (h ∷ hs) pk ph =
      let one : Cluster = record { first = h; more = [] } in
      clusters_either (touches_any h (members k)) (clusters_from (joined k h) hs) (k ∷ clusters_from one hs)
      (clusters_from_all (joined k h) hs (All-push P (members k) h pk ph.0) ph.1)
      (pk, clusters_from_all one hs (ph.0, tt) ph.1)

  pub clusters_all : (hs : List Hunk) → AllByRecursion P hs → AllMembers (clusters hs)
  clusters_all [] p = tt
  clusters_all (h ∷ hs) p = clusters_from_all (record { first = h; more = [] }) hs (p.0, tt) p.1

-- the sides of a cluster
pub record Fit (s : Sheets) (k : Cluster) : Type 0 where
  pub ours : AllByRecursion (Whole s) (ours_of k)
  pub theirs : AllByRecursion (Whole s) (theirs_of k)
  pub lead : Sided k.first.side

module _ (s : Sheets) where
  stretch_whole : (a b : ℕ) → b ≤ length s.ancestor → AllByRecursion (Whole s) (stretch a b)
  stretch_whole a b h =
      all_either (Whole s) (ltb a b) (record { before = record { start = a; end = b }; after = record { start = a; end = b }; side = Ancestor } ∷ []) []
      (between_length s.ancestor a b h, tt) tt

  filled_whole : (a b : ℕ) (hs : List Hunk) → b ≤ length s.ancestor → AllByRecursion (Held s) hs → AllByRecursion (Whole s) (filled a b hs)
  filled_whole a b [] le p = stretch_whole a b le
  filled_whole a b (h ∷ hs) le p =
      All-append (Whole s) (stretch a h.before.start) (h ∷ filled h.before.end b hs) (stretch_whole a h.before.start p.0.starts) (p.0.whole, filled_whole h.before.end b hs le p.1)

  last_end_le : (hs : List Hunk) → AllByRecursion (Held s) hs → last_end hs ≤ length s.ancestor
  last_end_le [] p = omega arith
  last_end_le (h ∷ hs) p = let r = last_end_le hs p.1 in let e = p.0.ends in omega arith

  fit : (k : Cluster) → AllByRecursion (Held s) (members k) → Fit s k
  fit k p =
      let le = last_end_le (members k) p in
      record {
        ours = filled_whole (from k) (to k) (currents (members k)) le (all_kept_by (λ h. is_current h.side) (Held s) (members k) p);
        theirs = filled_whole (from k) (to k) (others (members k)) le (all_kept_by (λ h. is_other h.side) (Held s) (members k) p);
        lead = p.0.sided;
      }

  pub kept_fit : (cs os : List Hunk) → Kept s cs os → AllByRecursion (Fit s) (clusters (walk cs os))
  kept_fit cs os p =
      let c = currents_held s 0 0 cs p.current in
      let o = others_held s 0 0 os p.other in
      All-weaker (λ (k : Cluster). AllByRecursion (Held s) (members k)) (Fit s) fit (clusters (walk cs os)) (clusters_all (Held s) (walk cs os) (walk_all (Held s) cs os c o))
