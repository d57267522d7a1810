-- A turn of the loop over the clusters: the ancestor's lines ahead of the next cluster, the cluster, and what is left.
use Rattle.std.proofs.Common.{◌≡◌, ℕ, ◌+◌, ◌<◌, ◌≤◌, Bool, true, false, cond, ◌&&◌, ◌||◌, List, [], ◌∷◌, ◌++◌, length, take, drop, sym, refl, ap, ◌∙◌, subst, ap₂, arith}
use Rattle.std.specs.List.{AllByRecursion}
use Rattle.std.proofs.lemmas.List.{append-nil, take_rest, length-drop}
use Rattle.rules.specs.declared.hunk.Side.{Side}
use Rattle.rules.specs.declared.hunk.Side.TheVariants.{Current, Other, Ancestor}
use Rattle.rules.specs.declared.hunk.Hunk.{Hunk}
use Rattle.rules.specs.declared.mode.Conflict as modes
use Rattle.rules.specs.Contraction.{Readable}
use Rattle.rules.specs.Groups.{Cluster, clusters, members, is_group}
use Rattle.rules.specs.Hunks.{Sheets, hunk_lines, side_lines}
use Rattle.rules.specs.Limits.{max_hunks}
use Rattle.rules.specs.Lines.{between}
use Rattle.rules.specs.Markers.{Labels}
use Rattle.rules.specs.Order.{Kept}
use Rattle.rules.specs.Pieces.{common}
use Rattle.rules.specs.Rendering.{cluster_steps, steps_from}
use Rattle.rules.specs.Steps.{Step, each}
use Rattle.rules.specs.Verdict.{marks, any_marked}
use Rattle.rules.specs.Walk.{walk, is_current, is_other, currents, others}
use Rattle.rules.proofs.Woven.{Sided}
use Rattle.groups.specs.declared.next.NextCluster.{NextCluster}
use Rattle.groups.specs.Telling.{Next, told}
use Rattle.groups.proofs.Clustered.{members_sided}
use Rattle.groups.proofs.Leaving.{kept_take, kept_drop}
use Rattle.groups.proofs.Ready.{Ready, ready, few_taken, order_readable}
use Rattle.writing.proofs.Grouping.{groups_told}
use Rattle.sink.specs.declared.sink.Sink.{Ghosts}
use Rattle.writing.specs.declared.pen.Pen.{Pen}
use Rattle.writing.specs.States.{HasRoom, Wrote}
use Rattle.writing.proofs.Steps.{Parts, UnderWay, part_room, part_done}
use Rattle.rendering.specs.declared.walk.Turn.{Turn}
use Rattle.rendering.specs.declared.walk.Walk.{Walk}
use Rattle.rendering.specs.Turning.{Turned, TurnOf, turn_steps, turn_marked}
use Rattle.rendering.specs.Whole.{side_in, next_steps, next_marked}

-- a lone hunk's lines are those of the hunks taken of the two sides
one_lines : (s : Sheets) (h : Hunk) (sd : Side) → h.side ≡ sd → Sided sd
    → each common (side_lines s (currents (h ∷ []))) ++ each common (side_lines s (others (h ∷ []))) ≡ each common (hunk_lines s h)
one_lines s h Current e p =
    ap (λ (v : Side). each common (side_lines s (cond (is_current v) (h ∷ []) [])) ++ each common (side_lines s (cond (is_other v) (h ∷ []) []))) e ∙
    append-nil (each common (hunk_lines s h ++ [])) ∙ ap (each common) (append-nil (hunk_lines s h))
one_lines s h Other e p =
    ap (λ (v : Side). each common (side_lines s (cond (is_current v) (h ∷ []) [])) ++ each common (side_lines s (cond (is_other v) (h ∷ []) []))) e ∙
    ap (each common) (append-nil (hunk_lines s h))
one_lines s h Ancestor e p = absurd p

-- what is told of a cluster says what is written of it
told_steps : (m : modes.Conflict) (s : Sheets) (l : Labels) (since : ℕ) (f : Hunk) (hs : List Hunk) → Sided f.side
    → next_steps m s l since (told (record { first = f; more = hs })) (currents (f ∷ hs)) (others (f ∷ hs)) ≡ cluster_steps m s l since (record { first = f; more = hs })
told_steps m s l since f [] p = one_lines s f f.side refl p
told_steps m s l since f (h ∷ hs) p = (groups_told m s l since (record { first = f; more = h ∷ hs })).steps

-- and whether it is marked
told_marked : (m : modes.Conflict) (s : Sheets) (l : Labels) (f : Hunk) (hs : List Hunk)
    → next_marked m s (told (record { first = f; more = hs })) (currents (f ∷ hs)) (others (f ∷ hs)) ≡ is_group (record { first = f; more = hs }) && marks m s (record { first = f; more = hs })
told_marked m s l f [] = refl
told_marked m s l f (h ∷ hs) = (groups_told m s l 0 (record { first = f; more = h ∷ hs })).marked

-- What a turn needs and leaves.
pub record OneTurn (m : modes.Conflict) (s : Sheets) (l : Labels) (since : ℕ) (cs os : List Hunk) (x : NextCluster) : Type 0 where
  pub start : x.range.start ≤ length s.ancestor
  pub within : x.range.end ≤ length s.ancestor
  pub few_ours : length (take x.current cs) ≤ max_hunks
  pub few_theirs : length (take x.other os) ≤ max_hunks
  pub ours : AllByRecursion (Readable s) (take x.current cs)
  pub ours_in : AllByRecursion (Readable s) (side_in x (take x.current cs))
  pub theirs : AllByRecursion (Readable s) (take x.other os)
  pub theirs_in : AllByRecursion (Readable s) (side_in x (take x.other os))
  pub ahead : Parts (steps_from m s l since (clusters (walk cs os))) (each common (between s.ancestor since x.range.start)) (next_steps m s l since x (take x.current cs) (take x.other os) ++ steps_from m s l x.range.end (clusters (walk (drop x.current cs) (drop x.other os))))
  pub next : Parts (next_steps m s l since x (take x.current cs) (take x.other os) ++ steps_from m s l x.range.end (clusters (walk (drop x.current cs) (drop x.other os)))) (next_steps m s l since x (take x.current cs) (take x.other os)) (steps_from m s l x.range.end (clusters (walk (drop x.current cs) (drop x.other os))))
  pub marked : any_marked m s (clusters (walk cs os)) ≡ next_marked m s x (take x.current cs) (take x.other os) || any_marked m s (clusters (walk (drop x.current cs) (drop x.other os)))
  pub kept : Kept s (drop x.current cs) (drop x.other os)
  pub few_current : length (drop x.current cs) ≤ max_hunks
  pub few_other : length (drop x.other os) ≤ max_hunks
  pub fewer : length (drop x.current cs) + length (drop x.other os) < length cs + length os

pub turn : (m : modes.Conflict) (s : Sheets) (l : Labels) (since : ℕ) (cs os : List Hunk) → Kept s cs os → length cs ≤ max_hunks → length os ≤ max_hunks → (x : NextCluster) → Next cs os x → OneTurn m s l since cs os x
turn m s l since cs os kept few_cs few_os x n = record {
  start = (let a = r.forward in let b = r.within in omega arith);
  within = r.within;
  few_ours = few_taken x.current cs n.takes.our_bound few_cs;
  few_theirs = few_taken x.other os n.takes.their_bound few_os;
  ours = order_readable s Current 0 0 (take x.current cs) t.current;
  ours_in = subst (AllByRecursion (Readable s)) (sym r.ours) r.ours_readable;
  theirs = order_readable s Other 0 0 (take x.other os) t.other;
  theirs_in = subst (AllByRecursion (Readable s)) (sym r.theirs) r.theirs_readable;
  ahead = record {
    is =
        ap (steps_from m s l since) n.takes.walked ∙
        ap₂ (λ (a b : ℕ). each common (between s.ancestor since a) ++ (cluster_steps m s l since k ++ steps_from m s l b rest)) (sym r.starts) (sym r.ends) ∙
        ap (λ (v : List Step). each common (between s.ancestor since x.range.start) ++ (v ++ steps_from m s l x.range.end rest)) (sym is_steps);
  };
  next = record { is = refl };
  marked = ap (any_marked m s) n.takes.walked ∙ ap (λ (v : Bool). v || any_marked m s rest) (sym is_marked);
  kept = kept_drop s cs os x.current x.other kept;
  few_current = omega (arith, length-drop x.current cs);
  few_other = omega (arith, length-drop x.other os);
  fewer = omega (arith, length-drop x.current cs, length-drop x.other os, n.takes.some, n.takes.our_bound, n.takes.their_bound);
}
  where
    k : Cluster
    k = n.takes.cluster

    r : Ready s cs os x k
    r = ready s cs os kept few_cs few_os x n

    t : Kept s (take x.current cs) (take x.other os)
    t = kept_take s cs os x.current x.other kept

    rest : List Cluster
    rest = clusters (walk (drop x.current cs) (drop x.other os))

    is_steps : next_steps m s l since x (take x.current cs) (take x.other os) ≡ cluster_steps m s l since k
    is_steps =
        ap₂ (next_steps m s l since x) (sym n.takes.ours) (sym n.takes.theirs) ∙
        ap (λ (y : NextCluster). next_steps m s l since y (currents (members k)) (others (members k))) n.tells ∙
        told_steps m s l since k.first k.more (members_sided cs os (s, kept) x.current x.other n.takes).0

    is_marked : next_marked m s x (take x.current cs) (take x.other os) ≡ is_group k && marks m s k
    is_marked =
        ap₂ (next_marked m s x) (sym n.takes.ours) (sym n.takes.theirs) ∙
        ap (λ (y : NextCluster). next_marked m s y (currents (members k)) (others (members k))) n.tells ∙
        told_marked m s l k.first k.more

-- Where no cluster is left, the rest of the ancestor follows.
pub last_steps : (m : modes.Conflict) (s : Sheets) (l : Labels) (since n : ℕ) (ks : List Cluster) → ks ≡ [] → n ≡ length s.ancestor
    → steps_from m s l since ks ≡ each common (between s.ancestor since n)
last_steps m s l since n ks e c =
    ap (steps_from m s l since) e ∙ ap (each common) (sym (take_rest s.ancestor since)) ∙ ap (λ (v : ℕ). each common (between s.ancestor since v)) (sym c)

-- What is left to write and to mark, at some place of the walk.
abbrev pub steps_of : modes.Conflict → Sheets → Labels → Walk → List Step
steps_of m s l w = steps_from m s l w.since (clusters (walk w.current.now w.other.now))

abbrev pub marked_of : modes.Conflict → Sheets → Walk → Bool
marked_of m s w = any_marked m s (clusters (walk w.current.now w.other.now))

-- What a turn needs and leaves.
pub record Taking (m : modes.Conflict) (s : Sheets) (l : Labels) (before later : Walk) (turn : Turn) : Type 0 where
  pub start : turn.cluster.range.start ≤ length s.ancestor
  pub its_sheets : TurnOf s turn
  pub ahead : Parts (steps_of m s l before) (each common (between s.ancestor turn.since turn.cluster.range.start)) (turn_steps m s l turn ++ steps_of m s l later)
  pub next : Parts (turn_steps m s l turn ++ steps_of m s l later) (turn_steps m s l turn) (steps_of m s l later)
  pub marked : marked_of m s before ≡ turn_marked m s turn || marked_of m s later
  pub kept : Kept s later.current.now later.other.now
  pub few : (length later.current.now ≤ max_hunks) × (length later.other.now ≤ max_hunks)
  pub fewer : length later.current.now + length later.other.now < length before.current.now + length before.other.now

pub taking : (m : modes.Conflict) (s : Sheets) (l : Labels) (before later : Walk) (taken : Turn) → Kept s before.current.now before.other.now
    → (length before.current.now ≤ max_hunks) × (length before.other.now ≤ max_hunks) → Turned before later taken → Taking m s l before later taken
taking m s l before later taken kept few e =
    let t = turn m s l before.since before.current.now before.other.now kept few.0 few.1 taken.cluster e.next in
    record {
      start = t.start;
      its_sheets = record {
        within = t.within;
        few = rw (e.current, e.other) (t.few_ours, t.few_theirs);
        ours = rw e.current (t.ours, t.ours_in);
        theirs = rw e.other (t.theirs, t.theirs_in);
      };
      ahead = rw (e.since, e.current, e.other, e.later_since, e.later_current, e.later_other) t.ahead;
      next = record { is = refl };
      marked = rw (e.current, e.other, e.later_current, e.later_other) t.marked;
      kept = rw (e.later_current, e.later_other) t.kept;
      few = rw (e.later_current, e.later_other) (t.few_current, t.few_other);
      fewer = rw (e.later_current, e.later_other) t.fewer;
    }

-- Where the loop over the turns stands: the hunks left are such as a table holds, writing what is left writes the whole, and a group is marked so
-- far, or one of those left, exactly where one is at all.
pub record Midway {S : Type 0} (k : Ghosts S) (m : modes.Conflict) (s : Sheets) (l : Labels) (all : List Step) (any : Bool) (first pen : Pen S) (left : Walk) (marked : Bool) : Type 0 where
  pub kept : Kept s left.current.now left.other.now
  pub few : (length left.current.now ≤ max_hunks) × (length left.other.now ≤ max_hunks)
  pub writing : UnderWay k first all pen (steps_of m s l left)
  pub marking : (marked || marked_of m s left) ≡ any

or_assoc : (a b c : Bool) → ((a || b) || c) ≡ (a || (b || c))
or_assoc true b c = refl
or_assoc false b c = refl

or_false : (a : Bool) → (a || false) ≡ a
or_false true = refl
or_false false = refl

module _ {S : Type 0} (k : Ghosts S) (m : modes.Conflict) (s : Sheets) (l : Labels) (all : List Step) (any : Bool) (first pen : Pen S) (left : Walk) (marked : Bool) (g : Midway k m s l all any first pen left marked) where
  -- One turn more.
  module _ (later : Walk) (turn : Turn) (e : Turned left later turn) where
    pub taken : Taking m s l left later turn
    taken = taking m s l left later turn g.kept g.few e

    pub ahead_room : HasRoom k pen (each common (between s.ancestor turn.since turn.cluster.range.start))
    ahead_room = part_room g.writing taken.ahead

    module _ (still : Pen S) (w : Wrote k pen still (each common (between s.ancestor turn.since turn.cluster.range.start))) where
      pub turn_room : HasRoom k still (turn_steps m s l turn)
      turn_room = part_room (part_done g.writing taken.ahead w) taken.next

      pub onward : (then : Pen S) (found : Bool) → Wrote k still then (turn_steps m s l turn) → found ≡ turn_marked m s turn → Midway k m s l all any first then later (marked || found)
      onward then found v f = record {
        kept = taken.kept;
        few = taken.few;
        writing = part_done (part_done g.writing taken.ahead w) taken.next v;
        marking = or_assoc marked found (marked_of m s later) ∙ ap (λ (b : Bool). marked || (b || marked_of m s later)) f ∙ ap (λ (b : Bool). marked || b) (sym taken.marked) ∙ g.marking;
      }

  -- No cluster is left.
  module _ (e : clusters (walk left.current.now left.other.now) ≡ []) (n : ℕ) (c : n ≡ length s.ancestor) where
    last : steps_of m s l left ≡ each common (between s.ancestor left.since n)
    last = last_steps m s l left.since n _ e c

    pub last_room : HasRoom k pen (each common (between s.ancestor left.since n))
    last_room = subst (HasRoom k pen) last g.writing.room

    pub all_written : (end : Pen S) → Wrote k pen end (each common (between s.ancestor left.since n)) → Wrote k first end all
    all_written end w = g.writing.whole end (subst (Wrote k pen end) (sym last) w)

    pub all_marked : marked ≡ any
    all_marked = sym (or_false marked) ∙ ap (λ (ks : List Cluster). marked || any_marked m s ks) (sym e) ∙ g.marking
