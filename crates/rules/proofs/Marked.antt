-- Markers begin lines, and endings close open ones.
use Rattle.std.proofs.Common.{◌≡◌, ℕ, Bool, true, false, cond, not, ◌&&◌, eqb, List, [], ◌∷◌, ◌++◌, length, get_or, drop, replicate, Some, None, Option, sym, refl, ap, ◌∙◌, subst, subst₂, append_assoc, append-nil, arith, length-append}
use lib.Seq.{get_or_at}
use Rattle.std.specs.List.{AllByRecursion}
use Rattle.std.proofs.ByRecursion.{All-append}
use Rattle.std.proofs.lemmas.Bool.{true≢false, false≢true, cond_both, not-true, eqb-false, ne_eqb}
use Rattle.rules.specs.declared.ending.Ending.{Ending}
use Rattle.rules.specs.declared.ending.Ending.TheVariants.{Newline, ReturnNewline}
use Rattle.rules.specs.declared.hunk.Hunk.{Hunk}
use Rattle.rules.specs.declared.mode.Conflict as modes
use Rattle.rules.specs.declared.mode.Conflict.TheVariants.{Keep, ResolveWithOurs, ResolveWithTheirs, ResolveWithUnion}
use Rattle.rules.specs.declared.mode.ConflictStyle.{ConflictStyle}
use Rattle.rules.specs.declared.mode.ConflictStyle.TheVariants.{Merge, Diff3, ZealousDiff3}
use Rattle.rules.specs.Lines.{Line, between}
use Rattle.rules.specs.Hunks.{Sheets, hunk_lines, side_lines}
use Rattle.rules.specs.Walk.{walk}
use Rattle.rules.specs.Groups.{Cluster, clusters, from, to, is_group}
use Rattle.rules.specs.Filling.{stretch, ours_of, theirs_of, sides_differ, base_lines}
use Rattle.rules.specs.Sides.{Sides, contracted_sides, sides_in, line_left, with_base}
use Rattle.rules.specs.Endings.{ending_bytes, ending_of, or_newline, or_else}
use Rattle.rules.specs.Pieces.{Kind, common, ours, base, theirs, marker, ending, Chunk, all_bytes}
use Rattle.rules.specs.Steps.{Step, put, close, each, left_open, pieces_of}
use Rattle.rules.specs.Markers.{Labels, marker_steps}
use Rattle.rules.specs.Blocks.{blocked, before_block, base_steps, block_steps, agreed_steps, keep_steps, marker_ending, base_ending}
use Rattle.rules.specs.Unions.{back_close, union_steps}
use Rattle.rules.specs.Rendering.{group_steps, cluster_steps, steps_from, rendering}
use Rattle.rules.specs.Order.{Kept}
use Rattle.rules.specs.MarkerLaws.{Mark, less, bar, equals, greater, mark_byte, mark_label, piece, label_pieces, closed, Place, out, in_ours, in_base, in_theirs, Moves, opens, bases, splits, splits_base, ends, Form, end, common_line, ours_line, base_line, theirs_line, mark, first_shown, ahead_shown, block_shown, base_shown, block_endings, marker_endings, OpenLine, Closes, is_marker, Unmarked, MarkerLaws}
use Rattle.rules.proofs.Fits.{Fit, kept_fit}
use Rattle.rules.proofs.Verdicts.{blocked_is}

-- a list of steps that leads from one place to another, with the endings of its markers
module _ (st : ConflictStyle) (n : ℕ) (l : Labels) where
  abbrev Good : List Ending → Place → List Step → Place → Type 0
  Good es p ss q = (rest : List Step) (fs : List Ending) → ((o : Bool) → Form st n l fs q o (pieces_of o rest)) → (o : Bool) → Form st n l (es ++ fs) p o (pieces_of o (ss ++ rest))

  good_on : (es fs : List Ending) (p q r : Place) (a b : List Step) → Good es p a q → Good fs q b r → Good (es ++ fs) p (a ++ b) r
  good_on es fs p q r a b f g rest gs k o =
      subst₂ (λ (xs : List Ending) (ss : List Step). Form st n l xs p o (pieces_of o ss)) (sym (append_assoc es fs gs)) (sym (append_assoc a b rest)) (f (b ++ rest) (fs ++ gs) (g rest gs k) o)

  good_either : (es fs : List Ending) (p q : Place) (b : Bool) (x y : List Step) → Good es p x q → Good fs p y q → Good (cond b es fs) p (cond b x y) q
  good_either es fs p q true x y f g = f
  good_either es fs p q false x y f g = g

  commons : (ls : List Line) → Good [] out (each common ls) out
  commons [] rest fs k o = k o
  commons (x ∷ xs) rest fs k o = common_line x (commons xs rest fs k (left_open o x))

  ours_good : (e : Ending) (ls : List Line) → Good [] (in_ours e) (each ours ls) (in_ours e)
  ours_good e [] rest fs k o = k o
  ours_good e (x ∷ xs) rest fs k o = ours_line x (ours_good e xs rest fs k (left_open o x))

  base_good : (e : Ending) (ls : List Line) → Good [] (in_base e) (each base ls) (in_base e)
  base_good e [] rest fs k o = k o
  base_good e (x ∷ xs) rest fs k o = base_line x (base_good e xs rest fs k (left_open o x))

  theirs_good : (e : Ending) (ls : List Line) → Good [] (in_theirs e) (each theirs ls) (in_theirs e)
  theirs_good e [] rest fs k o = k o
  theirs_good e (x ∷ xs) rest fs k o = theirs_line x (theirs_good e xs rest fs k (left_open o x))

  marked : (o : Bool) (c : ℕ) (label : Option (List ℕ)) (e : Ending) (rest : List Step)
      → pieces_of o (marker_steps c n label e ++ rest) ≡ closed o e ++ ((piece marker (replicate n c) ∷ (label_pieces label ++ (piece marker (ending_bytes e) ∷ []))) ++ pieces_of false rest)
  marked true c None Newline rest = refl
  marked true c None ReturnNewline rest = refl
  marked true c (Some x) Newline rest = refl
  marked true c (Some x) ReturnNewline rest = refl
  marked false c None Newline rest = refl
  marked false c None ReturnNewline rest = refl
  marked false c (Some x) Newline rest = refl
  marked false c (Some x) ReturnNewline rest = refl

  mark_good : (p q : Place) (m : Mark) (e : Ending) → Moves st p m e q → Good (e ∷ []) p (marker_steps (mark_byte m) n (mark_label l m) e) q
  mark_good p q m e v rest fs k o = subst (Form st n l (e ∷ fs) p o) (sym (marked o (mark_byte m) (mark_label l m) e rest)) (mark m e v (k false))

-- the endings as they are written
pub one_shown : (x : Option Ending) → or_newline x ≡ first_shown (x ∷ [])
one_shown None = refl
one_shown (Some e) = refl

two_shown : (x y : Option Ending) → or_newline (or_else x y) ≡ first_shown (x ∷ (y ∷ []))
two_shown None None = refl
two_shown None (Some f) = refl
two_shown (Some e) y = refl

ahead_is : (s : Sheets) (since : ℕ) (k : Cluster) (hs : List Hunk) → before_block s since (from k) hs ≡ ahead_shown s since k hs
ahead_is s since k [] = refl
ahead_is s since k (h ∷ hs) = refl

module _ (n : ℕ) (l : Labels) (s : Sheets) (k : Cluster) (e : Ending) where
  abbrev based_steps : Ending → List Step
  based_steps nb = marker_steps 124 n l.ancestor nb ++ each base (base_lines s k)

  based_good : (st : ConflictStyle) → with_base st ≡ true → (f : Ending) → Good st n l (f ∷ (e ∷ [])) (in_ours e) (based_steps f ++ marker_steps 61 n None e) (in_theirs e)
  based_good st w f =
      good_on st n l (f ∷ []) (e ∷ []) (in_ours e) (in_base e) (in_theirs e) (based_steps f) (marker_steps 61 n None e)
      (good_on st n l (f ∷ []) [] (in_ours e) (in_base e) (in_base e) (marker_steps 124 n l.ancestor f) (each base (base_lines s k)) (mark_good st n l (in_ours e) (in_base e) bar f (bases w)) (base_good st n l e (base_lines s k)))
      (mark_good st n l (in_base e) (in_theirs e) equals e splits_base)

  based : (st : ConflictStyle) → with_base st ≡ true → Good st n l (base_shown s k ∷ (e ∷ [])) (in_ours e) (based_steps (or_newline (ending_of s (stretch (from k) (to k)))) ++ marker_steps 61 n None e) (in_theirs e)
  based st w = subst (λ (nb : Ending). Good st n l (base_shown s k ∷ (e ∷ [])) (in_ours e) (based_steps nb ++ marker_steps 61 n None e) (in_theirs e)) (sym (one_shown (ending_of s (stretch (from k) (to k))))) (based_good st w (base_shown s k))

  middle_good : (st : ConflictStyle) → Good st n l (cond (with_base st) (base_shown s k ∷ []) [] ++ (e ∷ [])) (in_ours e) (base_steps st s n l.ancestor (from k) (to k) ++ marker_steps 61 n None e) (in_theirs e)
  middle_good Merge = mark_good Merge n l (in_ours e) (in_theirs e) equals e (splits refl)
  middle_good Diff3 = based Diff3 refl
  middle_good ZealousDiff3 = based ZealousDiff3 refl

module _ (st : ConflictStyle) (n : ℕ) (l : Labels) (s : Sheets) where
  block_by : (k : Cluster) (d : Sides) (e : Ending) → Good st n l (block_endings st e (base_shown s k)) out (block_steps st s n l e (from k) (to k) d.left d.right) out
  block_by k d e =
      let m60 = marker_steps 60 n l.current e in
      let m61 = marker_steps 61 n None e in
      let m62 = marker_steps 62 n l.other e in
      let eo = each ours (side_lines s d.left) in
      let et = each theirs (side_lines s d.right) in
      let bs = base_steps st s n l.ancestor (from k) (to k) in
      let fs : List Ending = cond (with_base st) (base_shown s k ∷ []) [] in
      let es : List Ending = (fs ++ (e ∷ [])) ++ (e ∷ []) in
      let steps = eo ++ (bs ++ (m61 ++ (et ++ m62))) in
      let all : Good st n l (e ∷ es) out (m60 ++ steps) out =
      good_on st n l (e ∷ []) es out (in_ours e) out m60 steps (mark_good st n l out (in_ours e) less e opens)
      (good_on st n l [] es (in_ours e) (in_ours e) out eo (bs ++ (m61 ++ (et ++ m62))) (ours_good st n l e (side_lines s d.left))
      (subst (λ (ss : List Step). Good st n l es (in_ours e) ss out) (append_assoc bs m61 (et ++ m62))
      (good_on st n l (fs ++ (e ∷ [])) (e ∷ []) (in_ours e) (in_theirs e) out (bs ++ m61) (et ++ m62) (middle_good n l s k e st)
      (good_on st n l [] (e ∷ []) (in_theirs e) (in_theirs e) out et m62 (theirs_good st n l e (side_lines s d.right)) (mark_good st n l (in_theirs e) out greater e ends))))) in
      subst (λ (gs : List Ending). Good st n l (e ∷ gs) out (m60 ++ steps) out) (append_assoc fs (e ∷ []) (e ∷ [])) all

  agreed_good : (d : Sides) → Good st n l [] out (agreed_steps st s d.left) out
  agreed_good d = go st
    where
      go : (st' : ConflictStyle) → Good st n l [] out (agreed_steps st' s d.left) out
      go Merge rest fs k o = k o
      go Diff3 rest fs k o = commons st n l (side_lines s d.left) rest fs k o
      go ZealousDiff3 rest fs k o = k o

  keep_good : (since : ℕ) (k : Cluster) → Fit s k → Good st n l (cond (sides_differ s k) (block_endings st (block_shown st s since k) (base_shown s k)) []) out (keep_steps st s n l since (from k) (to k) (sides_in st s k)) out
  keep_good since k fit =
      let d = sides_in st s k in
      let e = block_shown st s since k in
      let es = block_endings st e (base_shown s k) in
      let nl = marker_ending s since (from k) d.front d.left in
      let w : nl ≡ e = ap (λ (x : Option Ending). or_newline (or_else x (ending_of s d.left))) (ahead_is s since k d.front) ∙ two_shown (ahead_shown s since k d.front) (ending_of s d.left) in
      let blk = block_steps st s n l nl (from k) (to k) d.left d.right in
      let agr = agreed_steps st s d.left in
      let mid = cond (blocked st s d.left d.right) blk agr in
      let eb = each common (side_lines s d.back) in
      let blk_good : Good st n l es out blk out = subst (λ (x : Ending). Good st n l es out (block_steps st s n l x (from k) (to k) d.left d.right) out) (sym w) (block_by k d e) in
      let mid_good : Good st n l (cond (blocked st s d.left d.right) es []) out mid out = good_either st n l es [] out out (blocked st s d.left d.right) blk agr blk_good (agreed_good d) in
      let mid_differ : Good st n l (cond (sides_differ s k) es []) out mid out = subst (λ (b : Bool). Good st n l (cond b es []) out mid out) (blocked_is st s k fit) mid_good in
      let tail : Good st n l (cond (sides_differ s k) es [] ++ []) out (mid ++ eb) out = good_on st n l (cond (sides_differ s k) es []) [] out out out mid eb mid_differ (commons st n l (side_lines s d.back)) in
      good_on st n l [] (cond (sides_differ s k) es []) out out out (each common (side_lines s d.front)) (mid ++ eb) (commons st n l (side_lines s d.front))
      (subst (λ (xs : List Ending). Good st n l xs out (mid ++ eb) out) (append-nil (cond (sides_differ s k) es [])) tail)

  both : (g b : Bool) (es : List Ending) → cond g (cond b es []) [] ≡ cond (g && b) es []
  both true b es = refl
  both false b es = refl

  steps_good : (since : ℕ) (ks : List Cluster) → AllByRecursion (Fit s) ks → Good st n l (marker_endings st s since ks) out (steps_from (Keep st n) s l since ks) out
  steps_good since [] fit = commons st n l (drop since s.ancestor)
  steps_good since (k ∷ ks) fit =
      let ls = between s.ancestor since (from k) in
      let c = cluster_steps (Keep st n) s l since k in
      let r = steps_from (Keep st n) s l (to k) ks in
      let es = block_endings st (block_shown st s since k) (base_shown s k) in
      let here : Good st n l (cond (is_group k) (cond (sides_differ s k) es []) []) out c out =
      good_either st n l (cond (sides_differ s k) es []) [] out out (is_group k) (group_steps (Keep st n) s l since k) (each common (hunk_lines s k.first)) (keep_good since k fit.0) (commons st n l (hunk_lines s k.first)) in
      good_on st n l [] (cond (is_group k && sides_differ s k) es [] ++ marker_endings st s (to k) ks) out out out (each common ls) (c ++ r) (commons st n l ls)
      (good_on st n l (cond (is_group k && sides_differ s k) es []) (marker_endings st s (to k) ks) out out out c r
      (subst (λ (xs : List Ending). Good st n l xs out c out) (both (is_group k) (sides_differ s k) es) here)
      (steps_good (to k) ks fit.1))

  pub formed : (cs os : List Hunk) → Kept s cs os → Form st n l (marker_endings st s 0 (clusters (walk cs os))) out false (rendering (Keep st n) s l cs os)
  formed cs os p =
      let ks = clusters (walk cs os) in
      let ss = steps_from (Keep st n) s l 0 ks in
      let es = marker_endings st s 0 ks in
      subst₂ (λ (xs : List Ending) (ys : List Step). Form st n l xs out false (pieces_of false ys)) (append-nil es) (append-nil ss) (steps_good 0 ks (kept_fit s cs os p) [] [] (λ o. end) false)

-- ending pieces come from closing steps alone
abbrev is_ending : Kind → Bool
is_ending common = false
is_ending ours = false
is_ending base = false
is_ending theirs = false
is_ending marker = false
is_ending ending = true

abbrev Plain : Step → Type 0
Plain (put c) = is_ending c.kind ≡ false
Plain (close e) = Unit {0}

each_plain : (k : Kind) → is_ending k ≡ false → (ls : List Line) → AllByRecursion Plain (each k ls)
each_plain k e [] = tt
each_plain k e (l ∷ ls) = (e, each_plain k e ls)

marker_plain : (c n : ℕ) (label : Option (List ℕ)) (e : Ending) → AllByRecursion Plain (marker_steps c n label e)
marker_plain c n None e = (tt, (refl, (refl, tt)))
marker_plain c n (Some y) e = (tt, (refl, (refl, (refl, (refl, tt)))))

all_two : (a b : List Step) → AllByRecursion Plain a → AllByRecursion Plain b → AllByRecursion Plain (a ++ b)
all_two a b p q = All-append Plain a b p q

all_either : (b : Bool) (x y : List Step) → AllByRecursion Plain x → AllByRecursion Plain y → AllByRecursion Plain (cond b x y)
all_either true x y p q = p
all_either false x y p q = q

module _ (s : Sheets) (l : Labels) where
  base_plain : (st : ConflictStyle) (n : ℕ) (k : Cluster) → AllByRecursion Plain (base_steps st s n l.ancestor (from k) (to k))
  base_plain st n k =
      let x = base_ending s (from k) (to k) in
      all_either (with_base st) (marker_steps 124 n l.ancestor x ++ each base (base_lines s k)) []
      (all_two (marker_steps 124 n l.ancestor x) (each base (base_lines s k)) (marker_plain 124 n l.ancestor x) (each_plain base refl (base_lines s k))) tt

  block_plain : (st : ConflictStyle) (n : ℕ) (k : Cluster) (d : Sides) (x : Ending) → AllByRecursion Plain (block_steps st s n l x (from k) (to k) d.left d.right)
  block_plain st n k d x =
      let m60 = marker_steps 60 n l.current x in
      let m61 = marker_steps 61 n None x in
      let m62 = marker_steps 62 n l.other x in
      let eo = each ours (side_lines s d.left) in
      let et = each theirs (side_lines s d.right) in
      let bs = base_steps st s n l.ancestor (from k) (to k) in
      all_two m60 (eo ++ (bs ++ (m61 ++ (et ++ m62)))) (marker_plain 60 n l.current x)
      (all_two eo (bs ++ (m61 ++ (et ++ m62))) (each_plain ours refl (side_lines s d.left))
      (all_two bs (m61 ++ (et ++ m62)) (base_plain st n k)
      (all_two m61 (et ++ m62) (marker_plain 61 n None x)
      (all_two et m62 (each_plain theirs refl (side_lines s d.right)) (marker_plain 62 n l.other x)))))

  agreed_plain : (st : ConflictStyle) (d : Sides) → AllByRecursion Plain (agreed_steps st s d.left)
  agreed_plain Merge d = tt
  agreed_plain Diff3 d = each_plain common refl (side_lines s d.left)
  agreed_plain ZealousDiff3 d = tt

  keep_plain : (st : ConflictStyle) (n since : ℕ) (k : Cluster) (d : Sides) → AllByRecursion Plain (keep_steps st s n l since (from k) (to k) d)
  keep_plain st n since k d =
      let x = marker_ending s since (from k) d.front d.left in
      let blk = block_steps st s n l x (from k) (to k) d.left d.right in
      let agr = agreed_steps st s d.left in
      let mid = cond (blocked st s d.left d.right) blk agr in
      let eb = each common (side_lines s d.back) in
      all_two (each common (side_lines s d.front)) (mid ++ eb) (each_plain common refl (side_lines s d.front))
      (all_two mid eb (all_either (blocked st s d.left d.right) blk agr (block_plain st n k d x) (agreed_plain st d)) (each_plain common refl (side_lines s d.back)))

  close_plain : (d : Sides) (hs : List Hunk) → AllByRecursion Plain (back_close s d.right hs)
  close_plain d [] = tt
  close_plain d (h ∷ hs) = (tt, tt)

  union_plain : (d : Sides) → AllByRecursion Plain (union_steps s d)
  union_plain d =
      let eo = each ours (side_lines s d.left) in
      let et = each theirs (side_lines s d.right) in
      let cf = or_newline (ending_of s d.front) in
      let cl = or_newline (ending_of s d.left) in
      let lft : List Step = close cf ∷ (eo ++ (close cl ∷ et)) in
      let mid = cond (line_left s d.left d.right) lft [] in
      let bc = back_close s d.right d.back in
      let eb = each common (side_lines s d.back) in
      all_two (each common (side_lines s d.front)) (mid ++ (bc ++ eb)) (each_plain common refl (side_lines s d.front))
      (all_two mid (bc ++ eb)
      (all_either (line_left s d.left d.right) lft [] (tt, all_two eo (close cl ∷ et) (each_plain ours refl (side_lines s d.left)) (tt, each_plain theirs refl (side_lines s d.right))) tt)
      (all_two bc eb (close_plain d d.back) (each_plain common refl (side_lines s d.back))))

  group_plain : (m : modes.Conflict) (since : ℕ) (k : Cluster) → AllByRecursion Plain (group_steps m s l since k)
  group_plain (Keep st n) since k = keep_plain st n since k (sides_in st s k)
  group_plain ResolveWithOurs since k = each_plain common refl (side_lines s (ours_of k))
  group_plain ResolveWithTheirs since k = each_plain common refl (side_lines s (theirs_of k))
  group_plain ResolveWithUnion since k = union_plain (contracted_sides s k)

  steps_plain : (m : modes.Conflict) (since : ℕ) (ks : List Cluster) → AllByRecursion Plain (steps_from m s l since ks)
  steps_plain m since [] = each_plain common refl (drop since s.ancestor)
  steps_plain m since (k ∷ ks) =
      let ls = between s.ancestor since (from k) in
      let c = cluster_steps m s l since k in
      let r = steps_from m s l (to k) ks in
      all_two (each common ls) (c ++ r) (each_plain common refl ls)
      (all_two c r (all_either (is_group k) (group_steps m s l since k) (each common (hunk_lines s k.first)) (group_plain m since k) (each_plain common refl (hunk_lines s k.first))) (steps_plain m (to k) ks))

-- an open line, as the bytes written say it
last_byte : (b : ℕ) (bs : List ℕ) → (xs : List ℕ) × (b ∷ bs ≡ xs ++ (get_or (b ∷ bs) (length bs) 0 ∷ []))
last_byte b [] = ([], refl)
last_byte b (c ∷ cs) = let (xs, e) = last_byte c cs in (b ∷ xs, ap (λ (r : List ℕ). b ∷ r) e)

open_more : (past : List ℕ) (o : Bool) (bs : List ℕ) → (o ≡ true → OpenLine past) → left_open o bs ≡ true → OpenLine (past ++ bs)
open_more past o [] f e = subst OpenLine (sym (append-nil past)) (f e)
open_more past o (b ∷ bs) f e =
    let (xs, w) = last_byte b bs in
    let z = get_or (b ∷ bs) (length bs) 0 in
    (past ++ xs, z, ap (λ (r : List ℕ). past ++ r) w ∙ sym (append_assoc past xs (z ∷ [])), λ q. eqb-false z 10 (not-true (eqb z 10) e) q)

closing_shut : (e : Ending) (o : Bool) → left_open o (ending_bytes e) ≡ false
closing_shut Newline o = refl
closing_shut ReturnNewline o = refl

same_head : (a b : Chunk) (xs ys : List Chunk) → a ∷ xs ≡ b ∷ ys → (a ≡ b) × (xs ≡ ys)
same_head a b xs ys e = (cc, cc)

abbrev Says : List ℕ → List Chunk → Type 0
Says past cs = (ps qs : List Chunk) (c : Chunk) → cs ≡ ps ++ (c ∷ qs) → c.kind ≡ ending → OpenLine (past ++ all_bytes ps) × ((e : Ending) × (c.bytes ≡ ending_bytes e))

says_nil : (past : List ℕ) → Says past []
says_nil past [] qs c e k = let z : ◌≡◌ {A = ℕ} 0 1 = cc in absurd (omega arith)
says_nil past (p ∷ ps) qs c e k = let z : ◌≡◌ {A = ℕ} 0 1 = cc in absurd (omega arith)

says_more : (past : List ℕ) (x : Chunk) (cs : List Chunk) → (x.kind ≡ ending → OpenLine past × ((e : Ending) × (x.bytes ≡ ending_bytes e))) → Says (past ++ x.bytes) cs → Says past (x ∷ cs)
says_more past x cs here later [] qs c e k =
    let (a, b) = same_head x c cs qs e in
    let (u, v) = here (ap (λ (y : Chunk). y.kind) a ∙ k) in
    (subst OpenLine (sym (append-nil past)) u, subst (λ (y : Chunk). (g : Ending) × (y.bytes ≡ ending_bytes g)) a v)
says_more past x cs here later (p ∷ ps) qs c e k =
    let (a, b) = same_head x p cs (ps ++ (c ∷ qs)) e in
    let (u, v) = later ps qs c b k in
    (subst OpenLine (append_assoc past x.bytes (all_bytes ps) ∙ ap (λ (y : Chunk). past ++ (y.bytes ++ all_bytes ps)) a) u, v)

not_ending : (k : Kind) → is_ending k ≡ false → k ≡ ending → ⊥
not_ending k e q = true≢false (sym (ap is_ending q) ∙ e)

says : (past : List ℕ) (o : Bool) (ss : List Step) → AllByRecursion Plain ss → (o ≡ true → OpenLine past) → Says past (pieces_of o ss)
says past o [] p f = says_nil past
says past o (put c ∷ ss) p f = says_more past c (pieces_of (left_open o c.bytes) ss) (λ k. absurd (not_ending c.kind p.0 k)) (says (past ++ c.bytes) (left_open o c.bytes) ss p.1 (open_more past o c.bytes f))
says past true (close x ∷ ss) p f = says_more past (record { kind = ending; bytes = ending_bytes x }) (pieces_of false ss) (λ k. (f refl, (x, refl))) (says (past ++ ending_bytes x) false ss p.1 (λ e. absurd (false≢true e)))
says past false (close x ∷ ss) p f = says past false ss p.1 (λ e. absurd (false≢true e))

pub closes : (s : Sheets) (cs os : List Hunk) (m : modes.Conflict) (l : Labels) (ps qs : List Chunk) (c : Chunk) → rendering m s l cs os ≡ ps ++ (c ∷ qs) → c.kind ≡ ending → Closes ps c
closes s cs os m l ps qs c e k =
    let ks = clusters (walk cs os) in
    let (u, v) = says [] false (steps_from m s l 0 ks) (steps_plain s l m 0 ks) (λ q. absurd (false≢true q)) ps qs c e k in
    record { behind_open = u; an_ending = v }

-- the other modes write no marker
abbrev Bare : Step → Type 0
Bare (put c) = is_marker c.kind ≡ false
Bare (close nl) = Unit {0}

each_bare : (k : Kind) → is_marker k ≡ false → (ls : List Line) → AllByRecursion Bare (each k ls)
each_bare k e [] = tt
each_bare k e (l ∷ ls) = (e, each_bare k e ls)

bare_pieces : (o : Bool) (ss : List Step) → AllByRecursion Bare ss → AllByRecursion Unmarked (pieces_of o ss)
bare_pieces o [] p = tt
bare_pieces o (put c ∷ ss) p = (p.0, bare_pieces (left_open o c.bytes) ss p.1)
bare_pieces o (close nl ∷ ss) p = let r = bare_pieces false ss p.1 in cond_both o (record { kind = ending; bytes = ending_bytes nl } ∷ pieces_of false ss) (pieces_of false ss) (AllByRecursion Unmarked) (λ _. (refl, r)) (λ _. r)

module _ (m : modes.Conflict) (s : Sheets) (l : Labels) (bare : (since : ℕ) (k : Cluster) → AllByRecursion Bare (group_steps m s l since k)) where
  steps_bare : (since : ℕ) (ks : List Cluster) → AllByRecursion Bare (steps_from m s l since ks)
  steps_bare since [] = each_bare common refl (drop since s.ancestor)
  steps_bare since (k ∷ ks) =
      let ls = between s.ancestor since (from k) in
      let c = cluster_steps m s l since k in
      let r = steps_from m s l (to k) ks in
      All-append Bare (each common ls) (c ++ r) (each_bare common refl ls)
      (All-append Bare c r (cond_both (is_group k) (group_steps m s l since k) (each common (hunk_lines s k.first)) (AllByRecursion Bare) (λ _. bare since k) (λ _. each_bare common refl (hunk_lines s k.first))) (steps_bare (to k) ks))

  unmarked : (cs os : List Hunk) → AllByRecursion Unmarked (rendering m s l cs os)
  unmarked cs os = bare_pieces false (steps_from m s l 0 (clusters (walk cs os))) (steps_bare 0 (clusters (walk cs os)))

close_bare : (s : Sheets) (d : Sides) (hs : List Hunk) → AllByRecursion Bare (back_close s d.right hs)
close_bare s d [] = tt
close_bare s d (h ∷ hs) = (tt, tt)

union_bare : (s : Sheets) (d : Sides) → AllByRecursion Bare (union_steps s d)
union_bare s d =
    let eo = each ours (side_lines s d.left) in
    let et = each theirs (side_lines s d.right) in
    let cf = or_newline (ending_of s d.front) in
    let cl = or_newline (ending_of s d.left) in
    let lft : List Step = close cf ∷ (eo ++ (close cl ∷ et)) in
    let mid = cond (line_left s d.left d.right) lft [] in
    let bc = back_close s d.right d.back in
    let eb = each common (side_lines s d.back) in
    All-append Bare (each common (side_lines s d.front)) (mid ++ (bc ++ eb)) (each_bare common refl (side_lines s d.front))
    (All-append Bare mid (bc ++ eb)
    (cond_both (line_left s d.left d.right) lft [] (AllByRecursion Bare) (λ _. (tt, All-append Bare eo (close cl ∷ et) (each_bare ours refl (side_lines s d.left)) (tt, each_bare theirs refl (side_lines s d.right)))) (λ _. tt))
    (All-append Bare bc eb (close_bare s d d.back) (each_bare common refl (side_lines s d.back))))

-- an open line, by its last byte
open_last : (o : Bool) (xs : List ℕ) (b : ℕ) → left_open o (xs ++ (b ∷ [])) ≡ not (eqb b 10)
open_last o [] b = refl
open_last o (x ∷ xs) b = let n = length-append xs (b ∷ []) in ap (λ (c : ℕ). not (eqb c 10)) (get_or_at (x ∷ xs) b [] 0 (length (xs ++ (b ∷ []))) (omega arith))

pub marker_laws : (s : Sheets) (cs os : List Hunk) → Kept s cs os → MarkerLaws s cs os
marker_laws s cs os p = record {
  keep = λ st n l. formed st n l s cs os p;
  open_none = λ o. refl;
  open_closed = λ o xs. open_last o xs 10;
  open_left = λ o xs b f. open_last o xs b ∙ rw (ne_eqb b 10 f);
  base_styles = (refl, refl, refl);
  contracting_styles = (refl, refl, refl);
  closes = closes s cs os;
  ours_unmarked = λ l. unmarked ResolveWithOurs s l (λ since k. each_bare common refl (side_lines s (ours_of k))) cs os;
  theirs_unmarked = λ l. unmarked ResolveWithTheirs s l (λ since k. each_bare common refl (side_lines s (theirs_of k))) cs os;
  union_unmarked = λ l. unmarked ResolveWithUnion s l (λ since k. union_bare s (contracted_sides s k)) cs os;
}
