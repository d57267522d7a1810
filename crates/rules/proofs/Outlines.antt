-- The outline of a rendering that keeps conflicts, read off its clusters.
use Rattle.std.proofs.Common.{◌≡◌, ℕ, Bool, true, false, cond, not, List, [], ◌∷◌, ◌++◌, map, drop, Some, None, Option, sym, refl, ap, ◌∙◌, ap₂, append_assoc, append-nil}
use mathlib.Core.List.{map-append}
use lib.Seq.{append_snoc}
use Rattle.std.specs.List.{AllByRecursion}
use Rattle.rules.specs.declared.ending.Ending.{Ending}
use Rattle.rules.specs.declared.hunk.Hunk.{Hunk}
use Rattle.rules.specs.declared.mode.Conflict.TheVariants.{Keep}
use Rattle.rules.specs.declared.mode.ConflictStyle.{ConflictStyle}
use Rattle.rules.specs.declared.mode.ConflictStyle.TheVariants.{Merge, Diff3, ZealousDiff3}
use Rattle.rules.specs.Lines.{Line, between, same_lines}
use Rattle.rules.specs.SharedLines.{shared_start, shared_end}
use Rattle.rules.specs.Hunks.{Sheets, hunk_lines, side_lines}
use Rattle.rules.specs.Walk.{walk}
use Rattle.rules.specs.Groups.{Cluster, clusters, from, to, is_group}
use Rattle.rules.specs.Filling.{stretch, sides_differ, ours_lines, theirs_lines, base_lines}
use Rattle.rules.specs.Sides.{Sides, line_left, contracted_sides, sides_in}
use Rattle.rules.specs.Endings.{ending_of, or_newline, ending_bytes}
use Rattle.rules.specs.Pieces.{common, ours, base, theirs, marker, ending, Chunk}
use Rattle.rules.specs.Steps.{Step, put, close, each, pieces_of, left_open}
use Rattle.rules.specs.Markers.{Labels, label_steps, marker_steps}
use Rattle.rules.specs.Blocks.{blocked, base_steps, block_steps, agreed_steps, keep_steps, marker_ending}
use Rattle.rules.specs.Rendering.{group_steps, cluster_steps, steps_from, rendering}
use Rattle.rules.specs.Outline.{Item, line, block, Part, reading_common, reading_ours, reading_base, reading_theirs, more_pieces, Reading, start, given_by, read_kind, read_on, outline}
use Rattle.rules.specs.GroupOutline.{drawn_in, base_part, group_items, cluster_items, items}
use Rattle.rules.specs.Order.{Kept}
use Rattle.rules.proofs.Contracting.{SidesLines, sides_lines, left_is}
use Rattle.rules.proofs.Fits.{Fit, kept_fit}
use Rattle.rules.proofs.Shared.{parts_join, equal_middle, same_lines_true}
use Rattle.rules.proofs.Steps.{agreed_lines}

abbrev at : Part → ℕ → List Line → List Line → List Line → Reading
at p n o b t = record { part = p; skip = n; ours = o; base = b; theirs = t }

module _ (st : ConflictStyle) (l : Labels) where
  abbrev read_steps : Reading → List Step → List Item
  read_steps r [] = []
  read_steps r (put c ∷ ss) = given_by r c.kind c.bytes ++ read_steps (read_kind st l r c.kind c.bytes) ss
  read_steps r (close e ∷ ss) = read_steps r ss

  closed_read : (r : Reading) (e : Ending) (o : Bool) (cs : List Chunk) (is : List Item) → read_on st l r cs ≡ is → read_on st l r (cond o (record { kind = ending; bytes = ending_bytes e } ∷ cs) cs) ≡ is
  closed_read r e true cs is p = p
  closed_read r e false cs is p = p

  pieces_read : (r : Reading) (o : Bool) (ss : List Step) → read_on st l r (pieces_of o ss) ≡ read_steps r ss
  pieces_read r o [] = refl
  pieces_read r o (put c ∷ ss) = ap (λ (is : List Item). given_by r c.kind c.bytes ++ is) (pieces_read (read_kind st l r c.kind c.bytes) (left_open o c.bytes) ss)
  pieces_read r o (close e ∷ ss) = closed_read r e o (pieces_of false ss) (read_steps r ss) (pieces_read r false ss)

  -- steps that give some items and lead from one reading to another
  abbrev Leads : Reading → List Step → List Item → Reading → Type 0
  Leads r ss is r' = (rest : List Step) → read_steps r (ss ++ rest) ≡ is ++ read_steps r' rest

  leads_on : (r r' r'' : Reading) (a b : List Step) (is js : List Item) → Leads r a is r' → Leads r' b js r'' → Leads r (a ++ b) (is ++ js) r''
  leads_on r r' r'' a b is js p q rest =
      ap (λ (ss : List Step). read_steps r ss) (append_assoc a b rest) ∙ p (b ++ rest) ∙ ap (λ (x : List Item). is ++ x) (q rest) ∙ sym (append_assoc is js (read_steps r'' rest))

  leads_all : (r r' : Reading) (ss : List Step) (is : List Item) → Leads r ss is r' → read_steps r ss ≡ is
  leads_all r r' ss is p = ap (λ (x : List Step). read_steps r x) (sym (append-nil ss)) ∙ p [] ∙ append-nil is

  common_leads : (r : Reading) (ls : List Line) → Leads r (each common ls) (map line ls) r
  common_leads r [] rest = refl
  common_leads r (x ∷ xs) rest = ap (λ (is : List Item). line x ∷ is) (common_leads r xs rest)

  ours_lead : (p : Part) (n : ℕ) (o b t ls : List Line) → Leads (at p n o b t) (each ours ls) [] (at p n (o ++ ls) b t)
  ours_lead p n o b t [] rest = ap (λ (x : List Line). read_steps (at p n x b t) rest) (sym (append-nil o))
  ours_lead p n o b t (x ∷ xs) rest = ours_lead p n (o ++ (x ∷ [])) b t xs rest ∙ ap (λ (y : List Line). read_steps (at p n y b t) rest) (append_snoc o x xs)

  base_lead : (p : Part) (n : ℕ) (o b t ls : List Line) → Leads (at p n o b t) (each base ls) [] (at p n o (b ++ ls) t)
  base_lead p n o b t [] rest = ap (λ (x : List Line). read_steps (at p n o x t) rest) (sym (append-nil b))
  base_lead p n o b t (x ∷ xs) rest = base_lead p n o (b ++ (x ∷ [])) t xs rest ∙ ap (λ (y : List Line). read_steps (at p n o y t) rest) (append_snoc b x xs)

  theirs_lead : (p : Part) (n : ℕ) (o b t ls : List Line) → Leads (at p n o b t) (each theirs ls) [] (at p n o b (t ++ ls))
  theirs_lead p n o b t [] rest = ap (λ (x : List Line). read_steps (at p n o b x) rest) (sym (append-nil t))
  theirs_lead p n o b t (x ∷ xs) rest = theirs_lead p n o b (t ++ (x ∷ [])) xs rest ∙ ap (λ (y : List Line). read_steps (at p n o b y) rest) (append_snoc t x xs)

  -- a marker behind its first piece
  tail_lead : (label : Option (List ℕ)) (nl : Ending) (p : Part) (o b t : List Line) → Leads (at p (more_pieces label) o b t) (label_steps label ++ (put (record { kind = marker; bytes = ending_bytes nl }) ∷ [])) [] (at p 0 o b t)
  tail_lead None nl p o b t rest = refl
  tail_lead (Some x) nl p o b t rest = refl

  open_lead : (c n : ℕ) (nl : Ending) → Leads start (marker_steps c n l.current nl) [] (at reading_ours 0 [] [] [])
  open_lead c n nl rest = tail_lead l.current nl reading_ours [] [] [] rest

  end_lead : (c n : ℕ) (nl : Ending) (o b t : List Line) → Leads (at reading_theirs 0 o b t) (marker_steps c n l.other nl) (block o b t ∷ []) start
  end_lead c n nl o b t rest = ap (λ (is : List Item). block o b t ∷ is) (tail_lead l.other nl reading_common [] [] [] rest)

  mid_lead : (c n : ℕ) (nl : Ending) (o b t : List Line) → Leads (at reading_base 0 o b t) (marker_steps c n None nl) [] (at reading_theirs 0 o b t)
  mid_lead c n nl o b t rest = refl

-- what stands between the ours part and the theirs part
split_lead : (st : ConflictStyle) (l : Labels) (p : Part) (n : ℕ) (nl : Ending) (o b : List Line) (tail : List Step) (js : List Item)
    → Leads st l (at p 0 o b []) (marker_steps 61 n None nl) [] (at reading_theirs 0 o b []) → Leads st l (at reading_theirs 0 o b []) tail js start → Leads st l (at p 0 o b []) (marker_steps 61 n None nl ++ tail) js start
split_lead st l p n nl o b tail js m q = leads_on st l (at p 0 o b []) (at reading_theirs 0 o b []) start (marker_steps 61 n None nl) tail [] js m q

based_lead : (st : ConflictStyle) (l : Labels) (n : ℕ) (nl nb : Ending) (o b : List Line) (tail : List Step) (js : List Item)
    → Leads st l (at reading_ours 0 o [] []) (marker_steps 124 n l.ancestor nb) [] (at reading_base 0 o [] [])
    → Leads st l (at reading_theirs 0 o b []) tail js start
    → Leads st l (at reading_ours 0 o [] []) ((marker_steps 124 n l.ancestor nb ++ each base b) ++ (marker_steps 61 n None nl ++ tail)) js start
based_lead st l n nl nb o b tail js m q =
    leads_on st l (at reading_ours 0 o [] []) (at reading_base 0 o b []) start (marker_steps 124 n l.ancestor nb ++ each base b) (marker_steps 61 n None nl ++ tail) [] js
    (leads_on st l (at reading_ours 0 o [] []) (at reading_base 0 o [] []) (at reading_base 0 o b []) (marker_steps 124 n l.ancestor nb) (each base b) [] [] m (base_lead st l reading_base 0 o [] [] b))
    (split_lead st l reading_base n nl o b tail js (mid_lead st l 61 n nl o b []) q)

between_lead : (st : ConflictStyle) (l : Labels) (s : Sheets) (n : ℕ) (k : Cluster) (nl : Ending) (o : List Line) (tail : List Step) (js : List Item)
    → Leads st l (at reading_theirs 0 o (base_part st s k) []) tail js start
    → Leads st l (at reading_ours 0 o [] []) (base_steps st s n l.ancestor (from k) (to k) ++ (marker_steps 61 n None nl ++ tail)) js start
between_lead Merge l s n k nl o tail js q = split_lead Merge l reading_ours n nl o [] tail js (λ rest. refl) q
between_lead Diff3 l s n k nl o tail js q =
    let nb = or_newline (ending_of s (stretch (from k) (to k))) in
    based_lead Diff3 l n nl nb o (base_lines s k) tail js (λ rest. tail_lead Diff3 l l.ancestor nb reading_base o [] [] rest) q
between_lead ZealousDiff3 l s n k nl o tail js q =
    let nb = or_newline (ending_of s (stretch (from k) (to k))) in
    based_lead ZealousDiff3 l n nl nb o (base_lines s k) tail js (λ rest. tail_lead ZealousDiff3 l l.ancestor nb reading_base o [] [] rest) q

module _ (st : ConflictStyle) (l : Labels) (s : Sheets) (n : ℕ) (k : Cluster) where
  block_lead : (nl : Ending) (d : Sides) → Leads st l start (block_steps st s n l nl (from k) (to k) d.left d.right) (block (side_lines s d.left) (base_part st s k) (side_lines s d.right) ∷ []) start
  block_lead nl d =
      let xs = side_lines s d.left in
      let ys = side_lines s d.right in
      let bs = base_part st s k in
      let m60 = marker_steps 60 n l.current nl in
      let m61 = marker_steps 61 n None nl in
      let m62 = marker_steps 62 n l.other nl in
      let eo = each ours xs in
      let et = each theirs ys in
      let sb = base_steps st s n l.ancestor (from k) (to k) in
      let is : List Item = block xs bs ys ∷ [] in
      leads_on st l start (at reading_ours 0 [] [] []) start m60 (eo ++ (sb ++ (m61 ++ (et ++ m62)))) [] is (open_lead st l 60 n nl)
      (leads_on st l (at reading_ours 0 [] [] []) (at reading_ours 0 xs [] []) start eo (sb ++ (m61 ++ (et ++ m62))) [] is (ours_lead st l reading_ours 0 [] [] [] xs)
      (between_lead st l s n k nl xs (et ++ m62) is
      (leads_on st l (at reading_theirs 0 xs bs []) (at reading_theirs 0 xs bs ys) start et m62 [] is (theirs_lead st l reading_theirs 0 xs bs [] ys) (end_lead st l 62 n nl xs bs ys))))

  either_lead : (r r' : Reading) (b : Bool) (x y : List Step) (u v : List Item) → Leads st l r x u r' → Leads st l r y v r' → Leads st l r (cond b x y) (cond b u v) r'
  either_lead r r' true x y u v p q = p
  either_lead r r' false x y u v p q = q

  agreed_lead : (d : Sides) → Leads st l start (agreed_steps st s d.left) (map line (agreed_lines st s d)) start
  agreed_lead d = go st
    where
      go : (st' : ConflictStyle) → Leads st l start (agreed_steps st' s d.left) (map line (agreed_lines st' s d)) start
      go Merge rest = refl
      go Diff3 rest = common_leads st l start (side_lines s d.left) rest
      go ZealousDiff3 rest = refl

  abbrev pub kept_items : Sides → List Item
  kept_items d =
      map line (side_lines s d.front)
      ++ (cond (blocked st s d.left d.right) (block (side_lines s d.left) (base_part st s k) (side_lines s d.right) ∷ []) (map line (agreed_lines st s d)) ++ map line (side_lines s d.back))

  keep_lead : (since : ℕ) (d : Sides) → Leads st l start (keep_steps st s n l since (from k) (to k) d) (kept_items d) start
  keep_lead since d =
      let blk = block_steps st s n l (marker_ending s since (from k) d.front d.left) (from k) (to k) d.left d.right in
      let agr = agreed_steps st s d.left in
      let mid = cond (blocked st s d.left d.right) blk agr in
      let ib : List Item = block (side_lines s d.left) (base_part st s k) (side_lines s d.right) ∷ [] in
      let ia = map line (agreed_lines st s d) in
      let im = cond (blocked st s d.left d.right) ib ia in
      let ef = each common (side_lines s d.front) in
      let eb = each common (side_lines s d.back) in
      leads_on st l start start start ef (mid ++ eb) (map line (side_lines s d.front)) (im ++ map line (side_lines s d.back))
      (common_leads st l start (side_lines s d.front))
      (leads_on st l start start start mid eb im (map line (side_lines s d.back))
      (either_lead start start (blocked st s d.left d.right) blk agr ib ia (block_lead (marker_ending s since (from k) d.front d.left) d) (agreed_lead d))
      (common_leads st l start (side_lines s d.back)))

-- what the items are, in the lines of the two sides
drawn : (s : Sheets) (xs b ys : List Line) (d : Sides) (e : Bool) → SidesLines s xs ys d → same_lines xs ys ≡ e
    → map line (side_lines s d.front) ++ (cond (not e) (block (side_lines s d.left) b (side_lines s d.right) ∷ []) [] ++ map line (side_lines s d.back))
    ≡ cond (not e) (drawn_in xs b ys) (map line xs)
drawn s xs b ys d true p q =
    let z = equal_middle xs ys (same_lines_true xs ys q) in
    ap₂ (λ (u v : List Line). map line u ++ map line v) p.front p.back
    ∙ sym (map-append line (shared_start xs ys) (shared_end xs ys))
    ∙ ap (λ (u : List Line). map line (shared_start xs ys ++ (u ++ shared_end xs ys))) (sym z)
    ∙ ap (λ (u : List Line). map line u) (parts_join xs ys)
drawn s xs b ys d false p q =
    ap₂ (λ (u v : List Item). u ++ v) (ap (λ (u : List Line). map line u) p.front)
    (ap₂ (λ (u v : List Item). u ++ v) (ap₂ (λ (u v : List Line). block u b v ∷ []) p.left p.right) (ap (λ (u : List Line). map line u) p.back))

undrawn : (xs b ys : List Line) (e : Bool) → cond e (block xs b ys ∷ []) (map line xs) ++ [] ≡ cond e (block xs b ys ∷ []) (map line xs)
undrawn xs b ys e = append-nil (cond e (block xs b ys ∷ []) (map line xs))

contracted_items : (s : Sheets) (k : Cluster) (b : List Line) → Fit s k
    → map line (side_lines s (contracted_sides s k).front) ++ (cond (line_left s (contracted_sides s k).left (contracted_sides s k).right) (block (side_lines s (contracted_sides s k).left) b (side_lines s (contracted_sides s k).right) ∷ []) [] ++ map line (side_lines s (contracted_sides s k).back))
    ≡ cond (sides_differ s k) (drawn_in (ours_lines s k) b (theirs_lines s k)) (map line (ours_lines s k))
contracted_items s k b fit = by (contracted_sides s k) (sides_lines s k fit.ours fit.theirs)
  where
    by : (d : Sides) → SidesLines s (ours_lines s k) (theirs_lines s k) d
        → map line (side_lines s d.front) ++ (cond (line_left s d.left d.right) (block (side_lines s d.left) b (side_lines s d.right) ∷ []) [] ++ map line (side_lines s d.back))
        ≡ cond (sides_differ s k) (drawn_in (ours_lines s k) b (theirs_lines s k)) (map line (ours_lines s k))
    by d p =
        ap (λ (e : Bool). map line (side_lines s d.front) ++ (cond e (block (side_lines s d.left) b (side_lines s d.right) ∷ []) [] ++ map line (side_lines s d.back)))
        (left_is s (ours_lines s k) (theirs_lines s k) d p)
        ∙ drawn s (ours_lines s k) b (theirs_lines s k) d (same_lines (ours_lines s k) (theirs_lines s k)) p refl

pub group_is : (st : ConflictStyle) (l : Labels) (s : Sheets) (n : ℕ) (k : Cluster) → Fit s k → kept_items st l s n k (sides_in st s k) ≡ group_items st s k
group_is Merge l s n k fit = contracted_items s k [] fit
group_is Diff3 l s n k fit = undrawn (ours_lines s k) (base_lines s k) (theirs_lines s k) (sides_differ s k)
group_is ZealousDiff3 l s n k fit = contracted_items s k (base_lines s k) fit

module _ (st : ConflictStyle) (l : Labels) (s : Sheets) (n : ℕ) where
  cluster_lead : (since : ℕ) (k : Cluster) → Fit s k → Leads st l start (cluster_steps (Keep st n) s l since k) (cluster_items st s k) start
  cluster_lead since k fit =
      either_lead st l s n k start start (is_group k) (group_steps (Keep st n) s l since k) (each common (hunk_lines s k.first)) (group_items st s k) (map line (hunk_lines s k.first))
      (λ rest. keep_lead st l s n k since (sides_in st s k) rest ∙ ap (λ (is : List Item). is ++ read_steps st l start rest) (group_is st l s n k fit))
      (common_leads st l start (hunk_lines s k.first))

  steps_lead : (since : ℕ) (ks : List Cluster) → AllByRecursion (Fit s) ks → Leads st l start (steps_from (Keep st n) s l since ks) (items st s since ks) start
  steps_lead since [] p = common_leads st l start (drop since s.ancestor)
  steps_lead since (k ∷ ks) p =
      let ls = between s.ancestor since (from k) in
      let c = cluster_steps (Keep st n) s l since k in
      let r = steps_from (Keep st n) s l (to k) ks in
      leads_on st l start start start (each common ls) (c ++ r) (map line ls) (cluster_items st s k ++ items st s (to k) ks) (common_leads st l start ls)
      (leads_on st l start start start c r (cluster_items st s k) (items st s (to k) ks) (cluster_lead since k p.0) (steps_lead (to k) ks p.1))

pub outlined : (s : Sheets) (cs os : List Hunk) → Kept s cs os → (st : ConflictStyle) (n : ℕ) (l : Labels)
    → outline st l (rendering (Keep st n) s l cs os) ≡ items st s 0 (clusters (walk cs os))
outlined s cs os p st n l =
    let ks = clusters (walk cs os) in
    let ss = steps_from (Keep st n) s l 0 ks in
    pieces_read st l start false ss ∙ leads_all st l start start ss (items st s 0 ks) (steps_lead st l s n 0 ks (kept_fit s cs os p))
