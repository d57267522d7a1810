-- How long a rendering can be.
use Rattle.std.proofs.Common.{◌≡◌, ℕ, suc, ◌+◌, ◌*◌, ◌≤◌, Bool, true, false, cond, List, [], ◌∷◌, ◌++◌, length, drop, Some, None, Option, sym, refl, ap, ◌∙◌, subst, arith, length-append}
use mathlib.Core.List.Memᴰ
use lib.ListN.{length-replicate}
use Rattle.std.specs.List.{AllByRecursion}
use Rattle.std.proofs.lemmas.List.Elements.{filter-append}
use Rattle.std.proofs.lemmas.Bool.{true≢false, false≢true, cond_both}
use Rattle.rules.specs.declared.ending.Ending.{Ending}
use Rattle.rules.specs.declared.ending.Ending.TheVariants.{Newline, ReturnNewline}
use Rattle.rules.specs.declared.hunk.Hunk.{Hunk}
use Rattle.rules.specs.declared.hunk.Side.{Side}
use Rattle.rules.specs.declared.hunk.Side.TheVariants.{Current, Other, Ancestor}
use Rattle.rules.specs.declared.mode.Conflict as modes
use Rattle.rules.specs.declared.mode.Conflict.TheVariants.{Keep, ResolveWithOurs, ResolveWithTheirs, ResolveWithUnion}
use Rattle.rules.specs.declared.mode.ConflictStyle.{ConflictStyle}
use Rattle.rules.specs.declared.mode.ConflictStyle.TheVariants.{Merge, Diff3, ZealousDiff3}
use Rattle.rules.specs.Limits.{max_marker_size}
use Rattle.rules.specs.Lines.{Line, between}
use Rattle.rules.specs.Hunks.{Sheets, hunk_lines, side_lines}
use Rattle.rules.specs.Walk.{walk, currents, others, is_current, is_other}
use Rattle.rules.specs.Groups.{Cluster, clusters, members, from, to, is_group}
use Rattle.rules.specs.Filling.{stretch, filled, ours_of, theirs_of, ours_lines, theirs_lines, base_lines}
use Rattle.rules.specs.Sides.{Sides, whole_sides, contracted_sides, sides_in, line_left}
use Rattle.rules.specs.Endings.{ending_of, or_newline, ending_bytes}
use Rattle.rules.specs.Pieces.{Kind, common, ours, base, theirs, ending, total}
use Rattle.rules.specs.Steps.{Step, put, close, each, left_open, pieces_of}
use Rattle.rules.specs.Markers.{Labels, marker_steps}
use Rattle.rules.specs.Blocks.{blocked, base_steps, block_steps, agreed_steps, keep_steps, marker_ending}
use Rattle.rules.specs.Unions.{back_close, union_steps}
use Rattle.rules.specs.Rendering.{group_steps, cluster_steps, steps_from}
use Rattle.rules.specs.Order.{InOrder, Kept}
use Rattle.rules.specs.GroupLaws.{all_members}
use Rattle.rules.specs.RenderLaws.{SizeFits, LabelFits}
use Rattle.rules.specs.Lengths.{bytes_of, LabelsFit, LengthLaw}
use Rattle.rules.proofs.Chains.{Cut, cut, parted}
use Rattle.rules.proofs.Fits.{Fit, kept_fit}
use Rattle.rules.proofs.Kept.{Low, currents_walk, others_walk}
use Rattle.rules.proofs.Texts.{between_more, between_rest, side_lines_append, stretch_lines, Within, low_each, low_zero, last_end_above, last_end_below, after, woven_parts, cluster_within, only_current, only_other}
use Rattle.rules.proofs.Unions.{contraction_law}
use Rattle.rules.proofs.Walks.{walk_length}
use Rattle.rules.proofs.Woven.{Sided, Woven, Run, runs, walk_woven}

-- lines
bytes_append : (a b : List Line) → bytes_of (a ++ b) ≡ bytes_of a + bytes_of b
bytes_append [] b = omega arith
bytes_append (l ∷ ls) b = let e = bytes_append ls b in omega arith

bytes_more : (ls : List Line) (a b c : ℕ) → a ≤ b → b ≤ c → bytes_of (between ls a b) + bytes_of (between ls b c) ≡ bytes_of (between ls a c)
bytes_more ls a b c p q = sym (bytes_append (between ls a b) (between ls b c)) ∙ ap bytes_of (between_more ls a b c p q)

bytes_rest : (ls : List Line) (a b : ℕ) → a ≤ b → bytes_of (between ls a b) + bytes_of (drop b ls) ≡ bytes_of (drop a ls)
bytes_rest ls a b p = sym (bytes_append (between ls a b) (drop b ls)) ∙ ap bytes_of (between_rest ls a b p)

-- hunks
abbrev hunk_bytes : Sheets → List Hunk → ℕ
hunk_bytes s hs = bytes_of (side_lines s hs)

hunks_append : (s : Sheets) (a b : List Hunk) → hunk_bytes s (a ++ b) ≡ hunk_bytes s a + hunk_bytes s b
hunks_append s a b = ap bytes_of (side_lines_append s a b) ∙ bytes_append (side_lines s a) (side_lines s b)

filled_bytes : (s : Sheets) (a b : ℕ) (hs : List Hunk) → Within a b hs → hunk_bytes s (filled a b hs) ≤ bytes_of (between s.ancestor a b) + hunk_bytes s hs
filled_bytes s a b [] w = let e = ap bytes_of (stretch_lines s a b) in omega arith
filled_bytes s a b (h ∷ hs) w =
    let rest = filled h.before.end b hs in
    let x = h.before.start in
    let y = h.before.end in
    let c = hunks_append s (stretch a x) (h ∷ rest) in
    let d = bytes_append (hunk_lines s h) (side_lines s rest) in
    let e = bytes_append (hunk_lines s h) (side_lines s hs) in
    let f = ap bytes_of (stretch_lines s a x) in
    let g = filled_bytes s y b hs w.2 in
    let le = within_le y b hs w.2 in
    let i = bytes_more s.ancestor a x y w.0 w.1 in
    let j = bytes_more s.ancestor a y b (omega arith) le in
    omega arith
  where
    within_le : (m n : ℕ) (gs : List Hunk) → Within m n gs → m ≤ n
    within_le m n [] v = v
    within_le m n (g ∷ gs) v = let r = within_le g.before.end n gs v.2 in omega arith

-- the after ranges of a side lie apart in its sheet
currents_bytes : (s : Sheets) (na ns b a : ℕ) (hs : List Hunk) → InOrder Current na ns b a hs → hunk_bytes s hs ≤ bytes_of (drop a s.current)
currents_bytes s na ns b a [] p = omega arith
currents_bytes s na ns b a (h ∷ hs) p =
    let x = h.after.start in
    let y = h.after.end in
    let c = bytes_append (hunk_lines s h) (side_lines s hs) in
    let d : hunk_lines s h ≡ between s.current x y = rw p.0 in
    let e = ap bytes_of d in
    let f = currents_bytes s na ns (suc h.before.end) y hs p.7 in
    let g = bytes_rest s.current a x p.4 in
    let i = bytes_rest s.current x y p.5 in
    omega arith

others_bytes : (s : Sheets) (na ns b a : ℕ) (hs : List Hunk) → InOrder Other na ns b a hs → hunk_bytes s hs ≤ bytes_of (drop a s.other)
others_bytes s na ns b a [] p = omega arith
others_bytes s na ns b a (h ∷ hs) p =
    let x = h.after.start in
    let y = h.after.end in
    let c = bytes_append (hunk_lines s h) (side_lines s hs) in
    let d : hunk_lines s h ≡ between s.other x y = rw p.0 in
    let e = ap bytes_of d in
    let f = others_bytes s na ns (suc h.before.end) y hs p.7 in
    let g = bytes_rest s.other a x p.4 in
    let i = bytes_rest s.other x y p.5 in
    omega arith

-- a lone hunk is of one of the sides
lone_bytes : (s : Sheets) (h : Hunk) → Sided h.side → bytes_of (hunk_lines s h) ≤ hunk_bytes s (currents (h ∷ [])) + hunk_bytes s (others (h ∷ []))
lone_bytes s h p = by h.side refl p
  where
    by : (sd : Side) → h.side ≡ sd → Sided sd → bytes_of (hunk_lines s h) ≤ hunk_bytes s (cond (is_current sd) (h ∷ []) []) + hunk_bytes s (cond (is_other sd) (h ∷ []) [])
    by Current e q = let f = bytes_append (hunk_lines s h) [] in omega arith
    by Other e q = let f = bytes_append (hunk_lines s h) [] in omega arith
    by Ancestor e q = absurd q

lone_first : (s : Sheets) (x : Hunk) (ms : List Hunk) → is_group (record { first = x; more = ms }) ≡ false → Sided x.side → bytes_of (hunk_lines s x) ≤ hunk_bytes s (currents (x ∷ ms)) + hunk_bytes s (others (x ∷ ms))
lone_first s x [] e p = lone_bytes s x p
lone_first s x (y ∷ ys) e p = absurd (true≢false e)

group_two : (x : Hunk) (ms : List Hunk) → is_group (record { first = x; more = ms }) ≡ true → 2 ≤ length (x ∷ ms)
group_two x [] e = absurd (false≢true e)
group_two x (y ∷ ys) e = omega arith

-- steps
abbrev step_bytes : List Step → ℕ
step_bytes [] = 0
step_bytes (put c ∷ ss) = length c.bytes + step_bytes ss
step_bytes (close e ∷ ss) = length (ending_bytes e) + step_bytes ss

pieces_bytes : (o : Bool) (ss : List Step) → total (pieces_of o ss) ≤ step_bytes ss
pieces_bytes o [] = omega arith
pieces_bytes o (put c ∷ ss) = let e = pieces_bytes (left_open o c.bytes) ss in omega arith
pieces_bytes o (close e ∷ ss) =
    let p = pieces_bytes false ss in
    cond_both o (record { kind = ending; bytes = ending_bytes e } ∷ pieces_of false ss) (pieces_of false ss) (λ cs. total cs ≤ length (ending_bytes e) + step_bytes ss) (λ _. omega arith) (λ _. omega arith)

step_sum : (a b : List Step) → step_bytes (a ++ b) ≡ step_bytes a + step_bytes b
step_sum [] b = omega arith
step_sum (put c ∷ ss) b = let e = step_sum ss b in omega arith
step_sum (close x ∷ ss) b = let e = step_sum ss b in omega arith

each_bytes : (k : Kind) (ls : List Line) → step_bytes (each k ls) ≡ bytes_of ls
each_bytes k [] = refl
each_bytes k (l ∷ ls) = let e = each_bytes k ls in omega arith

ending_short : (e : Ending) → length (ending_bytes e) ≤ 2
ending_short Newline = omega arith
ending_short ReturnNewline = omega arith

marker_bytes : (c n : ℕ) (label : Option (List ℕ)) (nl : Ending) → n ≤ max_marker_size → LabelFits label → step_bytes (marker_steps c n label nl) ≤ 324
marker_bytes c n None nl p q =
    let e = length-replicate n c in
    let r = ending_short nl in
    omega arith
marker_bytes c n (Some l) nl p q =
    let e = length-replicate n c in
    let r = ending_short nl in
    omega arith

-- a group's sides as a mode takes them hold no more than the sides
record Shares (s : Sheets) (k : Cluster) (d : Sides) : Type 0 where
  ours : bytes_of (side_lines s d.front) + bytes_of (side_lines s d.left) + bytes_of (side_lines s d.back) ≤ bytes_of (ours_lines s k)
  theirs : bytes_of (side_lines s d.right) ≤ bytes_of (theirs_lines s k)

bytes_three : (a b c d : List Line) → a ++ (b ++ c) ≡ d → bytes_of a + bytes_of b + bytes_of c ≡ bytes_of d
bytes_three a b c d e = let p = ap bytes_of e in let q = bytes_append a (b ++ c) in let r = bytes_append b c in omega arith

contracted_shares : (s : Sheets) (k : Cluster) → Fit s k → Shares s k (contracted_sides s k)
contracted_shares s k fit =
    let d = contracted_sides s k in
    let p = contraction_law s k fit in
    let x = bytes_three (side_lines s d.front) (side_lines s d.left) (side_lines s d.back) (ours_lines s k) p.ours_whole in
    let y = bytes_three (side_lines s d.front) (side_lines s d.right) (side_lines s d.back) (theirs_lines s k) p.theirs_whole in
    record { ours = omega arith; theirs = omega arith }

whole_shares : (s : Sheets) (k : Cluster) → Shares s k (whole_sides k)
whole_shares s k = record { ours = omega arith; theirs = omega arith }

shares : (st : ConflictStyle) (s : Sheets) (k : Cluster) → Fit s k → Shares s k (sides_in st s k)
shares Merge s k fit = contracted_shares s k fit
shares Diff3 s k fit = whole_shares s k
shares ZealousDiff3 s k fit = contracted_shares s k fit

module _ (s : Sheets) (l : Labels) (fits : LabelsFit l) where
  base_bytes : (st : ConflictStyle) (n : ℕ) (k : Cluster) → n ≤ max_marker_size → step_bytes (base_steps st s n l.ancestor (from k) (to k)) ≤ bytes_of (base_lines s k) + 324
  base_bytes st n k p =
      let nl = or_newline (ending_of s (stretch (from k) (to k))) in
      let m = marker_steps 124 n l.ancestor nl in
      let e = step_sum m (each base (base_lines s k)) in
      let f = each_bytes base (base_lines s k) in
      let g = marker_bytes 124 n l.ancestor nl p fits.ancestor in
      go st (omega arith)
    where
      go : (st' : ConflictStyle) → step_bytes (base_steps Diff3 s n l.ancestor (from k) (to k)) ≤ bytes_of (base_lines s k) + 324 → step_bytes (base_steps st' s n l.ancestor (from k) (to k)) ≤ bytes_of (base_lines s k) + 324
      go Merge e = omega arith
      go Diff3 e = e
      go ZealousDiff3 e = e

  block_bytes : (st : ConflictStyle) (n : ℕ) (nl : Ending) (k : Cluster) (d : Sides) → n ≤ max_marker_size
      → step_bytes (block_steps st s n l nl (from k) (to k) d.left d.right) ≤ hunk_bytes s d.left + hunk_bytes s d.right + bytes_of (base_lines s k) + 1296
  block_bytes st n nl k d p =
      let m60 = marker_steps 60 n l.current nl in
      let m61 = marker_steps 61 n None nl in
      let m62 = marker_steps 62 n l.other nl in
      let eo = each ours (side_lines s d.left) in
      let et = each theirs (side_lines s d.right) in
      let bs = base_steps st s n l.ancestor (from k) (to k) in
      let a = step_sum m60 (eo ++ (bs ++ (m61 ++ (et ++ m62)))) in
      let b = step_sum eo (bs ++ (m61 ++ (et ++ m62))) in
      let c = step_sum bs (m61 ++ (et ++ m62)) in
      let e = step_sum m61 (et ++ m62) in
      let f = step_sum et m62 in
      let g = marker_bytes 60 n l.current nl p fits.current in
      let h = marker_bytes 61 n None nl p tt in
      let i = marker_bytes 62 n l.other nl p fits.other in
      let j = base_bytes st n k p in
      let x = each_bytes ours (side_lines s d.left) in
      let y = each_bytes theirs (side_lines s d.right) in
      omega arith

  agreed_bytes : (st : ConflictStyle) (d : Sides) → step_bytes (agreed_steps st s d.left) ≤ hunk_bytes s d.left
  agreed_bytes Merge d = omega arith
  agreed_bytes Diff3 d = let e = each_bytes common (side_lines s d.left) in omega arith
  agreed_bytes ZealousDiff3 d = omega arith

  keep_bytes : (st : ConflictStyle) (n since : ℕ) (k : Cluster) (d : Sides) → n ≤ max_marker_size
      → step_bytes (keep_steps st s n l since (from k) (to k) d) ≤ hunk_bytes s d.front + hunk_bytes s d.left + hunk_bytes s d.back + hunk_bytes s d.right + bytes_of (base_lines s k) + 1296
  keep_bytes st n since k d p =
      let nl = marker_ending s since (from k) d.front d.left in
      let blk = block_steps st s n l nl (from k) (to k) d.left d.right in
      let agr = agreed_steps st s d.left in
      let mid = cond (blocked st s d.left d.right) blk agr in
      let ef = each common (side_lines s d.front) in
      let eb = each common (side_lines s d.back) in
      let most = hunk_bytes s d.left + hunk_bytes s d.right + bytes_of (base_lines s k) + 1296 in
      let x = block_bytes st n nl k d p in
      let y = agreed_bytes st d in
      let z : step_bytes mid ≤ most = cond_both (blocked st s d.left d.right) blk agr (λ ss. step_bytes ss ≤ most) (λ _. x) (λ _. omega arith) in
      let a = step_sum ef (mid ++ eb) in
      let b = step_sum mid eb in
      let f = each_bytes common (side_lines s d.front) in
      let g = each_bytes common (side_lines s d.back) in
      omega arith

  close_bytes : (d : Sides) (hs : List Hunk) → step_bytes (back_close s d.right hs) ≤ 2
  close_bytes d [] = omega arith
  close_bytes d (h ∷ hs) = let e = ending_short (or_newline (ending_of s d.right)) in omega arith

  union_bytes : (d : Sides) → step_bytes (union_steps s d) ≤ hunk_bytes s d.front + hunk_bytes s d.left + hunk_bytes s d.back + hunk_bytes s d.right + 6
  union_bytes d =
      let eo = each ours (side_lines s d.left) in
      let et = each theirs (side_lines s d.right) in
      let cf = or_newline (ending_of s d.front) in
      let cl = or_newline (ending_of s d.left) in
      let lft : List Step = close cf ∷ (eo ++ (close cl ∷ et)) in
      let mid = cond (line_left s d.left d.right) lft [] in
      let bc = back_close s d.right d.back in
      let ef = each common (side_lines s d.front) in
      let eb = each common (side_lines s d.back) in
      let i = step_sum eo (close cl ∷ et) in
      let j = ending_short (or_newline (ending_of s d.front)) in
      let m = ending_short (or_newline (ending_of s d.left)) in
      let x = each_bytes ours (side_lines s d.left) in
      let y = each_bytes theirs (side_lines s d.right) in
      let most = hunk_bytes s d.left + hunk_bytes s d.right + 4 in
      let z : step_bytes mid ≤ most = cond_both (line_left s d.left d.right) lft [] (λ ss. step_bytes ss ≤ most) (λ _. omega arith) (λ _. omega arith) in
      let a = step_sum ef (mid ++ (bc ++ eb)) in
      let b = step_sum mid (bc ++ eb) in
      let c = step_sum bc eb in
      let w = close_bytes d d.back in
      let f = each_bytes common (side_lines s d.front) in
      let g = each_bytes common (side_lines s d.back) in
      omega arith

  group_bytes : (m : modes.Conflict) (since : ℕ) (k : Cluster) → SizeFits m → Fit s k → step_bytes (group_steps m s l since k) ≤ bytes_of (ours_lines s k) + bytes_of (theirs_lines s k) + bytes_of (base_lines s k) + 1296
  group_bytes (Keep st n) since k p fit = let e = keep_bytes st n since k (sides_in st s k) p.1 in let h = shares st s k fit in let x = h.ours in let y = h.theirs in omega arith
  group_bytes ResolveWithOurs since k p fit = let e = each_bytes common (side_lines s (ours_of k)) in omega arith
  group_bytes ResolveWithTheirs since k p fit = let e = each_bytes common (side_lines s (theirs_of k)) in omega arith
  group_bytes ResolveWithUnion since k p fit = let e = union_bytes (contracted_sides s k) in let h = contracted_shares s k fit in let x = h.ours in let y = h.theirs in omega arith

  -- the ancestor's lines from a place on three times at most, each hunk's lines once, and a group's markers
  steps_bytes : (m : modes.Conflict) (b : Side → ℕ) (since : ℕ) (ks : List Cluster) → SizeFits m → AllByRecursion (Fit s) ks → Woven b (all_members ks) → Cut ks → Low since (all_members ks)
      → step_bytes (steps_from m s l since ks) ≤ 3 * bytes_of (drop since s.ancestor) + hunk_bytes s (currents (all_members ks)) + hunk_bytes s (others (all_members ks)) + length (all_members ks) * 648
  steps_bytes m b since [] p fit w ct low = let e = each_bytes common (drop since s.ancestor) in omega arith
  steps_bytes m b since (k ∷ ks) p fit w ct low =
      let ms = members k in
      let rs = all_members ks in
      let (wk, wr) = woven_parts b ms rs w in
      let behind : Low (to k) rs = low_each (to k) rs (λ h i. last_end_below ms h.before.start (λ g j. omega (arith, ct.0 g h j i))) in
      let ends : k.first.before.end ≤ to k = last_end_above ms k.first (Memᴰ.head refl) in
      let up : since ≤ from k = low.0 in
      let on : from k ≤ to k = omega (arith, wk.2) in
      let ls = between s.ancestor since (from k) in
      let c = cluster_steps m s l since k in
      let r = steps_from m s l (to k) ks in
      let gs = group_steps m s l since k in
      let eh = each common (hunk_lines s k.first) in
      let a₁ = step_sum (each common ls) (c ++ r) in
      let a₂ = step_sum c r in
      let a₃ = each_bytes common ls in
      let a₄ = group_bytes m since k p fit.0 in
      let a₅ = each_bytes common (hunk_lines s k.first) in
      let a₆ = filled_bytes s (from k) (to k) (currents ms) (cluster_within is_current Current only_current b k wk) in
      let a₇ = filled_bytes s (from k) (to k) (others ms) (cluster_within is_other Other only_other b k wk) in
      let b₁ = bytes_rest s.ancestor since (from k) up in
      let b₂ = bytes_rest s.ancestor (from k) (to k) on in
      let most = 3 * bytes_of (between s.ancestor (from k) (to k)) + hunk_bytes s (currents ms) + hunk_bytes s (others ms) + length ms * 648 in
      let z : step_bytes c ≤ most = cond_both (is_group k) gs eh (λ ss. step_bytes ss ≤ most)
      (λ e. let two = group_two k.first k.more e in omega arith)
      (λ e. let one = lone_first s k.first k.more e wk.0 in omega arith) in
      let n = length-append ms rs in
      let d₁ = ap (hunk_bytes s) (filter-append (λ h. is_current h.side) ms rs) in
      let d₂ = hunks_append s (currents ms) (currents rs) in
      let d₃ = ap (hunk_bytes s) (filter-append (λ h. is_other h.side) ms rs) in
      let d₄ = hunks_append s (others ms) (others rs) in
      let ih = steps_bytes m (after b ms) (to k) ks p fit.1 wr ct.1 behind in
      omega arith

pub length_law : (s : Sheets) (cs os : List Hunk) → Kept s cs os → length cs ≤ 256 → length os ≤ 256 → LengthLaw s cs os
length_law s cs os kept fc fo short m l size fits =
    let hs = walk cs os in
    let ks = clusters hs in
    let rc : Run Current 0 cs = runs Current (length s.ancestor) (length s.current) 0 0 cs kept.current in
    let ro : Run Other 0 os = runs Other (length s.ancestor) (length s.other) 0 0 os kept.other in
    let b : Side → ℕ = λ _. 0 in
    let w : Woven b hs = walk_woven cs os 0 0 b rc ro (omega arith) (omega arith) in
    let e = pieces_bytes false (steps_from m s l 0 ks) in
    let f = steps_bytes s l fits m b 0 ks size (kept_fit s cs os kept) (subst (Woven b) (sym (parted hs)) w) (cut b hs w) (low_zero (all_members ks)) in
    let g = ap length (parted hs) in
    let h = walk_length cs os in
    let i = ap (λ (x : List Hunk). hunk_bytes s (currents x)) (parted hs) in
    let j = ap (λ (x : List Hunk). hunk_bytes s (others x)) (parted hs) in
    let x = ap (hunk_bytes s) (currents_walk cs os 0 0 rc ro) in
    let y = ap (hunk_bytes s) (others_walk cs os 0 0 rc ro) in
    let u = currents_bytes s (length s.ancestor) (length s.current) 0 0 cs kept.current in
    let v = others_bytes s (length s.ancestor) (length s.other) 0 0 os kept.other in
    let p = short.ancestor in
    let q = short.current in
    let r = short.other in
    omega arith
