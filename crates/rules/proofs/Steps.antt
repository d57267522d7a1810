-- The lines among the pieces of a rendering, read off the steps.
use Rattle.std.proofs.Common.{◌≡◌, ℕ, Bool, true, false, cond, List, [], ◌∷◌, ◌++◌, Some, None, Option, refl, ap, ◌∙◌, ap₂, append-nil}
use Rattle.rules.specs.declared.ending.Ending.{Ending}
use Rattle.rules.specs.declared.mode.ConflictStyle.{ConflictStyle}
use Rattle.rules.specs.declared.mode.ConflictStyle.TheVariants.{Merge, Diff3, ZealousDiff3}
use Rattle.rules.specs.Lines.{Line}
use Rattle.rules.specs.Hunks.{Sheets, side_lines}
use Rattle.rules.specs.Groups.{Cluster, from, to}
use Rattle.rules.specs.Filling.{base_lines}
use Rattle.rules.specs.Sides.{Sides}
use Rattle.rules.specs.Endings.{ending_bytes}
use Rattle.rules.specs.Pieces.{Kind, common, ours, base, theirs, marker, ending, Chunk}
use Rattle.rules.specs.Steps.{Step, put, close, each, pieces_of, left_open}
use Rattle.rules.specs.Markers.{Labels, marker_steps}
use Rattle.rules.specs.Blocks.{blocked, base_steps, block_steps, agreed_steps, keep_steps, marker_ending, base_ending}
use Rattle.rules.specs.Outline.{lines_kept}
use Rattle.rules.specs.GroupOutline.{base_part}

abbrev pub step_lines : (Kind → Bool) → List Step → List Line
step_lines f [] = []
step_lines f (put c ∷ ss) = cond (f c.kind) (c.bytes ∷ step_lines f ss) (step_lines f ss)
step_lines f (close e ∷ ss) = step_lines f ss

-- what a style writes in common where it writes no block
abbrev pub agreed_lines : ConflictStyle → Sheets → Sides → List Line
agreed_lines Merge s d = []
agreed_lines Diff3 s d = side_lines s d.left
agreed_lines ZealousDiff3 s d = []

-- a block's lines: those of the parts that pass
abbrev pub passed : (Kind → Bool) → List Line → List Line → List Line → List Line
passed f xs b ys = cond (f ours) xs [] ++ (cond (f base) b [] ++ cond (f theirs) ys [])

module _ (f : Kind → Bool) where
  closed : (x : Chunk) (o : Bool) (cs : List Chunk) (ls : List Line) → f x.kind ≡ false → lines_kept f cs ≡ ls → lines_kept f (cond o (x ∷ cs) cs) ≡ ls
  closed x true cs ls z e = rw z e
  closed x false cs ls z e = e

  pub pieces_lines : f ending ≡ false → (o : Bool) (ss : List Step) → lines_kept f (pieces_of o ss) ≡ step_lines f ss
  pieces_lines z o [] = refl
  pieces_lines z o (put c ∷ ss) = rw (pieces_lines z (left_open o c.bytes) ss)
  pieces_lines z o (close e ∷ ss) = closed (record { kind = ending; bytes = ending_bytes e }) o (pieces_of false ss) (step_lines f ss) z (pieces_lines z false ss)

  either_append : (b : Bool) (x : Line) (xs ys zs : List Line) → xs ≡ ys ++ zs → cond b (x ∷ xs) xs ≡ cond b (x ∷ ys) ys ++ zs
  either_append true x xs ys zs e = rw e
  either_append false x xs ys zs e = e

  pub step_append : (a b : List Step) → step_lines f (a ++ b) ≡ step_lines f a ++ step_lines f b
  step_append [] b = refl
  step_append (put c ∷ ss) b = either_append (f c.kind) c.bytes (step_lines f (ss ++ b)) (step_lines f ss) (step_lines f b) (step_append ss b)
  step_append (close e ∷ ss) b = step_append ss b

  pub step_join : (a b : List Step) {x y : List Line} → step_lines f a ≡ x → step_lines f b ≡ y → step_lines f (a ++ b) ≡ x ++ y
  step_join a b p q = step_append a b ∙ ap₂ (λ (u v : List Line). u ++ v) p q

  pub each_kept : (k : Kind) (ls : List Line) → f k ≡ true → step_lines f (each k ls) ≡ ls
  each_kept k [] e = refl
  each_kept k (l ∷ ls) e = rw e (ap (λ (r : List Line). l ∷ r) (each_kept k ls e))

  pub each_left : (k : Kind) (ls : List Line) → f k ≡ false → step_lines f (each k ls) ≡ []
  each_left k [] e = refl
  each_left k (l ∷ ls) e = rw e (each_left k ls e)

  pub each_is : (k : Kind) (ls : List Line) → step_lines f (each k ls) ≡ cond (f k) ls []
  each_is k ls = by (f k) refl
    where
      by : (b : Bool) → f k ≡ b → step_lines f (each k ls) ≡ cond b ls []
      by true e = each_kept k ls e
      by false e = each_left k ls e

-- a test that passes common lines and no markers
none_either : (b : Bool) → ◌≡◌ {A = List Line} [] (cond b [] [])
none_either true = refl
none_either false = refl

module _ (f : Kind → Bool) (fc : f common ≡ true) (fm : f marker ≡ false) where
  no_marker : (c n : ℕ) (label : Option (List ℕ)) (e : Ending) → step_lines f (marker_steps c n label e) ≡ []
  no_marker c n None e = rw fm
  no_marker c n (Some l) e = rw fm

  based : (s : Sheets) (n : ℕ) (l : Labels) (k : Cluster) → step_lines f (base_steps Diff3 s n l.ancestor (from k) (to k)) ≡ cond (f base) (base_lines s k) []
  based s n l k = step_join f (marker_steps 124 n l.ancestor (base_ending s (from k) (to k))) (each base (base_lines s k)) (no_marker 124 n l.ancestor (base_ending s (from k) (to k))) (each_is f base (base_lines s k))

  base_is : (st : ConflictStyle) (s : Sheets) (n : ℕ) (l : Labels) (k : Cluster) → step_lines f (base_steps st s n l.ancestor (from k) (to k)) ≡ cond (f base) (base_part st s k) []
  base_is Merge s n l k = none_either (f base)
  base_is Diff3 s n l k = based s n l k
  base_is ZealousDiff3 s n l k = based s n l k

  block_is : (st : ConflictStyle) (s : Sheets) (n : ℕ) (l : Labels) (e : Ending) (k : Cluster) (d : Sides)
      → step_lines f (block_steps st s n l e (from k) (to k) d.left d.right) ≡ passed f (side_lines s d.left) (base_part st s k) (side_lines s d.right)
  block_is st s n l e k d =
      let m60 = marker_steps 60 n l.current e in
      let m61 = marker_steps 61 n None e in
      let m62 = marker_steps 62 n l.other e in
      let eo = each ours (side_lines s d.left) in
      let et = each theirs (side_lines s d.right) in
      let bs = base_steps st s n l.ancestor (from k) (to k) in
      step_join f m60 (eo ++ (bs ++ (m61 ++ (et ++ m62)))) (no_marker 60 n l.current e)
      (step_join f eo (bs ++ (m61 ++ (et ++ m62))) (each_is f ours (side_lines s d.left))
      (step_join f bs (m61 ++ (et ++ m62)) (base_is st s n l k)
      (step_join f m61 (et ++ m62) (no_marker 61 n None e)
      (step_join f et m62 (each_is f theirs (side_lines s d.right)) (no_marker 62 n l.other e) ∙ append-nil (cond (f theirs) (side_lines s d.right) [])))))

  agreed_is : (st : ConflictStyle) (s : Sheets) (d : Sides) → step_lines f (agreed_steps st s d.left) ≡ agreed_lines st s d
  agreed_is Merge s d = refl
  agreed_is Diff3 s d = each_kept f common (side_lines s d.left) fc
  agreed_is ZealousDiff3 s d = refl

  pub either_steps : (b : Bool) (x y : List Step) (u v : List Line) → step_lines f x ≡ u → step_lines f y ≡ v → step_lines f (cond b x y) ≡ cond b u v
  either_steps true x y u v p q = p
  either_steps false x y u v p q = q

  pub keep_is : (st : ConflictStyle) (s : Sheets) (n : ℕ) (l : Labels) (since : ℕ) (k : Cluster) (d : Sides)
      → step_lines f (keep_steps st s n l since (from k) (to k) d)
      ≡ side_lines s d.front ++ (cond (blocked st s d.left d.right) (passed f (side_lines s d.left) (base_part st s k) (side_lines s d.right)) (agreed_lines st s d) ++ side_lines s d.back)
  keep_is st s n l since k d =
      let e = marker_ending s since (from k) d.front d.left in
      let blk = block_steps st s n l e (from k) (to k) d.left d.right in
      let agr = agreed_steps st s d.left in
      let mid = cond (blocked st s d.left d.right) blk agr in
      step_join f (each common (side_lines s d.front)) (mid ++ each common (side_lines s d.back)) (each_kept f common (side_lines s d.front) fc)
      (step_join f mid (each common (side_lines s d.back))
      (either_steps (blocked st s d.left d.right) blk agr (passed f (side_lines s d.left) (base_part st s k) (side_lines s d.right)) (agreed_lines st s d) (block_is st s n l e k d) (agreed_is st s d))
      (each_kept f common (side_lines s d.back) fc))
