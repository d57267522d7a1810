-- The laws of contraction.
use Rattle.std.specs.Prelude.{◌≡◌, ◌<◌, false, List, [], ◌∷◌, ◌++◌, ◌≢◌}
use Rattle.std.specs.List.{AllByRecursion}
use Rattle.rules.specs.declared.hunk.Hunk.{Hunk}
use Rattle.rules.specs.declared.hunk.Side.{Side}
use Rattle.rules.specs.declared.hunk.Side.TheVariants.{Current, Other, Ancestor}
use Rattle.rules.specs.declared.hunk.Span.{Span}
use Rattle.rules.specs.Lines.{Line}
use Rattle.rules.specs.SharedLines.{shared_start, middle, shared_end}
use Rattle.rules.specs.Hunks.{Sheets, side_lines, opposite}
use Rattle.rules.specs.Groups.{Cluster}
use Rattle.rules.specs.Filling.{ours_lines, theirs_lines, ours_of, theirs_of}
use Rattle.rules.specs.Contraction.{read_range}
use Rattle.rules.specs.Sides.{Sides}

-- An Ancestor hunk has one range.
abbrev pub Straight : Hunk → Type 0
Straight h = h.side ≡ Ancestor → h.after ≡ h.before

-- A hunk that is not of the side facing another.
abbrev pub NotFacing : Side → Hunk → Type 0
NotFacing side h = opposite side h.side ≡ false

-- A range parted in two that are not empty.
abbrev pub Parted : Span → Span → Span → Type 0
Parted r p q = (p.start ≡ r.start) × (p.end ≡ q.start) × (q.end ≡ r.end) × (p.start < p.end) × (q.start < q.end)

-- Two parts of a hunk: the range that is read is parted. Of an Ancestor hunk both ranges are; otherwise both parts keep the other range.
abbrev pub PartsBy : Side → Hunk → Hunk → Hunk → Type 0
PartsBy Current h a b = Parted h.after a.after b.after × (a.before ≡ h.before) × (b.before ≡ h.before)
PartsBy Other h a b = Parted h.after a.after b.after × (a.before ≡ h.before) × (b.before ≡ h.before)
PartsBy Ancestor h a b = Parted h.before a.before b.before × (a.after ≡ a.before) × (b.after ≡ b.before)

pub record Parts (h a b : Hunk) : Type 0 where
  pub first_side : a.side ≡ h.side
  pub second_side : b.side ≡ h.side
  pub parted : PartsBy h.side h a b

-- A list of hunks cut in two: between two hunks, or within one, which is cut in its place.
pub data CutInTwo : List Hunk → List Hunk → List Hunk → Type 0 where
  between_hunks : (xs ys : List Hunk) → CutInTwo (xs ++ ys) xs ys
  within_hunk : (xs : List Hunk) (h a b : Hunk) (ys : List Hunk) → Parts h a b → CutInTwo (xs ++ (h ∷ ys)) (xs ++ (a ∷ [])) (b ∷ ys)

abbrev pub HasLine : Hunk → Type 0
HasLine h = (read_range h.side h).start < (read_range h.side h).end

-- The hunks of a side parted into front, what is left, and back. A hunk without lines goes along to the front only if a removed line follows it,
-- and to the back only if one precedes it: so the front ends in a hunk with a line, and the back begins with one.
pub record Cuts (hs front left back : List Hunk) : Type 0 where
  pub rest : List Hunk
  pub first_cut : CutInTwo hs front rest
  pub second_cut : CutInTwo rest left back
  pub front_ends : (xs : List Hunk) (h : Hunk) → front ≡ xs ++ (h ∷ []) → HasLine h
  pub back_begins : (h : Hunk) (ys : List Hunk) → back ≡ h ∷ ys → HasLine h

-- What the facing side loses has the lines of front and back.
pub record FacingCuts (s : Sheets) (hs front left back : List Hunk) : Type 0 where
  pub lost_front : List Hunk
  pub lost_back : List Hunk
  pub same_front : side_lines s lost_front ≡ side_lines s front
  pub same_back : side_lines s lost_back ≡ side_lines s back
  pub cuts : Cuts hs lost_front left lost_back

-- What contraction leaves of a group's sides: the front is the longest equal run of leading lines, the back that of trailing lines among the
-- rest; with them the left part is ours and the right part theirs; nothing is left exactly when the sides are equal, and then the back is empty.
pub record ContractionLaw (s : Sheets) (k : Cluster) (d : Sides) : Type 0 where
  pub front : side_lines s d.front ≡ shared_start (ours_lines s k) (theirs_lines s k)
  pub left : side_lines s d.left ≡ middle (ours_lines s k) (theirs_lines s k)
  pub right : side_lines s d.right ≡ middle (theirs_lines s k) (ours_lines s k)
  pub back : side_lines s d.back ≡ shared_end (ours_lines s k) (theirs_lines s k)
  pub ours_whole : side_lines s d.front ++ (side_lines s d.left ++ side_lines s d.back) ≡ ours_lines s k
  pub theirs_whole : side_lines s d.front ++ (side_lines s d.right ++ side_lines s d.back) ≡ theirs_lines s k
  pub nothing_left : ours_lines s k ≡ theirs_lines s k → (side_lines s d.left ≡ []) × (side_lines s d.right ≡ []) × (side_lines s d.back ≡ [])
  pub then_equal : side_lines s d.left ≡ side_lines s d.right → ours_lines s k ≡ theirs_lines s k
  -- no longer run: behind the front the sides go on with different lines, and so does what is left end
  pub front_longest : (x y : Line) (xs ys : List Line) → side_lines s d.left ++ side_lines s d.back ≡ x ∷ xs → side_lines s d.right ++ side_lines s d.back ≡ y ∷ ys → x ≢ y
  pub back_longest : (x y : Line) (xs ys : List Line) → side_lines s d.left ≡ xs ++ (x ∷ []) → side_lines s d.right ≡ ys ++ (y ∷ []) → x ≢ y
  -- front and back are of the lead side, that of the group's first hunk: no hunk of theirs is of the facing side
  pub led : AllByRecursion (NotFacing k.first.side) d.front × AllByRecursion (NotFacing k.first.side) d.back
  pub ours_left : AllByRecursion (NotFacing Current) d.left
  pub theirs_left : AllByRecursion (NotFacing Other) d.right
  -- a cut of an Ancestor hunk changes both of its ranges
  pub straight : AllByRecursion Straight d.front × AllByRecursion Straight d.left × AllByRecursion Straight d.right × AllByRecursion Straight d.back
  -- whole hunks leave, and one hunk is cut in its place; front and back are what the lead side loses
  pub ours_lead : k.first.side ≡ Current → Cuts (ours_of k) d.front d.left d.back × FacingCuts s (theirs_of k) d.front d.right d.back
  pub theirs_lead : k.first.side ≡ Other → Cuts (theirs_of k) d.front d.right d.back × FacingCuts s (ours_of k) d.front d.left d.back
