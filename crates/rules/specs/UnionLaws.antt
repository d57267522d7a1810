-- The laws of Union: where it closes an open line, and by which ending.
use Rattle.std.specs.Prelude.{◌≡◌, Bool, false, cond, ◌&&◌, List, [], ◌∷◌, ◌++◌, Some, None, Option}
use Rattle.rules.specs.declared.ending.Ending.{Ending}
use Rattle.rules.specs.declared.hunk.Hunk.{Hunk}
use Rattle.rules.specs.declared.mode.Conflict.TheVariants.{ResolveWithUnion}
use Rattle.rules.specs.Lines.{Line}
use Rattle.rules.specs.Hunks.{Sheets}
use Rattle.rules.specs.Walk.{walk}
use Rattle.rules.specs.Groups.{Cluster, is_group, clusters}
use Rattle.rules.specs.Filling.{sides_differ}
use Rattle.rules.specs.Sides.{contracted_sides}
use Rattle.rules.specs.Endings.{ending_of}
use Rattle.rules.specs.Pieces.{Chunk, common, ours, theirs}
use Rattle.rules.specs.Steps.{left_open}
use Rattle.rules.specs.Markers.{Labels}
use Rattle.rules.specs.Rendering.{rendering}
use Rattle.rules.specs.MarkerLaws.{piece, closed, first_shown}

-- The endings of a group: ahead of ours, ahead of theirs, and ahead of back if there is a back.
pub record Gaps : Type 0 where
  pub ours : Ending
  pub theirs : Ending
  pub back : Option Ending

-- They are shown by front, ours and theirs in turn, or else newline.
abbrev pub back_gap : Sheets → List Hunk → List Hunk → Option Ending
back_gap s right [] = None
back_gap s right (h ∷ hs) = Some (first_shown (ending_of s right ∷ []))

abbrev pub union_gaps : Sheets → Cluster → Gaps
union_gaps s k =
    let d = contracted_sides s k in
    record { ours = first_shown (ending_of s d.front ∷ []); theirs = first_shown (ending_of s d.left ∷ []); back = back_gap s d.right d.back }

-- Only a group whose sides differ has them.
abbrev pub all_gaps : Sheets → List Cluster → List Gaps
all_gaps s [] = []
all_gaps s (k ∷ ks) = cond (is_group k && sides_differ s k) (union_gaps s k ∷ []) [] ++ all_gaps s ks

-- A place in Union's rendering: outside what is left of a group's sides, in ours, or in theirs.
pub data UnionPlace : Type 0 where
  in_common : UnionPlace
  in_left : Gaps → UnionPlace
  in_right : Gaps → UnionPlace

-- The form of Union's rendering, from a place on, a line being open or not, with the gaps of the groups to come: from common lines on to ours, to
-- theirs and back to common lines, an ending piece standing in between exactly where a line is open.
pub data UnionForm : List Gaps → UnionPlace → Bool → List Chunk → Type 0 where
  union_end : {o : Bool} → UnionForm [] in_common o []
  union_common : {gs : List Gaps} {o : Bool} {cs : List Chunk} (x : Line) → UnionForm gs in_common (left_open o x) cs → UnionForm gs in_common o (piece common x ∷ cs)
  union_ours : {gs : List Gaps} {g : Gaps} {o : Bool} {cs : List Chunk} (x : Line) → UnionForm gs (in_left g) (left_open o x) cs → UnionForm gs (in_left g) o (piece ours x ∷ cs)
  union_theirs : {gs : List Gaps} {g : Gaps} {o : Bool} {cs : List Chunk} (x : Line) → UnionForm gs (in_right g) (left_open o x) cs → UnionForm gs (in_right g) o (piece theirs x ∷ cs)
  to_ours : {gs : List Gaps} {o : Bool} {cs : List Chunk} (g : Gaps) → UnionForm gs (in_left g) false cs → UnionForm (g ∷ gs) in_common o (closed o g.ours ++ cs)
  to_theirs : {gs : List Gaps} {o : Bool} {cs : List Chunk} (g : Gaps) → UnionForm gs (in_right g) false cs → UnionForm gs (in_left g) o (closed o g.theirs ++ cs)
  to_back : {gs : List Gaps} {o : Bool} {cs : List Chunk} (g : Gaps) (e : Ending) → g.back ≡ Some e → UnionForm gs in_common false cs → UnionForm gs (in_right g) o (closed o e ++ cs)
  no_back : {gs : List Gaps} {o : Bool} {cs : List Chunk} (g : Gaps) → g.back ≡ None → UnionForm gs in_common o cs → UnionForm gs (in_right g) o cs

abbrev pub UnionLaw : Sheets → List Hunk → List Hunk → Type 0
UnionLaw s cs os = (l : Labels) → UnionForm (all_gaps s (clusters (walk cs os))) in_common false (rendering ResolveWithUnion s l cs os)
