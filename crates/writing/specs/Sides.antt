-- The two sides of a group handed over as lists of hunks, ours and theirs, and what a mode writes of them. They are what `rules` says of the group
-- whose sides they are.
use Rattle.std.specs.Prelude.{◌≡◌, ℕ, ◌≤◌, Bool, true, false, cond, not, List, [], length}
use Rattle.rules.specs.declared.hunk.Hunk.{Hunk}
use Rattle.rules.specs.declared.mode.ConflictStyle.{ConflictStyle}
use Rattle.rules.specs.declared.mode.Conflict as modes
use Rattle.rules.specs.declared.mode.Conflict.TheVariants.{Keep, ResolveWithOurs, ResolveWithTheirs, ResolveWithUnion}
use Rattle.rules.specs.Limits.{max_filled}
use Rattle.rules.specs.Lines.{same_lines}
use Rattle.rules.specs.Hunks.{Sheets, side_lines}
use Rattle.rules.specs.Walk.{is_current}
use Rattle.rules.specs.Groups.{Cluster, from, to}
use Rattle.rules.specs.Filling.{ours_of, theirs_of}
use Rattle.rules.specs.Contraction.{contracted}
use Rattle.rules.specs.Sides.{Sides, by_lead, contracts}
use Rattle.rules.specs.Pieces.{common}
use Rattle.rules.specs.Steps.{Step, each}
use Rattle.rules.specs.Markers.{Labels}
use Rattle.rules.specs.Blocks.{keep_steps, blocked}
use Rattle.rules.specs.Unions.{union_steps}
use Rattle.rules.specs.Rendering.{group_steps}
use Rattle.rules.specs.Verdict.{marks}
use Rattle.reading.specs.Reading.{AllReadable}
use Rattle.writing.specs.declared.sides.Sides as code

-- What left two sides ahead, what is left of ours and of theirs, and what left them behind.
abbrev pub sides_of : List Hunk → List Hunk → List Hunk → List Hunk → Sides
sides_of f l r b = record { front = f; left = l; right = r; back = b }

-- The lists that the code lends.
abbrev pub lists_lent : code.Sides → Sides
lists_lent d = sides_of d.front.now d.left.now d.right.now d.back.now

-- Neither side has more hunks than a working list holds.
abbrev pub Few : code.Sides → Type 0
Few d = (length d.left.now ≤ max_filled) × (length d.right.now ≤ max_filled)

-- All four lists can be read.
pub record Readables (s : Sheets) (d : Sides) : Type 0 where
  pub front : AllReadable s d.front
  pub left : AllReadable s d.left
  pub right : AllReadable s d.right
  pub back : AllReadable s d.back

-- Ours and theirs contracted; the lead is ours or theirs.
abbrev pub contracted_lists : Sheets → Bool → List Hunk → List Hunk → Sides
contracted_lists s true l r = by_lead true (contracted s l r)
contracted_lists s false l r = by_lead false (contracted s r l)

-- As a style takes them.
abbrev pub lists_in : ConflictStyle → Sheets → Bool → List Hunk → List Hunk → Sides
lists_in style s b l r = cond (contracts style) (contracted_lists s b l r) (sides_of [] l r [])

-- Whether the lines of two lists of hunks differ.
abbrev pub lists_differ : Sheets → List Hunk → List Hunk → Bool
lists_differ s l r = not (same_lines (side_lines s l) (side_lines s r))

-- What a mode writes of a group over a range, and whether it marks it.
abbrev pub lists_steps : modes.Conflict → Sheets → Labels → ℕ → ℕ → ℕ → Bool → List Hunk → List Hunk → List Step
lists_steps (Keep style n) s labels since from to b l r = keep_steps style s n labels since from to (lists_in style s b l r)
lists_steps ResolveWithOurs s labels since from to b l r = each common (side_lines s l)
lists_steps ResolveWithTheirs s labels since from to b l r = each common (side_lines s r)
lists_steps ResolveWithUnion s labels since from to b l r = union_steps s (contracted_lists s b l r)

abbrev pub lists_marked : modes.Conflict → Sheets → Bool → List Hunk → List Hunk → Bool
lists_marked (Keep style n) s b l r = blocked style s (lists_in style s b l r).left (lists_in style s b l r).right
lists_marked ResolveWithOurs s b l r = lists_differ s l r
lists_marked ResolveWithTheirs s b l r = lists_differ s l r
lists_marked ResolveWithUnion s b l r = lists_differ s (contracted_lists s b l r).left (contracted_lists s b l r).right

-- The size of a mode's markers, 0 where it writes none.
abbrev pub size_of : modes.Conflict → ℕ
size_of (Keep style n) = n
size_of ResolveWithOurs = 0
size_of ResolveWithTheirs = 0
size_of ResolveWithUnion = 0

-- Of a group's own sides, range and lead, that is what is written of the group, and whether it is marked.
pub record GroupTold (m : modes.Conflict) (s : Sheets) (labels : Labels) (since : ℕ) (k : Cluster) : Type 0 where
  pub steps : lists_steps m s labels since (from k) (to k) (is_current k.first.side) (ours_of k) (theirs_of k) ≡ group_steps m s labels since k
  pub marked : lists_marked m s (is_current k.first.side) (ours_of k) (theirs_of k) ≡ marks m s k

abbrev pub GroupsTold : Type 0
GroupsTold = (m : modes.Conflict) (s : Sheets) (labels : Labels) (since : ℕ) (k : Cluster) → GroupTold m s labels since k
