-- The two sides of a group as a mode takes them: what left them ahead and behind, and what is left. The lead side is that of the group's first hunk;
-- what it loses becomes front and back. Diff3 does not contract.
use Rattle.std.specs.Prelude.{Bool, true, false, cond, not, ◌||◌, List, [], ◌∷◌}
use Rattle.rules.specs.declared.hunk.Hunk.{Hunk}
use Rattle.rules.specs.declared.mode.ConflictStyle.{ConflictStyle}
use Rattle.rules.specs.declared.mode.ConflictStyle.TheVariants.{Merge, Diff3, ZealousDiff3}
use Rattle.rules.specs.Lines.{Line}
use Rattle.rules.specs.Hunks.{Sheets, side_lines}
use Rattle.rules.specs.Walk.{is_current}
use Rattle.rules.specs.Groups.{Cluster}
use Rattle.rules.specs.Filling.{ours_of, theirs_of}
use Rattle.rules.specs.Contraction.{Contracted, contracted}

-- What left the sides ahead, what is left of ours and of theirs, and what left them behind.
pub record Sides : Type 0 where
  pub front : List Hunk
  pub left : List Hunk
  pub right : List Hunk
  pub back : List Hunk

-- The lead is ours or theirs.
abbrev pub by_lead : Bool → Contracted → Sides
by_lead true c = record { front = c.front; left = c.lead; right = c.facing; back = c.back }
by_lead false c = record { front = c.front; left = c.facing; right = c.lead; back = c.back }

abbrev pub contracted_by : Sheets → Bool → Cluster → Sides
contracted_by s true k = by_lead true (contracted s (ours_of k) (theirs_of k))
contracted_by s false k = by_lead false (contracted s (theirs_of k) (ours_of k))

abbrev pub contracted_sides : Sheets → Cluster → Sides
contracted_sides s k = contracted_by s (is_current k.first.side) k

-- Not contracted.
abbrev pub whole_sides : Cluster → Sides
whole_sides k = record { front = []; left = ours_of k; right = theirs_of k; back = [] }

-- The styles that contract, and those that write the ancestor's lines.
abbrev pub contracts : ConflictStyle → Bool
contracts Merge = true
contracts Diff3 = false
contracts ZealousDiff3 = true

abbrev pub with_base : ConflictStyle → Bool
with_base Merge = false
with_base Diff3 = true
with_base ZealousDiff3 = true

-- As a style takes them.
abbrev pub sides_in : ConflictStyle → Sheets → Cluster → Sides
sides_in style s k = cond (contracts style) (contracted_sides s k) (whole_sides k)

abbrev pub no_line : List Line → Bool
no_line [] = true
no_line (l ∷ ls) = false

-- Whether either side has a line.
abbrev pub line_left : Sheets → List Hunk → List Hunk → Bool
line_left s left right = not (no_line (side_lines s left)) || not (no_line (side_lines s right))
