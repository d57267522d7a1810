-- The lists that a group is worked in.
use Rattle.std.specs.Prelude.{ℕ, take, drop}
use Rattle.rules.specs.declared.hunk.Side.{Side}
use Rattle.rules.specs.declared.mode.ConflictStyle.{ConflictStyle}
use Rattle.rules.specs.Hunks.{Sheets}
use Rattle.rules.specs.Walk.{is_current}
use Rattle.rules.specs.Sides.{Sides}
use Rattle.reading.specs.Reading.{AllReadable}
use Rattle.writing.specs.declared.desk.Desk.{Desk}
use Rattle.writing.specs.Sides.{sides_of, contracted_lists, lists_in}

-- The lists of a desk contracted, and as a style takes them; the lead is the side of the group's first hunk.
abbrev pub desk_contracted : Sheets → Side → Desk → Sides
desk_contracted s lead d = contracted_lists s (is_current lead) d.ours d.theirs

abbrev pub desk_lists : ConflictStyle → Sheets → Side → Desk → Sides
desk_lists style s lead d = lists_in style s (is_current lead) d.ours d.theirs

-- Both sides can be read.
pub record Legible (s : Sheets) (d : Desk) : Type 0 where
  pub ours : AllReadable s d.ours
  pub theirs : AllReadable s d.theirs

-- The sides, the first n of the removed hunks in front and the others behind.
abbrev pub split_lists : Desk → ℕ → Sides
split_lists d n = sides_of (take n d.removed) d.ours d.theirs (drop n d.removed)
