-- Hunks: the lines that they stand for, and when two touch. A hunk of Current or Other stands for its after range in its side's sheet, an Ancestor
-- hunk for its before range in the ancestor.
use Rattle.std.specs.Prelude.{Bool, true, false, not, ◌&&◌, ◌||◌, List, [], ◌∷◌, ◌++◌, filter, nat_le}
use Rattle.rules.specs.declared.hunk.Hunk.{Hunk}
use Rattle.rules.specs.declared.hunk.Side.{Side}
use Rattle.rules.specs.declared.hunk.Side.TheVariants.{Current, Other, Ancestor}
use Rattle.rules.specs.Lines.{Line, between}

-- The three sheets, each as its lines.
pub record Sheets : Type 0 where
  pub ancestor : List Line
  pub current : List Line
  pub other : List Line

abbrev pub sheets_of : List Line → List Line → List Line → Sheets
sheets_of a c o = record { ancestor = a; current = c; other = o }

-- The sheet that a side names.
abbrev pub sheet_of : Sheets → Side → List Line
sheet_of s Current = s.current
sheet_of s Other = s.other
sheet_of s Ancestor = s.ancestor

-- A hunk's lines, read from the sheet that its side names.
abbrev pub lines_by : Sheets → Side → Hunk → List Line
lines_by s Current h = between s.current h.after.start h.after.end
lines_by s Other h = between s.other h.after.start h.after.end
lines_by s Ancestor h = between s.ancestor h.before.start h.before.end

abbrev pub hunk_lines : Sheets → Hunk → List Line
hunk_lines s h = lines_by s h.side h

-- The lines of a list of hunks, in order.
abbrev pub side_lines : Sheets → List Hunk → List Line
side_lines s [] = []
side_lines s (h ∷ hs) = hunk_lines s h ++ side_lines s hs

-- Current and Other are opposite.
abbrev pub opposite : Side → Side → Bool
opposite Current Current = false
opposite Current Other = true
opposite Current Ancestor = false
opposite Other Current = true
opposite Other Other = false
opposite Other Ancestor = false
opposite Ancestor Current = false
opposite Ancestor Other = false
opposite Ancestor Ancestor = false

-- Hunks of opposite sides touch if neither starts behind the other's end.
abbrev pub touches : Hunk → Hunk → Bool
touches a b = opposite a.side b.side && (nat_le a.before.start b.before.end && nat_le b.before.start a.before.end)

abbrev pub touches_any : Hunk → List Hunk → Bool
touches_any a [] = false
touches_any a (b ∷ bs) = touches a b || touches_any a bs

-- The hunks of a list that touch none of the facing side.
abbrev pub lone_ones : List Hunk → List Hunk → List Hunk
lone_ones facing = filter (λ h. not (touches_any h facing))
