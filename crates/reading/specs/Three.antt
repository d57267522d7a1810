-- Three sheets together: the lists of lines that they mean, each well formed.
use Rattle.rules.specs.Texts.{Formed, LineList}
use Rattle.rules.specs.Hunks.{Sheets, sheets_of}

-- Each of the three lists is made of lines and stays within the limits.
pub record AllFormed (s : Sheets) : Type 0 where
  pub ancestor : Formed s.ancestor
  pub current : Formed s.current
  pub other : Formed s.other

abbrev pub three_lists : LineList → LineList → LineList → Sheets
three_lists a c o = sheets_of a.lines c.lines o.lines

abbrev pub three_formed : (a c o : LineList) → AllFormed (three_lists a c o)
three_formed a c o = record { ancestor = a.formed; current = c.formed; other = o.formed }
