-- A table of the code as a table of the rules.
use Rattle.rules.specs.Tables.{Held}
use Rattle.hunks.specs.declared.table.HunkTable.TheInside.{Inside}

-- The line counts, and the hunks of the two sides.
abbrev pub table_of : Inside → Held
table_of t = record {
  ancestor_lines = t.ancestor_lines;
  current_lines = t.current.lines;
  other_lines = t.other.lines;
  current = t.current.hunks;
  other = t.other.hunks;
}
