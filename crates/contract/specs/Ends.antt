-- The equal lines at both ends of two lists of hunks, and what contraction answers.
use Rattle.std.specs.Prelude.{ℕ, ◌-◌, List, ◌++◌, length}
use Rattle.rules.specs.declared.hunk.Hunk.{Hunk}
use Rattle.rules.specs.SharedLines.{shared_front, shared_back}
use Rattle.rules.specs.Hunks.{Sheets, side_lines}
use Rattle.rules.specs.Contraction.{Cut, cut_front, cut_back, Contracted}

-- A list of hunks, cut behind the leading lines that a and b share, and cut ahead of the trailing lines that they share.
abbrev pub shared_front_cut : Sheets → List Hunk → List Hunk → List Hunk → Cut
shared_front_cut s a b hs = cut_front (shared_front (side_lines s a) (side_lines s b)) hs

abbrev pub shared_back_cut : Sheets → List Hunk → List Hunk → List Hunk → Cut
shared_back_cut s a b hs = cut_back (length (side_lines s hs) - shared_back (side_lines s a) (side_lines s b)) hs

-- What contraction removed of the lead, front then back.
abbrev pub removed_of : Contracted → List Hunk
removed_of c = c.front ++ c.back

-- How many hunks it removed, how many of them in front, and how many remain of the lead.
abbrev pub counts_of : Contracted → ℕ × ℕ × ℕ
counts_of c = (length (removed_of c), length c.front, length c.lead)
