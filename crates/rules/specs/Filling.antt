-- Filling: the two sides of a group over its whole range. Where a side has no hunk, the ancestor's lines stand as Ancestor hunks.
use Rattle.std.specs.Prelude.{ℕ, Bool, cond, not, List, [], ◌∷◌, ◌++◌, nat_lt}
use Rattle.rules.specs.declared.hunk.Hunk.{Hunk}
use Rattle.rules.specs.declared.hunk.Side.{Side}
use Rattle.rules.specs.declared.hunk.Side.TheVariants.{Ancestor}
use Rattle.rules.specs.Lines.{Line, between, same_lines}
use Rattle.rules.specs.Hunks.{Sheets, side_lines}
use Rattle.rules.specs.Walk.{is_current, is_other, picked}
use Rattle.rules.specs.Groups.{Cluster, members, from, to}

-- The ancestor lines a..b as a hunk, or nothing where there are none.
abbrev pub stretch : ℕ → ℕ → List Hunk
stretch a b = cond (nat_lt a b) (record { before = record { start = a; end = b }; after = record { start = a; end = b }; side = Ancestor } ∷ []) []

-- The hunks of one side in order, with the stretches of a..b outside them; an insertion stands ahead of a stretch that starts with it.
abbrev pub filled : ℕ → ℕ → List Hunk → List Hunk
filled a b [] = stretch a b
filled a b (h ∷ hs) = stretch a h.before.start ++ (h ∷ filled h.before.end b hs)

-- One side of a cluster, filled over its range: ours and theirs.
abbrev pub side_of : (Side → Bool) → Cluster → List Hunk
side_of f k = filled (from k) (to k) (picked f (members k))

abbrev pub ours_of : Cluster → List Hunk
ours_of = side_of is_current

abbrev pub theirs_of : Cluster → List Hunk
theirs_of = side_of is_other

-- The two sides of a group as lines.
abbrev pub ours_lines : Sheets → Cluster → List Line
ours_lines s k = side_lines s (ours_of k)

abbrev pub theirs_lines : Sheets → Cluster → List Line
theirs_lines s k = side_lines s (theirs_of k)

-- The ancestor's lines of its range.
abbrev pub base_lines : Sheets → Cluster → List Line
base_lines s k = between s.ancestor (from k) (to k)

-- The two sides of a group differ when their lists of lines do.
abbrev pub sides_differ : Sheets → Cluster → Bool
sides_differ s k = not (same_lines (side_lines s (ours_of k)) (side_lines s (theirs_of k)))
