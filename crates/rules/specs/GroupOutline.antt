-- The outline of a rendering that keeps conflicts, from the groups alone: common lines and blocks. A group whose sides agree gives their lines, any
-- other group a block; outside Diff3 the lines that the sides share at both ends stand outside the block.
use Rattle.std.specs.Prelude.{ℕ, cond, List, [], ◌∷◌, ◌++◌, map, drop}
use Rattle.rules.specs.declared.mode.ConflictStyle.{ConflictStyle}
use Rattle.rules.specs.Lines.{Line, between}
use Rattle.rules.specs.SharedLines.{shared_start, middle, shared_end}
use Rattle.rules.specs.Hunks.{Sheets, hunk_lines}
use Rattle.rules.specs.Groups.{Cluster, from, to, is_group}
use Rattle.rules.specs.Filling.{sides_differ, ours_lines, theirs_lines, base_lines}
use Rattle.rules.specs.Sides.{contracts, with_base}
use Rattle.rules.specs.Outline.{Item, line, block}

-- A block with the lines shared at both ends outside.
abbrev pub drawn_in : List Line → List Line → List Line → List Item
drawn_in xs b ys = map line (shared_start xs ys) ++ (block (middle xs ys) b (middle ys xs) ∷ map line (shared_end xs ys))

abbrev pub block_items : ConflictStyle → List Line → List Line → List Line → List Item
block_items st xs b ys = cond (contracts st) (drawn_in xs b ys) (block xs b ys ∷ [])

abbrev pub base_part : ConflictStyle → Sheets → Cluster → List Line
base_part st s k = cond (with_base st) (base_lines s k) []

abbrev pub group_items : ConflictStyle → Sheets → Cluster → List Item
group_items st s k = cond (sides_differ s k) (block_items st (ours_lines s k) (base_part st s k) (theirs_lines s k)) (map line (ours_lines s k))

abbrev pub cluster_items : ConflictStyle → Sheets → Cluster → List Item
cluster_items st s k = cond (is_group k) (group_items st s k) (map line (hunk_lines s k.first))

abbrev pub items : ConflictStyle → Sheets → ℕ → List Cluster → List Item
items st s since [] = map line (drop since s.ancestor)
items st s since (k ∷ ks) = map line (between s.ancestor since (from k)) ++ (cluster_items st s k ++ items st s (to k) ks)
