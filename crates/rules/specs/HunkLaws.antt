-- The laws of hunks: which lines they stand for, and what fills a group's sides.
use Rattle.std.specs.Prelude.{◌≡◌, ℕ, ◌+◌, ◌≤◌, List, [], ◌∷◌, ◌++◌, length}
use Rattle.rules.specs.declared.hunk.Hunk.{Hunk}
use Rattle.rules.specs.declared.hunk.Side.TheVariants.{Current, Other, Ancestor}
use Rattle.rules.specs.Lines.{Line}
use Rattle.rules.specs.Hunks.{Sheets, hunk_lines, side_lines, sheet_of}
use Rattle.rules.specs.Walk.{currents, others}
use Rattle.rules.specs.Groups.{from, to, Cluster, members}
use Rattle.rules.specs.Filling.{ours_lines, ours_of, theirs_lines, theirs_of}
use Rattle.rules.specs.PutIn.{put_between}

-- r is the range a..b of a list of lines.
pub record RangeOf (ls : List Line) (a b : ℕ) (r : List Line) : Type 0 where
  pub ahead : List Line
  pub behind : List Line
  pub whole : ls ≡ ahead ++ (r ++ behind)
  pub starts : length ahead ≡ a
  pub ends : length ahead + length r ≡ b

pub record HunkLaws (s : Sheets) : Type 0 where
  -- a side names its sheet
  pub sheets : (sheet_of s Current ≡ s.current) × (sheet_of s Other ≡ s.other) × (sheet_of s Ancestor ≡ s.ancestor)
  -- a hunk stands for its after range in its side's sheet, an Ancestor hunk for its before range in the ancestor
  pub current : (h : Hunk) → h.side ≡ Current → h.after.start ≤ h.after.end → h.after.end ≤ length s.current → RangeOf s.current h.after.start h.after.end (hunk_lines s h)
  pub other : (h : Hunk) → h.side ≡ Other → h.after.start ≤ h.after.end → h.after.end ≤ length s.other → RangeOf s.other h.after.start h.after.end (hunk_lines s h)
  pub ancestor : (h : Hunk) → h.side ≡ Ancestor → h.before.start ≤ h.before.end → h.before.end ≤ length s.ancestor → RangeOf s.ancestor h.before.start h.before.end (hunk_lines s h)
  -- the lines of a list of hunks are those of each in turn
  pub none : side_lines s [] ≡ []
  pub more : (hs : List Hunk) (h : Hunk) → side_lines s (hs ++ (h ∷ [])) ≡ side_lines s hs ++ hunk_lines s h
  -- a side of a group is the ancestor's lines of the group's range with that side's hunks of the group put in, and has no other hunks of its side
  pub ours_filled : (k : Cluster) → ours_lines s k ≡ put_between s (from k) (to k) (currents (members k))
  pub theirs_filled : (k : Cluster) → theirs_lines s k ≡ put_between s (from k) (to k) (others (members k))
  pub ours_hunks : (k : Cluster) → currents (ours_of k) ≡ currents (members k)
  pub theirs_hunks : (k : Cluster) → others (theirs_of k) ≡ others (members k)
