-- The worked cases: what each mode writes and answers. The bytes and verdicts are those of the mended Rust.
use Rattle.std.specs.Prelude.{◌≡◌, ℕ, List, [], ◌∷◌, Some, None, Ok, Err, codes}
use Rattle.rules.specs.declared.hunk.Hunk.{Hunk}
use Rattle.rules.specs.declared.hunk.Side.{Side}
use Rattle.rules.specs.declared.hunk.Side.TheVariants.{Current, Other}
use Rattle.rules.specs.declared.mode.Conflict as modes
use Rattle.rules.specs.declared.mode.Conflict.TheVariants.{Keep, ResolveWithOurs, ResolveWithTheirs, ResolveWithUnion}
use Rattle.rules.specs.declared.mode.ConflictStyle.TheVariants.{Merge, Diff3, ZealousDiff3}
use Rattle.rules.specs.declared.mode.Resolution.{Resolution}
use Rattle.rules.specs.declared.mode.Resolution.TheVariants.{Complete, CompleteWithAutoResolvedConflict, Conflict}
use Rattle.rules.specs.declared.refusal.RenderRefusal.TheVariants.{SinkTooSmall}
use Rattle.rules.specs.declared.refusal.TableRefusal.TheVariants.{NotBehindLast}
use Rattle.rules.specs.Texts.{text_lines}
use Rattle.rules.specs.Hunks.{Sheets, sheets_of}
use Rattle.rules.specs.Pieces.{all_bytes}
use Rattle.rules.specs.Markers.{Labels, labels_of}
use Rattle.rules.specs.Rendering.{rendering}
use Rattle.rules.specs.Verdict.{verdict}
use Rattle.rules.specs.Refusals.{table_number}
use Rattle.rules.specs.Tables.{opened, enter_answer, enter_after, withdraw_answer, withdraw_after}
use Rattle.rules.specs.Renders.{render_answer}
use Rattle.rules.specs.Outline.{line, block, outline}

-- The hunk a..b/c..d of a side: a..b in the ancestor, c..d in the side's sheet.
abbrev pub hunk_of : Side → ℕ → ℕ → ℕ → ℕ → Hunk
hunk_of side a b c d = record { before = record { start = a; end = b }; after = record { start = c; end = d }; side = side }

abbrev pub cur : ℕ → ℕ → ℕ → ℕ → Hunk
cur = hunk_of Current

abbrev pub oth : ℕ → ℕ → ℕ → ℕ → Hunk
oth = hunk_of Other

-- Three sheets, the hunks held, and what is asked of a render.
pub record Case : Type 0 where
  pub sheets : Sheets
  pub current : List Hunk
  pub other : List Hunk
  pub labels : Labels
  pub size : ℕ

abbrev pub no_labels : Labels
no_labels = labels_of None None None

-- What a mode writes of a case, and its verdict.
pub record Written : Type 0 where
  pub bytes : List ℕ
  pub judged : Resolution

abbrev pub gives : List ℕ → Resolution → Written
gives bytes judged = record { bytes = bytes; judged = judged }

abbrev pub Gives : Case → modes.Conflict → Written → Type 0
Gives c m w = (all_bytes (rendering m c.sheets c.labels c.current c.other) ≡ w.bytes) × (verdict m c.sheets c.current c.other ≡ w.judged)

-- The six modes: Merge, Diff3, ZealousDiff3, ours, theirs, Union.
pub record InModes (c : Case) (merge diff3 zealous ours theirs union : Written) : Type 0 where
  pub in_merge : Gives c (Keep Merge c.size) merge
  pub in_diff3 : Gives c (Keep Diff3 c.size) diff3
  pub in_zealous : Gives c (Keep ZealousDiff3 c.size) zealous
  pub in_ours : Gives c ResolveWithOurs ours
  pub in_theirs : Gives c ResolveWithTheirs theirs
  pub in_union : Gives c ResolveWithUnion union

abbrev pub Always : Case → List ℕ → Resolution → Type 0
Always c bytes judged = let w = gives bytes judged in InModes c w w w w w w

-- No hunks: the ancestor, whatever the mode.
abbrev pub none_held : Case
none_held = record {
  sheets = sheets_of (text_lines (codes "a\nb\n")) (text_lines (codes "a\nb\n")) (text_lines (codes "a\nb\n"));
  current = [];
  other = [];
  labels = no_labels;
  size = 7;
}

-- Hunks of opposite sides that meet without a line between them touch.
abbrev pub adjacent : Case
adjacent = record {
  sheets = sheets_of (text_lines (codes "a\nb\nc\n")) (text_lines (codes "A\nb\nc\n")) (text_lines (codes "a\nB\nc\n"));
  current = cur 0 1 0 1 ∷ [];
  other = oth 1 2 1 2 ∷ [];
  labels = no_labels;
  size = 7;
}

-- With a line between them they are lone: both changes are taken.
abbrev pub separate : Case
separate = record {
  sheets = sheets_of (text_lines (codes "a\nb\nc\n")) (text_lines (codes "A\nb\nc\n")) (text_lines (codes "a\nb\nC\n"));
  current = cur 0 1 0 1 ∷ [];
  other = oth 2 3 2 3 ∷ [];
  labels = no_labels;
  size = 7;
}

-- The same deletion on both sides: a group without a line.
abbrev pub both_delete : Case
both_delete = record {
  sheets = sheets_of (text_lines (codes "a\nb\n")) (text_lines (codes "b\n")) (text_lines (codes "b\n"));
  current = cur 0 1 0 0 ∷ [];
  other = oth 0 1 0 0 ∷ [];
  labels = no_labels;
  size = 7;
}

-- A stretch of the ancestor is cut at the front, behind a hunk without lines.
abbrev pub front_cut : Case
front_cut = record {
  sheets = sheets_of (text_lines (codes "a\nx\nx\ny\ne\n")) (text_lines (codes "a\nx\ny\ne\n")) (text_lines (codes "a\nx\nz\ne\n"));
  current = cur 1 2 1 1 ∷ [];
  other = oth 2 4 2 3 ∷ [];
  labels = no_labels;
  size = 7;
}

-- A stretch of the ancestor is cut, and what is left of it counts for the verdict of a union.
abbrev pub ancestor_cut : Case
ancestor_cut = record {
  sheets = sheets_of (text_lines (codes "A\nB\nD\nZ\n")) (text_lines (codes "A\nA\nB\nD\nD\n")) (text_lines (codes "A\nB\nD\n"));
  current = cur 0 4 0 5 ∷ [];
  other = oth 3 4 3 3 ∷ [];
  labels = no_labels;
  size = 7;
}

-- Equal lines at both ends leave the block; the base is the whole range all the same.
abbrev pub rewritten : Case
rewritten = record {
  sheets = sheets_of (text_lines (codes "a\nb\nc\n")) (text_lines (codes "x\np\nz\n")) (text_lines (codes "x\nq\nz\n"));
  current = cur 0 3 0 3 ∷ [];
  other = oth 0 3 0 3 ∷ [];
  labels = no_labels;
  size = 7;
}

-- One hunk joins two of the other side into one group; the lines between these are written once.
abbrev pub between_two : Case
between_two = record {
  sheets = sheets_of (text_lines (codes "a\nb\nc\nd\n")) (text_lines (codes "A\nb\nc\nD\n")) (text_lines (codes "a\nd\n"));
  current = cur 0 1 0 1 ∷ (cur 3 4 3 4 ∷ []);
  other = oth 1 3 1 1 ∷ [];
  labels = no_labels;
  size = 7;
}

-- Last lines without a newline: a marker begins a line.
abbrev pub no_newline : Case
no_newline = record {
  sheets = sheets_of (text_lines (codes "a")) (text_lines (codes "b")) (text_lines (codes "c"));
  current = cur 0 1 0 1 ∷ [];
  other = oth 0 1 0 1 ∷ [];
  labels = no_labels;
  size = 7;
}

-- The same change on both sides, without a newline: no mode adds one.
abbrev pub no_newline_same : Case
no_newline_same = record {
  sheets = sheets_of (text_lines (codes "a")) (text_lines (codes "b")) (text_lines (codes "b"));
  current = cur 0 1 0 1 ∷ [];
  other = oth 0 1 0 1 ∷ [];
  labels = no_labels;
  size = 7;
}

-- The markers take the ending of the front and not of the lines ahead of it; the base marker has its own; a label
-- that is given and empty still has its space.
abbrev pub front_ending : Case
front_ending = record {
  sheets = sheets_of (text_lines (codes "k\nm\n")) (text_lines (codes "k\nx\r\np\n")) (text_lines (codes "k\nx\r\nq\n"));
  current = cur 1 2 1 3 ∷ [];
  other = oth 1 2 1 3 ∷ [];
  labels = labels_of (Some (codes "a")) (Some (codes "c")) (Some ([]));
  size = 7;
}

-- With no front the ancestor lines since the last change give the ending, here of a short marker.
abbrev pub stretch_ending : Case
stretch_ending = record {
  sheets = sheets_of (text_lines (codes "h\r\nm\nt\n")) (text_lines (codes "h\r\np\nt\n")) (text_lines (codes "h\r\nq\nt\n"));
  current = cur 1 2 1 2 ∷ [];
  other = oth 1 2 1 2 ∷ [];
  labels = labels_of None (Some (codes "<<<")) (Some (codes "theirs"));
  size = 3;
}

-- A front of a newline alone gives no ending: ours gives it, and not the lines ahead of the front.
abbrev pub blank_front : Case
blank_front = record {
  sheets = sheets_of (text_lines (codes "h\r\nm\r\n")) (text_lines (codes "h\r\n\np\n")) (text_lines (codes "h\r\n\nq\n"));
  current = cur 1 2 1 3 ∷ [];
  other = oth 1 2 1 3 ∷ [];
  labels = labels_of (Some ([])) None None;
  size = 7;
}

-- Nothing stands ahead, and ours only deletes: the deleted line gives the ending.
abbrev pub first_deletion : Case
first_deletion = record {
  sheets = sheets_of (text_lines (codes "m\r\n")) ([]) (text_lines (codes "n\n"));
  current = cur 0 1 0 0 ∷ [];
  other = oth 0 1 0 1 ∷ [];
  labels = labels_of None (Some ([])) (Some (codes "n"));
  size = 7;
}

-- A last line that ends in a bare carriage return lacks the newline: the line ahead of it decides, though it lies
-- outside the hunk.
abbrev pub bare_return : Case
bare_return = record {
  sheets = sheets_of (text_lines (codes "k\r\na\r")) (text_lines (codes "k\r\nb\r")) (text_lines (codes "k\r\nc\r"));
  current = cur 1 2 1 2 ∷ [];
  other = oth 1 2 1 2 ∷ [];
  labels = labels_of (Some (codes "base")) (Some (codes "ours")) (Some (codes "theirs"));
  size = 7;
}

-- The front's last piece is a stretch of the ancestor that was cut: its last line ahead of the cut gives the ending.
abbrev pub cut_ending : Case
cut_ending = record {
  sheets = sheets_of (text_lines (codes "d\nx\r\ny\n")) (text_lines (codes "x\r\ny\n")) (text_lines (codes "x\r\nz\n"));
  current = cur 0 1 0 0 ∷ [];
  other = oth 0 3 0 2 ∷ [];
  labels = labels_of (Some (codes "d x y")) (Some ([])) (Some (codes "z"));
  size = 7;
}

-- A union closes an open line of the front by the front's ending. These hunks do not come of a true diff.
abbrev pub union_front : Case
union_front = record {
  sheets = sheets_of (text_lines (codes "a\nm\nb\n")) (text_lines (codes "e\r\nf")) (text_lines (codes "e\r\nf"));
  current = cur 0 3 0 2 ∷ [];
  other = oth 0 1 0 2 ∷ (oth 2 3 2 2 ∷ []);
  labels = no_labels;
  size = 7;
}

-- And an open line of theirs ahead of the back by the ending of theirs.
abbrev pub union_back : Case
union_back = record {
  sheets = sheets_of (text_lines (codes "a\nb\n")) (text_lines (codes "p\nb\n")) (text_lines (codes "u\r\nv"));
  current = cur 0 2 0 2 ∷ [];
  other = oth 0 1 0 2 ∷ [];
  labels = no_labels;
  size = 7;
}

-- At equal starts Current comes first and leads, so that the front is its own. These hunks do not come of a true diff.
abbrev pub equal_starts : Case
equal_starts = record {
  sheets = sheets_of (text_lines (codes "a\nb\nm\n")) (text_lines (codes "e\r\nf")) (text_lines (codes "g\nf"));
  current = cur 0 1 1 2 ∷ [];
  other = oth 0 2 1 2 ∷ [];
  labels = no_labels;
  size = 7;
}

-- The leading lines are shared first, so that a line that could be either stands ahead of the block.
abbrev pub repeated_line : Case
repeated_line = record {
  sheets = sheets_of (text_lines (codes "m\n")) (text_lines (codes "a\na\n")) (text_lines (codes "a\n"));
  current = cur 0 1 0 2 ∷ [];
  other = oth 0 1 0 1 ∷ [];
  labels = no_labels;
  size = 7;
}

-- A union closes an open line of ours by the ending of ours, ahead of theirs.
abbrev pub union_middle : Case
union_middle = record {
  sheets = sheets_of (text_lines (codes "m\n")) (text_lines (codes "x\r\np")) (text_lines (codes "y\nq"));
  current = cur 0 1 0 2 ∷ [];
  other = oth 0 1 0 2 ∷ [];
  labels = no_labels;
  size = 7;
}

pub record Cases : Type 0 where
  pub none_held_in_all : Always none_held (codes "a\nb\n") Complete
  pub adjacent_in_modes : InModes adjacent
      (gives (codes "<<<<<<<\nA\nb\n=======\na\nB\n>>>>>>>\nc\n") Conflict)
      (gives (codes "<<<<<<<\nA\nb\n|||||||\na\nb\n=======\na\nB\n>>>>>>>\nc\n") Conflict)
      (gives (codes "<<<<<<<\nA\nb\n|||||||\na\nb\n=======\na\nB\n>>>>>>>\nc\n") Conflict)
      (gives (codes "A\nb\nc\n") CompleteWithAutoResolvedConflict)
      (gives (codes "a\nB\nc\n") CompleteWithAutoResolvedConflict)
      (gives (codes "A\nb\na\nB\nc\n") CompleteWithAutoResolvedConflict)
  pub separate_in_all : Always separate (codes "A\nb\nC\n") Complete
  pub both_delete_in_all : Always both_delete (codes "b\n") Complete
  pub front_cut_in_modes : InModes front_cut
      (gives (codes "a\nx\n<<<<<<<\ny\n=======\nz\n>>>>>>>\ne\n") Conflict)
      (gives (codes "a\n<<<<<<<\nx\ny\n|||||||\nx\nx\ny\n=======\nx\nz\n>>>>>>>\ne\n") Conflict)
      (gives (codes "a\nx\n<<<<<<<\ny\n|||||||\nx\nx\ny\n=======\nz\n>>>>>>>\ne\n") Conflict)
      (gives (codes "a\nx\ny\ne\n") CompleteWithAutoResolvedConflict)
      (gives (codes "a\nx\nz\ne\n") CompleteWithAutoResolvedConflict)
      (gives (codes "a\nx\ny\nz\ne\n") CompleteWithAutoResolvedConflict)
  pub ancestor_cut_in_modes : InModes ancestor_cut
      (gives (codes "A\n<<<<<<<\nA\nB\nD\n=======\nB\n>>>>>>>\nD\n") Conflict)
      (gives (codes "<<<<<<<\nA\nA\nB\nD\nD\n|||||||\nA\nB\nD\nZ\n=======\nA\nB\nD\n>>>>>>>\n") Conflict)
      (gives (codes "A\n<<<<<<<\nA\nB\nD\n|||||||\nA\nB\nD\nZ\n=======\nB\n>>>>>>>\nD\n") Conflict)
      (gives (codes "A\nA\nB\nD\nD\n") CompleteWithAutoResolvedConflict)
      (gives (codes "A\nB\nD\n") CompleteWithAutoResolvedConflict)
      (gives (codes "A\nA\nB\nD\nB\nD\n") CompleteWithAutoResolvedConflict)
  pub rewritten_in_modes : InModes rewritten
      (gives (codes "x\n<<<<<<<\np\n=======\nq\n>>>>>>>\nz\n") Conflict)
      (gives (codes "<<<<<<<\nx\np\nz\n|||||||\na\nb\nc\n=======\nx\nq\nz\n>>>>>>>\n") Conflict)
      (gives (codes "x\n<<<<<<<\np\n|||||||\na\nb\nc\n=======\nq\n>>>>>>>\nz\n") Conflict)
      (gives (codes "x\np\nz\n") CompleteWithAutoResolvedConflict)
      (gives (codes "x\nq\nz\n") CompleteWithAutoResolvedConflict)
      (gives (codes "x\np\nq\nz\n") CompleteWithAutoResolvedConflict)
  pub between_two_in_modes : InModes between_two
      (gives (codes "<<<<<<<\nA\nb\nc\nD\n=======\na\nd\n>>>>>>>\n") Conflict)
      (gives (codes "<<<<<<<\nA\nb\nc\nD\n|||||||\na\nb\nc\nd\n=======\na\nd\n>>>>>>>\n") Conflict)
      (gives (codes "<<<<<<<\nA\nb\nc\nD\n|||||||\na\nb\nc\nd\n=======\na\nd\n>>>>>>>\n") Conflict)
      (gives (codes "A\nb\nc\nD\n") CompleteWithAutoResolvedConflict)
      (gives (codes "a\nd\n") CompleteWithAutoResolvedConflict)
      (gives (codes "A\nb\nc\nD\na\nd\n") CompleteWithAutoResolvedConflict)
  pub no_newline_in_modes : InModes no_newline
      (gives (codes "<<<<<<<\nb\n=======\nc\n>>>>>>>\n") Conflict)
      (gives (codes "<<<<<<<\nb\n|||||||\na\n=======\nc\n>>>>>>>\n") Conflict)
      (gives (codes "<<<<<<<\nb\n|||||||\na\n=======\nc\n>>>>>>>\n") Conflict)
      (gives (codes "b") CompleteWithAutoResolvedConflict)
      (gives (codes "c") CompleteWithAutoResolvedConflict)
      (gives (codes "b\nc") CompleteWithAutoResolvedConflict)
  pub no_newline_same_in_all : Always no_newline_same (codes "b") Complete
  pub front_ending_in_modes : InModes front_ending
      (gives (codes "k\nx\r\n<<<<<<< c\r\np\n=======\r\nq\n>>>>>>> \r\n") Conflict)
      (gives (codes "k\n<<<<<<< c\nx\r\np\n||||||| a\nm\n=======\nx\r\nq\n>>>>>>> \n") Conflict)
      (gives (codes "k\nx\r\n<<<<<<< c\r\np\n||||||| a\nm\n=======\r\nq\n>>>>>>> \r\n") Conflict)
      (gives (codes "k\nx\r\np\n") CompleteWithAutoResolvedConflict)
      (gives (codes "k\nx\r\nq\n") CompleteWithAutoResolvedConflict)
      (gives (codes "k\nx\r\np\nq\n") CompleteWithAutoResolvedConflict)
  pub stretch_ending_in_modes : InModes stretch_ending
      (gives (codes "h\r\n<<< <<<\r\np\n===\r\nq\n>>> theirs\r\nt\n") Conflict)
      (gives (codes "h\r\n<<< <<<\r\np\n|||\nm\n===\r\nq\n>>> theirs\r\nt\n") Conflict)
      (gives (codes "h\r\n<<< <<<\r\np\n|||\nm\n===\r\nq\n>>> theirs\r\nt\n") Conflict)
      (gives (codes "h\r\np\nt\n") CompleteWithAutoResolvedConflict)
      (gives (codes "h\r\nq\nt\n") CompleteWithAutoResolvedConflict)
      (gives (codes "h\r\np\nq\nt\n") CompleteWithAutoResolvedConflict)
  pub blank_front_in_modes : InModes blank_front
      (gives (codes "h\r\n\n<<<<<<<\np\n=======\nq\n>>>>>>>\n") Conflict)
      (gives (codes "h\r\n<<<<<<<\r\n\np\n||||||| \r\nm\r\n=======\r\n\nq\n>>>>>>>\r\n") Conflict)
      (gives (codes "h\r\n\n<<<<<<<\np\n||||||| \r\nm\r\n=======\nq\n>>>>>>>\n") Conflict)
      (gives (codes "h\r\n\np\n") CompleteWithAutoResolvedConflict)
      (gives (codes "h\r\n\nq\n") CompleteWithAutoResolvedConflict)
      (gives (codes "h\r\n\np\nq\n") CompleteWithAutoResolvedConflict)
  pub first_deletion_in_modes : InModes first_deletion
      (gives (codes "<<<<<<< \r\n=======\r\nn\n>>>>>>> n\r\n") Conflict)
      (gives (codes "<<<<<<< \r\n|||||||\r\nm\r\n=======\r\nn\n>>>>>>> n\r\n") Conflict)
      (gives (codes "<<<<<<< \r\n|||||||\r\nm\r\n=======\r\nn\n>>>>>>> n\r\n") Conflict)
      (gives ([]) CompleteWithAutoResolvedConflict)
      (gives (codes "n\n") CompleteWithAutoResolvedConflict)
      (gives (codes "n\n") CompleteWithAutoResolvedConflict)
  pub bare_return_in_modes : InModes bare_return
      (gives (codes "k\r\n<<<<<<< ours\r\nb\r\r\n=======\r\nc\r\r\n>>>>>>> theirs\r\n") Conflict)
      (gives (codes "k\r\n<<<<<<< ours\r\nb\r\r\n||||||| base\r\na\r\r\n=======\r\nc\r\r\n>>>>>>> theirs\r\n") Conflict)
      (gives (codes "k\r\n<<<<<<< ours\r\nb\r\r\n||||||| base\r\na\r\r\n=======\r\nc\r\r\n>>>>>>> theirs\r\n") Conflict)
      (gives (codes "k\r\nb\r") CompleteWithAutoResolvedConflict)
      (gives (codes "k\r\nc\r") CompleteWithAutoResolvedConflict)
      (gives (codes "k\r\nb\r\r\nc\r") CompleteWithAutoResolvedConflict)
  pub cut_ending_in_modes : InModes cut_ending
      (gives (codes "x\r\n<<<<<<< \r\ny\n=======\r\nz\n>>>>>>> z\r\n") Conflict)
      (gives (codes "<<<<<<< \nx\r\ny\n||||||| d x y\nd\nx\r\ny\n=======\nx\r\nz\n>>>>>>> z\n") Conflict)
      (gives (codes "x\r\n<<<<<<< \r\ny\n||||||| d x y\nd\nx\r\ny\n=======\r\nz\n>>>>>>> z\r\n") Conflict)
      (gives (codes "x\r\ny\n") CompleteWithAutoResolvedConflict)
      (gives (codes "x\r\nz\n") CompleteWithAutoResolvedConflict)
      (gives (codes "x\r\ny\nz\n") CompleteWithAutoResolvedConflict)
  pub union_front_in_modes : InModes union_front
      (gives (codes "e\r\nf\r\n<<<<<<<\r\n=======\r\nm\n>>>>>>>\r\n") Conflict)
      (gives (codes "<<<<<<<\r\ne\r\nf\n|||||||\na\nm\nb\n=======\r\ne\r\nfm\n>>>>>>>\r\n") Conflict)
      (gives (codes "e\r\nf\r\n<<<<<<<\r\n|||||||\na\nm\nb\n=======\r\nm\n>>>>>>>\r\n") Conflict)
      (gives (codes "e\r\nf") CompleteWithAutoResolvedConflict)
      (gives (codes "e\r\nfm\n") CompleteWithAutoResolvedConflict)
      (gives (codes "e\r\nf\r\nm\n") CompleteWithAutoResolvedConflict)
  pub union_back_in_modes : InModes union_back
      (gives (codes "<<<<<<<\np\n=======\nu\r\nv\n>>>>>>>\nb\n") Conflict)
      (gives (codes "<<<<<<<\np\nb\n|||||||\na\nb\n=======\nu\r\nvb\n>>>>>>>\n") Conflict)
      (gives (codes "<<<<<<<\np\n|||||||\na\nb\n=======\nu\r\nv\n>>>>>>>\nb\n") Conflict)
      (gives (codes "p\nb\n") CompleteWithAutoResolvedConflict)
      (gives (codes "u\r\nvb\n") CompleteWithAutoResolvedConflict)
      (gives (codes "p\nu\r\nv\r\nb\n") CompleteWithAutoResolvedConflict)
  pub equal_starts_in_modes : InModes equal_starts
      (gives (codes "f\r\n<<<<<<<\r\nb\n=======\r\n>>>>>>>\r\nm\n") Conflict)
      (gives (codes "<<<<<<<\nfb\n|||||||\na\nb\n=======\nf\n>>>>>>>\nm\n") Conflict)
      (gives (codes "f\r\n<<<<<<<\r\nb\n|||||||\na\nb\n=======\r\n>>>>>>>\r\nm\n") Conflict)
      (gives (codes "fb\nm\n") CompleteWithAutoResolvedConflict)
      (gives (codes "fm\n") CompleteWithAutoResolvedConflict)
      (gives (codes "f\r\nb\nm\n") CompleteWithAutoResolvedConflict)
  pub repeated_line_in_modes : InModes repeated_line
      (gives (codes "a\n<<<<<<<\na\n=======\n>>>>>>>\n") Conflict)
      (gives (codes "<<<<<<<\na\na\n|||||||\nm\n=======\na\n>>>>>>>\n") Conflict)
      (gives (codes "a\n<<<<<<<\na\n|||||||\nm\n=======\n>>>>>>>\n") Conflict)
      (gives (codes "a\na\n") CompleteWithAutoResolvedConflict)
      (gives (codes "a\n") CompleteWithAutoResolvedConflict)
      (gives (codes "a\na\n") CompleteWithAutoResolvedConflict)
  pub union_middle_in_modes : InModes union_middle
      (gives (codes "<<<<<<<\r\nx\r\np\r\n=======\r\ny\nq\r\n>>>>>>>\r\n") Conflict)
      (gives (codes "<<<<<<<\r\nx\r\np\n|||||||\nm\n=======\r\ny\nq\r\n>>>>>>>\r\n") Conflict)
      (gives (codes "<<<<<<<\r\nx\r\np\n|||||||\nm\n=======\r\ny\nq\r\n>>>>>>>\r\n") Conflict)
      (gives (codes "x\r\np") CompleteWithAutoResolvedConflict)
      (gives (codes "y\nq") CompleteWithAutoResolvedConflict)
      (gives (codes "x\r\np\r\ny\nq") CompleteWithAutoResolvedConflict)
  -- the table: behind 0..1/0..1 a hunk that starts at its end is refused, one that leaves a line between is not
  pub touching_enter_refused : enter_answer (enter_after (opened 2 3 3) (cur 0 1 0 1)) (cur 1 1 1 2) ≡ Err NotBehindLast
  pub later_enter_taken : enter_answer (enter_after (opened 2 3 3) (cur 0 1 0 1)) (cur 2 2 2 3) ≡ Ok 2
  pub refused_number : table_number NotBehindLast ≡ 12
  -- a withdrawal takes it off again
  pub withdrawal_counts : withdraw_answer (enter_after (opened 2 3 3) (cur 0 1 0 1)) Current ≡ Ok 0
  pub withdrawal_empties : withdraw_after (enter_after (opened 2 3 3) (cur 0 1 0 1)) Current ≡ opened 2 3 3
  -- the outline of two rewrites that share their ends
  pub rewritten_outline : outline ZealousDiff3 no_labels (rendering (Keep ZealousDiff3 7) rewritten.sheets no_labels rewritten.current rewritten.other)
      ≡ line (codes "x\n") ∷ (block (codes "p\n" ∷ []) (codes "a\n" ∷ (codes "b\n" ∷ (codes "c\n" ∷ []))) (codes "q\n" ∷ []) ∷ (line (codes "z\n") ∷ []))
  -- two lines of two bytes need a sink of four
  pub small_sink : render_answer (opened 2 2 2) none_held.sheets (record { mode = ResolveWithOurs; labels = no_labels; capacity = 3 }) ≡ Err (SinkTooSmall 4 3)
  pub fitting_sink : render_answer (opened 2 2 2) none_held.sheets (record { mode = ResolveWithOurs; labels = no_labels; capacity = 4 }) ≡ Ok Complete
