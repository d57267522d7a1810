-- The stated limits.
use Rattle.std.specs.Prelude.{ℕ}

-- The most lines of a sheet.
abbrev pub max_lines : ℕ
max_lines = 4096

-- The most bytes of a sheet's lines together.
abbrev pub max_bytes : ℕ
max_bytes = 60000

-- The most hunks held of a side.
abbrev pub max_hunks : ℕ
max_hunks = 256

-- The most bytes of a label.
abbrev pub max_label : ℕ
max_label = 64

-- The largest marker size.
abbrev pub max_marker_size : ℕ
max_marker_size = 255

-- The most bytes that a row sink shows of its row.
abbrev pub row_width : ℕ
row_width = 40

-- The most bytes that can be announced to a row sink.
abbrev pub row_capacity : ℕ
row_capacity = 4294967295

-- The most hunks of a group's side with its stretches filled in: the hunks of a side and one stretch more than these.
abbrev pub max_filled : ℕ
max_filled = 513

-- The most hunks that contraction removes of a side: it may cut one in front and one in back.
abbrev pub max_removed : ℕ
max_removed = 515
