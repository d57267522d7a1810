-- How long a rendering can be.
use Rattle.std.specs.Prelude.{ℕ, ◌+◌, ◌<◌, ◌≤◌, List, [], ◌∷◌, length}
use Rattle.rules.specs.declared.hunk.Hunk.{Hunk}
use Rattle.rules.specs.declared.mode.Conflict as modes
use Rattle.rules.specs.Limits.{max_bytes}
use Rattle.rules.specs.Lines.{Line}
use Rattle.rules.specs.Hunks.{Sheets}
use Rattle.rules.specs.Pieces.{total}
use Rattle.rules.specs.Markers.{Labels}
use Rattle.rules.specs.Rendering.{rendering}
use Rattle.rules.specs.RenderLaws.{SizeFits, LabelFits}

abbrev pub bytes_of : List Line → ℕ
bytes_of [] = 0
bytes_of (l ∷ ls) = length l + bytes_of ls

-- No sheet is longer than 60,000 bytes.
pub record ShortSheets (s : Sheets) : Type 0 where
  pub ancestor : bytes_of s.ancestor ≤ max_bytes
  pub current : bytes_of s.current ≤ max_bytes
  pub other : bytes_of s.other ≤ max_bytes

pub record LabelsFit (l : Labels) : Type 0 where
  pub ancestor : LabelFits l.ancestor
  pub current : LabelFits l.current
  pub other : LabelFits l.other

-- Every rendering of such sheets, with fitting labels and marker size, is shorter than 2^20 bytes, so that its length fits 32 bits: the ancestor's
-- lines stand in it three times at most, those of every hunk once, and at most 256 groups have four markers each.
abbrev pub LengthLaw : Sheets → List Hunk → List Hunk → Type 0
LengthLaw s cs os = ShortSheets s → (m : modes.Conflict) (l : Labels) → SizeFits m → LabelsFit l → total (rendering m s l cs os) < 1048576
