-- A rendering: when it can be written, its steps and its pieces, and whether some group is marked.
use Rattle.std.specs.Prelude.{◌≤◌, Bool, List, length}
use Rattle.rules.specs.Groups.{clusters}
use Rattle.rules.specs.Lengths.{LabelsFit}
use Rattle.rules.specs.Limits.{max_hunks, max_marker_size}
use Rattle.rules.specs.Order.{Kept}
use Rattle.rules.specs.Pieces.{Chunk}
use Rattle.rules.specs.RenderLaws.{SizeFits}
use Rattle.rules.specs.Rendering.{steps_from, rendering}
use Rattle.rules.specs.Steps.{Step}
use Rattle.rules.specs.Verdict.{any_marked}
use Rattle.rules.specs.Walk.{walk}
use Rattle.reading.specs.declared.three.ThreeSheets.{Ghosts}
use Rattle.rendering.specs.declared.whole.Rendering.{Rendering}
use Rattle.writing.specs.Marks.{labels_in}
use Rattle.writing.specs.Sides.{size_of}

module _ {T : Type 0} (k : Ghosts T) (r : Rendering T) where
  -- The hunks are such as a table holds of these sheets, and the markers are not longer than they may be.
  pub record Writable : Type 0 where
    pub kept : Kept (k.sheets r.three.now) r.current.now r.other.now
    pub few : (length r.current.now ≤ max_hunks) × (length r.other.now ≤ max_hunks)
    pub size : size_of r.mode ≤ max_marker_size

  -- The marker size and the labels are such as may be asked for, which bounds the length.
  pub record Bounded : Type 0 where
    pub size : SizeFits r.mode
    pub labels : LabelsFit (labels_in r.labels)

  abbrev pub steps_in : List Step
  steps_in = steps_from r.mode (k.sheets r.three.now) (labels_in r.labels) 0 (clusters (walk r.current.now r.other.now))

  abbrev pub pieces_in : List Chunk
  pieces_in = rendering r.mode (k.sheets r.three.now) (labels_in r.labels) r.current.now r.other.now

  abbrev pub marked_in : Bool
  marked_in = any_marked r.mode (k.sheets r.three.now) (clusters (walk r.current.now r.other.now))
