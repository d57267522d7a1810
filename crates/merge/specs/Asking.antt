-- What a call of the code asks for, in the words of the rules, and the rendering that it gets where nothing is refused.
use Rattle.std.specs.Prelude.{◌≡◌, ℕ, None}
use Rattle.rules.specs.declared.labels.Labels as code
use Rattle.rules.specs.declared.mode.Conflict as modes
use Rattle.rules.specs.Hunks.{Sheets}
use Rattle.rules.specs.Markers.{Labels}
use Rattle.rules.specs.Renders.{Asked, size_questions}
use Rattle.rules.specs.Tables.{Held}
use Rattle.reading.specs.declared.three.ThreeSheets.{Ghosts}
use Rattle.rendering.specs.declared.whole.Rendering.{Rendering}
use Rattle.rendering.specs.Renderings.{Bounded, Writable}
use Rattle.writing.specs.Marks.{labels_in}

abbrev pub asked : modes.Conflict → code.Labels → ℕ → Asked
asked m l c = record { mode = m; labels = labels_in l; capacity = c }

-- The questions that size and render share are all yes, and this is the rendering that is asked for: it can be written.
pub record Admits {T : Type 0} (k : Ghosts T) (t : Held) (s : Sheets) (m : modes.Conflict) (l : Labels) (r : Rendering T) : Type 0 where
  pub accepted : size_questions t s m l ≡ None
  pub sheets : k.sheets r.three.now ≡ s
  pub mode : r.mode ≡ m
  pub labels : labels_in r.labels ≡ l
  pub current : r.current.now ≡ t.current
  pub other : r.other.now ≡ t.other
  pub writable : Writable k r
  pub bounded : Bounded k r
