-- What an accepted render says of its own call: of the pieces that its sink was given, and of its verdict.
use Rattle.std.specs.Prelude.{◌≡◌}
use Rattle.rules.specs.declared.mode.Conflict as modes
use Rattle.rules.specs.declared.mode.Conflict.TheVariants.{Keep, ResolveWithOurs, ResolveWithTheirs, ResolveWithUnion}
use Rattle.rules.specs.declared.mode.Resolution.{Resolution}
use Rattle.rules.specs.Agreement.{Laws}
use Rattle.rules.specs.Hunks.{Sheets}
use Rattle.rules.specs.Pieces.{Chunk, made, total}
use Rattle.rules.specs.RenderLaws.{Counted}
use Rattle.rules.specs.Renders.{Asked, SinkState}
use Rattle.rules.specs.TableLaws.{TableKeeps}
use Rattle.rules.specs.Tables.{Held}
use Rattle.rules.specs.TwoUnits.{shown, ours_put, theirs_put, KeepTold, SideTold, AlikeShown}

-- In a style that keeps conflicts, every block replaced by its ours part gives the lines of ours, and by its theirs part those of theirs; ours and
-- theirs have the lines of their side; and the verdict tells whether some group's sides differ. Of Union the laws below speak alone.
abbrev pub ModeTold : modes.Conflict → Sheets → Held → Asked → Resolution → Type 0
ModeTold (Keep st n) s t a v = KeepTold s t st a v
ModeTold ResolveWithOurs s t a v = SideTold s t (ours_put t) a v
ModeTold ResolveWithTheirs s t a v = SideTold s t (theirs_put t) a v
ModeTold ResolveWithUnion s t a v = Unit {0}

pub record RenderTold {V : Type 0} (rule : V → Chunk → V) (fresh : V) (s : Sheets) (t : Held) (a : Asked) (v : Resolution) (sink : SinkState V) : Type 0 where
  -- the sink was given the rendering's pieces in order, and nothing else
  pub value : sink.value ≡ made rule fresh (shown s t a)
  pub taken : sink.taken ≡ total (shown s t a)
  pub announced : sink.announced ≡ total (shown s t a)
  -- the sheets are those that the table was opened for, and the table keeps what every table keeps
  pub counted : Counted s t
  pub keeps : TableKeeps t
  -- lines and verdict, in the mode of this call
  pub told : ModeTold a.mode s t a v
  -- groups, sides, markers, endings, Union: every law of a unit's renderings
  pub laws : Laws s t.current t.other
  -- a unit that holds the same hunks with sides exchanged shows the same in one style, ours and theirs exchanged, with the same verdict
  pub alike : (t' : Held) → AlikeShown s t t'
