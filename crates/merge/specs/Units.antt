-- Two units with the same three sheets, current on one being other on the second, whatever their kinds of sheets and of sinks.
use Rattle.std.specs.Prelude.{◌≡◌, ℕ, map, Ok}
use Rattle.rules.specs.declared.mode.Conflict.TheVariants.{Keep}
use Rattle.rules.specs.declared.mode.ConflictStyle.{ConflictStyle}
use Rattle.rules.specs.declared.mode.Resolution.{Resolution}
use Rattle.rules.specs.Exchange.{HoldsExchanged, exchanged_item}
use Rattle.rules.specs.Hunks.{Sheets}
use Rattle.rules.specs.Outline.{outline}
use Rattle.rules.specs.Pieces.{Chunk}
use Rattle.rules.specs.Renders.{Asked, SinkState, render_answer, render_sink}
use Rattle.rules.specs.RunAgreement.{AgreementOverRuns}
use Rattle.rules.specs.Tables.{Held}
use Rattle.rules.specs.TwoUnits.{UnitOf, table_of, shown}
use Rattle.merge.specs.Told.{RenderTold}

-- The lists of lines are equal crosswise.
pub record Crosswise (s s' : Sheets) : Type 0 where
  pub ancestor : s'.ancestor ≡ s.ancestor
  pub current : s'.current ≡ s.other
  pub other : s'.other ≡ s.current

-- Accepted renders of both in one style have the same outline, ours and theirs exchanged in each block, and the same verdict.
abbrev pub ShownAlike : Sheets → Held → Sheets → Held → Type 0
ShownAlike s t s' t' = (st : ConflictStyle) (n n' : ℕ) (a a' : Asked) (v v' : Resolution) → a.mode ≡ Keep st n → a'.mode ≡ Keep st n' → render_answer t s a ≡ Ok v → render_answer t' s' a' ≡ Ok v'
    → (outline st a'.labels (shown s' t' a') ≡ map exchanged_item (outline st a.labels (shown s t a))) × (v' ≡ v)

-- What every accepted render of each says of its own call and sink; and, whenever the two hold the same hunks with sides exchanged, of both.
pub record UnitsTold {V V' : Type 0} (rule : V → Chunk → V) (fresh : V) (rule' : V' → Chunk → V') (fresh' : V') (s : Sheets) (t : Held) (s' : Sheets) (t' : Held) : Type 0 where
  pub first : (a : Asked) (k : SinkState V) (v : Resolution) → render_answer t s a ≡ Ok v → RenderTold rule fresh s t a v (render_sink rule fresh t s a k)
  pub second : (a : Asked) (k : SinkState V') (v : Resolution) → render_answer t' s' a ≡ Ok v → RenderTold rule' fresh' s' t' a v (render_sink rule' fresh' t' s' a k)
  pub alike : Crosswise s s' → HoldsExchanged t t' → ShownAlike s t s' t'

-- The agreement, whole: over all runs; and of any three sheets on each unit, of whatever kinds, after all that the two did since each was opened
-- by its own sheets' counts.
pub record KindsAgree {V V' : Type 0} (rule : V → Chunk → V) (fresh : V) (rule' : V' → Chunk → V') (fresh' : V') : Type 0 where
  pub over_runs : AgreementOverRuns V rule fresh V' rule' fresh'
  pub told : (s s' : Sheets) (u : UnitOf s) (u' : UnitOf s') → UnitsTold rule fresh rule' fresh' s (table_of s u) s' (table_of s' u')
