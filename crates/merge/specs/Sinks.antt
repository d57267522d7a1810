-- What a call leaves of a sink, of any kind.
use Rattle.std.specs.Prelude.{◌≡◌, ℕ, ◌≤◌, true, is_err, Result}
use Rattle.rules.specs.declared.mode.Resolution.{Resolution}
use Rattle.rules.specs.declared.refusal.RenderRefusal.{RenderRefusal}
use Rattle.rules.specs.Hunks.{Sheets}
use Rattle.rules.specs.Renders.{Asked, SinkState, render_answer, render_sink}
use Rattle.rules.specs.Tables.{Held}
use Rattle.sink.specs.declared.sink.Sink.{Ghosts}
use Rattle.sink.specs.Sinks.{LeavesAlone}

-- A sink as it stands.
abbrev pub sink_at : {S : Type 0} (k : Ghosts S) → S → SinkState k.Value
sink_at k x = record { announced = k.announced x; taken = k.taken x; value = k.value x }

-- What a render answers, and what it leaves of its sink: it is refused and changes nothing, or the sink has all pieces.
pub record Renders {S : Type 0} (k : Ghosts S) (t : Held) (s : Sheets) (a : Asked) (old new : S) (result : Result Resolution RenderRefusal) : Type 0 where
  pub answer : result ≡ render_answer t s a
  pub sink : sink_at k new ≡ render_sink k.rule (k.fresh old) t s a (sink_at k old)
  pub alone : LeavesAlone k old new
  pub refused : is_err result ≡ true → new ≡ old

-- What several calls leave alone: the value that the sink starts from, its capacity, and what lies behind its first n bytes.
pub record KeepsBehind {S : Type 0} (k : Ghosts S) (n : ℕ) (old new : S) : Type 0 where
  pub fresh : k.fresh new ≡ k.fresh old
  pub capacity : k.capacity new ≡ k.capacity old
  pub rest : (j : ℕ) → n ≤ j → k.rest new j ≡ k.rest old j
