-- What a sink is given, of any kind.
use Rattle.std.specs.Prelude.{◌≡◌, ◌+◌, List}
use Rattle.rules.specs.Pieces.{Chunk, total, made}
use Rattle.sink.specs.declared.sink.Sink.{Ghosts}
use Rattle.sink.specs.Sinks.{LeavesAlone}

-- The sink took these pieces, in order, and nothing else was changed.
pub record Took {S : Type 0} (k : Ghosts S) (old new : S) (cs : List Chunk) : Type 0 where
  pub value : k.value new ≡ made k.rule (k.value old) cs
  pub taken : k.taken new ≡ k.taken old + total cs
  pub announced : k.announced new ≡ k.announced old
  pub alone : LeavesAlone k old new
