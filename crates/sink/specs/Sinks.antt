-- What is said of sinks of any kind.
use Rattle.std.specs.Prelude.{◌≡◌, ℕ, ◌≤◌, List}
use Rattle.rules.specs.Pieces.{Chunk, made}
use Rattle.sink.specs.declared.sink.Sink as sinks

-- A sink as after begin with 0.
pub record Empty {S : Type 0} (g : sinks.Ghosts S) (s : S) : Type 0 where
  pub value : g.value s ≡ g.fresh s
  pub announced : g.announced s ≡ 0
  pub taken : g.taken s ≡ 0

-- The sink's value is what its rule makes of these pieces, from the fresh value on.
abbrev pub MadeOf : {S : Type 0} → (g : sinks.Ghosts S) → S → List Chunk → Type 0
MadeOf g s cs = g.value s ≡ made g.rule (g.fresh s) cs

-- What a run of calls leaves alone: the fresh value, the capacity, and what lies behind the bytes taken.
pub record LeavesAlone {S : Type 0} (g : sinks.Ghosts S) (old new : S) : Type 0 where
  pub fresh : g.fresh new ≡ g.fresh old
  pub capacity : g.capacity new ≡ g.capacity old
  pub rest : (k : ℕ) → g.taken new ≤ k → g.rest new k ≡ g.rest old k
