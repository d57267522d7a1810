-- Where a pen stands, and what steps of writing make of it.
use Rattle.std.specs.Prelude.{◌≡◌, ℕ, ◌+◌, ◌≤◌, Bool, false, List, [], ◌∷◌}
use Rattle.rules.specs.Pieces.{Chunk, total, made}
use Rattle.rules.specs.Steps.{Step, put, close, left_open, pieces_of}
use Rattle.sink.specs.declared.sink.Sink.{Ghosts}
use Rattle.sink.specs.Sinks.{LeavesAlone}
use Rattle.writing.specs.declared.pen.Pen.{Pen}

-- Whether a line is open after steps of writing.
abbrev pub open_end : Bool → List Step → Bool
open_end o [] = o
open_end o (put c ∷ ss) = open_end (left_open o c.bytes) ss
open_end o (close e ∷ ss) = open_end false ss

-- The sink's value, the bytes it took and those announced, and whether a line is open.
pub record State (V : Type 0) : Type 0 where
  pub value : V
  pub taken : ℕ
  pub announced : ℕ
  pub ajar : Bool

abbrev pub state : {V : Type 0} → V → ℕ → ℕ → Bool → State V
state v t a o = record { value = v; taken = t; announced = a; ajar = o }

-- The steps' pieces are all taken, in order.
abbrev pub after : {V : Type 0} → (V → Chunk → V) → State V → List Step → State V
after rule s ss = record {
  value = made rule s.value (pieces_of s.ajar ss);
  taken = s.taken + total (pieces_of s.ajar ss);
  announced = s.announced;
  ajar = open_end s.ajar ss;
}

-- The sink has room for the steps.
abbrev pub Room : {V : Type 0} → State V → List Step → Type 0
Room s ss = s.taken + total (pieces_of s.ajar ss) ≤ s.announced

-- What a writing keeps of a sink: it goes forward, and leaves alone the fresh value, the capacity, and what lies behind the bytes taken.
pub record Keeps {S : Type 0} (g : Ghosts S) (old new : S) : Type 0 where
  pub forward : g.taken old ≤ g.taken new
  pub alone : LeavesAlone g old new

-- Where a pen stands: its sink's state, by what the sink's kind says of it, and whether a line is open.
abbrev pub stands : {S : Type 0} → (g : Ghosts S) → Pen S → State g.Value
stands g p = state (g.value p.sink.now) (g.taken p.sink.now) (g.announced p.sink.now) p.ajar

-- The pen's sink has room for the steps.
pub record HasRoom {S : Type 0} (g : Ghosts S) (p : Pen S) (ss : List Step) : Type 0 where
  pub room : Room (stands g p) ss

-- From the first pen to the second the steps were written into the sink that both hold, and nothing else was changed.
pub record Wrote {S : Type 0} (g : Ghosts S) (p p' : Pen S) (ss : List Step) : Type 0 where
  pub written : stands g p' ≡ after g.rule (stands g p) ss
  pub kept : Keeps g p.sink.now p'.sink.now
  pub same_sink : p'.sink.ghost_name ≡ p.sink.ghost_name
