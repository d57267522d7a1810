-- Size and render: what they ask, answer and leave in a sink.
use Rattle.std.specs.Prelude.{ℕ, Bool, true, ◌&&◌, List, length, Some, None, Option, Result, ◌==◌, nat_le}
use Rattle.rules.specs.declared.hunk.Side.TheVariants.{Current, Other, Ancestor}
use Rattle.rules.specs.declared.mode.Conflict as modes
use Rattle.rules.specs.declared.mode.Conflict.TheVariants.{Keep, ResolveWithOurs, ResolveWithTheirs, ResolveWithUnion}
use Rattle.rules.specs.declared.mode.Resolution.{Resolution}
use Rattle.rules.specs.declared.refusal.RenderRefusal.{RenderRefusal}
use Rattle.rules.specs.declared.refusal.RenderRefusal.TheVariants.{CountsDiffer, MarkerSize, LabelTooLong, SinkTooSmall}
use Rattle.rules.specs.Limits.{max_label, max_marker_size}
use Rattle.rules.specs.Hunks.{Sheets}
use Rattle.rules.specs.Pieces.{Chunk, total, made}
use Rattle.rules.specs.Markers.{Labels}
use Rattle.rules.specs.Rendering.{rendering}
use Rattle.rules.specs.Verdict.{verdict}
use Rattle.rules.specs.Questions.{ask, answered, changed}
use Rattle.rules.specs.Tables.{Held}

-- What a render is asked for: a mode, labels, and a sink of some capacity.
pub record Asked : Type 0 where
  pub mode : modes.Conflict
  pub labels : Labels
  pub capacity : ℕ

-- The marker size is asked for under Keep alone.
abbrev pub size_fits : modes.Conflict → Bool
size_fits (Keep style n) = nat_le 1 n && nat_le n max_marker_size
size_fits ResolveWithOurs = true
size_fits ResolveWithTheirs = true
size_fits ResolveWithUnion = true

abbrev pub label_fits : Option (List ℕ) → Bool
label_fits None = true
label_fits (Some l) = nat_le (length l) max_label

-- The questions that size and render share, and what is asked next.
abbrev pub shared_questions : Held → Sheets → modes.Conflict → Labels → Option RenderRefusal → Option RenderRefusal
shared_questions t s m l next =
    ask (length s.ancestor == t.ancestor_lines) (CountsDiffer Ancestor)
    (ask (length s.current == t.current_lines) (CountsDiffer Current)
    (ask (length s.other == t.other_lines) (CountsDiffer Other)
    (ask (size_fits m) MarkerSize
    (ask (label_fits l.ancestor) (LabelTooLong Ancestor)
    (ask (label_fits l.current) (LabelTooLong Current)
    (ask (label_fits l.other) (LabelTooLong Other) next))))))

-- The length of the rendering.
abbrev pub needed : Held → Sheets → modes.Conflict → Labels → ℕ
needed t s m l = total (rendering m s l t.current t.other)

-- Whether a sink of capacity c has room for n bytes.
abbrev pub room : ℕ → ℕ → Option RenderRefusal
room n c = ask (nat_le n c) (SinkTooSmall n c) None

abbrev pub size_questions : Held → Sheets → modes.Conflict → Labels → Option RenderRefusal
size_questions t s m l = shared_questions t s m l None

abbrev pub render_questions : Held → Sheets → Asked → Option RenderRefusal
render_questions t s a = shared_questions t s a.mode a.labels (room (needed t s a.mode a.labels) a.capacity)

-- Size answers the rendering's length, render its verdict.
abbrev pub size_answer : Held → Sheets → modes.Conflict → Labels → Result ℕ RenderRefusal
size_answer t s m l = answered (size_questions t s m l) (needed t s m l)

abbrev pub render_answer : Held → Sheets → Asked → Result Resolution RenderRefusal
render_answer t s a = answered (render_questions t s a) (verdict a.mode s t.current t.other)

-- A sink: the length announced, the bytes taken, and a value that a rule makes of the pieces.
pub record SinkState (V : Type 0) : Type 0 where
  pub announced : ℕ
  pub taken : ℕ
  pub value : V

abbrev pub filled_sink : {V : Type 0} → (V → Chunk → V) → V → List Chunk → SinkState V
filled_sink rule fresh cs = record { announced = total cs; taken = total cs; value = made rule fresh cs }

-- What a render leaves in a sink: all pieces, from the fresh value on; refused, what was there.
abbrev pub render_sink : {V : Type 0} → (V → Chunk → V) → V → Held → Sheets → Asked → SinkState V → SinkState V
render_sink rule fresh t s a k = changed (render_questions t s a) (filled_sink rule fresh (rendering a.mode s a.labels t.current t.other)) k
