-- The laws of size and render.
use Rattle.std.specs.Prelude.{◌≡◌, ℕ, ◌≤◌, List, [], ◌∷◌, ◌++◌, length, Some, None, Ok, Err, Option, Result}
use Rattle.rules.specs.declared.mode.Conflict as modes
use Rattle.rules.specs.declared.mode.Conflict.TheVariants.{Keep, ResolveWithOurs, ResolveWithTheirs, ResolveWithUnion}
use Rattle.rules.specs.declared.mode.Resolution.{Resolution}
use Rattle.rules.specs.declared.refusal.RenderRefusal.{RenderRefusal}
use Rattle.rules.specs.Limits.{max_label, max_marker_size}
use Rattle.rules.specs.Hunks.{Sheets}
use Rattle.rules.specs.Pieces.{Chunk, all_bytes, total, made}
use Rattle.rules.specs.Markers.{Labels}
use Rattle.rules.specs.Rendering.{rendering}
use Rattle.rules.specs.Verdict.{verdict}
use Rattle.rules.specs.Questions.{Question}
use Rattle.rules.specs.Refusals.{RenderRefuses}
use Rattle.rules.specs.Tables.{Held}
use Rattle.rules.specs.Renders.{Asked, needed, size_answer, render_answer, SinkState, filled_sink, render_sink}

-- The questions in words.
pub record Counted (s : Sheets) (t : Held) : Type 0 where
  pub ancestor : length s.ancestor ≡ t.ancestor_lines
  pub current : length s.current ≡ t.current_lines
  pub other : length s.other ≡ t.other_lines

abbrev pub SizeFits : modes.Conflict → Type 0
SizeFits (Keep style n) = (1 ≤ n) × (n ≤ max_marker_size)
SizeFits ResolveWithOurs = Unit {0}
SizeFits ResolveWithTheirs = Unit {0}
SizeFits ResolveWithUnion = Unit {0}

abbrev pub LabelFits : Option (List ℕ) → Type 0
LabelFits None = Unit {0}
LabelFits (Some l) = length l ≤ max_label

abbrev pub SharedTold : {A : Type 0} → Held → Sheets → modes.Conflict → Labels → Result A RenderRefusal → Type 0 → Type 0
SharedTold t s m l x Next =
    Question (length s.ancestor ≡ t.ancestor_lines) (RenderRefuses x 14 0 0 0)
    (Question (length s.current ≡ t.current_lines) (RenderRefuses x 14 1 0 0)
    (Question (length s.other ≡ t.other_lines) (RenderRefuses x 14 2 0 0)
    (Question (SizeFits m) (RenderRefuses x 15 0 0 0)
    (Question (LabelFits l.ancestor) (RenderRefuses x 16 0 0 0)
    (Question (LabelFits l.current) (RenderRefuses x 16 1 0 0)
    (Question (LabelFits l.other) (RenderRefuses x 16 2 0 0) Next))))))

abbrev pub SizeTold : Held → Sheets → modes.Conflict → Labels → Type 0
SizeTold t s m l = SharedTold t s m l (size_answer t s m l) (size_answer t s m l ≡ Ok (needed t s m l))

-- Where all of the shared ones hold: the rendering is too long for the sink, and is refused with both lengths, or it fits and is judged.
abbrev pub RenderTold : Held → Sheets → Asked → Type 0
RenderTold t s a =
    let x = render_answer t s a in
    let n = needed t s a.mode a.labels in
    SharedTold t s a.mode a.labels x
    (Question (n ≤ a.capacity) (RenderRefuses x 17 0 n a.capacity) (x ≡ Ok (verdict a.mode s t.current t.other)))

-- The law of size and render, for sinks whose values are of V, made by a rule from a fresh one.
pub record RenderRules (V : Type 0) (rule : V → Chunk → V) (fresh : V) (t : Held) (s : Sheets) : Type 0 where
  pub size_told : (m : modes.Conflict) (l : Labels) → SizeTold t s m l
  pub render_told : (a : Asked) → RenderTold t s a
  -- accepted, the sink has been given the rendering's pieces in order
  pub given : (a : Asked) (k : SinkState V) (v : Resolution) → render_answer t s a ≡ Ok v → render_sink rule fresh t s a k ≡ filled_sink rule fresh (rendering a.mode s a.labels t.current t.other)
  -- refused, it is as it was
  pub left : (a : Asked) (k : SinkState V) (r : RenderRefusal) → render_answer t s a ≡ Err r → render_sink rule fresh t s a k ≡ k
  -- the length is that of the rendering's bytes
  pub length_told : (m : modes.Conflict) (l : Labels) → needed t s m l ≡ length (all_bytes (rendering m s l t.current t.other))
  pub bytes_none : all_bytes [] ≡ []
  pub bytes_more : (cs : List Chunk) (c : Chunk) → all_bytes (cs ++ (c ∷ [])) ≡ all_bytes cs ++ c.bytes
  -- lengths are those of the bytes, and a sink's value is made by its rule, one piece at a time from the fresh value on
  pub measured : (cs : List Chunk) → total cs ≡ length (all_bytes cs)
  pub made_none : made rule fresh [] ≡ fresh
  pub made_more : (cs : List Chunk) (c : Chunk) → made rule fresh (cs ++ (c ∷ [])) ≡ rule (made rule fresh cs) c
