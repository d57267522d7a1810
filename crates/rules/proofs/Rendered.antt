-- Size and render follow their rules.
use Rattle.std.proofs.Common.{◌≡◌, ℕ, ◌+◌, ◌≤◌, Bool, true, eqb, leb, List, [], ◌∷◌, ◌++◌, length, Some, None, Ok, Err, Option, Result, sym, refl, ap, ◌∙◌, length-append}
use Rattle.std.proofs.lemmas.List.{append-nil, append_assoc}
use Rattle.std.proofs.lemmas.Bool.{leb-true, le-leb, eqb-true, eq-eqb, and_parts, and_from}
use Rattle.rules.specs.declared.hunk.Side.TheVariants.{Current, Other, Ancestor}
use Rattle.rules.specs.declared.mode.Conflict as modes
use Rattle.rules.specs.declared.mode.Conflict.TheVariants.{Keep, ResolveWithOurs, ResolveWithTheirs, ResolveWithUnion}
use Rattle.rules.specs.declared.mode.Resolution.{Resolution}
use Rattle.rules.specs.declared.refusal.RenderRefusal.{RenderRefusal}
use Rattle.rules.specs.declared.refusal.RenderRefusal.TheVariants.{CountsDiffer, MarkerSize, LabelTooLong, SinkTooSmall}
use Rattle.rules.specs.Limits.{max_label, max_marker_size}
use Rattle.rules.specs.Hunks.{Sheets}
use Rattle.rules.specs.Pieces.{Chunk, all_bytes, total, made}
use Rattle.rules.specs.Markers.{Labels}
use Rattle.rules.specs.Rendering.{rendering}
use Rattle.rules.specs.Verdict.{verdict}
use Rattle.rules.specs.Questions.{ask, answered, changed, Question}
use Rattle.rules.specs.Refusals.{render_number, render_place, needed_length, sink_capacity, RenderRefuses}
use Rattle.rules.specs.Tables.{Held}
use Rattle.rules.specs.Renders.{Asked, size_fits, label_fits, shared_questions, needed, room, render_questions, render_answer, filled_sink}
use Rattle.rules.specs.RenderLaws.{Counted, SizeFits, LabelFits, SharedTold, RenderTold, RenderRules}
use Rattle.rules.specs.Lengths.{LabelsFit}
use Rattle.rules.proofs.Asking.{yes_then, question, accepted, turned_down}

size_says : (m : modes.Conflict) → size_fits m ≡ true → SizeFits m
size_says (Keep style n) e = let p = and_parts (leb 1 n) (leb n max_marker_size) e in (leb-true 1 n p.0, leb-true n max_marker_size p.1)
size_says ResolveWithOurs e = tt
size_says ResolveWithTheirs e = tt
size_says ResolveWithUnion e = tt

says_size : (m : modes.Conflict) → SizeFits m → size_fits m ≡ true
says_size (Keep style n) p = and_from (leb 1 n) (leb n max_marker_size) (le-leb 1 n p.0) (le-leb n max_marker_size p.1)
says_size ResolveWithOurs p = refl
says_size ResolveWithTheirs p = refl
says_size ResolveWithUnion p = refl

label_says : (l : Option (List ℕ)) → label_fits l ≡ true → LabelFits l
label_says None e = tt
label_says (Some l) e = leb-true (length l) max_label e

says_label : (l : Option (List ℕ)) → LabelFits l → label_fits l ≡ true
says_label None p = refl
says_label (Some l) p = le-leb (length l) max_label p

refuses : {A : Type 0} (r : RenderRefusal) → RenderRefuses {A = A} (Err r) (render_number r) (render_place r) (needed_length r) (sink_capacity r)
refuses (CountsDiffer side) = record { why = CountsDiffer side; refused = refl; numbered = refl; placed = refl; length = refl; room = refl; layered = refl }
refuses MarkerSize = record { why = MarkerSize; refused = refl; numbered = refl; placed = refl; length = refl; room = refl; layered = refl }
refuses (LabelTooLong side) = record { why = LabelTooLong side; refused = refl; numbered = refl; placed = refl; length = refl; room = refl; layered = refl }
refuses (SinkTooSmall n c) = record { why = SinkTooSmall n c; refused = refl; numbered = refl; placed = refl; length = refl; room = refl; layered = refl }

module _ {A : Type 0} (x : A) where
  abbrev Refuses : RenderRefusal → Result A RenderRefusal → Type 0
  Refuses r y = RenderRefuses y (render_number r) (render_place r) (needed_length r) (sink_capacity r)

  told : (r : RenderRefusal) (b : Bool) (Q : Type 0) (next : Option RenderRefusal) (Next : Result A RenderRefusal → Type 0) → (b ≡ true → Q) → (Q → b ≡ true) → Next (answered next x)
      → Question Q (Refuses r (answered (ask b r next) x)) (Next (answered (ask b r next) x))
  told r b Q next Next f g = question b Q r next x (Refuses r) Next f g (refuses r)

module _ {A : Type 0} (t : Held) (s : Sheets) (m : modes.Conflict) (l : Labels) (next : Option RenderRefusal) (x : A) (Next : Result A RenderRefusal → Type 0) where
  abbrev s₅ : Option RenderRefusal
  s₅ = ask (label_fits l.other) (LabelTooLong Other) next

  abbrev s₄ : Option RenderRefusal
  s₄ = ask (label_fits l.current) (LabelTooLong Current) s₅

  abbrev s₃ : Option RenderRefusal
  s₃ = ask (label_fits l.ancestor) (LabelTooLong Ancestor) s₄

  abbrev s₂ : Option RenderRefusal
  s₂ = ask (size_fits m) MarkerSize s₃

  abbrev s₁ : Option RenderRefusal
  s₁ = ask (eqb (length s.other) t.other_lines) (CountsDiffer Other) s₂

  abbrev s₀ : Option RenderRefusal
  s₀ = ask (eqb (length s.current) t.current_lines) (CountsDiffer Current) s₁

  abbrev S₅ : Result A RenderRefusal → Type 0
  S₅ y = Question (LabelFits l.other) (RenderRefuses y 16 2 0 0) (Next y)

  abbrev S₄ : Result A RenderRefusal → Type 0
  S₄ y = Question (LabelFits l.current) (RenderRefuses y 16 1 0 0) (S₅ y)

  abbrev S₃ : Result A RenderRefusal → Type 0
  S₃ y = Question (LabelFits l.ancestor) (RenderRefuses y 16 0 0 0) (S₄ y)

  abbrev S₂ : Result A RenderRefusal → Type 0
  S₂ y = Question (SizeFits m) (RenderRefuses y 15 0 0 0) (S₃ y)

  abbrev S₁ : Result A RenderRefusal → Type 0
  S₁ y = Question (length s.other ≡ t.other_lines) (RenderRefuses y 14 2 0 0) (S₂ y)

  abbrev S₀ : Result A RenderRefusal → Type 0
  S₀ y = Question (length s.current ≡ t.current_lines) (RenderRefuses y 14 1 0 0) (S₁ y)

  shared_told : Next (answered next x) → SharedTold t s m l (answered (shared_questions t s m l next) x) (Next (answered (shared_questions t s m l next) x))
  shared_told k =
      told x (CountsDiffer Ancestor) (eqb (length s.ancestor) t.ancestor_lines) (length s.ancestor ≡ t.ancestor_lines) s₀ S₀ (eqb-true (length s.ancestor) t.ancestor_lines) (eq-eqb (length s.ancestor) t.ancestor_lines)
      (told x (CountsDiffer Current) (eqb (length s.current) t.current_lines) (length s.current ≡ t.current_lines) s₁ S₁ (eqb-true (length s.current) t.current_lines) (eq-eqb (length s.current) t.current_lines)
      (told x (CountsDiffer Other) (eqb (length s.other) t.other_lines) (length s.other ≡ t.other_lines) s₂ S₂ (eqb-true (length s.other) t.other_lines) (eq-eqb (length s.other) t.other_lines)
      (told x MarkerSize (size_fits m) (SizeFits m) s₃ S₃ (size_says m) (says_size m)
      (told x (LabelTooLong Ancestor) (label_fits l.ancestor) (LabelFits l.ancestor) s₄ S₄ (label_says l.ancestor) (says_label l.ancestor)
      (told x (LabelTooLong Current) (label_fits l.current) (LabelFits l.current) s₅ S₅ (label_says l.current) (says_label l.current)
      (told x (LabelTooLong Other) (label_fits l.other) (LabelFits l.other) next Next (label_says l.other) (says_label l.other) k))))))

-- Yes to every shared question says that the sheets have the table's counts,
pub counted_then : (t : Held) (s : Sheets) (m : modes.Conflict) (l : Labels) (next : Option RenderRefusal) → shared_questions t s m l next ≡ None → Counted s t
counted_then t s m l next e =
    let q₀ = yes_then (eqb (length s.ancestor) t.ancestor_lines) _ _ e in
    let q₁ = yes_then (eqb (length s.current) t.current_lines) _ _ q₀.1 in
    let q₂ = yes_then (eqb (length s.other) t.other_lines) _ _ q₁.1 in
    record { ancestor = eqb-true (length s.ancestor) t.ancestor_lines q₀.0; current = eqb-true (length s.current) t.current_lines q₁.0; other = eqb-true (length s.other) t.other_lines q₂.0 }

-- and that the marker size and the labels fit
pub record Fit (m : modes.Conflict) (l : Labels) : Type 0 where
  pub size : SizeFits m
  pub labels : LabelsFit l

pub fit_then : (t : Held) (s : Sheets) (m : modes.Conflict) (l : Labels) (next : Option RenderRefusal) → shared_questions t s m l next ≡ None → Fit m l
fit_then t s m l next e =
    let q₀ = yes_then (eqb (length s.ancestor) t.ancestor_lines) _ _ e in
    let q₁ = yes_then (eqb (length s.current) t.current_lines) _ _ q₀.1 in
    let q₂ = yes_then (eqb (length s.other) t.other_lines) _ _ q₁.1 in
    let q₃ = yes_then (size_fits m) _ _ q₂.1 in
    let q₄ = yes_then (label_fits l.ancestor) _ _ q₃.1 in
    let q₅ = yes_then (label_fits l.current) _ _ q₄.1 in
    let q₆ = yes_then (label_fits l.other) _ _ q₅.1 in
    record {
      size = size_says m q₃.0;
      labels = record { ancestor = label_says l.ancestor q₄.0; current = label_says l.current q₅.0; other = label_says l.other q₆.0 };
    }

render_told : (t : Held) (s : Sheets) (a : Asked) → RenderTold t s a
render_told t s a =
    let n = needed t s a.mode a.labels in
    let v : Resolution = verdict a.mode s t.current t.other in
    shared_told t s a.mode a.labels (room n a.capacity) v (λ y. Question (n ≤ a.capacity) (RenderRefuses y 17 0 n a.capacity) (y ≡ Ok v))
    (told v (SinkTooSmall n a.capacity) (leb n a.capacity) (n ≤ a.capacity) None (λ y. y ≡ Ok v) (leb-true n a.capacity) (le-leb n a.capacity) refl)

measured : (cs : List Chunk) → total cs ≡ length (all_bytes cs)
measured [] = refl
measured (c ∷ cs) = ap (λ (n : ℕ). length c.bytes + n) (measured cs) ∙ sym (length-append c.bytes (all_bytes cs))

made_more : {V : Type 0} (rule : V → Chunk → V) (v : V) (cs : List Chunk) (c : Chunk) → made rule v (cs ++ (c ∷ [])) ≡ rule (made rule v cs) c
made_more rule v [] c = refl
made_more rule v (x ∷ xs) c = made_more rule (rule v x) xs c

bytes_more : (cs : List Chunk) (c : Chunk) → all_bytes (cs ++ (c ∷ [])) ≡ all_bytes cs ++ c.bytes
bytes_more [] c = append-nil c.bytes
bytes_more (x ∷ xs) c = ap (λ (r : List ℕ). x.bytes ++ r) (bytes_more xs c) ∙ sym (append_assoc x.bytes (all_bytes xs) c.bytes)

pub render_rules : (V : Type 0) (rule : V → Chunk → V) (fresh : V) (t : Held) (s : Sheets) → RenderRules V rule fresh t s
render_rules V rule fresh t s = record {
  size_told = λ m l. shared_told t s m l None (needed t s m l) (λ y. y ≡ Ok (needed t s m l)) refl;
  render_told = render_told t s;
  given = λ a k v e. ap (λ (q : Option RenderRefusal). changed q (filled_sink rule fresh (rendering a.mode s a.labels t.current t.other)) k) (accepted (render_questions t s a) (verdict a.mode s t.current t.other) v e);
  left = λ a k r e. turned_down (render_questions t s a) (verdict a.mode s t.current t.other) r (filled_sink rule fresh (rendering a.mode s a.labels t.current t.other)) k e;
  length_told = λ m l. measured (rendering m s l t.current t.other);
  bytes_none = refl;
  bytes_more = bytes_more;
  measured = measured;
  made_none = refl;
  made_more = made_more rule fresh;
}

pub accepted_counted : (t : Held) (s : Sheets) (a : Asked) (v : Resolution) → render_answer t s a ≡ Ok v → Counted s t
accepted_counted t s a v e = counted_then t s a.mode a.labels (room (needed t s a.mode a.labels) a.capacity) (accepted (render_questions t s a) (verdict a.mode s t.current t.other) v e)
