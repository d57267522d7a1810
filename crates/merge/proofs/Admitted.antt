-- What yes to the questions that size and render share says, and what they answer then.
use Rattle.std.proofs.Common.{◌≡◌, ℕ, ◌≤◌, Bool, true, false, cond, eqb, List, length, Some, None, Ok, Option, refl, ap, ◌∙◌, arith, le-leb}
use Rattle.rules.specs.declared.hunk.Side.TheVariants.{Current, Other, Ancestor}
use Rattle.rules.specs.declared.mode.Conflict as modes
use Rattle.rules.specs.declared.refusal.RenderRefusal.{RenderRefusal}
use Rattle.rules.specs.declared.refusal.RenderRefusal.TheVariants.{CountsDiffer, MarkerSize, LabelTooLong, SinkTooSmall}
use Rattle.rules.specs.Hunks.{Sheets}
use Rattle.rules.specs.Lengths.{LabelsFit}
use Rattle.rules.specs.Limits.{max_hunks}
use Rattle.rules.specs.Markers.{Labels}
use Rattle.rules.specs.Order.{Kept}
use Rattle.rules.specs.Questions.{ask, answered}
use Rattle.rules.specs.RenderLaws.{Counted, SizeFits}
use Rattle.rules.specs.Renders.{Asked, size_fits, label_fits, shared_questions, size_questions, render_questions, needed, room}
use Rattle.rules.specs.TableLaws.{TableKeeps}
use Rattle.rules.specs.Tables.{Held}
use Rattle.rules.proofs.Rendered.{counted_then, fit_then}
use Rattle.rules.proofs.TableKeeps.{table_kept}
use Rattle.rules.specs.declared.hunk.Hunk.{Hunk}
use Rattle.rules.specs.declared.mode.Resolution.{Resolution}
use Rattle.rules.specs.declared.mode.Resolution.TheVariants.{Complete}
use Rattle.rules.specs.Groups.{clusters}
use Rattle.rules.specs.Rendering.{rendering}
use Rattle.rules.specs.Verdict.{any_marked, marked_verdict, verdict}
use Rattle.rules.specs.Walk.{walk}
use Rattle.reading.specs.declared.three.ThreeSheets.{Ghosts}
use Rattle.rendering.specs.declared.whole.Rendering.{Rendering}
use Rattle.rendering.specs.Renderings.{pieces_in, marked_in}
use Rattle.merge.specs.Asking.{Admits}

-- Yes to all of them, for a table of the code.
pub record Admitted (t : Held) (s : Sheets) (m : modes.Conflict) (l : Labels) : Type 0 where
  pub counted : Counted s t
  pub kept : Kept s t.current t.other
  pub few : (length t.current ≤ max_hunks) × (length t.other ≤ max_hunks)
  pub size : SizeFits m
  pub labels : LabelsFit l

pub admitted : (t : Held) (s : Sheets) (m : modes.Conflict) (l : Labels) → TableKeeps t → size_questions t s m l ≡ None → Admitted t s m l
admitted t s m l k e =
    let c = counted_then t s m l None e in
    let f = fit_then t s m l None e in
    record { counted = c; kept = table_kept s t k c; few = (k.few_current, k.few_other); size = f.size; labels = f.labels }

-- Render asks the same, and then its own: where the shared ones are all yes, the next decides, and a refusal of theirs stands.
next_asked : {R : Type 0} (b : Bool) (r : R) (q q' next : Option R) → (q ≡ None → q' ≡ next) → ask b r q ≡ None → ask b r q' ≡ next
next_asked true r q q' next f e = f e
next_asked false r q q' next f e = let z : ◌≡◌ {A = ℕ} 0 1 = cc in absurd (omega arith)

no_stands : {R : Type 0} (b : Bool) (r why : R) (q q' : Option R) → (q ≡ Some why → q' ≡ Some why) → ask b r q ≡ Some why → ask b r q' ≡ Some why
no_stands true r why q q' f e = f e
no_stands false r why q q' f e = e

shared_next : (t : Held) (s : Sheets) (m : modes.Conflict) (l : Labels) (next : Option RenderRefusal) → size_questions t s m l ≡ None → shared_questions t s m l next ≡ next
shared_next t s m l next =
    next_asked (eqb (length s.ancestor) t.ancestor_lines) (CountsDiffer Ancestor) _ _ next
    (next_asked (eqb (length s.current) t.current_lines) (CountsDiffer Current) _ _ next
    (next_asked (eqb (length s.other) t.other_lines) (CountsDiffer Other) _ _ next
    (next_asked (size_fits m) MarkerSize _ _ next
    (next_asked (label_fits l.ancestor) (LabelTooLong Ancestor) _ _ next
    (next_asked (label_fits l.current) (LabelTooLong Current) _ _ next
    (next_asked (label_fits l.other) (LabelTooLong Other) None next next (λ _. refl)))))))

shared_no : (t : Held) (s : Sheets) (m : modes.Conflict) (l : Labels) (next : Option RenderRefusal) (why : RenderRefusal) → size_questions t s m l ≡ Some why → shared_questions t s m l next ≡ Some why
shared_no t s m l next why =
    no_stands (eqb (length s.ancestor) t.ancestor_lines) (CountsDiffer Ancestor) why _ _
    (no_stands (eqb (length s.current) t.current_lines) (CountsDiffer Current) why _ _
    (no_stands (eqb (length s.other) t.other_lines) (CountsDiffer Other) why _ _
    (no_stands (size_fits m) MarkerSize why _ _
    (no_stands (label_fits l.ancestor) (LabelTooLong Ancestor) why _ _
    (no_stands (label_fits l.current) (LabelTooLong Current) why _ _
    (no_stands (label_fits l.other) (LabelTooLong Other) why None next (λ e. let z : ◌≡◌ {A = ℕ} 0 1 = cc in absurd (omega arith))))))))

pub answered_yes : {A R : Type 0} (q : Option R) (x y : A) → answered q x ≡ Ok y → (q ≡ None) × (x ≡ y)
answered_yes None x y e = (refl, cc)
answered_yes (Some w) x y e = let z : ◌≡◌ {A = ℕ} 0 1 = cc in absurd (omega arith)

-- What render is asked, and not size: whether its sink has room.
pub refused_too : (t : Held) (s : Sheets) (a : Asked) (r : RenderRefusal) → size_questions t s a.mode a.labels ≡ Some r → render_questions t s a ≡ Some r
refused_too t s a r e = shared_no t s a.mode a.labels (room (needed t s a.mode a.labels) a.capacity) r e

pub has_room : (t : Held) (s : Sheets) (a : Asked) → size_questions t s a.mode a.labels ≡ None → needed t s a.mode a.labels ≤ a.capacity → render_questions t s a ≡ None
has_room t s a e fits =
    shared_next t s a.mode a.labels _ e ∙ ap (λ (b : Bool). ask b (SinkTooSmall (needed t s a.mode a.labels) a.capacity) None) (le-leb (needed t s a.mode a.labels) a.capacity fits)

-- The rendering that is admitted has the pieces that are asked for.
same_pieces : (m m' : modes.Conflict) (s s' : Sheets) (l l' : Labels) (cs cs' os os' : List Hunk) → m ≡ m' → s ≡ s' → l ≡ l' → cs ≡ cs' → os ≡ os' → rendering m s l cs os ≡ rendering m' s' l' cs' os'
same_pieces m m' s s' l l' cs cs' os os' a b c d e = cc

same_marked : (m m' : modes.Conflict) (s s' : Sheets) (cs cs' os os' : List Hunk) → m ≡ m' → s ≡ s' → cs ≡ cs' → os ≡ os' → any_marked m s (clusters (walk cs os)) ≡ any_marked m' s' (clusters (walk cs' os'))
same_marked m m' s s' cs cs' os os' a b d e = cc

module _ {T : Type 0} (k : Ghosts T) (t : Held) (s : Sheets) (m : modes.Conflict) (l : Labels) (r : Rendering T) (a : Admits k t s m l r) where
  pub its_pieces : pieces_in k r ≡ rendering m s l t.current t.other
  its_pieces = same_pieces _ _ _ _ _ _ _ _ _ _ a.mode a.sheets a.labels a.current a.other

  pub its_verdict : (v : Resolution) (b : Bool) → v ≡ cond b (marked_verdict m) Complete → b ≡ marked_in k r → v ≡ verdict m s t.current t.other
  its_verdict v b e f = e ∙ ap (λ (c : Bool). cond c (marked_verdict m) Complete) (f ∙ same_marked _ _ _ _ _ _ _ _ a.mode a.sheets a.current a.other)
