-- What render answers and leaves, from what it was asked and what was written.
use Rattle.std.proofs.Common.{◌≡◌, ℕ, Some, None, Ok, Err, Option, Result, sym, refl, ap, ◌∙◌, arith}
use Rattle.std.proofs.lemmas.Bool.{true≢false}
use Rattle.rules.specs.declared.mode.Conflict as modes
use Rattle.rules.specs.declared.mode.Conflict.TheVariants.{Keep, ResolveWithOurs, ResolveWithTheirs, ResolveWithUnion}
use Rattle.rules.specs.declared.mode.Resolution.{Resolution}
use Rattle.rules.specs.declared.refusal.RenderRefusal.{RenderRefusal}
use Rattle.rules.specs.Hunks.{Sheets}
use Rattle.rules.specs.Order.{Kept}
use Rattle.rules.specs.Pieces.{Chunk, total, made}
use Rattle.rules.specs.Questions.{answered, changed}
use Rattle.rules.specs.Rendering.{rendering}
use Rattle.rules.specs.Renders.{Asked, render_answer, render_questions, render_sink, SinkState, filled_sink}
use Rattle.rules.specs.TableLaws.{TableKeeps}
use Rattle.rules.specs.Tables.{Held}
use Rattle.rules.specs.Verdict.{verdict}
use Rattle.rules.proofs.Agreed.{laws}
use Rattle.rules.proofs.Asking.{accepted}
use Rattle.rules.proofs.Rendered.{accepted_counted}
use Rattle.rules.proofs.TableKeeps.{table_kept}
use Rattle.rules.proofs.TwoUnits.{one_unit, alike_shown}
use Rattle.sink.specs.declared.sink.Sink.{Ghosts}
use Rattle.sink.specs.Sinks.{LeavesAlone}
use Rattle.rendering.specs.Sinks.{Took}
use Rattle.merge.specs.Sinks.{sink_at, Renders}
use Rattle.merge.specs.Told.{ModeTold, RenderTold}

abbrev seen : {V : Type 0} → ℕ → ℕ → V → SinkState V
seen announced taken value = record { announced = announced; taken = taken; value = value }

same_state : {V : Type 0} {an an' t t' : ℕ} {v v' : V} → an ≡ an' → t ≡ t' → v ≡ v' → seen an t v ≡ seen an' t' v'
same_state p q r = cc

module _ (t : Held) (s : Sheets) (a : Asked) where
  mode_told : (m : modes.Conflict) (v : Resolution) → a.mode ≡ m → Kept s t.current t.other → render_answer t s a ≡ Ok v → ModeTold m s t a v
  mode_told (Keep st n) v e p q = (one_unit s t p).keep st n a v e q
  mode_told ResolveWithOurs v e p q = (one_unit s t p).ours a v e q
  mode_told ResolveWithTheirs v e p q = (one_unit s t p).theirs a v e q
  mode_told ResolveWithUnion v e p q = tt

  -- What an accepted render says of its own call.
  pub render_told : {V : Type 0} (rule : V → Chunk → V) (fresh : V) (v : Resolution) (k k₀ : SinkState V) → TableKeeps t → k ≡ render_sink rule fresh t s a k₀ → render_answer t s a ≡ Ok v → RenderTold rule fresh s t a v k
  render_told {V} rule fresh v k k₀ keeps e q =
      let n = accepted (render_questions t s a) (verdict a.mode s t.current t.other) v q in
      let f : k ≡ filled_sink rule fresh (rendering a.mode s a.labels t.current t.other) = e ∙ ap (λ (x : Option RenderRefusal). changed x (filled_sink rule fresh (rendering a.mode s a.labels t.current t.other)) k₀) n in
      let c = accepted_counted t s a v q in
      let p = table_kept s t keeps c in
      record {
        value = ap (λ (w : SinkState V). w.value) f;
        taken = ap (λ (w : SinkState V). w.taken) f;
        announced = ap (λ (w : SinkState V). w.announced) f;
        counted = c;
        keeps = keeps;
        told = mode_told a.mode v refl p q;
        laws = laws s t.current t.other p;
        alike = λ t'. alike_shown s t t' p;
      }

  module _ {S : Type 0} (k : Ghosts S) (old new : S) where
    pub refused : (r : RenderRefusal) (result : Result Resolution RenderRefusal) → render_questions t s a ≡ Some r → result ≡ Err r → new ≡ old → Renders k t s a old new result
    refused r result e p q = record {
      answer = p ∙ sym (ap (λ (x : Option RenderRefusal). answered x (verdict a.mode s t.current t.other)) e);
      sink = ap (sink_at k) q ∙ sym (ap (λ (x : Option RenderRefusal). changed x (filled_sink k.rule (k.fresh old) (rendering a.mode s a.labels t.current t.other)) (sink_at k old)) e);
      alone = record { fresh = ap k.fresh q; capacity = ap k.capacity q; rest = λ j _. ap (λ (x : S). k.rest x j) q };
      refused = λ _. q;
    }

    -- Begun with the rendering's length, and then given its pieces.
    pub given : (begun : S) (v : Resolution) → render_questions t s a ≡ None → v ≡ verdict a.mode s t.current t.other
        → k.value begun ≡ k.fresh old → k.taken begun ≡ 0 → k.announced begun ≡ total (rendering a.mode s a.labels t.current t.other)
        → LeavesAlone k old begun → Took k begun new (rendering a.mode s a.labels t.current t.other) → Renders k t s a old new (Ok v)
    given begun v e p value taken announced alone w =
        let cs = rendering a.mode s a.labels t.current t.other in
        let x : k.value new ≡ made k.rule (k.fresh old) cs = w.value ∙ ap (λ (u : k.Value). made k.rule u cs) value in
        let y : k.taken new ≡ total cs = omega (arith, w.taken, taken) in
        record {
          answer = ap (λ (u : Resolution). Ok u) p ∙ sym (ap (λ (q : Option RenderRefusal). answered q (verdict a.mode s t.current t.other)) e);
          sink = same_state (w.announced ∙ announced) y x ∙ sym (ap (λ (q : Option RenderRefusal). changed q (filled_sink k.rule (k.fresh old) cs) (sink_at k old)) e);
          alone = record { fresh = w.alone.fresh ∙ alone.fresh; capacity = w.alone.capacity ∙ alone.capacity; rest = λ j h. w.alone.rest j h ∙ alone.rest j (omega (arith, taken)) };
          refused = λ u. absurd (true≢false (sym u));
        }

    pub told : (result : Result Resolution RenderRefusal) → TableKeeps t → Renders k t s a old new result → (v : Resolution) → result ≡ Ok v → RenderTold k.rule (k.fresh old) s t a v (sink_at k new)
    told result keeps r v e = render_told k.rule (k.fresh old) v (sink_at k new) (sink_at k old) keeps r.sink (sym r.answer ∙ e)
