-- How far a run has come, and what it has left once all its calls are made.
use Rattle.std.proofs.Common.{◌≡◌, ℕ, suc, ◌+◌, ◌≤◌, List, [], ◌∷◌, map, length, drop, set, sym, refl, ap, ◌∙◌, subst, ap₂, add-one, arith}
use native.Mathlib.Nat.{le-max_left, le-max_right}
use Rattle.std.specs.List.{AllByRecursion}
use Rattle.std.proofs.lemmas.List.{drop_all}
use Rattle.rules.specs.Hunks.{Sheets}
use Rattle.rules.specs.Pieces.{Chunk}
use Rattle.rules.specs.Renders.{SinkState}
use Rattle.rules.specs.RunLaws.{FewLines}
use Rattle.rules.specs.Runs.{Call as RulesCall, opening, NoOpening, after_call, after_calls, after_run, answer, answers}
use Rattle.rules.specs.Tables.{Held}
use Rattle.rules.proofs.TableKeeps.{after_both}
use Rattle.reading.specs.Three.{AllFormed}
use Rattle.merge.specs.declared.run.Answer.{Answer}
use Rattle.merge.specs.declared.run.Call.{Call}
use Rattle.merge.specs.declared.run.Call.TheVariants.{Enter, Withdraw, Render}
use Rattle.merge.specs.Calls.{call_in, calls_in, run_in, answer_in, answer_to, answers_to, written_over, call_sink, sink_after, written_by, furthest, UnitTable}

-- Answers noted one after another, from place n on.
abbrev pub noted_from : {A : Type 0} → ℕ → List A → List A → List A
noted_from n [] ys = ys
noted_from n (x ∷ xs) ys = noted_from (suc n) xs (set ys n x)

noted_behind : {A : Type 0} (p : A) (n : ℕ) (xs ys : List A) → noted_from (suc n) xs (p ∷ ys) ≡ p ∷ noted_from n xs ys
noted_behind p n [] ys = refl
noted_behind p n (x ∷ xs) ys = noted_behind p (suc n) xs (set ys n x)

noted_nowhere : {A : Type 0} (n : ℕ) (xs : List A) → noted_from n xs [] ≡ []
noted_nowhere n [] = refl
noted_nowhere n (x ∷ xs) = noted_nowhere (suc n) xs

pub noted_all : {A : Type 0} (xs ys : List A) → noted_from 0 xs ys ≡ written_over xs ys
noted_all [] ys = refl
noted_all (x ∷ xs) [] = noted_nowhere 1 xs
noted_all {A} (x ∷ xs) (y ∷ ys) = noted_behind x 0 xs ys ∙ ap (λ (zs : List A). x ∷ zs) (noted_all xs ys)

module _ (s : Sheets) (cap : ℕ) where
  -- The answers of the code are those of the rules.
  answer_ruled : (t : Held) (x : Call) → answer_in (answer_to s cap t x) ≡ answer t (call_in s cap x)
  answer_ruled t (Enter h) = refl
  answer_ruled t (Withdraw side) = refl
  answer_ruled t (Render m l) = refl

  pub answers_ruled : (t : Held) (xs : List Call) → map answer_in (answers_to s cap t xs) ≡ answers t (calls_in s cap xs)
  answers_ruled t [] = refl
  answers_ruled t (x ∷ xs) = ap₂ ◌∷◌ (answer_ruled t x) (answers_ruled (after_call t (call_in s cap x)) xs)

  -- None of the calls is an opening.
  no_opening : (x : Call) → NoOpening (call_in s cap x)
  no_opening (Enter h) = tt
  no_opening (Withdraw side) = tt
  no_opening (Render m l) = tt

  none_opens : (xs : List Call) → AllByRecursion NoOpening (calls_in s cap xs)
  none_opens [] = tt
  none_opens (x ∷ xs) = (no_opening x, none_opens xs)

  -- The table after the run is that of a unit.
  pub unit_table : (t t₀ : Held) (xs : List RulesCall) (ys : List Call) → FewLines s → t ≡ after_calls t₀ (run_in s cap ys) → t₀ ≡ after_run xs → UnitTable s xs (calls_in s cap ys) t
  unit_table t t₀ xs ys few e p = record {
    the_unit = record { earlier = xs; since = calls_in s cap ys; few = few; no_opening = none_opens ys };
    its_earlier = refl;
    its_since = refl;
    its_table = e ∙ ap (λ (x : Held). after_calls x (run_in s cap ys)) p ∙ sym (after_both _ xs (run_in s cap ys));
  }

  -- What holds when i calls have been made: the table, the answers noted and the sink are such that the calls left lead where all of them lead.
  pub record Going {V : Type 0} (rule : V → Chunk → V) (fresh : V) (t₀ t : Held) (k₀ k : SinkState V) (ys₀ ys : List Answer) (xs : List Call) (i : ℕ) (Same : ℕ → Type 0) : Type 0 where
    pub table : after_calls t (calls_in s cap (drop i xs)) ≡ after_calls t₀ (calls_in s cap xs)
    pub noted : noted_from i (answers_to s cap t (drop i xs)) ys ≡ noted_from 0 (answers_to s cap t₀ xs) ys₀
    pub sink : sink_after rule fresh t (calls_in s cap (drop i xs)) k ≡ sink_after rule fresh t₀ (calls_in s cap xs) k₀
    pub rest : (n : ℕ) → furthest t₀ (calls_in s cap xs) ≤ n → (furthest t (calls_in s cap (drop i xs)) ≤ n) × Same n

  module _ {V : Type 0} (rule : V → Chunk → V) (fresh : V) (t₀ : Held) (k₀ : SinkState V) (ys₀ : List Answer) (xs : List Call) where
    pub going_none : (Same : ℕ → Type 0) → ((n : ℕ) → Same n) → Going rule fresh t₀ t₀ k₀ k₀ ys₀ ys₀ xs 0 Same
    going_none Same f = record { table = refl; noted = refl; sink = refl; rest = λ n h. (h, f n) }

    -- One more call.
    pub going_more : (t t' : Held) (k k' : SinkState V) (ys ys' : List Answer) (i : ℕ) (x : Call) (Same Same' : ℕ → Type 0) → Going rule fresh t₀ t k₀ k ys₀ ys xs i Same
        → drop i xs ≡ x ∷ drop (i + 1) xs → t' ≡ after_call t (call_in s cap x) → ys' ≡ set ys i (answer_to s cap t x) → k' ≡ call_sink rule fresh t (call_in s cap x) k
        → ((n : ℕ) → written_by t (call_in s cap x) ≤ n → Same n → Same' n) → Going rule fresh t₀ t' k₀ k' ys₀ ys' xs (i + 1) Same'
    going_more t t' k k' ys ys' i x Same Same' g d p q r f = record {
      table = ap (λ (u : Held). after_calls u (calls_in s cap (drop (i + 1) xs))) p ∙ sym (ap (λ (zs : List Call). after_calls t (calls_in s cap zs)) d) ∙ g.table;
      noted =
          ap (λ (j : ℕ). noted_from j (answers_to s cap t' (drop (i + 1) xs)) ys') (add-one i)
          ∙ ap₂ (λ (u : Held) (zs : List Answer). noted_from (suc i) (answers_to s cap u (drop (i + 1) xs)) zs) p q
          ∙ sym (ap (λ (zs : List Call). noted_from i (answers_to s cap t zs) ys) d) ∙ g.noted;
      sink = ap₂ (λ (u : Held) (w : SinkState V). sink_after rule fresh u (calls_in s cap (drop (i + 1) xs)) w) p r ∙ sym (ap (λ (zs : List Call). sink_after rule fresh t (calls_in s cap zs) k) d) ∙ g.sink;
      rest = λ n h.
          let most = furthest (after_call t (call_in s cap x)) (calls_in s cap (drop (i + 1) xs)) in
          let both = subst (λ (zs : List Call). furthest t (calls_in s cap zs) ≤ n) d (g.rest n h).0 in (
            subst (λ (u : Held). furthest u (calls_in s cap (drop (i + 1) xs)) ≤ n) (sym p) (omega (arith, le-max_right (written_by t (call_in s cap x)) most, both)),
            f n (omega (arith, le-max_left (written_by t (call_in s cap x)) most, both)) (g.rest n h).1,
          );
    }

    -- The same, of a call that was made with an equal capacity and an equal fresh value.
    pub going_on : (t t' : Held) (k k' : SinkState V) (ys ys' : List Answer) (i : ℕ) (x : Call) (y : Answer) (Same Same' : ℕ → Type 0) (cap' : ℕ) (fresh' : V) → cap' ≡ cap → fresh' ≡ fresh
        → Going rule fresh t₀ t k₀ k ys₀ ys xs i Same → drop i xs ≡ x ∷ drop (i + 1) xs → t' ≡ after_call t (call_in s cap' x) → y ≡ answer_to s cap' t x → ys' ≡ set ys i y
        → k' ≡ call_sink rule fresh' t (call_in s cap' x) k → ((n : ℕ) → written_by t (call_in s cap' x) ≤ n → Same n → Same' n) → Going rule fresh t₀ t' k₀ k' ys₀ ys' xs (i + 1) Same'
    going_on t t' k k' ys ys' i x y Same Same' cap' fresh' e e' g d p q n r f =
        going_more t t' k k' ys ys' i x Same Same' g d
        (p ∙ ap (λ (c : ℕ). after_call t (call_in s c x)) e)
        (n ∙ ap (λ (z : Answer). set ys i z) (q ∙ ap (λ (c : ℕ). answer_to s c t x) e))
        (r ∙ ap₂ (λ (c : ℕ) (v : V). call_sink rule v t (call_in s c x) k) e e')
        (λ m h. f m (subst (λ (c : ℕ). written_by t (call_in s c x) ≤ m) (sym e) h))

  -- What holds when all are made, from the table t₀ before the opening.
  pub record Gone {V : Type 0} (rule : V → Chunk → V) (fresh : V) (t₀ t : Held) (k₀ k : SinkState V) (ys₀ ys : List Answer) (xs : List Call) (Same : ℕ → Type 0) : Type 0 where
    pub table : t ≡ after_calls t₀ (run_in s cap xs)
    pub noted : ys ≡ written_over (answers_to s cap (after_call t₀ (opening s)) xs) ys₀
    pub sink : k ≡ sink_after rule fresh t₀ (run_in s cap xs) k₀
    pub rest : (n : ℕ) → furthest t₀ (run_in s cap xs) ≤ n → Same n

  pub all_gone : {V : Type 0} (rule : V → Chunk → V) (fresh : V) (t₀ t₁ t : Held) (k₀ k : SinkState V) (ys₀ ys : List Answer) (xs : List Call) (i : ℕ) (Same : ℕ → Type 0) → Going rule fresh t₁ t k₀ k ys₀ ys xs i Same
      → length xs ≤ i → t₁ ≡ after_call t₀ (opening s) → Gone rule fresh t₀ t k₀ k ys₀ ys xs Same
  all_gone {V} rule fresh t₀ t₁ t k₀ k ys₀ ys xs i Same g le p =
      let none : drop i xs ≡ [] = drop_all i xs le in
      record {
        table = sym (ap (λ (zs : List Call). after_calls t (calls_in s cap zs)) none) ∙ g.table ∙ ap (λ (u : Held). after_calls u (calls_in s cap xs)) p;
        noted =
            sym (ap (λ (zs : List Call). noted_from i (answers_to s cap t zs) ys) none) ∙ g.noted ∙ noted_all (answers_to s cap t₁ xs) ys₀
            ∙ ap (λ (u : Held). written_over (answers_to s cap u xs) ys₀) p;
        sink = sym (ap (λ (zs : List Call). sink_after rule fresh t (calls_in s cap zs) k) none) ∙ g.sink ∙ ap (λ (u : Held). sink_after rule fresh u (calls_in s cap xs) k₀) p;
        rest = λ n h. (g.rest n (subst (λ (u : Held). furthest u (calls_in s cap xs) ≤ n) (sym p) (omega (arith, le-max_right 0 (furthest (after_call t₀ (opening s)) (calls_in s cap xs)), h)))).1;
      }

-- Every sheet keeps the limit of lines.
pub few_lines : (s : Sheets) → AllFormed s → FewLines s
few_lines s f = record { ancestor = f.ancestor.1; current = f.current.1; other = f.other.1 }
