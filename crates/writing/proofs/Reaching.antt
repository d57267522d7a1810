-- Steps of writing over states alone, whatever holds the sink: how a goal is reached, part by part.
use Rattle.std.proofs.Common.{◌≡◌, ℕ, ◌+◌, ◌-◌, ◌<◌, ◌≤◌, List, [], ◌∷◌, length, get_or, take, drop, sym, refl, ap, ◌∙◌, subst, arith}
use Rattle.rules.specs.Lines.{Line, between}
use Rattle.rules.specs.Pieces.{Kind, Chunk}
use Rattle.rules.specs.Steps.{Step, put, each}
use Rattle.sink.specs.declared.sink.Sink.{Ghosts}
use Rattle.writing.specs.States.{State, after, Room, Keeps}
use Rattle.writing.proofs.Steps.{Parts, piece, same_state, after_append, between_more}

module _ {V : Type 0} (rule : V → Chunk → V) where
  pub after_none : (s : State V) → after rule s [] ≡ s
  after_none s = same_state _ _ _ _ _ _ _ refl (omega arith) refl

  -- After the first part of the steps, the rest leads to the same goal.
  pub part_done : (s s' goal : State V) (ss xs ys : List Step) → after rule s ss ≡ goal → Parts ss xs ys → s' ≡ after rule s xs → after rule s' ys ≡ goal
  part_done s s' goal ss xs ys e f h =
      ap (λ (u : State V). after rule u ys) h ∙ (after_append rule s xs ys ∙ (ap (after rule s) (sym f.is) ∙ e))

  pub all_done : (s goal : State V) (ss : List Step) → after rule s ss ≡ goal → ss ≡ [] → s ≡ goal
  all_done s goal ss e f = sym (after_none s) ∙ (ap (after rule s) (sym f) ∙ e)

  -- Where there is room for all steps, there is room for the first part.
  pub part_room : (s goal : State V) (ss xs ys : List Step) → goal.taken ≤ goal.announced → after rule s ss ≡ goal → Parts ss xs ys → Room s xs
  part_room s goal ss xs ys r e f =
      let first = after rule s xs in
      let h : (after rule first ys).taken ≤ (after rule first ys).announced = subst (λ (g : State V). g.taken ≤ g.announced) (sym (part_done s first goal ss xs ys e f refl)) r in
      omega arith

-- Nothing written keeps all.
pub keeps_none : {S : Type 0} {g : Ghosts S} (a : S) → Keeps g a a
keeps_none a = record { forward = omega arith; alone = record { fresh = refl; capacity = refl; rest = λ k h. refl } }

-- No line is left of a range at its end, and one line more is the first piece of what is left.
pub between_done : (ls : List Line) (n to : ℕ) → to ≤ n → between ls n to ≡ []
between_done ls n to le = ap (λ m. take m (drop n ls)) (let q : to - n ≡ 0 = omega arith in q)

pub line_step : (k : Kind) (ls : List Line) (n to : ℕ) (c : Chunk) → n < to → to ≤ length ls → c ≡ piece k (get_or ls n []) → Parts (each k (between ls n to)) (put c ∷ []) (each k (between ls (n + 1) to))
line_step k ls n to c lt le e = record {
  is =
      ap (each k) (between_more ls n to lt le) ∙ ap (λ (x : Chunk). put x ∷ each k (between ls (n + 1) to)) (sym e);
}
