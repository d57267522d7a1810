-- Pieces that are given to a sink one after another, and how many of them find room.
use Rattle.std.proofs.Common.{◌≡◌, ℕ, zero, suc, ◌+◌, ◌<◌, ◌≤◌, cond, leb, List, [], ◌∷◌, ◌++◌, length, get_or, take, drop, sym, refl, ap, ◌∙◌, ⊎_elim, add-zero, add_assoc, arith, le-leb}
use borrow.Author.Tests.{lt-leb}
use Rattle.std.proofs.lemmas.List.{at_drop_more, at_drop_all, take_all, take_more}
use Rattle.std.proofs.lemmas.Bool.{cond-true, cond-false, cases_lt}
use Rattle.rules.specs.Pieces.{Chunk, common, made, size, total}
use Rattle.sink.specs.Answers.{fitting}
use Rattle.sink.specs.Pieces.{chunk, chunks}
use Rattle.sink.specs.declared.piece.Piece.{Piece}
use Rattle.sink.proofs.Folds.{made_++}

abbrev pub no_chunk : Chunk
no_chunk = record { kind = common; bytes = [] }

pub total_push : (cs : List Chunk) (c : Chunk) → total (cs ++ c ∷ []) ≡ total cs + size c
total_push [] c = omega arith
total_push (d ∷ cs) c = ap (λ (n : ℕ). size d + n) (total_push cs c) ∙ sym (add_assoc (size d) (total cs) (size c))

pub length_chunks : (ps : List Piece) → length (chunks ps) ≡ length ps
length_chunks [] = refl
length_chunks (p ∷ ps) = ap suc (length_chunks ps)

pub chunks_at : (ps : List Piece) (i : ℕ) (p : Piece) → i < length ps → get_or (chunks ps) i no_chunk ≡ chunk (get_or ps i p)
chunks_at [] i p h = absurd (omega arith)
chunks_at (q ∷ ps) zero p h = refl
chunks_at (q ∷ ps) (suc i) p h = chunks_at ps i p (omega arith)

-- A run of pieces into a sink, after the first i of them: what came in, how far the sink is, and how many will fit in all.
pub record Gone (V : Type 0) (rule : V → Chunk → V) (v w : V) (t u a : ℕ) (cs : List Chunk) (i : ℕ) : Type 0 where
  pub value : w ≡ made rule v (take i cs)
  pub taken : u ≡ t + total (take i cs)
  pub fit : fitting u a (drop i cs) + i ≡ fitting t a cs

module _ {V : Type 0} (rule : V → Chunk → V) where
  pub gone_none : (v : V) (t a : ℕ) (cs : List Chunk) → Gone V rule v v t t a cs 0
  gone_none v t a cs = record { value = refl; taken = omega arith; fit = add-zero (fitting t a cs) }

  pub gone_more : (v w w' : V) (t u u' a : ℕ) (cs : List Chunk) (i : ℕ) (c : Chunk) → Gone V rule v w t u a cs i → i < length cs → c ≡ get_or cs i no_chunk →
      u + size c ≤ a → w' ≡ rule w c → u' ≡ u + size c → Gone V rule v w' t u' a cs (i + 1)
  gone_more v w w' t u u' a cs i c g h e l p q =
      let m : take (i + 1) cs ≡ take i cs ++ c ∷ [] = take_more cs i no_chunk h ∙ ap (λ (x : Chunk). take i cs ++ x ∷ []) (sym e) in
      let d : fitting u a (drop i cs) ≡ fitting u a (get_or cs i no_chunk ∷ drop (i + 1) cs) = at_drop_more (fitting u a) cs i no_chunk h in
      let d' : fitting u a (drop i cs) ≡ cond (leb (u + size c) a) (fitting (u + size c) a (drop (i + 1) cs) + 1) 0 =
      d ∙ ap (λ (x : Chunk). fitting u a (x ∷ drop (i + 1) cs)) (sym e) in
      let d'' : fitting u a (drop i cs) ≡ fitting u' a (drop (i + 1) cs) + 1 =
      d' ∙ cond-true (leb (u + size c) a) _ _ (le-leb (u + size c) a l) ∙ ap (λ (x : ℕ). fitting x a (drop (i + 1) cs) + 1) (sym q) in
      record {
        value = p ∙ ap (λ (x : V). rule x c) g.value ∙ sym (made_++ rule v (take i cs) (c ∷ [])) ∙ ap (λ (x : List Chunk). made rule v x) (sym m);
        taken = q ∙ omega (arith, g.taken, total_push (take i cs) c) ∙ ap (λ (x : List Chunk). t + total x) (sym m);
        fit = omega (arith, d'', g.fit);
      }

  pub gone_stop : (v w : V) (t u a : ℕ) (cs : List Chunk) (i : ℕ) (c : Chunk) → Gone V rule v w t u a cs i → i < length cs → c ≡ get_or cs i no_chunk →
      a < u + size c → i ≡ fitting t a cs
  gone_stop v w t u a cs i c g h e l =
      let d : fitting u a (drop i cs) ≡ fitting u a (get_or cs i no_chunk ∷ drop (i + 1) cs) = at_drop_more (fitting u a) cs i no_chunk h in
      let d' : fitting u a (drop i cs) ≡ cond (leb (u + size c) a) (fitting (u + size c) a (drop (i + 1) cs) + 1) 0 =
      d ∙ ap (λ (x : Chunk). fitting u a (x ∷ drop (i + 1) cs)) (sym e) in
      let d'' : fitting u a (drop i cs) ≡ 0 = d' ∙ cond-false (leb (u + size c) a) _ _ (lt-leb (u + size c) a l) in
      omega (arith, d'', g.fit)

  pub gone_all : (v w : V) (t u a : ℕ) (cs : List Chunk) (i : ℕ) → Gone V rule v w t u a cs i → length cs ≤ i → i ≡ fitting t a cs
  gone_all v w t u a cs i g h =
      let d : fitting u a (drop i cs) ≡ 0 = at_drop_all (fitting u a) cs i h in
      omega (arith, d, g.fit)

pub fitting_all : (t a : ℕ) (cs : List Chunk) → t + total cs ≤ a → fitting t a cs ≡ length cs
fitting_all t a [] h = refl
fitting_all t a (c ∷ cs) h =
    cond-true (leb (t + size c) a) _ _ (le-leb (t + size c) a (omega arith)) ∙ omega (arith, fitting_all (t + size c) a cs (omega arith))

pub fitting_less : (t a : ℕ) (cs : List Chunk) → (fitting t a cs ≡ length cs → ⊥) → a < t + total cs
fitting_less t a cs h =
    ⊎_elim (λ (l : a < t + total cs). l) (λ (l : t + total cs ≤ a). absurd (h (fitting_all t a cs l))) (cases_lt a (t + total cs))

-- Where all have room, all are taken.
pub taken_whole : (t a n : ℕ) (cs : List Chunk) → n ≡ fitting t a cs → t + total cs ≤ a → take n cs ≡ cs
taken_whole t a n cs f h = take_all n cs (omega (arith, f, fitting_all t a cs h))
