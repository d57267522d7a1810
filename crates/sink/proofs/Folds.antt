-- What rules make of pieces, one list after another.
use Rattle.std.proofs.Common.{◌≡◌, ℕ, ◌+◌, List, [], ◌∷◌, ◌++◌, sym, refl, ◌∙◌, append_assoc, append-nil, arith}
use Rattle.rules.specs.Pieces.{Chunk, all_bytes, made, more_bytes, size, total}
use Rattle.sink.specs.Tallies.{tally_rule}

pub made_++ : {V : Type 0} (rule : V → Chunk → V) (v : V) (cs ds : List Chunk) → made rule v (cs ++ ds) ≡ made rule (made rule v cs) ds
made_++ rule v [] ds = refl
made_++ rule v (c ∷ cs) ds = made_++ rule (rule v c) cs ds

-- A page's value is the bytes joined.
pub made_bytes : (v : List ℕ) (cs : List Chunk) → made more_bytes v cs ≡ v ++ all_bytes cs
made_bytes v [] = sym (append-nil v)
made_bytes v (c ∷ cs) = made_bytes (v ++ c.bytes) cs ∙ append_assoc v c.bytes (all_bytes cs)

-- A tally's value is the length of the pieces together.
pub made_total : (n : ℕ) (cs : List Chunk) → made tally_rule n cs ≡ n + total cs
made_total n [] = omega arith
made_total n (c ∷ cs) = made_total (n + size c) cs ∙ omega arith
