-- A side filled hunk by hunk, how long it gets, and that its hunks can be read.
use Rattle.std.proofs.Common.{ℕ, ◌+◌, ◌*◌, ◌≤◌, ltb, List, [], ◌∷◌, length, arith}
use Rattle.std.proofs.lemmas.List.{length-append}
use Rattle.std.proofs.lemmas.Bool.{cond_both}
use Rattle.rules.specs.declared.hunk.Hunk.{Hunk}
use Rattle.rules.specs.declared.hunk.Side.TheVariants.{Ancestor}
use Rattle.rules.specs.Filling.{stretch, filled}

few_stretch : (a b : ℕ) → length (stretch a b) ≤ 1
few_stretch a b =
    cond_both (ltb a b) (record { before = record { start = a; end = b }; after = record { start = a; end = b }; side = Ancestor } ∷ []) [] (λ (v : List Hunk). length v ≤ 1)
    (λ e. omega arith)
    (λ e. omega arith)

-- A side filled has at most a stretch ahead of each hunk and one behind the last.
pub filled_length : (a b : ℕ) (hs : List Hunk) → length (filled a b hs) ≤ 2 * length hs + 1
filled_length a b [] = few_stretch a b
filled_length a b (h ∷ hs) =
    let s = few_stretch a h.before.start in
    let r = filled_length h.before.end b hs in
    let e = length-append (stretch a h.before.start) (h ∷ filled h.before.end b hs) in
    omega arith
