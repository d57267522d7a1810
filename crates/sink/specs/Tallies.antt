-- What a tally holds: the number of bytes taken.
use Rattle.std.specs.Prelude.{ℕ, ◌+◌}
use Rattle.rules.specs.Pieces.{Chunk, size}

-- A piece adds its length.
abbrev pub tally_rule : ℕ → Chunk → ℕ
tally_rule v c = v + size c
