use Rattle.std.proofs.Common.{◌≡◌, ◌++◌, drop, vec_items}
use Rattle.job.specs.Escapes.{shown}
use Rattle.job.proofs.escape.ShownSpell.spell.Given as goal

abbrev pub invariant-loop-b : goal.invariant-loop-b
invariant-loop-b l = vec_items l.report ++ shown (drop l.b-index l.bytes) ≡ vec_items l.initial.report ++ shown l.bytes
