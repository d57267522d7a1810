use Rattle.std.proofs.Common.{◌≡◌, map, drop}
use Rattle.rules.specs.Runs.{after_calls}
use Rattle.hunks.specs.Calls.{call_of}
use Rattle.hunks.proofs.run.run.Given as goal

abbrev pub invariant-loop-call : goal.invariant-loop-call
invariant-loop-call l = after_calls l.initial.table (map call_of l.calls) ≡ after_calls l.table (map call_of (drop l.call-index l.calls))
