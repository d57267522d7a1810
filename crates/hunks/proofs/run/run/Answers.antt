use Rattle.std.proofs.Common.{◌+◌, List, map, drop, sym, ap, ◌∙◌}
use Rattle.std.proofs.lemmas.List.{at_drop_more, at_drop_all}
use Rattle.rules.specs.Tables.{Held}
use Rattle.rules.specs.Runs.{after_calls}
use Rattle.hunks.specs.declared.run.Call.{Call}
use Rattle.hunks.specs.Calls.{call_of}
use Rattle.hunks.proofs.run.run.Goals as goal

pub loop-call-preserved : goal.loop-call-preserved
loop-call-preserved c =
    let xs = c.args.calls.now in
    let i = c.loop-call.call-index in
    c.loop-call.invariant
    ∙ (at_drop_more (λ (ys : List Call). after_calls c.loop-call.table (map call_of ys)) xs i _ c.loop-call-test.true
    ∙ sym (ap (λ (t : Held). after_calls t (map call_of (drop (i + 1) xs))) c.make.ensures))

pub returns : goal.returns
returns c = record {
  after = sym (c.loop-call.invariant ∙ at_drop_all (λ (ys : List Call). after_calls c.loop-call.table (map call_of ys)) c.args.calls.now c.loop-call.call-index c.loop-call-test.false);
  keeps = c.current.ensures.keeps;
}
