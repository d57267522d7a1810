use Rattle.std.proofs.Common.{sym, ap, ◌∙◌}
use Rattle.sink_tests.specs.Logs.{LogValue, fresh_log}
use Rattle.sink_tests.proofs.LogLaws.{keeps}
use Rattle.sink_tests.proofs.log.Log.lost.Goals as goal

pub returns-clause-whole : goal.returns-clause-whole
returns-clause-whole c = λ cs e h. ap (λ (v : LogValue). v.pieces) e ∙ keeps fresh_log cs (sym (ap (λ (v : LogValue). v.lost) e) ∙ h)
