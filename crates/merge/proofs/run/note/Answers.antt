use Rattle.std.proofs.Common.{sym}
use lib.Seq.{set_out}
use Rattle.merge.proofs.run.note.Goals as goal

pub returns-else-n-answers : goal.returns-else-n-answers
returns-else-n-answers c = sym (set_out c.args.answers.now c.args.n c.args.answer c.if-n-answers.false)
