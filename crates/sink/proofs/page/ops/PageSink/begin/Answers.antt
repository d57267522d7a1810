use Rattle.sink.proofs.PageLaws.{same_page}
use Rattle.sink.proofs.page.ops.PageSink.begin.Goals as goal

pub returns-clause-refused : goal.returns-clause-refused
returns-clause-refused c = λ h. same_page c.args.self.now c.begin.new.self _ (c.begin.ensures.refused h)
