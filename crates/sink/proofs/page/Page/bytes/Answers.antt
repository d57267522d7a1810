use Rattle.std.proofs.Common.{◌≡◌, ℕ, [], take, ap, ◌∙◌}
use Rattle.sink.specs.PageState.{page_value}
use Rattle.sink.proofs.Folds.{made_bytes}
use Rattle.sink.proofs.page.Page.bytes.Goals as goal

pub returns : goal.returns
returns c =
    let e : take c.taken.result c.args.self.now.buffer.now ≡ page_value c.args.self.now = ap (λ (n : ℕ). take n c.args.self.now.buffer.now) c.taken.ensures in
    record { bytes = e; joined = λ cs m. e ∙ m ∙ made_bytes [] cs }
