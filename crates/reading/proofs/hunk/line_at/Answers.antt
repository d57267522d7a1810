use Rattle.std.proofs.Common.{refl, ap, ◌∙◌}
use Rattle.std.specs.Borrow.{Bor}
use Rattle.rules.specs.Hunks.{sheet_of}
use Rattle.rules.specs.Lines.{Line}
use Rattle.reading.proofs.Reading.{shown_or_none}
use Rattle.reading.proofs.hunk.line_at.Goals as goal

pub returns : goal.returns
returns g c =
    let s = g.T.ThreeSheets.sheets c.args.three.now in
    ap (λ (b : Bor Line). b.now) c.unwrap_or.ensures ∙ shown_or_none (sheet_of s c.args.side) c.args.n c.line_of.result _ refl c.line_of.ensures
