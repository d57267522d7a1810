use Rattle.std.proofs.Common.{refl, sym}
use Rattle.std.specs.Prelude.{codes}
use Rattle.job.specs.Words.{side_word, sides}
use Rattle.job.proofs.Words.{none_named, not_stripped}
use Rattle.job.proofs.read.words.SideFrontNamed.at_front.Goals as goal

pub returns-in_default-strip_prefix-2 : goal.returns-in_default-strip_prefix-2
returns-in_default-strip_prefix-2 c =
    let line = c.args.line.now in
    let n0 = not_stripped line (codes "ancestor ") c.in_default.ensures.cases in
    let n1 = not_stripped line (codes "current ") c.in_default-strip_prefix.ensures.cases in
    let n2 = not_stripped line (codes "other ") c.in_default-strip_prefix-2.ensures.cases in
    sym (none_named side_word sides line (refl, n0, (refl, n1, (refl, n2, tt))))
