use Rattle.std.proofs.Common.{refl, sym}
use Rattle.std.specs.Prelude.{codes}
use Rattle.job.specs.Words.{kind_word, kinds}
use Rattle.job.proofs.Words.{none_named, not_stripped}
use Rattle.job.proofs.read.words.SheetKindFrontNamed.at_front.Goals as goal

pub returns-in_default-strip_prefix : goal.returns-in_default-strip_prefix
returns-in_default-strip_prefix c =
    let line = c.args.line.now in
    let n0 = not_stripped line (codes "text ") c.in_default.ensures.cases in
    let n1 = not_stripped line (codes "cells ") c.in_default-strip_prefix.ensures.cases in
    sym (none_named kind_word kinds line (refl, n0, (refl, n1, tt)))
