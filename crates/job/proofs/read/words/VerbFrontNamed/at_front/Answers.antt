use Rattle.std.proofs.Common.{refl, sym}
use Rattle.std.specs.Prelude.{codes}
use Rattle.job.specs.Words.{verb_word, verbs}
use Rattle.job.proofs.Words.{none_named, not_stripped}
use Rattle.job.proofs.read.words.VerbFrontNamed.at_front.Goals as goal

pub returns-in_default-strip_prefix-7 : goal.returns-in_default-strip_prefix-7
returns-in_default-strip_prefix-7 c =
    let line = c.args.line.now in
    let n0 = not_stripped line (codes "lines ") c.in_default.ensures.cases in
    let n1 = not_stripped line (codes "sheet ") c.in_default-strip_prefix.ensures.cases in
    let n2 = not_stripped line (codes "row ") c.in_default-strip_prefix-2.ensures.cases in
    let n3 = not_stripped line (codes "open ") c.in_default-strip_prefix-3.ensures.cases in
    let n4 = not_stripped line (codes "enter ") c.in_default-strip_prefix-4.ensures.cases in
    let n5 = not_stripped line (codes "withdraw ") c.in_default-strip_prefix-5.ensures.cases in
    let n6 = not_stripped line (codes "held ") c.in_default-strip_prefix-6.ensures.cases in
    let n7 = not_stripped line (codes "help ") c.in_default-strip_prefix-7.ensures.cases in
    sym (none_named verb_word verbs line (refl, n0, (refl, n1, (refl, n2, (refl, n3, (refl, n4, (refl, n5, (refl, n6, (refl, n7, tt)))))))))
