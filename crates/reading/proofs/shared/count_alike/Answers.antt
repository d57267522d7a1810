use Rattle.std.proofs.Common.{◌≡◌, suc, ◌+◌, Bool, cond, List, [], ◌∷◌, refl, ap, ◌∙◌, arith, rules, tests}
use Rattle.std.specs.Borrow.{Bor}
use Rattle.std.specs.List.{zip, prefix_len}
use Rattle.std.proofs.lemmas.Iterator.{YieldsList, YieldsList-from_zip}
use Rattle.std.proofs.lemmas.Iterator.Consumers.{YieldsList-at, count_from_yields_List}
use Rattle.std.proofs.lemmas.Iterator.Search.{YieldsList-from_take_while}
use Rattle.std.proofs.lemmas.List.Folds.{length-prefix_len}
use Rattle.rules.specs.Lines.{Line, same_line}
use Rattle.rules.specs.SharedLines.{shared_front}
use Rattle.reading.proofs.shared.count_alike.Goals as goal

abbrev alike : Line × Line → Bool
alike p = same_line p.0 p.1

front_alike : (xs ys : List Line) → prefix_len alike (zip xs ys) ≡ shared_front xs ys
front_alike [] ys = refl
front_alike (x ∷ xs) [] = refl
front_alike (x ∷ xs) (y ∷ ys) =
    let e : 1 + prefix_len alike (zip xs ys) ≡ suc (shared_front xs ys) = let more = front_alike xs ys in omega arith in
    ap (λ n. cond (same_line x y) n 0) e

pub returns : goal.returns
returns g c = λ xs ys ours theirs.
    let steps = g.I.Iterator.next_gives in
    let line = λ (l : Bor Line). l.now in
    let a : YieldsList steps line c.args.ours xs = record { runs = ours } in
    let b : YieldsList steps line c.args.theirs ys = record { runs = theirs } in
    let pairs = YieldsList-from_zip {s = c.zip.result} (YieldsList-at c.zip.ensures.first a) (YieldsList-at c.zip.ensures.second b) in
    count_from_yields_List c.take_while.result c.count.result c.count.ensures.ran
    (YieldsList-from_take_while _ alike (YieldsList-at c.take_while.ensures.source pairs) c.take_while.ensures.closure c.take_while.ensures.done (λ x b q k. search (rules, tests)))
    ∙ (length-prefix_len alike (zip xs ys) ∙ front_alike xs ys)
