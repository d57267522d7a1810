use Rattle.std.proofs.Common.{◌≡◌, ℕ, List, [], ◌++◌, take, drop, sym, ap, ◌∙◌, arith, take-append-drop, rules}
use Rattle.rules.specs.Pieces.{Chunk, all_bytes}
use Rattle.sink.specs.Pieces.{chunks}
use Rattle.sink.specs.declared.page.Page.{Page}
use Rattle.sink.proofs.Folds.{made_bytes}
use Rattle.sink_tests.proofs.print.print.Goals as goal

-- What lies behind the bytes taken is what lay there, in the same memory.
pub returns-clause-written : goal.returns-clause-written
returns-clause-written c = λ t.
    let cs : List Chunk = chunks c.args.pieces.now in
    let page : Page = c.write_all.new.sink in
    let e = c.write_all.ensures in
    let k = e.alone.rest page.meter.taken (omega arith) in
    let d = ap (λ x. x.1) k in
    let n = ap (λ x. x.0) k in
    let o = c.new-page.ensures.buffer in
    let m = ap (λ r. r.now) o in
    let v : take page.meter.taken page.buffer.now ≡ all_bytes cs = e.value t ∙ made_bytes [] cs in
    let same = sym (n ∙ ap (λ r. r.ghost_name) o) in
    ◌∙◌ {b = page.buffer.now} (search rules)
    (sym (take-append-drop page.meter.taken page.buffer.now) ∙ ap (λ (xs : List ℕ). xs ++ drop page.meter.taken page.buffer.now) v
    ∙ ap (λ (xs : List ℕ). all_bytes cs ++ xs) (d ∙ ap (drop page.meter.taken) m ∙ ap (λ (j : ℕ). drop j c.args.buffer.now) (e.taken t)))
