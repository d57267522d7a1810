use Rattle.std.proofs.Common.{◌≡◌, ℕ, ◌+◌, ◌-◌, ◌≤◌, List, length, Ok, refl, ap, ◌∙◌, arith}
use Rattle.std.proofs.lemmas.Slice.{drop-put_mid}
use Rattle.sink.specs.Pieces.{chunk}
use Rattle.sink.proofs.PageLaws.{same_page}
use Rattle.sink.proofs.Told.{took}
use Rattle.sink.proofs.page.ops.PageSink.take.Goals as goal

pub returns-in_err-take-clause-refused : goal.returns-in_err-take-clause-refused
returns-in_err-take-clause-refused c = λ h.
    let s : length c.bytes-bytes.result.now ≡ length (chunk c.args.p).bytes = ap length c.bytes-bytes.ensures in
    same_page c.args.self.now c.take.new.self _ (c.take.ensures.refused (omega (arith, h, s)))

pub returns-clause-rest : goal.returns-clause-rest
returns-clause-rest c = λ k h.
    let m = c.args.self.now.meter in
    let t = c.taken-at.ensures in
    let l : m.taken + length c.bytes-bytes.result.now ≤ m.announced = took _ _ _ (Ok tt) c.in_ok-take.ensures.answer refl in
    let n = c.take.ensures.taken l in
    let f = c.args.self.now.fits in
    let d = drop-put_mid c.taken-at.result (c.taken-at.result + length c.bytes-bytes.result.now - c.taken-at.result) c.args.self.now.buffer.now c.copy_from_slice.new.self k (omega (arith, h, n, t)) (omega (arith, l, t, f)) (ap length c.copy_from_slice.ensures.after ∙ omega arith) in
    ap (λ (xs : List ℕ). (c.args.self.now.buffer.ghost_name, xs)) d
