use Rattle.std.proofs.Common.{List, length, ap, arith, lit<}
use Rattle.rules.specs.declared.hunk.Hunk.{Hunk}
use Rattle.rules.specs.Contraction.{cut_front}
use Rattle.contract.proofs.Contracting.{front_few}
use Rattle.contract.proofs.zealous.contract_front.Goals as goal

pub gain_front-requires : goal.gain_front-requires
gain_front-requires g c =
    let l = c.args.lead.now in
    let n = c.shared_front-n.result in
    let e = ap length c.truncate.ensures in
    let f = ap (λ (v : List Hunk). length (cut_front n v).ahead) c.as_slice-3.ensures.value in
    let h = front_few n l in
    let k = ap length c.as_slice-3.ensures.value in
    let m = c.as_slice-3.ensures.fits in
    (lit< tt, omega arith)
