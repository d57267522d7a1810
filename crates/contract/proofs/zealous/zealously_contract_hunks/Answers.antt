use Rattle.std.proofs.Common.{length, ap, arith}
use Rattle.rules.specs.Hunks.{side_lines}
use Rattle.rules.specs.SharedLines.{shared_front}
use Rattle.contract.proofs.Contracting.{readable_cut, front_few, both_ends}
use Rattle.contract.proofs.zealous.zealously_contract_hunks.Goals as goal

pub contract_back-requires : goal.contract_back-requires
contract_back-requires g c =
    let s = g.T.ThreeSheets.sheets c.args.three.now in
    let a = c.args.lead.now in
    let b = c.args.facing.now in
    let n = shared_front (side_lines s a) (side_lines s b) in
    let e = ap length c.contract_front.ensures.removed in
    let f = ap length c.contract_front.ensures.lead in
    let h = front_few n a in
    let m = c.contract_front.ensures.few in
    record {
      ours = readable_cut s n a _ c.contract_front.ensures.lead c.requires.ours;
      theirs = readable_cut s n b _ c.contract_front.ensures.facing c.requires.theirs;
      room = omega arith;
    }

pub returns : goal.returns
returns g c =
    let s = g.T.ThreeSheets.sheets c.args.three.now in
    let a = c.args.lead.now in
    let b = c.args.facing.now in
    let f = c.contract_front.ensures in
    let e = c.contract_back.ensures in
    let w = both_ends s a b c.contract_front.new.lead c.contract_front.new.facing c.contract_front.new.removed c.contract_back.new.lead c.contract_back.new.facing c.contract_back.new.removed
    f.lead f.facing f.removed e.lead e.facing e.removed _ _ _ c.len.ensures.value c.len-in_front.ensures.value c.len-2.ensures.value in
    record { lead = w.lead; facing = w.facing; removed = w.removed; counts = w.counts }
