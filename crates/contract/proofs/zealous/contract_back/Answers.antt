use Rattle.std.proofs.Common.{◌-◌, ◌<◌, List, ◌++◌, length, sym, ap, ◌∙◌, subst, ap₂, arith, lit<}
use Rattle.rules.specs.declared.hunk.Hunk.{Hunk}
use Rattle.reading.specs.Reading.{line_count}
use Rattle.rules.specs.Contraction.{cut_back}
use Rattle.rules.specs.Hunks.{side_lines}
use Rattle.rules.specs.SharedLines.{shared_back}
use Rattle.reading.proofs.Counting.{counted, few_counted}
use Rattle.contract.proofs.Contracting.{back_few, shared_back_few}
use Rattle.contract.proofs.zealous.contract_back.Goals as goal

pub gain_back-requires : goal.gain_back-requires
gain_back-requires g c =
    let a = c.args.lead.now in
    let n = c.count_lines.result - c.shared_back-n.result in
    let f = ap (λ (v : List Hunk). length (cut_back n v).behind) c.as_slice-5.ensures.value in
    let h = back_few n a in
    let r = c.requires.room in
    (lit< tt, omega arith)

pub count_lines-requires : goal.count_lines-requires
count_lines-requires g c =
    let s = g.T.ThreeSheets.sheets c.args.three.now in
    let a = c.args.lead.now in
    let b = c.args.facing.now in
    let few = g.T.ThreeSheets.formed c.args.three.now in
    subst (λ (v : List Hunk). line_count v < 4294967296) (sym c.as_slice-3.ensures.value) (few_counted s few a c.requires.ours (omega (arith, ap length c.as_slice-3.ensures.value, c.as_slice-3.ensures.fits)))

pub overflow_sub-ours : goal.overflow_sub-ours
overflow_sub-ours g c =
    let s = g.T.ThreeSheets.sheets c.args.three.now in
    let a = c.args.lead.now in
    let b = c.args.facing.now in
    let eb = c.shared_back-n.ensures ∙ ap₂ (λ (x y : List Hunk). shared_back (side_lines s x) (side_lines s y)) c.as_slice.ensures.value c.as_slice-2.ensures.value in
    let co = c.count_lines.ensures ∙ (ap line_count c.as_slice-3.ensures.value ∙ sym (counted s a c.requires.ours)) in
    let w = (shared_back_few (side_lines s a) (side_lines s b)).0 in
    omega arith

pub count_lines-requires-2 : goal.count_lines-requires-2
count_lines-requires-2 g c =
    let s = g.T.ThreeSheets.sheets c.args.three.now in
    let a = c.args.lead.now in
    let b = c.args.facing.now in
    let few = g.T.ThreeSheets.formed c.args.three.now in
    subst (λ (v : List Hunk). line_count v < 4294967296) (sym c.as_slice-4.ensures.value) (few_counted s few b c.requires.theirs (omega (arith, ap length c.as_slice-4.ensures.value, c.as_slice-4.ensures.fits)))

pub overflow_sub-theirs : goal.overflow_sub-theirs
overflow_sub-theirs g c =
    let s = g.T.ThreeSheets.sheets c.args.three.now in
    let a = c.args.lead.now in
    let b = c.args.facing.now in
    let eb = c.shared_back-n.ensures ∙ ap₂ (λ (x y : List Hunk). shared_back (side_lines s x) (side_lines s y)) c.as_slice.ensures.value c.as_slice-2.ensures.value in
    let ct = c.count_lines-2.ensures ∙ (ap line_count c.as_slice-4.ensures.value ∙ sym (counted s b c.requires.theirs)) in
    let w = (shared_back_few (side_lines s a) (side_lines s b)).1 in
    omega arith

pub returns : goal.returns
returns g c =
    let s = g.T.ThreeSheets.sheets c.args.three.now in
    let a = c.args.lead.now in
    let b = c.args.facing.now in
    let eb = c.shared_back-n.ensures ∙ ap₂ (λ (x y : List Hunk). shared_back (side_lines s x) (side_lines s y)) c.as_slice.ensures.value c.as_slice-2.ensures.value in
    let co = c.count_lines.ensures ∙ (ap line_count c.as_slice-3.ensures.value ∙ sym (counted s a c.requires.ours)) in
    let ct = c.count_lines-2.ensures ∙ (ap line_count c.as_slice-4.ensures.value ∙ sym (counted s b c.requires.theirs)) in
    let na = ap₂ ◌-◌ co eb in
    let nb = ap₂ ◌-◌ ct eb in
    record {
      lead = c.lose_back.ensures ∙ ap (λ n. (cut_back n a).ahead) na;
      facing = c.lose_back-2.ensures ∙ ap (λ n. (cut_back n b).ahead) nb;
      removed = c.gain_back.ensures ∙ (ap (λ (v : List Hunk). c.args.removed.now ++ (cut_back (c.count_lines.result - c.shared_back-n.result) v).behind) c.as_slice-5.ensures.value ∙ ap (λ n. c.args.removed.now ++ (cut_back n a).behind) na);
    }
