use Rattle.std.proofs.Common.{◌≡◌, ◌+◌, length, refl, ap, ◌∙◌, arith}
use Rattle.std.proofs.lemmas.List.{length-take-le}
use Rattle.contract.proofs.Cutting.{placed_inside, ahead_cut, lent_some, lent_none}
use Rattle.contract.proofs.place.Place.keep_ahead.Goals as goal

pub returns-in-Some : goal.returns-in-Some
returns-in-Some g c =
    let hs = c.args.list.now in
    let l = c.truncate-else-self-eq0.new.self in
    let y = c.in-Some.hunk.now in
    let x = c.keep_lines.new.hunk in
    let lt = placed_inside c.args.self.whole c.args.self.lines hs c.requires.placed (omega arith) in
    ahead_cut c.args.self.whole c.args.self.lines hs l _ x y lt (omega arith) c.truncate-else-self-eq0.ensures (lent_some l c.args.self.whole y c.in-Some.ensures.lent) c.keep_lines.ensures refl

pub returns-in_default : goal.returns-in_default
returns-in_default g c =
    let hs = c.args.list.now in
    let ts = c.truncate-else-self-eq0.new.self in
    let lt = placed_inside c.args.self.whole c.args.self.lines hs c.requires.placed (omega arith) in
    let e : length ts ≡ c.args.self.whole + 1 = ap length c.truncate-else-self-eq0.ensures ∙ length-take-le (c.args.self.whole + 1) hs (omega arith) in
    let le = lent_none ts c.args.self.whole c.in_default.ensures.lent in
    absurd (omega arith)
