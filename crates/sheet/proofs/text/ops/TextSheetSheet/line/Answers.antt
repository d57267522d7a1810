use Rattle.std.proofs.Common.{◌≡◌, ◌+◌, length, get_or, sym, ◌∙◌, arith, rules, length-take-le}
use Rattle.std.specs.Option.{option_map, unwrap_or}
use Rattle.sheet.proofs.TextLaws.{room, table, part_ordered, part_within, part_is, past}
use Rattle.sheet.proofs.text.ops.TextSheetSheet.line.Goals as goal

-- the line ends where the next one starts, or where the text ends
ends : (c : goal.After-row_known-3-1) → c.map_or-to.result ≡ get_or (table c.args.self.now) (c.args.n + 1) (length c.args.self.now.text.now)
ends c =
    let e : c.map_or-to.result ≡ unwrap_or (option_map (λ x. x.now) c.get-2.result) (length c.args.self.now.text.now) = search rules in
    e ∙ c.get-2.ensures.lookup.4 (omega arith) _

pub slice_bounds-starts-end : goal.slice_bounds-starts-end
slice_bounds-starts-end c = sym (length-take-le _ _ (room c.args.self.now))

pub returns-in_err-from : goal.returns-in_err-from
returns-in_err-from c = let h = past c.args.self.now c.args.n c.in_err-from.ensures.lookup.3 in cc

pub slice_bounds-result-count : goal.slice_bounds-result-count
slice_bounds-result-count c = let g = c.in_ok-from.ensures.lookup.3 in part_ordered c.args.self.now c.args.n _ _ g.0 (g.1 0) (ends c)

pub slice_bounds-result-start : goal.slice_bounds-result-start
slice_bounds-result-start c = let g = c.in_ok-from.ensures.lookup.3 in part_ordered c.args.self.now c.args.n _ _ g.0 (g.1 0) (ends c)

pub slice_bounds-result-end : goal.slice_bounds-result-end
slice_bounds-result-end c = let g = c.in_ok-from.ensures.lookup.3 in part_within c.args.self.now c.args.n _ _ g.0 (g.1 0) (ends c)

pub returns : goal.returns
returns c =
    let g = c.in_ok-from.ensures.lookup.3 in
    let e : c.map_or-to.result ≡ unwrap_or (option_map (λ x. x.now) c.get-2.result) (length c.args.self.now.text.now) = search rules in
    part_is c.args.self.now c.args.n _ _ g.0 (g.1 0) (e ∙ c.get-2.ensures.lookup.4 (omega arith) _)
