use Rattle.std.proofs.Common.{◌/◌, [], length, sym, ap, ◌∙◌, arith}
use Rattle.std.specs.Option.{option_map}
use Rattle.sheet.proofs.LineLaws.{nth_none}
use Rattle.sheet.proofs.CellLaws.{length_cells, chunk_is, cell_fits, cell_shown}
use Rattle.sheet.proofs.cells.ops.CellSheetSheet.line.Goals as goal

pub returns-in_err-get : goal.returns-in_err-get
returns-in_err-get c =
    let m = c.args.self.now.memory.now in
    let e = length_cells (length m / 48) m in
    let g = c.in_err-get.ensures.lookup.3 in
    ap (option_map (λ x. x.now)) c.from_residual.ensures ∙ sym (nth_none _ c.args.n (rw e (omega arith)))

pub bounds-cell-0 : goal.bounds-cell-0
bounds-cell-0 c =
    let m = c.args.self.now.memory.now in
    let g = c.in_ok-get.ensures.lookup.3 in
    let k = chunk_is m _ c.args.n c.as_chunks.ensures.front g.0 in
    let f = cell_fits m c.args.n _ (c.as_slice-cell.ensures ∙ g.1 [] ∙ k.1) c.args.self.now.fit k.0 in
    omega arith

pub slice_bounds-result-end : goal.slice_bounds-result-end
slice_bounds-result-end c =
    let m = c.args.self.now.memory.now in
    let g = c.in_ok-get.ensures.lookup.3 in
    let k = chunk_is m _ c.args.n c.as_chunks.ensures.front g.0 in
    let f = cell_fits m c.args.n _ (c.as_slice-cell.ensures ∙ g.1 [] ∙ k.1) c.args.self.now.fit k.0 in
    omega arith

pub returns : goal.returns
returns c =
    let m = c.args.self.now.memory.now in
    let g = c.in_ok-get.ensures.lookup.3 in
    let k = chunk_is m _ c.args.n c.as_chunks.ensures.front g.0 in
    cell_shown m c.args.n _ _ (c.as_slice-cell.ensures ∙ g.1 [] ∙ k.1) k.0 (omega arith)
