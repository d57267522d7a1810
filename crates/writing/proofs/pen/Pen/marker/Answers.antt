use Rattle.std.proofs.Common.{◌≡◌, take, replicate, ap, ◌∙◌}
use Rattle.std.proofs.lemmas.List.{take-replicate}
use Rattle.rules.specs.Limits.{max_marker_size}
use Rattle.writing.specs.Marks.{mark_byte}
use Rattle.writing.proofs.Steps.{wrote_on}
use Rattle.writing.proofs.pen.Pen.marker.Goals as goal

pub returns : goal.returns
returns g c =
    let n = c.args.size in
    let run : take n c.run.result.now ≡ replicate n (mark_byte c.args.mark) = ap (take n) c.run.ensures ∙ take-replicate n max_marker_size (mark_byte c.args.mark) c.requires.size in
    wrote_on c.close_line.ensures (wrote_on (rw run at c.piece.ensures) (wrote_on c.label.ensures (rw c.ending_bytes.ensures at c.piece-2.ensures)))
