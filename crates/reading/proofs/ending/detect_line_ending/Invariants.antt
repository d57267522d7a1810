use Rattle.std.proofs.Common.{◌≡◌, reverse}
use Rattle.std.specs.Slice.Iter.{iter_rest}
use Rattle.rules.specs.Endings.{ending_back}
use Rattle.reading.proofs.ending.detect_line_ending.Given as goal

abbrev pub invariant-loop-hunk : goal.invariant-loop-hunk
invariant-loop-hunk g l =
    (goal.iterator-loop-hunk g).can_next l.hunk-iterator
    × (goal.iterator-loop-hunk g).is_finite l.hunk-iterator
    × (ending_back (g.T.ThreeSheets.sheets l.three) (reverse l.hunks)
    ≡ ending_back (g.T.ThreeSheets.sheets l.three) (reverse (iter_rest l.hunk-iterator.iter)))
