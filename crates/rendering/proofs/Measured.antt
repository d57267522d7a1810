-- The length of a rendering fits 32 bits.
use Rattle.std.proofs.Common.{◌≡◌, ◌<◌, ◌≤◌, List, [], ◌∷◌, length, refl, arith, length-append}
use Rattle.rules.specs.declared.hunk.Hunk.{Hunk}
use Rattle.rules.specs.declared.mode.Conflict as modes
use Rattle.rules.specs.declared.mode.Conflict.TheVariants.{Keep, ResolveWithOurs, ResolveWithTheirs, ResolveWithUnion}
use Rattle.rules.specs.Hunks.{Sheets}
use Rattle.rules.specs.Lengths.{bytes_of, ShortSheets, LabelsFit}
use Rattle.rules.specs.Limits.{max_hunks, max_marker_size}
use Rattle.rules.specs.Lines.{Line}
use Rattle.rules.specs.Markers.{Labels}
use Rattle.rules.specs.Order.{Kept}
use Rattle.rules.specs.Pieces.{total}
use Rattle.rules.specs.RenderLaws.{SizeFits}
use Rattle.rules.specs.Rendering.{rendering}
use Rattle.rules.specs.Texts.{joined_lines}
use Rattle.rules.proofs.Lengths.{length_law}
use Rattle.reading.specs.Three.{AllFormed}
use Rattle.writing.specs.Sides.{size_of}

-- sheets are short
joined_bytes : (ls : List Line) → bytes_of ls ≡ length (joined_lines ls)
joined_bytes [] = refl
joined_bytes (l ∷ ls) = let e = joined_bytes ls in let a = length-append l (joined_lines ls) in omega arith

short : (s : Sheets) → AllFormed s → ShortSheets s
short s f =
    let a = joined_bytes s.ancestor in
    let c = joined_bytes s.current in
    let o = joined_bytes s.other in
    let p = f.ancestor.2 in
    let q = f.current.2 in
    let r = f.other.2 in
    record { ancestor = omega arith; current = omega arith; other = omega arith }

-- a rendering's length fits 32 bits
pub length_fits : (s : Sheets) (cs os : List Hunk) → AllFormed s → Kept s cs os → length cs ≤ max_hunks → length os ≤ max_hunks → (m : modes.Conflict) (l : Labels) → SizeFits m → LabelsFit l → total (rendering m s l cs os) < 1048576
length_fits s cs os f kept fc fo m l size labels = length_law s cs os kept fc fo (short s f) m l size labels

pub size_bound : (m : modes.Conflict) → SizeFits m → size_of m ≤ max_marker_size
size_bound (Keep style n) p = p.1
size_bound ResolveWithOurs p = omega arith
size_bound ResolveWithTheirs p = omega arith
size_bound ResolveWithUnion p = omega arith
