-- Lines of a sheet, of a hunk, and of a list of hunks.
use Rattle.std.proofs.Common.{◌≡◌, ℕ, zero, suc, ◌-◌, ◌*◌, ◌≤◌, List, [], ◌∷◌, length, get_or, drop, Some, None, Option, refl, ap, ◌∙◌, arith, length-append, length-drop}
use Rattle.std.specs.Borrow.{Bor}
use Rattle.std.specs.List.{AllByRecursion}
use Rattle.std.specs.Option.{option_map, unwrap_or}
use Rattle.std.proofs.lemmas.List.{length-take-le}
use Rattle.rules.specs.declared.hunk.Side.{Side}
use Rattle.rules.specs.declared.hunk.Side.TheVariants.{Current, Other, Ancestor}
use Rattle.rules.specs.declared.hunk.Hunk.{Hunk}
use Rattle.rules.specs.Contraction.{read_range, hunk_size}
use Rattle.rules.specs.Limits.{max_lines, max_filled}
use Rattle.rules.specs.Hunks.{Sheets, hunk_lines, lines_by, side_lines, sheet_of}
use Rattle.rules.specs.Lines.{Line, between}
use Rattle.rules.specs.Texts.{nth_line}
use Rattle.reading.specs.Three.{AllFormed}
use Rattle.rules.specs.Contraction.{Readable}

-- What is shown of line n: its bytes, and none past the last.
pub shown_or_none : (ls : List Line) (n : ℕ) (r : Option (Bor Line)) (none : Bor Line) → none.now ≡ [] → option_map (λ x. x.now) r ≡ nth_line ls n → (unwrap_or r none).now ≡ get_or ls n []
shown_or_none [] n None none e p = e
shown_or_none [] n (Some l) none e p = let z : ◌≡◌ {A = ℕ} 0 1 = cc in absurd (omega arith)
shown_or_none (x ∷ ls) zero None none e p = let z : ◌≡◌ {A = ℕ} 0 1 = cc in absurd (omega arith)
shown_or_none (x ∷ ls) zero (Some l) none e p = cc
shown_or_none (x ∷ ls) (suc n) r none e p = shown_or_none ls n r none e p

pub lines_are : (sd : Side) (s : Sheets) (h : Hunk) → lines_by s sd h ≡ between (sheet_of s sd) (read_range sd h).start (read_range sd h).end
lines_are Current s h = refl
lines_are Other s h = refl
lines_are Ancestor s h = refl

pub whole : (s : Sheets) (h : Hunk) → Readable s h → length (hunk_lines s h) ≡ hunk_size h
whole s h r =
    let ls = sheet_of s h.side in
    let a = (read_range h.side h).start in
    let b = (read_range h.side h).end in
    ap length (lines_are h.side s h) ∙ length-take-le (b - a) (drop a ls) (simp length-drop (omega arith))

pub few_of : (s : Sheets) → AllFormed s → (sd : Side) → length (sheet_of s sd) ≤ max_lines
few_of s f Current = f.current.1
few_of s f Other = f.other.1
few_of s f Ancestor = f.ancestor.1

pub few_lines : (s : Sheets) → AllFormed s → (hs : List Hunk) → AllByRecursion (Readable s) hs → length (side_lines s hs) ≤ max_lines * length hs
few_lines s f [] r = omega arith
few_lines s f (h ∷ hs) r =
    let w = whole s h r.0 in
    let b = few_of s f h.side in
    let i = few_lines s f hs r.1 in
    let le : (read_range h.side h).end ≤ length (sheet_of s h.side) = r.0 in
    simp length-append (omega arith)

-- so their number fits 32 bits
pub lines_fit : (s : Sheets) → AllFormed s → (hs : List Hunk) → AllByRecursion (Readable s) hs → length hs ≤ max_filled → length (side_lines s hs) ≤ 4294967295
lines_fit s f hs r le = let b = few_lines s f hs r in omega arith
