use Rattle.std.proofs.Common.{◌≡◌, ℕ, suc, ◌+◌, ◌-◌, ◌<◌, ◌≤◌, List, length, get_or, take, drop, Some, None, sym, ap, ◌∙◌, zero-add, arith, length-take}
use Rattle.sheet.specs.declared.text.TextSheet.{TextSheet}
use Rattle.rules.specs.Texts.{text_lines, nth_line}
use Rattle.sheet.proofs.LineLaws.{length_starts, nth_none, place, start_at, end_at, place_up, place_within, nth_part, bytes_split}

abbrev pub lines_of : TextSheet → List (List ℕ)
lines_of s = text_lines s.text.now

pub room : (s : TextSheet) → s.lines ≤ length s.starts.now
room s =
    let e = ap length s.placed in
    let f = length_starts 0 (lines_of s) in
    let g = length-take s.lines s.starts.now in
    let h = s.counted in
    omega arith

-- where line n starts, and where it ends
record Part (s : TextSheet) (n from to : ℕ) : Type 0 where
  there : n < length (lines_of s)
  from_is : from ≡ place (lines_of s) n
  to_is : to ≡ place (lines_of s) (suc n)

abbrev pub table : TextSheet → List ℕ
table s = take s.lines s.starts.now

part : (s : TextSheet) (n from to : ℕ) → n < length (table s) → from ≡ get_or (table s) n 0 → to ≡ get_or (table s) (n + 1) (length s.text.now) → Part s n from to
part s n from to h e f =
    let t = s.placed in
    let k = ap length t ∙ length_starts 0 (lines_of s) in
    let l : n < length (lines_of s) = omega arith in
    let b = ap length (bytes_split s.text.now) in
    record {
      there = l;
      from_is = e ∙ ap (λ xs. get_or xs n 0) t ∙ start_at 0 (lines_of s) n l ∙ zero-add _;
      to_is = f ∙ ap (λ xs. get_or xs (n + 1) (length s.text.now)) t ∙ end_at 0 (length s.text.now) (lines_of s) n (sym b ∙ sym (zero-add _)) l ∙ zero-add _;
    }

pub part_ordered : (s : TextSheet) (n from to : ℕ) → n < length (table s) → from ≡ get_or (table s) n 0 → to ≡ get_or (table s) (n + 1) (length s.text.now) → from ≤ to
part_ordered s n from to h e f =
    let p = part s n from to h e f in
    let u = place_up (lines_of s) n in
    let a = p.from_is in
    let b = p.to_is in
    omega arith

pub part_within : (s : TextSheet) (n from to : ℕ) → n < length (table s) → from ≡ get_or (table s) n 0 → to ≡ get_or (table s) (n + 1) (length s.text.now) → to ≤ length s.text.now
part_within s n from to h e f =
    let p = part s n from to h e f in
    let u = place_within (lines_of s) (suc n) in
    let a = ap length (bytes_split s.text.now) in
    let b = p.to_is in
    omega arith

pub part_is : (s : TextSheet) (n from to : ℕ) → n < length (table s) → from ≡ get_or (table s) n 0 → to ≡ get_or (table s) (n + 1) (length s.text.now) → Some (take (to - from) (drop from s.text.now)) ≡ nth_line (lines_of s) n
part_is s n from to h e f =
    let p = part s n from to h e f in
    let a = p.from_is in
    let b = p.to_is in
    let d = bytes_split s.text.now in
    let q = nth_part (lines_of s) n p.there in
    cc

pub past : (s : TextSheet) (n : ℕ) → length (table s) ≤ n → None ≡ nth_line (lines_of s) n
past s n h =
    let k = ap length s.placed ∙ length_starts 0 (lines_of s) in
    sym (nth_none (lines_of s) n (omega arith))
