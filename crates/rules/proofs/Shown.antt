-- The rules of line endings.
use Rattle.std.proofs.Common.{◌≡◌, ℕ, ◌-◌, ◌<◌, ◌≤◌, Bool, true, false, cond, not, eqb, leb, List, [], ◌∷◌, ◌++◌, reverse, length, get_or, Some, None, Option, sym, refl, ap, ◌∙◌, append_assoc, arith, length-append}
use mathlib.Core.List.{reverse-append}
use lib.Seq.{get_or_at}
use Rattle.std.proofs.lemmas.Bool.{le-leb, lt-leb, eq-eqb, ne_eqb, not_from_true, not_from_false, lt-ltb, le-ltb}
use Rattle.rules.specs.declared.ending.Ending.{Ending}
use Rattle.rules.specs.declared.ending.Ending.TheVariants.{Newline, ReturnNewline}
use Rattle.rules.specs.declared.hunk.Hunk.{Hunk}
use Rattle.rules.specs.declared.hunk.Span.{Span}
use Rattle.rules.specs.Lines.{Line}
use Rattle.rules.specs.Hunks.{Sheets}
use Rattle.rules.specs.Filling.{stretch}
use Rattle.rules.specs.Endings.{by_second_last, ends_in_newline, ending_before, no_lines, ending_back, ending_of}
use Rattle.rules.specs.EndingLaws.{EndingLaws}

has_lines : (r : Span) → r.start < r.end → not (no_lines r) ≡ true
has_lines r lt = not_from_false (no_lines r) (lt-leb r.end r.start lt)

has_none : (r : Span) → r.end ≤ r.start → not (no_lines r) ≡ false
has_none r le = not_from_true (no_lines r) (le-leb r.end r.start le)

from_last : (s : Sheets) (hs : List Hunk) (h : Hunk) → ending_of s (hs ++ (h ∷ [])) ≡ ending_back s (h ∷ reverse hs)
from_last s hs h = ap (ending_back s) (reverse-append hs (h ∷ []))

-- the last bytes of a line
last_one : (xs : List ℕ) (c : ℕ) → get_or (xs ++ (c ∷ [])) (length (xs ++ (c ∷ [])) - 1) 0 ≡ c
last_one xs c = let n = length-append xs (c ∷ []) in get_or_at xs c [] 0 (length (xs ++ (c ∷ [])) - 1) (omega arith)

last_two : (xs : List ℕ) (c z : ℕ) → get_or (xs ++ (c ∷ (z ∷ []))) (length (xs ++ (c ∷ (z ∷ []))) - 1) 0 ≡ z
last_two xs c z = ap (λ (l : List ℕ). get_or l (length l - 1) 0) (sym (append_assoc xs (c ∷ []) (z ∷ []))) ∙ last_one (xs ++ (c ∷ [])) z

second_last : (xs : List ℕ) (c z : ℕ) → get_or (xs ++ (c ∷ (z ∷ []))) (length (xs ++ (c ∷ (z ∷ []))) - 2) 0 ≡ c
second_last xs c z = let n = length-append xs (c ∷ (z ∷ [])) in get_or_at xs c (z ∷ []) 0 (length (xs ++ (c ∷ (z ∷ []))) - 2) (omega arith)

two_long : (xs : List ℕ) (c z : ℕ) → leb 2 (length (xs ++ (c ∷ (z ∷ [])))) ≡ true
two_long xs c z = let n = length-append xs (c ∷ (z ∷ [])) in le-leb 2 (length (xs ++ (c ∷ (z ∷ [])))) (omega arith)

by_second : (l xs : List ℕ) (c z : ℕ) → l ≡ xs ++ (c ∷ (z ∷ [])) → by_second_last l ≡ Some (cond (eqb c 13) ReturnNewline Newline)
by_second l xs c z e = ap by_second_last e ∙ rw (two_long xs c z, second_last xs c z)

ends : (l xs : List ℕ) (c : ℕ) → l ≡ xs ++ (c ∷ (10 ∷ [])) → ends_in_newline l ≡ true
ends l xs c e = ap ends_in_newline e ∙ eq-eqb (get_or (xs ++ (c ∷ (10 ∷ []))) (length (xs ++ (c ∷ (10 ∷ []))) - 1) 0) 10 (last_two xs c 10)

is_open : (l xs : List ℕ) (c : ℕ) → l ≡ xs ++ (c ∷ []) → (c ≡ 10 → ⊥) → ends_in_newline l ≡ false
is_open l xs c e f = ap ends_in_newline e ∙ ne_eqb (get_or (xs ++ (c ∷ [])) (length (xs ++ (c ∷ [])) - 1) 0) 10 (λ q. f (sym (last_one xs c) ∙ q))

-- at the end of a sheet's lines
closed_line : (ls : List Line) (b : ℕ) (xs : List ℕ) (c : ℕ) → get_or ls (b - 1) [] ≡ xs ++ (c ∷ (10 ∷ [])) → ending_before ls b ≡ Some (cond (eqb c 13) ReturnNewline Newline)
closed_line ls b xs c e = rw (ends (get_or ls (b - 1) []) xs c e) (by_second (get_or ls (b - 1) []) xs c 10 e)

open_line : (ls : List Line) (b : ℕ) (xs : List ℕ) (c : ℕ) → get_or ls (b - 1) [] ≡ xs ++ (c ∷ []) → (c ≡ 10 → ⊥) → ending_before ls b ≡ cond (leb 2 b) (by_second_last (get_or ls (b - 2) [])) None
open_line ls b xs c e f = rw (is_open (get_or ls (b - 1) []) xs c e f)

either_none : (t : Bool) (x : Option Ending) → x ≡ None → cond t x None ≡ None
either_none true x e = e
either_none false x e = refl

of_stretch : (s : Sheets) (a b : ℕ) → a < b → ending_of s (stretch a b) ≡ ending_before s.ancestor b
of_stretch s a b lt = rw (lt-ltb a b lt) (rw (lt-leb b a lt))

no_stretch : (s : Sheets) (a b : ℕ) → b ≤ a → ending_of s (stretch a b) ≡ None
no_stretch s a b le = rw (le-ltb a b le)

pub ending_laws : (s : Sheets) → EndingLaws s
ending_laws s = record {
  newline_bytes = refl;
  return_bytes = refl;
  no_hunk = refl;
  by_after = λ hs h p. from_last s hs h ∙ rw (has_lines h.after p);
  by_before = λ hs h p q. from_last s hs h ∙ rw (has_none h.after p, has_lines h.before q);
  passed_over = λ hs h p q. from_last s hs h ∙ rw (has_none h.after p, has_none h.before q);
  both_bytes = λ ls b xs e. closed_line ls b xs 13 e;
  one_byte = λ ls b xs c e f. closed_line ls b xs c e ∙ rw (ne_eqb c 13 f);
  newline_alone = λ ls b e. rw e;
  before_open = λ ls b xs ys c d z e f g i.
      let o : ending_before ls b ≡ Some (cond (eqb d 13) ReturnNewline Newline) = open_line ls b xs c e f ∙ rw (le-leb 2 b g) (by_second (get_or ls (b - 2) []) ys d z i) in
      (λ q. o ∙ rw (eq-eqb d 13 q), λ q. o ∙ rw (ne_eqb d 13 q));
  short_before = λ ls b xs c z e f i. open_line ls b xs c e f ∙ either_none (leb 2 b) (by_second_last (get_or ls (b - 2) [])) (ap by_second_last i);
  first_line = λ ls xs c e f. open_line ls 1 xs c e f;
  of_stretch = of_stretch s;
  no_stretch = no_stretch s;
}
