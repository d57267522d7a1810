use Rattle.std.proofs.Common.{◌≡◌, ℕ, zero, suc, ◌+◌, ◌-◌, ◌<◌, ◌≤◌, Bool, true, false, cond, eqb, List, [], ◌∷◌, ◌++◌, length, get_or, take, drop, Some, None, sym, refl, ap, ◌∙◌, add-zero, suc-add, zero-add, arith, length-append}
use Rattle.std.proofs.lemmas.List.{take_at, append-nil}
use Rattle.std.specs.List.{sum_by}
use Rattle.std.proofs.lemmas.List.Sums.{sum_by-cons}
use Rattle.rules.specs.Texts.{onto, text_lines, joined_lines, nth_line, is_line, are_lines, Formed}
use Rattle.sheet.specs.Splits.{LineLaw}
use Rattle.sheet.specs.Starts.{starts_at}

pub length_starts : (k : ℕ) (ls : List (List ℕ)) → length (starts_at k ls) ≡ length ls
length_starts k [] = refl
length_starts k (l ∷ ls) = ap suc (length_starts (k + length l) ls)

pub nth_none : (ls : List (List ℕ)) (n : ℕ) → length ls ≤ n → nth_line ls n ≡ None
nth_none [] n h = refl
nth_none (l ∷ ls) zero h = absurd (omega arith)
nth_none (l ∷ ls) (suc n) h = nth_none ls n (omega arith)

-- where line n starts among the bytes
abbrev pub place : List (List ℕ) → ℕ → ℕ
place ls zero = 0
place [] (suc n) = 0
place (l ∷ ls) (suc n) = length l + place ls n

pub start_at : (k : ℕ) (ls : List (List ℕ)) (n : ℕ) → n < length ls → get_or (starts_at k ls) n 0 ≡ k + place ls n
start_at k [] n h = absurd (omega arith)
start_at k (l ∷ ls) zero h = sym (add-zero k)
start_at k (l ∷ ls) (suc n) h = start_at (k + length l) ls n (omega arith) ∙ omega arith

-- behind the last line the text ends
pub end_at : (k d : ℕ) (ls : List (List ℕ)) (n : ℕ) → d ≡ k + length (joined_lines ls) → n < length ls → get_or (starts_at k ls) (n + 1) d ≡ k + place ls (suc n)
end_at k d [] n e h = absurd (omega arith)
end_at k d (l ∷ []) zero e h = let f = length-append l [] in omega arith
end_at k d (l ∷ (m ∷ ls)) zero e h = omega arith
end_at k d (l ∷ ls) (suc n) e h =
    let f = length-append l (joined_lines ls) in
    rw suc-add (end_at (k + length l) d ls n (omega arith) (omega arith) ∙ omega arith)

pub place_up : (ls : List (List ℕ)) (n : ℕ) → place ls n ≤ place ls (suc n)
place_up ls zero = omega arith
place_up [] (suc n) = omega arith
place_up (l ∷ ls) (suc n) = let h = place_up ls n in omega arith

pub place_within : (ls : List (List ℕ)) (n : ℕ) → place ls n ≤ length (joined_lines ls)
place_within ls zero = omega arith
place_within [] (suc n) = omega arith
place_within (l ∷ ls) (suc n) = let h = place_within ls n in simp length-append (omega arith)

pub drop_past : (l t : List ℕ) (n : ℕ) → drop (length l + n) (l ++ t) ≡ drop n t
drop_past [] t n = rw zero-add
drop_past (x ∷ l) t n = rw suc-add (drop_past l t n)

ap2_take : (a b : ℕ) (s t : List ℕ) → a ≡ b → s ≡ t → take a s ≡ take b t
ap2_take a b s t e f = cc

pub nth_part : (ls : List (List ℕ)) (n : ℕ) → n < length ls → nth_line ls n ≡ Some (take (place ls (suc n) - place ls n) (drop (place ls n) (joined_lines ls)))
nth_part [] n h = absurd (omega arith)
nth_part (l ∷ ls) zero h = ap Some (sym (take_at l (joined_lines ls) _ (omega arith)))
nth_part (l ∷ ls) (suc n) h =
    nth_part ls n (omega arith) ∙
    ap Some (ap2_take _ _ _ _ (omega arith) (sym (drop_past l (joined_lines ls) (place ls n))))

pub bytes_onto : (b : ℕ) (ls : List (List ℕ)) → joined_lines (onto b ls) ≡ b ∷ joined_lines ls
bytes_onto b [] = refl
bytes_onto b (l ∷ ls) = refl

pub bytes_split : (t : List ℕ) → joined_lines (text_lines t) ≡ t
bytes_split [] = refl
bytes_split (b ∷ bs) =
    elim (eqb b 10) as (λ v. joined_lines (cond v ((b ∷ []) ∷ text_lines bs) (onto b (text_lines bs))) ≡ b ∷ bs) [
      | true ↦ ap (λ t. b ∷ t) (bytes_split bs)
      | false ↦ bytes_onto b (text_lines bs) ∙ ap (λ t. b ∷ t) (bytes_split bs)
    ]

-- what a conjunction of tests tells
pub both : (v w : Bool) → cond v w false ≡ true → (v ≡ true) × (w ≡ true)
both true w h = (refl, h)
both false w h = (h, cc)

pub neither : (v w : Bool) → cond v false w ≡ true → (v ≡ false) × (w ≡ true)
neither true w h = (cc, cc)
neither false w h = (refl, h)

-- a line that is not open may also stand last
pub closed_line : (l : List ℕ) → is_line false l ≡ true → is_line true l ≡ true
closed_line [] h = h
closed_line (b ∷ []) h = elim (eqb b 10) as (λ v. cond v true true ≡ true) [ true ↦ refl | false ↦ refl ]
closed_line (b ∷ (c ∷ l)) h =
    let p = neither (eqb b 10) (is_line false (c ∷ l)) h in
    simp p.0 (closed_line (c ∷ l) p.1)

pub lines_closed : (l : List ℕ) (ls : List (List ℕ)) → is_line false l ≡ true → are_lines ls ≡ true → are_lines (l ∷ ls) ≡ true
lines_closed l [] h k = closed_line l h
lines_closed l (m ∷ ls) h k = simp (h, k)

-- a byte that is no newline goes in front of a line
onto_line : (open' : Bool) (b : ℕ) (l : List ℕ) → eqb b 10 ≡ false → is_line open' l ≡ true → is_line open' (b ∷ l) ≡ true
onto_line open' b [] e h = cc
onto_line open' b (c ∷ l) e h = simp e h

pub lines_onto : (b : ℕ) (ls : List (List ℕ)) → eqb b 10 ≡ false → are_lines ls ≡ true → are_lines (onto b ls) ≡ true
lines_onto b [] e h = simp e
lines_onto b (l ∷ []) e h = onto_line true b l e h
lines_onto b (l ∷ (m ∷ ls)) e h =
    let p = both (is_line false l) (are_lines (m ∷ ls)) h in
    lines_closed (b ∷ l) (m ∷ ls) (onto_line false b l e p.0) p.1

lines_step : (b : ℕ) (bs : List ℕ) (v : Bool) → eqb b 10 ≡ v → are_lines (text_lines bs) ≡ true → are_lines (cond v ((b ∷ []) ∷ text_lines bs) (onto b (text_lines bs))) ≡ true
lines_step b bs true e h = lines_closed (b ∷ []) (text_lines bs) (simp e) h
lines_step b bs false e h = lines_onto b (text_lines bs) e h

-- the lines of a text are such
pub lines_split : (t : List ℕ) → are_lines (text_lines t) ≡ true
lines_split [] = refl
lines_split (b ∷ bs) = lines_step b bs (eqb b 10) refl (lines_split bs)

-- no other lines are those of a text: a closed line is cut off where it ends, and the last line is what remains
closed_cut : (l rest : List ℕ) → is_line false l ≡ true → text_lines (l ++ rest) ≡ l ∷ text_lines rest
closed_cut [] rest h = absurd (let z : ◌≡◌ {A = ℕ} 0 1 = cc in omega arith)
closed_cut (b ∷ []) rest h =
    let p = both (eqb b 10) true h in
    ap (λ v. cond v ((b ∷ []) ∷ text_lines rest) (onto b (text_lines rest))) p.0
closed_cut (b ∷ (c ∷ bs)) rest h =
    let p = neither (eqb b 10) (is_line false (c ∷ bs)) h in
    ap (λ v. cond v ((b ∷ []) ∷ text_lines ((c ∷ bs) ++ rest)) (onto b (text_lines ((c ∷ bs) ++ rest)))) p.0 ∙ ap (onto b) (closed_cut (c ∷ bs) rest p.1)

last_cut : (l : List ℕ) → is_line true l ≡ true → text_lines l ≡ l ∷ []
last_cut [] h = absurd (let z : ◌≡◌ {A = ℕ} 0 1 = cc in omega arith)
last_cut (b ∷ []) h = elim (eqb b 10) as (λ v. cond v ((b ∷ []) ∷ []) (onto b []) ≡ (b ∷ []) ∷ []) [ true ↦ refl | false ↦ refl ]
last_cut (b ∷ (c ∷ bs)) h =
    let p = neither (eqb b 10) (is_line true (c ∷ bs)) h in
    ap (λ v. cond v ((b ∷ []) ∷ text_lines (c ∷ bs)) (onto b (text_lines (c ∷ bs)))) p.0 ∙ ap (onto b) (last_cut (c ∷ bs) p.1)

cut_again : (ls : List (List ℕ)) → are_lines ls ≡ true → text_lines (joined_lines ls) ≡ ls
cut_again [] h = refl
cut_again (l ∷ []) h = ap text_lines (append-nil l) ∙ last_cut l h
cut_again (l ∷ (m ∷ ls)) h =
    let p = both (is_line false l) (are_lines (m ∷ ls)) h in
    closed_cut l (joined_lines (m ∷ ls)) p.0 ∙ ap (λ ks. l ∷ ks) (cut_again (m ∷ ls) p.1)

pub line_law : (t : List ℕ) → LineLaw t
line_law t = record {
  joined = bytes_split t;
  lines = lines_split t;
  only = λ ls h e. sym (cut_again ls h) ∙ ap text_lines e;
}

pub formed_split : (t : List ℕ) → length t ≤ 60000 → length (text_lines t) ≤ 4096 → Formed (text_lines t)
formed_split t small few = (lines_split t, few, rw (bytes_split t) small)

-- the lines from line n on: that line, and those behind it
pub next_line : (ls : List (List ℕ)) (n : ℕ) (l : List ℕ) → Some l ≡ nth_line ls n → (n < length ls) × (drop n ls ≡ l ∷ drop (n + 1) ls)
next_line [] n l e = absurd (let z : ◌≡◌ {A = ℕ} 0 1 = cc in omega arith)
next_line (m ∷ ls) zero l e = let f : m ≡ l = cc in (omega arith, ap (λ k. k ∷ ls) f)
next_line (m ∷ ls) (suc n) l e = let h = next_line ls n l e in (let k = h.0 in omega arith, rw suc-add h.1)

pub no_line : (ls : List (List ℕ)) (n : ℕ) → None ≡ nth_line ls n → drop n ls ≡ []
no_line [] zero e = refl
no_line [] (suc n) e = refl
no_line (m ∷ ls) zero e = absurd (let z : ◌≡◌ {A = ℕ} 0 1 = cc in omega arith)
no_line (m ∷ ls) (suc n) e = no_line ls n e

pub bytes_summed : (ls : List (List ℕ)) → sum_by length ls ≡ length (joined_lines ls)
bytes_summed [] = refl
bytes_summed (l ∷ ls) = sum_by-cons length l ls ∙ ap (λ k. length l + k) (bytes_summed ls) ∙ sym (length-append l (joined_lines ls))
