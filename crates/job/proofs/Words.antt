-- Words cut off at a space, and stripped from the front of a line.
use Rattle.std.proofs.Common.{ltb, ◌≡◌, ℕ, suc, ◌+◌, Bool, true, false, cond, eqb, ◌&&◌, List, [], ◌∷◌, ◌++◌, length, take, drop, Some, None, Option, Bor, sym, refl, ap, ◌∙◌, arith, lt-ltb}
use Rattle.std.proofs.lemmas.Bool.Decides.{nat_tests}
use Rattle.std.specs.Prelude.{not, position, ◌==◌}
use Rattle.std.specs.Cmp.Lexicographic.{pointwise}
use Rattle.std.specs.List.{position_or_len}
use Rattle.std.specs.Option.{MatchOption, option_map}
use Rattle.std.specs.Str.{bytes_eq}
use Rattle.job.specs.Words.{after, and_then, front_named, front_word, longer_by, named, with_rest}

-- the first word is what stands ahead of the first space
pub cut_by_space : (line : List ℕ) → front_word line ≡ option_map (λ n. (take n line, drop (n + 1) line)) (position (λ b. b == 32) line)
cut_by_space [] = refl
cut_by_space (b ∷ bs) = by (b == 32) (ltb (position_or_len (λ b. b == 32) bs) (length bs)) refl (cut_by_space bs)
  where
    by : (v w : Bool) → ltb (position_or_len (λ b. b == 32) bs) (length bs) ≡ w → front_word bs ≡ option_map (λ n. (take n bs, drop (n + 1) bs)) (cond w (Some (position_or_len (λ b. b == 32) bs)) None) → cond v (Some ([], bs)) (longer_by b (front_word bs)) ≡ option_map (λ n. (take n (b ∷ bs), drop (n + 1) (b ∷ bs))) (cond (ltb (cond (not v) (1 + position_or_len (λ b. b == 32) bs) 0) (suc (length bs))) (Some (cond (not v) (1 + position_or_len (λ b. b == 32) bs) 0)) None)
    by true w e h = ap (λ v. option_map (λ n. (take n (b ∷ bs), drop (n + 1) (b ∷ bs))) (cond v (Some 0) None)) (sym (lt-ltb 0 (suc (length bs)) (omega arith)))
    by false true e h = ap (longer_by b) h ∙ grind (arith, nat_tests)
    by false false e h = ap (longer_by b) h ∙ grind (arith, nat_tests)

-- what follows a word, by taking and dropping
both_ways : (m n : ℕ) → eqb m n ≡ eqb n m
both_ways m n = grind (arith, nat_tests)

after_by : (line mark : List ℕ) → after mark line ≡ cond (pointwise eqb (take (length mark) line) mark) (Some (drop (length mark) line)) None
after_by line [] = refl
after_by [] (m ∷ ms) = refl
after_by (b ∷ bs) (m ∷ ms) = by (eqb m b) (eqb b m) (both_ways m b) (after_by bs ms)
  where
    by : (v w : Bool) → v ≡ w → after ms bs ≡ cond (pointwise eqb (take (length ms) bs) ms) (Some (drop (length ms) bs)) None → cond v (after ms bs) None ≡ cond (w && pointwise eqb (take (length ms) bs) ms) (Some (drop (length ms) bs)) None
    by true true e h = h
    by true false e h = absurd cc
    by false true e h = absurd cc
    by false false e h = refl

pub stripped : (line mark : List ℕ) (r : Option (Bor (List ℕ))) → MatchOption r (pointwise eqb (take (length mark) line) mark ≡ false) (λ x. (pointwise eqb (take (length mark) line) mark ≡ true) × (x.now ≡ drop (length mark) line) × (length x.now + length mark ≡ length line)) → option_map (λ x. x.now) r ≡ after mark line
stripped line mark r h = by r h (after_by line mark)
  where
    by : (r : Option (Bor (List ℕ))) → MatchOption r (pointwise eqb (take (length mark) line) mark ≡ false) (λ x. (pointwise eqb (take (length mark) line) mark ≡ true) × (x.now ≡ drop (length mark) line) × (length x.now + length mark ≡ length line)) → after mark line ≡ cond (pointwise eqb (take (length mark) line) mark) (Some (drop (length mark) line)) None → option_map (λ x. x.now) r ≡ after mark line
    by (Some x) h e = ap Some h.1 ∙ sym (e ∙ ap (λ v. cond v (Some (drop (length mark) line)) None) h.0)
    by None h e = sym (e ∙ ap (λ v. cond v (Some (drop (length mark) line)) None) h)

-- a word with no space in it, and a space behind it, stand at the front of a line whose first word it is
abbrev spaceless : List ℕ → Bool
spaceless [] = true
spaceless (c ∷ w) = not (c == 32) && spaceless w

abbrev where_it_is : List ℕ → Option (List ℕ × List ℕ) → Option (List ℕ)
where_it_is w None = None
where_it_is w (Some (word, rest)) = cond (bytes_eq w word) (Some rest) None

cut_apart : (w line : List ℕ) → spaceless w ≡ true → after (w ++ (32 ∷ [])) line ≡ where_it_is w (front_word line)
cut_apart [] [] s = refl
cut_apart [] (b ∷ bs) s = by (eqb 32 b) (eqb b 32) (both_ways 32 b) (front_word bs)
  where
    by : (v w : Bool) → v ≡ w → (f : Option (List ℕ × List ℕ)) → cond v (Some bs) None ≡ where_it_is [] (cond w (Some ([], bs)) (longer_by b f))
    by true true e f = refl
    by true false e f = absurd cc
    by false true e f = absurd cc
    by false false e None = refl
    by false false e (Some (word, rest)) = refl
cut_apart (c ∷ w) [] s = refl
cut_apart (c ∷ w) (b ∷ bs) s = by (eqb c b) refl (eqb b 32) refl (front_word bs) (cut_apart w bs (and_right (not (c == 32)) (spaceless w) s))
  where
    and_right : (v u : Bool) → (v && u) ≡ true → u ≡ true
    and_right true u e = e
    and_right false u e = absurd cc

    and_left : (v u : Bool) → (not v && u) ≡ true → v ≡ false
    and_left true u e = absurd cc
    and_left false u e = refl

    other : c == 32 ≡ false
    other = and_left (c == 32) (spaceless w) s

    by : (v : Bool) → eqb c b ≡ v → (u : Bool) → eqb b 32 ≡ u → (f : Option (List ℕ × List ℕ)) → after (w ++ (32 ∷ [])) bs ≡ where_it_is w f → cond v (after (w ++ (32 ∷ [])) bs) None ≡ where_it_is (c ∷ w) (cond u (Some ([], bs)) (longer_by b f))
    by true ev true eu f h = absurd (grind (arith, nat_tests))
    by false ev true eu f h = refl
    by true ev false eu None h = h
    by false ev false eu None h = refl
    by true ev false eu (Some (word, rest)) h = h ∙ ap (λ v. cond (v && bytes_eq w word) (Some rest) None) (sym ev)
    by false ev false eu (Some (word, rest)) h = ap (λ v. cond (v && bytes_eq w word) (Some rest) None) (sym ev)

-- so a line that begins with none of the names names nothing
abbrev pub BeginsWithNone : {X : Type 0} → (X → List ℕ) → List X → List ℕ → Type 0
BeginsWithNone name [] line = Unit {0}
BeginsWithNone name (x ∷ xs) line = (spaceless (name x) ≡ true) × (after (name x ++ (32 ∷ [])) line ≡ None) × BeginsWithNone name xs line

unnamed : {X : Type 0} (name : X → List ℕ) (all : List X) (line : List ℕ) → BeginsWithNone name all line → (word rest : List ℕ) → front_word line ≡ Some (word, rest) → named name all word ≡ None
unnamed name [] line h word rest e = refl
unnamed name (x ∷ xs) line h word rest e = by (bytes_eq (name x) word) (unnamed name xs line h.2 word rest e) (sym (cut_apart (name x) line h.0 ∙ ap (where_it_is (name x)) e) ∙ h.1)
  where
    by : (v : Bool) → named name xs word ≡ None → cond v (Some rest) None ≡ None → cond v (Some x) (named name xs word) ≡ None
    by true i k = absurd cc
    by false i k = i

pub none_named : {X : Type 0} (name : X → List ℕ) (all : List X) (line : List ℕ) → BeginsWithNone name all line → front_named name all line ≡ None
none_named {X} name all line h = by (front_word line) refl
  where
    by : (f : Option (List ℕ × List ℕ)) → front_word line ≡ f → and_then f (λ word rest. with_rest (named name all word) rest) ≡ None
    by None e = refl
    by (Some (word, rest)) e = ap (λ o. with_rest o rest) (unnamed name all line h word rest e)

-- the same of a line of which `strip_prefix` answers nothing
pub not_stripped : (line mark : List ℕ) → pointwise eqb (take (length mark) line) mark ≡ false → after mark line ≡ None
not_stripped line mark e = after_by line mark ∙ ap (λ v. cond v (Some (drop (length mark) line)) None) e
