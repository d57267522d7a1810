-- What a sink's answers tell.
use Rattle.std.proofs.Common.{◌≡◌, ℕ, ◌+◌, ◌<◌, ◌≤◌, true, false, cond, leb, is_err, Ok, Err, Result, sym, refl, ap, ◌∙◌, ⊎_elim, le-leb}
use borrow.Author.Tests.{lt-leb}
use Rattle.std.proofs.lemmas.Bool.{cond-true, cond-false, cases_lt, true≢false}
use Rattle.sink.specs.Answers.{begin_answer, take_answer}
use Rattle.sink.specs.declared.refusal.NoRoom.{NoRoom}
use Rattle.sink.specs.declared.refusal.TooLong.{TooLong}

pub begin_no : (n c : ℕ) → c < n → begin_answer n c ≡ Err (record { capacity = c })
begin_no n c h = cond-false (leb n c) _ _ (lt-leb n c h)

-- An answer without a refusal, and one with.
accepted : {E : Type 0} (n most : ℕ) (why : E) (r : Result (Unit {0}) E) → r ≡ cond (leb n most) (Ok tt) (Err why) → is_err r ≡ false → n ≤ most
accepted n most why r e h =
    ⊎_elim (λ (l : most < n). absurd (true≢false (sym (ap is_err (e ∙ cond-false (leb n most) _ _ (lt-leb n most l))) ∙ h))) (λ (l : n ≤ most). l) (cases_lt most n)

refused : {E : Type 0} (n most : ℕ) (why : E) (r : Result (Unit {0}) E) → r ≡ cond (leb n most) (Ok tt) (Err why) → is_err r ≡ true → most < n
refused n most why r e h =
    ⊎_elim (λ (l : most < n). l) (λ (l : n ≤ most). absurd (true≢false (sym h ∙ ap is_err (e ∙ cond-true (leb n most) _ _ (le-leb n most l))))) (cases_lt most n)

pub begun : (n c : ℕ) (r : Result (Unit {0}) TooLong) → r ≡ begin_answer n c → is_err r ≡ false → n ≤ c
begun n c r e h = accepted n c _ r e h

pub not_begun : (n c : ℕ) (r : Result (Unit {0}) TooLong) → r ≡ begin_answer n c → is_err r ≡ true → c < n
not_begun n c r e h = refused n c _ r e h

pub took : (t a n : ℕ) (r : Result (Unit {0}) NoRoom) → r ≡ take_answer t a n → is_err r ≡ false → t + n ≤ a
took t a n r e h = accepted (t + n) a _ r e h

pub not_took : (t a n : ℕ) (r : Result (Unit {0}) NoRoom) → r ≡ take_answer t a n → is_err r ≡ true → a < t + n
not_took t a n r e h = refused (t + n) a _ r e h

-- A refused begin tells the capacity.
pub told : (n c : ℕ) (f : TooLong) → Err f ≡ begin_answer n c → f.capacity ≡ c
told n c f e =
    let l : c < n = not_begun n c (Err f) e refl in
    capacities f _ (e ∙ begin_no n c l)
  where
    capacities : (f g : TooLong) → ◌≡◌ {A = Result (Unit {0}) TooLong} (Err f) (Err g) → f.capacity ≡ g.capacity
    capacities f g p = let q : f ≡ g = cc in ap (λ (x : TooLong). x.capacity) q
