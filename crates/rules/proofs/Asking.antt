-- Questions in order.
use Rattle.std.proofs.Common.{◌≡◌, ℕ, Bool, true, false, Some, None, Ok, Err, Option, Result, refl, inl, inr, arith}
use Rattle.std.proofs.lemmas.Bool.{false≢true}
use Rattle.rules.specs.Questions.{ask, answered, changed, Question}

-- what a yes to every question says, and the other way round
pub yes_then : {R : Type 0} (b : Bool) (r : R) (next : Option R) → ask b r next ≡ None → (b ≡ true) × (next ≡ None)
yes_then true r next e = (refl, e)
yes_then false r next e = let z : ◌≡◌ {A = ℕ} 0 1 = cc in absurd (omega arith)

pub then_yes : {R : Type 0} (b : Bool) (r : R) (next : Option R) → b ≡ true → next ≡ None → ask b r next ≡ None
then_yes b r next e q = rw e q

-- a question in words: what a no tells, and what the next ones do
pub question : {A R : Type 0} (b : Bool) (Q : Type 0) (r : R) (next : Option R) (x : A) (Told Next : Result A R → Type 0) → (b ≡ true → Q) → (Q → b ≡ true) → Told (Err r) → Next (answered next x)
    → Question Q (Told (answered (ask b r next) x)) (Next (answered (ask b r next) x))
question true Q r next x Told Next f g t k = inr (f refl, k)
question false Q r next x Told Next f g t k = inl (λ q. false≢true (g q), t)

-- an answer that is not a refusal comes after yes to every question, and a refusal leaves all as it was
pub accepted : {A R : Type 0} (q : Option R) (x y : A) → answered q x ≡ Ok y → q ≡ None
accepted None x y e = refl
accepted (Some r) x y e = let z : ◌≡◌ {A = ℕ} 0 1 = cc in absurd (omega arith)

pub turned_down : {A R X : Type 0} (q : Option R) (x : A) (r : R) (new old : X) → answered q x ≡ Err r → changed q new old ≡ old
turned_down None x r new old e = let z : ◌≡◌ {A = ℕ} 0 1 = cc in absurd (omega arith)
turned_down (Some s) x r new old e = refl
