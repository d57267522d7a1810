-- Questions: a call asks them in order, and the first no ends it with a refusal of its own.
use Rattle.std.specs.Prelude.{Bool, cond, ◌⊎◌, Some, None, Ok, Err, Option, Result}

-- A question: on yes the next ones are asked.
abbrev pub ask : {R : Type 0} → Bool → R → Option R → Option R
ask b r next = cond b next (Some r)

-- What a call answers: its own answer if all were yes, else the refusal.
abbrev pub answered : {A R : Type 0} → Option R → A → Result A R
answered None x = Ok x
answered (Some r) x = Err r

-- What a call leaves: a refusal leaves all as it was.
abbrev pub changed : {R X : Type 0} → Option R → X → X → X
changed None new old = new
changed (Some r) new old = old

-- A question in words. Either it does not hold, and this is told; or it holds, and the next ones decide.
abbrev pub Question : Type 0 → Type 0 → Type 0 → Type 0
Question Q Told Next = ((Q → ⊥) × Told) ⊎ (Q × Next)
