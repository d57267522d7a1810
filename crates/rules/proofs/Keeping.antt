-- What a table keeps of a side's hunks, through an enter and a withdrawal.
use Rattle.std.proofs.Common.{◌≡◌, ℕ, zero, suc, ◌+◌, ◌-◌, ◌<◌, ◌≤◌, Bool, true, false, ◌&&◌, ltb, List, [], ◌∷◌, ◌++◌, length, get_or, take, Some, None, Option, refl, ap, ◌∙◌, arith}
use Rattle.std.proofs.lemmas.List.{take_more}
use Rattle.std.proofs.lemmas.Bool.{ltb-true, and_parts, and_from}
use Rattle.rules.specs.declared.hunk.Hunk.{Hunk}
use Rattle.rules.specs.declared.hunk.Side.{Side}
use Rattle.rules.specs.declared.hunk.Side.TheVariants.{Current, Other, Ancestor}
use Rattle.rules.specs.Limits.{max_hunks}
use Rattle.rules.specs.Tables.{within, changes, follows, last_from, last_of, without_last, hunk_questions, same_side, sound, keeps_from, keeps}
use Rattle.rules.proofs.Asking.{yes_then}

and_true : (x : Bool) → (x && true) ≡ x
and_true true = refl
and_true false = refl

and_assoc : (x y z : Bool) → (x && (y && z)) ≡ ((x && y) && z)
and_assoc true y z = refl
and_assoc false y z = refl

pub last_push : (o : Option Hunk) (hs : List Hunk) (h : Hunk) → last_from o (hs ++ (h ∷ [])) ≡ Some h
last_push o [] h = refl
last_push o (k ∷ hs) h = last_push (Some k) hs h

-- the last of the first n hunks
pub last_taken : (xs : List Hunk) (n : ℕ) (d : Hunk) → 0 < n → n ≤ length xs → last_of (take n xs) ≡ Some (get_or xs (n - 1) d)
last_taken xs zero d p h = absurd (omega arith)
last_taken xs (suc i) d p h =
    let b : i < length xs = omega arith in
    let s : suc i ≡ i + 1 = omega arith in
    let z : suc i - 1 ≡ i = omega arith in
    rw z (ap (λ n. last_of (take n xs)) s ∙ (ap last_of (take_more xs i d b) ∙ last_push None (take i xs) (get_or xs i d)))

pub keeps_push : (a n : ℕ) (s : Side) (o : Option Hunk) (hs : List Hunk) (h : Hunk)
    → keeps_from a n s o (hs ++ (h ∷ [])) ≡ (keeps_from a n s o hs && (sound a n s h && follows (last_from o hs) h))
keeps_push a n s o [] h = and_true (sound a n s h && follows o h)
keeps_push a n s o (k ∷ hs) h =
    ap (λ b. (sound a n s k && follows o k) && b) (keeps_push a n s (Some k) hs h)
    ∙ and_assoc (sound a n s k && follows o k) (keeps_from a n s (Some k) hs) (sound a n s h && follows (last_from (Some k) hs) h)

pub keeps_take : (a n : ℕ) (s : Side) (o : Option Hunk) (m : ℕ) (hs : List Hunk) → keeps_from a n s o hs ≡ true → keeps_from a n s o (take m hs) ≡ true
keeps_take a n s o zero hs e = refl
keeps_take a n s o (suc m) [] e = refl
keeps_take a n s o (suc m) (h ∷ hs) e =
    let p = and_parts (sound a n s h && follows o h) (keeps_from a n s (Some h) hs) e in
    and_from (sound a n s h && follows o h) (keeps_from a n s (Some h) (take m hs)) p.0 (keeps_take a n s (Some h) m hs p.1)

-- what an accepted hunk meets
pub record Admits (a n : ℕ) (hs : List Hunk) (h : Hunk) : Type 0 where
  pub room : length hs < max_hunks
  pub before : within a h.before ≡ true
  pub after : within n h.after ≡ true
  pub lines : changes h ≡ true
  pub behind : follows (last_of hs) h ≡ true

pub admits : (a n : ℕ) (hs : List Hunk) (h : Hunk) → hunk_questions a n hs h ≡ None → Admits a n hs h
admits a n hs h e =
    let p1 = yes_then (ltb (length hs) max_hunks) _ _ e in
    let p2 = yes_then (within a h.before) _ _ p1.1 in
    let p3 = yes_then (within n h.after) _ _ p2.1 in
    let p4 = yes_then (changes h) _ _ p3.1 in
    let p5 = yes_then (follows (last_of hs) h) _ None p4.1 in
    record { room = ltb-true _ _ p1.0; before = p2.0; after = p3.0; lines = p4.0; behind = p5.0 }

pub side_same : (s : Side) → same_side s s ≡ true
side_same Current = refl
side_same Other = refl
side_same Ancestor = refl

-- an accepted hunk leaves the side kept, and so does a withdrawal
pub keeps_enter : (a n : ℕ) (s : Side) (hs : List Hunk) (h : Hunk) → h.side ≡ s → keeps a n s hs ≡ true → hunk_questions a n hs h ≡ None → keeps a n s (hs ++ (h ∷ [])) ≡ true
keeps_enter a n s hs h e old ok =
    let m = admits a n hs h ok in
    let good : sound a n s h ≡ true = and_from (same_side h.side s) _ (ap (λ t. same_side t s) e ∙ side_same s)
    (and_from (within a h.before) _ m.before (and_from (within n h.after) _ m.after m.lines)) in
    keeps_push a n s None hs h ∙ and_from (keeps a n s hs) _ old (and_from (sound a n s h) _ good m.behind)

pub keeps_withdraw : (a n : ℕ) (s : Side) (hs : List Hunk) → keeps a n s hs ≡ true → keeps a n s (without_last hs) ≡ true
keeps_withdraw a n s hs old = keeps_take a n s None (length hs - 1) hs old
