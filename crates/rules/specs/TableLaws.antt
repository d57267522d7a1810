-- The laws of the hunk table, in words.
use Rattle.std.specs.Prelude.{◌≡◌, ℕ, ◌+◌, ◌-◌, ◌<◌, ◌≤◌, true, ◌⊎◌, List, [], ◌∷◌, ◌++◌, length, Some, None, Ok, Err, ◌≢◌}
use Rattle.std.specs.List.{AllByRecursion}
use Rattle.rules.specs.declared.hunk.Hunk.{Hunk}
use Rattle.rules.specs.declared.hunk.Side.{Side}
use Rattle.rules.specs.declared.hunk.Side.TheVariants.{Current, Other, Ancestor}
use Rattle.rules.specs.declared.hunk.Span.{Span}
use Rattle.rules.specs.declared.refusal.TableRefusal.{TableRefusal}
use Rattle.rules.specs.Limits.{max_lines, max_hunks}
use Rattle.rules.specs.Questions.{Question}
use Rattle.rules.specs.Refusals.{TableRefuses}
use Rattle.rules.specs.Tables.{Held, opened, held_of, count_of, holding, open_answer, open_after, enter_answer, enter_after, withdraw_answer, withdraw_after, keeps, held_at}
use Rattle.rules.specs.Order.{InOrder}

-- The rules of enter, in numbers.
abbrev pub TwoSided : Side → Type 0
TwoSided side = (side ≡ Current) ⊎ (side ≡ Other)

abbrev pub Within : ℕ → Span → Type 0
Within n r = (r.start ≤ r.end) × (r.end ≤ n)

abbrev pub NotEmpty : Hunk → Type 0
NotEmpty h = (h.before.start < h.before.end) ⊎ (h.after.start < h.after.end)

abbrev pub BehindLast : List Hunk → Hunk → Type 0
BehindLast hs h = (gs : List Hunk) (g : Hunk) → hs ≡ gs ++ (g ∷ []) → (g.before.end < h.before.start) × (g.after.end ≤ h.after.start)

pub record MayEnter (t : Held) (side : Side) (h : Hunk) : Type 0 where
  pub sided : TwoSided side
  pub room : length (held_of t side) < max_hunks
  pub before_within : Within t.ancestor_lines h.before
  pub after_within : Within (count_of t side) h.after
  pub not_empty : NotEmpty h
  pub behind : BehindLast (held_of t side) h

-- Either they hold, the hunk goes behind the side's last one and the answer is the new count; or they do not, and nothing changes.
abbrev pub EnterLaw : Held → Hunk → Type 0
EnterLaw t h =
    (MayEnter t h.side h × (enter_answer t h ≡ Ok (length (held_of t h.side ++ (h ∷ [])))) × (enter_after t h ≡ holding t h.side (held_of t h.side ++ (h ∷ []))))
    ⊎ ((MayEnter t h.side h → ⊥) × ((r : TableRefusal) × (enter_answer t h ≡ Err r)) × (enter_after t h ≡ t))

-- Either a hunk is held of the side and the last one goes, or none is and nothing changes.
abbrev pub WithdrawLaw : Held → Side → Type 0
WithdrawLaw t side =
    ((gs : List Hunk) × (g : Hunk) × (held_of t side ≡ gs ++ (g ∷ [])) × (withdraw_answer t side ≡ Ok (length gs)) × (withdraw_after t side ≡ holding t side gs))
    ⊎ ((held_of t side ≡ []) × ((r : TableRefusal) × (withdraw_answer t side ≡ Err r)) × (withdraw_after t side ≡ t))

-- Each number and place is answered exactly when its question is the first that does not hold.
abbrev pub OpenTold : ℕ → ℕ → ℕ → Type 0
OpenTold a c o =
    let x = open_answer a c o in
    Question (a ≤ max_lines) (TableRefuses x 7 0)
    (Question (c ≤ max_lines) (TableRefuses x 7 1)
    (Question (o ≤ max_lines) (TableRefuses x 7 2)
    (x ≡ Ok tt)))

abbrev pub EnterTold : Held → Hunk → Type 0
EnterTold t h =
    let x = enter_answer t h in
    let side = h.side in
    Question (TwoSided side) (TableRefuses x 8 0)
    (Question (length (held_of t side) < max_hunks) (TableRefuses x 9 0)
    (Question (Within t.ancestor_lines h.before) (TableRefuses x 10 0)
    (Question (Within (count_of t side) h.after) (TableRefuses x 10 1)
    (Question (NotEmpty h) (TableRefuses x 11 0)
    (Question (BehindLast (held_of t side) h) (TableRefuses x 12 0)
    (x ≡ Ok (length (held_of t side) + 1)))))))

abbrev pub WithdrawTold : Held → Side → Type 0
WithdrawTold t side =
    let x = withdraw_answer t side in
    Question (TwoSided side) (TableRefuses x 8 0)
    (Question (0 < length (held_of t side)) (TableRefuses x 13 0)
    (x ≡ Ok (length (held_of t side) - 1)))

-- A table that holds other hunks of one side: it holds them, and the other side and the counts stay.
pub record Holds (t : Held) (side : Side) (hs : List Hunk) (u : Held) : Type 0 where
  pub these : held_of u side ≡ hs
  pub other_side : (facing : Side) → (facing ≢ side) → held_of u facing ≡ held_of t facing
  pub same_counts : (facing : Side) → count_of u facing ≡ count_of t facing

pub record TableRules (t : Held) : Type 0 where
  pub holds : (side : Side) (hs : List Hunk) → TwoSided side → Holds t side hs (holding t side hs)
  -- an opened table has its counts and holds nothing
  pub opened_counts : (a c o : ℕ) → (count_of (opened a c o) Ancestor ≡ a) × (count_of (opened a c o) Current ≡ c) × (count_of (opened a c o) Other ≡ o)
  pub opened_empty : (a c o : ℕ) (side : Side) → held_of (opened a c o) side ≡ []
  pub enters : (h : Hunk) → EnterLaw t h
  pub withdraws : (side : Side) → WithdrawLaw t side
  -- an opening that is accepted leaves the table empty with the counts, one that is refused leaves it as it was
  pub opens : (a c o : ℕ) → open_answer a c o ≡ Ok tt → open_after t a c o ≡ opened a c o
  pub open_refused : (a c o : ℕ) (r : TableRefusal) → open_answer a c o ≡ Err r → open_after t a c o ≡ t
  pub open_told : (a c o : ℕ) → OpenTold a c o
  pub enter_told : (h : Hunk) → EnterTold t h
  pub withdraw_told : (side : Side) → WithdrawTold t side
  -- each hunk held is shown at its place, and nothing behind the last
  pub shown : (side : Side) (gs : List Hunk) (h : Hunk) (hs : List Hunk) → held_of t side ≡ gs ++ (h ∷ hs) → held_at t side (length gs) ≡ Some h
  pub not_shown : (side : Side) (n : ℕ) → length (held_of t side) ≤ n → held_at t side n ≡ None
  -- an accepted enter, then a withdrawal of its side, leave the table as it was
  pub undone : (h : Hunk) (n : ℕ) → enter_answer t h ≡ Ok n → withdraw_after (enter_after t h) h.side ≡ t

abbrev pub TablesFollowRules : Type 0
TablesFollowRules = (t : Held) → TableRules t

-- What every table keeps, whatever was called.
pub record TableKeeps (t : Held) : Type 0 where
  pub small : (t.ancestor_lines ≤ max_lines) × (t.current_lines ≤ max_lines) × (t.other_lines ≤ max_lines)
  pub current : InOrder Current t.ancestor_lines t.current_lines 0 0 t.current
  pub other : InOrder Other t.ancestor_lines t.other_lines 0 0 t.other
  pub few_current : length t.current ≤ max_hunks
  pub few_other : length t.other ≤ max_hunks
  pub full_current : AllByRecursion NotEmpty t.current
  pub full_other : AllByRecursion NotEmpty t.other

-- The test of a side's hunks says that they are in order and none is empty.
abbrev pub KeepsLaw : Type 0
KeepsLaw = (na ns : ℕ) (side : Side) (hs : List Hunk)
    → (keeps na ns side hs ≡ true → InOrder side na ns 0 0 hs × AllByRecursion NotEmpty hs) × (InOrder side na ns 0 0 hs × AllByRecursion NotEmpty hs → keeps na ns side hs ≡ true)
