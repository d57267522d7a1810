-- The walk: the hunks of both sides in one order, by before.start, Current first at equal starts.
use Rattle.std.specs.Prelude.{Bool, true, false, cond, List, [], ◌∷◌, filter, nat_le}
use Rattle.rules.specs.declared.hunk.Hunk.{Hunk}
use Rattle.rules.specs.declared.hunk.Side.{Side}
use Rattle.rules.specs.declared.hunk.Side.TheVariants.{Current, Other, Ancestor}

-- A hunk of Current, and what follows it, walked together with the hunks of Other.
abbrev pub walk_from : Hunk → (List Hunk → List Hunk) → List Hunk → List Hunk
walk_from c rest [] = c ∷ rest []
walk_from c rest (o ∷ os) = cond (nat_le c.before.start o.before.start) (c ∷ rest (o ∷ os)) (o ∷ walk_from c rest os)

-- The walk of the hunks of Current and of Other.
abbrev pub walk : List Hunk → List Hunk → List Hunk
walk [] os = os
walk (c ∷ cs) os = walk_from c (walk cs) os

abbrev pub is_current : Side → Bool
is_current Current = true
is_current Other = false
is_current Ancestor = false

abbrev pub is_other : Side → Bool
is_other Current = false
is_other Other = true
is_other Ancestor = false

-- The hunks of a list whose side passes a test; those of the current side, and of the other side.
abbrev pub picked : (Side → Bool) → List Hunk → List Hunk
picked f = filter (λ h. f h.side)

abbrev pub currents : List Hunk → List Hunk
currents = picked is_current

abbrev pub others : List Hunk → List Hunk
others = picked is_other
