-- The laws of touching and of the walk.
use Rattle.std.specs.Prelude.{◌≡◌, ◌+◌, ◌<◌, ◌≤◌, true, ◌⊎◌, List, [], ◌∷◌, length}
use Rattle.std.specs.List.{AllByRecursion}
use Rattle.rules.specs.declared.hunk.Hunk.{Hunk}
use Rattle.rules.specs.declared.hunk.Side.{Side}
use Rattle.rules.specs.declared.hunk.Side.TheVariants.{Current, Other}
use Rattle.rules.specs.Hunks.{touches}
use Rattle.rules.specs.Walk.{walk, currents, others}

-- Every element of a list stands so to every later one.
abbrev pub InTurn : {X : Type 0} → (X → X → Type 0) → List X → Type 0
InTurn R [] = Unit {0}
InTurn R (x ∷ xs) = AllByRecursion (R x) xs × InTurn R xs

-- Two lists of one length whose elements are related pair by pair, in order.
abbrev pub Pairwise : {X Y : Type 0} → (X → Y → Type 0) → List X → List Y → Type 0
Pairwise R [] [] = Unit {0}
Pairwise R [] (y ∷ ys) = ⊥
Pairwise R (x ∷ xs) [] = ⊥
Pairwise R (x ∷ xs) (y ∷ ys) = R x y × Pairwise R xs ys

-- Two hunks of opposite sides touch if the later one starts at most where the earlier one ends.
abbrev pub Opposite : Side → Side → Type 0
Opposite a b = ((a ≡ Current) × (b ≡ Other)) ⊎ ((a ≡ Other) × (b ≡ Current))

pub record Touching (g h : Hunk) : Type 0 where
  pub opposite_sides : Opposite g.side h.side
  pub second_later : g.before.start ≤ h.before.start → h.before.start ≤ g.before.end
  pub first_later : h.before.start ≤ g.before.start → g.before.start ≤ h.before.end

abbrev pub TouchLaw : Type 0
TouchLaw = (g h : Hunk) → g.before.start ≤ g.before.end → h.before.start ≤ h.before.end
    → (touches g h ≡ true → Touching g h) × (Touching g h → touches g h ≡ true)

-- The walk holds every hunk of both sides and no other, each side's in its own order, sorted by before.start, Current first at equal starts.
abbrev pub Ahead : Hunk → Hunk → Type 0
Ahead g h = (g.before.start < h.before.start) ⊎ ((g.before.start ≡ h.before.start) × (g.side ≡ Current) × (h.side ≡ Other))

pub record Walked (cs os : List Hunk) : Type 0 where
  pub our_hunks : currents (walk cs os) ≡ cs
  pub their_hunks : others (walk cs os) ≡ os
  pub no_more : length (walk cs os) ≡ length cs + length os
  pub sorted : InTurn Ahead (walk cs os)
