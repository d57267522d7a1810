-- The lines of the label.
use Rattle.std.specs.Prelude.{[], ◌∷◌, refl}
use Rattle.std.proofs.Common.{lit≤}
use Rattle.rules.specs.Texts.{LineList, listed}

abbrev pub fixed : LineList
fixed = listed ((55 ∷ (10 ∷ [])) ∷ ((111 ∷ (107 ∷ [])) ∷ [])) (refl, lit≤ tt, lit≤ tt)
