use Rattle.std.proofs.Common.{◌≡◌, ℕ, Bool, ◌&&◌, eqb, List, [], ◌∷◌, refl, ap, ◌∙◌, rules}
use Rattle.std.specs.Str.{bytes_eq}
use Rattle.rules.specs.Lines.{same_line}
use Rattle.sheet.proofs.line.same_line.Goals as goal

as_bytes : (xs ys : List ℕ) → bytes_eq xs ys ≡ same_line xs ys
as_bytes [] [] = refl
as_bytes [] (y ∷ ys) = refl
as_bytes (x ∷ xs) [] = refl
as_bytes (x ∷ xs) (y ∷ ys) = ap (λ v. eqb x y && v) (as_bytes xs ys)

bytes_told : (xs ys : List ℕ) (r : Bool) → r ≡ bytes_eq xs ys → r ≡ same_line xs ys
bytes_told xs ys r e = e ∙ as_bytes xs ys

pub returns : goal.returns
returns c = search (rules, bytes_told)
