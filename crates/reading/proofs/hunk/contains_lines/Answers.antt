use Rattle.std.proofs.Common.{◌≡◌, ℕ, ◌+◌, ◌<◌, Bool, false, List, length, get_or, take, ◌∙◌, ap₂, ◌||◌, rules}
use Rattle.std.specs.List.{list_any}
use Rattle.std.proofs.lemmas.List.Folds.{list_any_at, list_any_more}
use Rattle.reading.proofs.hunk.contains_lines.Goals as goal

none_more : {X : Type 0} (p : X → Bool) (xs : List X) (i : ℕ) (d : X) → i < length xs → list_any p (take i xs) ≡ false → p (get_or xs i d) ≡ false → list_any p (take (i + 1) xs) ≡ false
none_more p xs i d lt before here = list_any_more p xs i d lt ∙ ap₂ ◌||◌ before here

pub returns-then-lines_of-gt0 : goal.returns-then-lines_of-gt0
returns-then-lines_of-gt0 c = search (rules, list_any_at)

pub loop-hunk-preserved : goal.loop-hunk-preserved
loop-hunk-preserved c = search (rules, none_more)
