use Rattle.std.proofs.Common.{◌≡◌, ℕ, max, List, [], ◌∷◌, fold, unwrap_or, ap, ◌∙◌, arith, rules, tests}
use Rattle.std.proofs.lemmas.Iterator.{YieldsList-from_slice, YieldsList-from_map}
use Rattle.std.proofs.lemmas.Iterator.Consumers.{reduce_from_yields_List}
use Rattle.std.proofs.lemmas.List.Folds.{max_of_map}
use Rattle.rules.specs.declared.hunk.Hunk.{Hunk}
use Rattle.rules.specs.Groups.{last_end}
use Rattle.groups.proofs.touch.last_end.Goals as goal

ends : (end : ℕ) (hs : List Hunk) → fold (λ a h. max a h.before.end) end hs ≡ max end (last_end hs)
ends end [] = omega arith
ends end (h ∷ hs) = let e = ends (max end h.before.end) hs in omega arith

pub returns : goal.returns
returns c =
    let hs = c.args.hunks.now in
    let end = λ (h : Hunk). h.before.end in
    let greatest = reduce_from_yields_List _ c.map.result _ c.max.ensures.ran (YieldsList-from_map _ end (YieldsList-from_slice hs cc) c.map.ensures.closure (λ x b q k. search (rules, tests))) in
    let folded = c.unwrap_or.ensures ∙ (ap (λ o. unwrap_or o 0) greatest ∙ max_of_map end hs) in
    let e = ends 0 hs in
    omega (arith, folded)
