-- What contraction makes of the lines of the two sides of a group.
use Rattle.std.proofs.Common.{◌≡◌, ℕ, ◌-◌, Bool, true, false, not, ◌||◌, List, [], ◌∷◌, reverse, length, take, drop, sym, refl, ap, ◌∙◌, ap₂, ⊎_elim}
use Rattle.std.specs.List.{AllByRecursion}
use Rattle.std.proofs.lemmas.Bool.{true≢false, false≢true, or_parts, not-false, cases_Bool}
use Rattle.rules.specs.declared.hunk.Hunk.{Hunk}
use Rattle.rules.specs.Lines.{Line, same_lines}
use Rattle.rules.specs.SharedLines.{shared_front, shared_back, shared_start, past_start, before_end, at_end, middle, shared_end}
use Rattle.rules.specs.Hunks.{Sheets, side_lines}
use Rattle.rules.specs.Walk.{is_current}
use Rattle.rules.specs.Groups.{Cluster}
use Rattle.rules.specs.Filling.{ours_of, theirs_of, ours_lines, theirs_lines}
use Rattle.rules.specs.Contraction.{Contracted, contracted, trimmed, cut_front}
use Rattle.rules.specs.Sides.{Sides, contracted_by, contracted_sides, line_left, no_line}
use Rattle.rules.proofs.Cuts.{Whole, front_splits, back_splits}
use Rattle.rules.proofs.Shared.{front_sym, start_sym, end_sym, equal_middle, no_middle, same_lines_true, same_lines_refl}

pub record TrimmedLines (s : Sheets) (la lb : List Line) (c : Contracted) : Type 0 where
  pub lead : side_lines s c.lead ≡ before_end la lb
  pub facing : side_lines s c.facing ≡ before_end lb la
  pub back : side_lines s c.back ≡ at_end la lb

trimmed_lines : (s : Sheets) (front a b : List Hunk) → AllByRecursion (Whole s) a → AllByRecursion (Whole s) b → TrimmedLines s (side_lines s a) (side_lines s b) (trimmed s front a b)
trimmed_lines s front a b wa wb =
    let la = side_lines s a in
    let lb = side_lines s b in
    let n = shared_back la lb in
    let pa = back_splits s (length la - n) a wa in
    let pb = back_splits s (length lb - n) b wb in
    record { lead = pa.ahead_lines; facing = pb.ahead_lines ∙ ap (λ (m : ℕ). take (length lb - m) lb) (front_sym (reverse la) (reverse lb)); back = pa.behind_lines }

pub record ContractedLines (s : Sheets) (xs ys : List Line) (c : Contracted) : Type 0 where
  pub front : side_lines s c.front ≡ shared_start xs ys
  pub lead : side_lines s c.lead ≡ middle xs ys
  pub facing : side_lines s c.facing ≡ middle ys xs
  pub back : side_lines s c.back ≡ shared_end xs ys

contracted_lines : (s : Sheets) (a b : List Hunk) → AllByRecursion (Whole s) a → AllByRecursion (Whole s) b → ContractedLines s (side_lines s a) (side_lines s b) (contracted s a b)
contracted_lines s a b wa wb =
    let xs = side_lines s a in
    let ys = side_lines s b in
    let n = shared_front xs ys in
    let pa = front_splits s n a wa in
    let pb = front_splits s n b wb in
    let t = trimmed_lines s (cut_front n a).ahead (cut_front n a).behind (cut_front n b).behind pa.behind_whole pb.behind_whole in
    let ea = pa.behind_lines in
    let eb : side_lines s (cut_front n b).behind ≡ past_start ys xs = pb.behind_lines ∙ ap (λ (m : ℕ). drop m ys) (front_sym xs ys) in
    record { front = pa.ahead_lines; lead = t.lead ∙ ap₂ before_end ea eb; facing = t.facing ∙ ap₂ before_end eb ea; back = t.back ∙ ap₂ at_end ea eb }

-- the two sides of a group, whichever leads
pub record SidesLines (s : Sheets) (xs ys : List Line) (d : Sides) : Type 0 where
  pub front : side_lines s d.front ≡ shared_start xs ys
  pub left : side_lines s d.left ≡ middle xs ys
  pub right : side_lines s d.right ≡ middle ys xs
  pub back : side_lines s d.back ≡ shared_end xs ys

led_lines : (s : Sheets) (k : Cluster) (b : Bool) → AllByRecursion (Whole s) (ours_of k) → AllByRecursion (Whole s) (theirs_of k) → SidesLines s (ours_lines s k) (theirs_lines s k) (contracted_by s b k)
led_lines s k true wo wt =
    let c = contracted_lines s (ours_of k) (theirs_of k) wo wt in
    record { front = c.front; left = c.lead; right = c.facing; back = c.back }
led_lines s k false wo wt =
    let c = contracted_lines s (theirs_of k) (ours_of k) wt wo in
    let xs = ours_lines s k in
    let ys = theirs_lines s k in
    record { front = c.front ∙ start_sym ys xs; left = c.facing; right = c.lead; back = c.back ∙ end_sym ys xs }

pub sides_lines : (s : Sheets) (k : Cluster) → AllByRecursion (Whole s) (ours_of k) → AllByRecursion (Whole s) (theirs_of k) → SidesLines s (ours_lines s k) (theirs_lines s k) (contracted_sides s k)
sides_lines s k wo wt = led_lines s k (is_current k.first.side) wo wt

-- whether a line is left
no_line_true : (ls : List Line) → no_line ls ≡ true → ls ≡ []
no_line_true [] e = refl
no_line_true (l ∷ ls) e = absurd (false≢true e)

neither_line : (ls rs : List Line) → (not (no_line ls) || not (no_line rs)) ≡ false → (ls ≡ []) × (rs ≡ [])
neither_line ls rs e =
    let p = or_parts (not (no_line ls)) (not (no_line rs)) e in
    (no_line_true ls (not-false (no_line ls) p.0), no_line_true rs (not-false (no_line rs) p.1))

pub nothing_left : (s : Sheets) (d : Sides) → line_left s d.left d.right ≡ false → (side_lines s d.left ≡ []) × (side_lines s d.right ≡ [])
nothing_left s d e = neither_line (side_lines s d.left) (side_lines s d.right) e

pub left_is : (s : Sheets) (xs ys : List Line) (d : Sides) → SidesLines s xs ys d → line_left s d.left d.right ≡ not (same_lines xs ys)
left_is s xs ys d p = by (same_lines xs ys) refl
  where
    by : (b : Bool) → same_lines xs ys ≡ b → line_left s d.left d.right ≡ not b
    by true e =
        let q = same_lines_true xs ys e in
        let a = p.left ∙ equal_middle xs ys q in
        let b = p.right ∙ equal_middle ys xs (sym q) in
        rw (a, b)
    by false e = ⊎_elim (λ h. h) (λ h. absurd (no h)) (cases_Bool (line_left s d.left d.right))
      where
        no : line_left s d.left d.right ≡ false → ⊥
        no h =
            let n = nothing_left s d h in
            let q = no_middle xs ys (sym p.left ∙ n.0) (sym p.right ∙ n.1) in
            true≢false (sym (rw (← q) (same_lines_refl xs)) ∙ e)
