-- What contraction leaves of the sides, and what each mode that writes no markers writes, group by group.
use Rattle.std.proofs.Common.{◌≡◌, ◌-◌, Bool, true, false, cond, not, List, [], ◌∷◌, ◌++◌, sym, refl, ap, ◌∙◌, ap₂, append_assoc}
use lib.Seq.{drop-nil, drop-length}
use Rattle.std.proofs.ByRecursion.{All-weaker}
use Rattle.std.proofs.lemmas.Bool.{true≢false}
use Rattle.rules.specs.declared.hunk.Hunk.{Hunk}
use Rattle.rules.specs.declared.mode.Conflict.TheVariants.{ResolveWithOurs, ResolveWithTheirs, ResolveWithUnion}
use Rattle.rules.specs.Lines.{Line, same_lines}
use Rattle.rules.specs.SharedLines.{shared_back, past_start, at_end, middle, shared_start, shared_end}
use Rattle.rules.specs.Hunks.{Sheets, side_lines}
use Rattle.rules.specs.Walk.{walk, is_current, is_other}
use Rattle.rules.specs.Groups.{Cluster, clusters}
use Rattle.rules.specs.Filling.{side_of, sides_differ, ours_lines, theirs_lines}
use Rattle.rules.specs.Sides.{Sides, contracted_sides, line_left}
use Rattle.rules.specs.Endings.{ending_of, or_newline}
use Rattle.rules.specs.Pieces.{common, ours, theirs}
use Rattle.rules.specs.Steps.{close, each}
use Rattle.rules.specs.Markers.{Labels}
use Rattle.rules.specs.Unions.{back_close, union_steps}
use Rattle.rules.specs.Rendering.{rendering}
use Rattle.rules.specs.Verdict.{marks}
use Rattle.rules.specs.Outline.{reads_as_line, all_lines}
use Rattle.rules.specs.Order.{Kept}
use Rattle.rules.specs.ContractionLaws.{ContractionLaw}
use Rattle.rules.specs.SideLaws.{union_lines, with_groups, SideLaws}
use Rattle.rules.proofs.Contracting.{SidesLines, sides_lines, nothing_left}
use Rattle.rules.proofs.Fits.{Fit, kept_fit}
use Rattle.rules.proofs.HunkCuts.{Led, led_cuts}
use Rattle.rules.proofs.Longest.{start_stops, end_stops, rest_joins, rest_joins_other, Kinds, kinds}
use Rattle.rules.proofs.Shared.{front_same, equal_middle, parts_join, parts_join_other, same_lines_true, same_lines_refl}
use Rattle.rules.proofs.Spelled.{Written, written, all_given}
use Rattle.rules.proofs.Steps.{step_lines, step_join, each_kept}

equal_end : (xs ys : List Line) → xs ≡ ys → shared_end xs ys ≡ []
equal_end xs ys e = nil_at (past_start xs ys) (past_start ys xs) (rw (← e) (rw (front_same xs) (drop-length xs)))
  where
    nil_at : (ls ms : List Line) → ls ≡ [] → at_end ls ms ≡ []
    nil_at ls ms z = rw z (drop-nil (0 - shared_back [] ms))

same_middle : (xs ys : List Line) → middle xs ys ≡ middle ys xs → xs ≡ ys
same_middle xs ys e = sym (parts_join xs ys) ∙ ap (λ (m : List Line). shared_start xs ys ++ (m ++ shared_end xs ys)) e ∙ parts_join_other xs ys

pub contraction_law : (s : Sheets) (k : Cluster) → Fit s k → ContractionLaw s k (contracted_sides s k)
contraction_law s k fit = by (contracted_sides s k) (sides_lines s k fit.ours fit.theirs) (kinds s k fit.lead) (led_cuts s k (is_current k.first.side) fit.ours fit.theirs)
  where
    by : (d : Sides) → SidesLines s (ours_lines s k) (theirs_lines s k) d → Kinds k.first.side d → Led s k (is_current k.first.side) d → ContractionLaw s k d
    by d p q c =
        let xs = ours_lines s k in
        let ys = theirs_lines s k in
        record {
          front = p.front;
          left = p.left;
          right = p.right;
          back = p.back;
          ours_whole = ap₂ ◌++◌ p.front (ap₂ ◌++◌ p.left p.back) ∙ parts_join xs ys;
          theirs_whole = ap₂ ◌++◌ p.front (ap₂ ◌++◌ p.right p.back) ∙ parts_join_other xs ys;
          nothing_left = λ e. (p.left ∙ equal_middle xs ys e, p.right ∙ equal_middle ys xs (sym e), p.back ∙ equal_end xs ys e);
          then_equal = λ e. same_middle xs ys (sym p.left ∙ e ∙ p.right);
          front_longest = λ x y us vs u v. start_stops xs ys x y us vs (sym (rest_joins xs ys) ∙ sym (ap₂ ◌++◌ p.left p.back) ∙ u) (sym (rest_joins_other xs ys) ∙ sym (ap₂ ◌++◌ p.right p.back) ∙ v);
          back_longest = λ x y us vs u v. end_stops (past_start xs ys) (past_start ys xs) x y us vs (sym p.left ∙ u) (sym p.right ∙ v);
          led = q.led;
          ours_left = q.ours_left;
          theirs_left = q.theirs_left;
          straight = q.straight;
          ours_lead = λ e. c.ours (ap is_current e);
          theirs_lead = λ e. c.theirs (ap is_current e);
        }

-- Union's mark
same_either : (a b c d : List Line) → (a ≡ b → c ≡ d) → (c ≡ d → a ≡ b) → same_lines a b ≡ same_lines c d
same_either a b c d f g = by (same_lines a b) (same_lines c d) refl refl
  where
    by : (x y : Bool) → same_lines a b ≡ x → same_lines c d ≡ y → x ≡ y
    by true true p q = refl
    by false false p q = refl
    by true false p q = absurd (true≢false (sym (rw (← f (same_lines_true a b p)) (same_lines_refl c)) ∙ q))
    by false true p q = absurd (true≢false (sym (rw (← g (same_lines_true c d q)) (same_lines_refl a)) ∙ p))

pub union_marks : (s : Sheets) (k : Cluster) → Fit s k → marks ResolveWithUnion s k ≡ sides_differ s k
union_marks s k fit =
    let d = contracted_sides s k in
    let p = contraction_law s k fit in
    ap not (same_either (side_lines s d.left) (side_lines s d.right) (ours_lines s k) (theirs_lines s k) p.then_equal (λ e. let n = p.nothing_left e in n.0 ∙ sym n.1))

-- Union's lines
no_close : (s : Sheets) (d : Sides) (hs : List Hunk) → step_lines reads_as_line (back_close s d.right hs) ≡ []
no_close s d [] = refl
no_close s d (h ∷ hs) = refl

module _ (s : Sheets) (d : Sides) where
  left_written : (b : Bool) → line_left s d.left d.right ≡ b
      → step_lines reads_as_line (cond b (close (or_newline (ending_of s d.front)) ∷ (each ours (side_lines s d.left) ++ (close (or_newline (ending_of s d.left)) ∷ each theirs (side_lines s d.right)))) []) ≡ side_lines s d.left ++ side_lines s d.right
  left_written true e = step_join reads_as_line (each ours (side_lines s d.left)) (close (or_newline (ending_of s d.left)) ∷ each theirs (side_lines s d.right)) (each_kept reads_as_line ours (side_lines s d.left) refl) (each_kept reads_as_line theirs (side_lines s d.right) refl)
  left_written false e = let n = nothing_left s d e in rw (n.0, n.1)

append_four : (a b c d : List Line) → a ++ ((b ++ c) ++ d) ≡ a ++ (b ++ (c ++ d))
append_four a b c d = simp append_assoc

pub union_written : (s : Sheets) (d : Sides) → step_lines reads_as_line (union_steps s d) ≡ side_lines s d.front ++ (side_lines s d.left ++ (side_lines s d.right ++ side_lines s d.back))
union_written s d =
    let mid = cond (line_left s d.left d.right) (close (or_newline (ending_of s d.front)) ∷ (each ours (side_lines s d.left) ++ (close (or_newline (ending_of s d.left)) ∷ each theirs (side_lines s d.right)))) [] in
    let bc = back_close s d.right d.back in
    let eb = each common (side_lines s d.back) in
    step_join reads_as_line (each common (side_lines s d.front)) (mid ++ (bc ++ eb)) (each_kept reads_as_line common (side_lines s d.front) refl)
    (step_join reads_as_line mid (bc ++ eb) (left_written s d (line_left s d.left d.right) refl)
    (step_join reads_as_line bc eb (no_close s d d.back) (each_kept reads_as_line common (side_lines s d.back) refl)))
    ∙ append_four (side_lines s d.front) (side_lines s d.left) (side_lines s d.right) (side_lines s d.back)

module _ (s : Sheets) (cs os : List Hunk) where
  pub ours_written : (l : Labels) → all_lines (rendering ResolveWithOurs s l cs os) ≡ with_groups (λ k. side_lines s (side_of is_current k)) s 0 (clusters (walk cs os))
  ours_written l =
      let g : Cluster → List Line = λ k. side_lines s (side_of is_current k) in
      written ResolveWithOurs s l g cs os (all_given (Written ResolveWithOurs s l g) (clusters (walk cs os)) (λ k since. each_kept reads_as_line common (g k) refl))

  pub theirs_written : (l : Labels) → all_lines (rendering ResolveWithTheirs s l cs os) ≡ with_groups (λ k. side_lines s (side_of is_other k)) s 0 (clusters (walk cs os))
  theirs_written l =
      let g : Cluster → List Line = λ k. side_lines s (side_of is_other k) in
      written ResolveWithTheirs s l g cs os (all_given (Written ResolveWithTheirs s l g) (clusters (walk cs os)) (λ k since. each_kept reads_as_line common (g k) refl))

  pub side_laws : Kept s cs os → SideLaws s cs os
  side_laws p = record {
    ours = ours_written;
    theirs = theirs_written;
    union = λ l. written ResolveWithUnion s l (union_lines s) cs os (all_given (Written ResolveWithUnion s l (union_lines s)) (clusters (walk cs os)) (λ k since. union_written s (contracted_sides s k)));
    contraction = All-weaker (Fit s) (λ (k : Cluster). ContractionLaw s k (contracted_sides s k)) (contraction_law s) (clusters (walk cs os)) (kept_fit s cs os p);
  }
