-- The worked cases, computed.
use Rattle.std.proofs.Common.{refl}
use Rattle.rules.specs.Cases.{Cases}

pub cases : Cases
cases = record {
  none_held_in_all = record { in_merge = (refl, refl); in_diff3 = (refl, refl); in_zealous = (refl, refl); in_ours = (refl, refl); in_theirs = (refl, refl); in_union = (refl, refl) };
  adjacent_in_modes = record { in_merge = (refl, refl); in_diff3 = (refl, refl); in_zealous = (refl, refl); in_ours = (refl, refl); in_theirs = (refl, refl); in_union = (refl, refl) };
  separate_in_all = record { in_merge = (refl, refl); in_diff3 = (refl, refl); in_zealous = (refl, refl); in_ours = (refl, refl); in_theirs = (refl, refl); in_union = (refl, refl) };
  both_delete_in_all = record { in_merge = (refl, refl); in_diff3 = (refl, refl); in_zealous = (refl, refl); in_ours = (refl, refl); in_theirs = (refl, refl); in_union = (refl, refl) };
  front_cut_in_modes = record { in_merge = (refl, refl); in_diff3 = (refl, refl); in_zealous = (refl, refl); in_ours = (refl, refl); in_theirs = (refl, refl); in_union = (refl, refl) };
  ancestor_cut_in_modes = record { in_merge = (refl, refl); in_diff3 = (refl, refl); in_zealous = (refl, refl); in_ours = (refl, refl); in_theirs = (refl, refl); in_union = (refl, refl) };
  rewritten_in_modes = record { in_merge = (refl, refl); in_diff3 = (refl, refl); in_zealous = (refl, refl); in_ours = (refl, refl); in_theirs = (refl, refl); in_union = (refl, refl) };
  between_two_in_modes = record { in_merge = (refl, refl); in_diff3 = (refl, refl); in_zealous = (refl, refl); in_ours = (refl, refl); in_theirs = (refl, refl); in_union = (refl, refl) };
  no_newline_in_modes = record { in_merge = (refl, refl); in_diff3 = (refl, refl); in_zealous = (refl, refl); in_ours = (refl, refl); in_theirs = (refl, refl); in_union = (refl, refl) };
  no_newline_same_in_all = record { in_merge = (refl, refl); in_diff3 = (refl, refl); in_zealous = (refl, refl); in_ours = (refl, refl); in_theirs = (refl, refl); in_union = (refl, refl) };
  front_ending_in_modes = record { in_merge = (refl, refl); in_diff3 = (refl, refl); in_zealous = (refl, refl); in_ours = (refl, refl); in_theirs = (refl, refl); in_union = (refl, refl) };
  stretch_ending_in_modes = record { in_merge = (refl, refl); in_diff3 = (refl, refl); in_zealous = (refl, refl); in_ours = (refl, refl); in_theirs = (refl, refl); in_union = (refl, refl) };
  blank_front_in_modes = record { in_merge = (refl, refl); in_diff3 = (refl, refl); in_zealous = (refl, refl); in_ours = (refl, refl); in_theirs = (refl, refl); in_union = (refl, refl) };
  first_deletion_in_modes = record { in_merge = (refl, refl); in_diff3 = (refl, refl); in_zealous = (refl, refl); in_ours = (refl, refl); in_theirs = (refl, refl); in_union = (refl, refl) };
  bare_return_in_modes = record { in_merge = (refl, refl); in_diff3 = (refl, refl); in_zealous = (refl, refl); in_ours = (refl, refl); in_theirs = (refl, refl); in_union = (refl, refl) };
  cut_ending_in_modes = record { in_merge = (refl, refl); in_diff3 = (refl, refl); in_zealous = (refl, refl); in_ours = (refl, refl); in_theirs = (refl, refl); in_union = (refl, refl) };
  union_front_in_modes = record { in_merge = (refl, refl); in_diff3 = (refl, refl); in_zealous = (refl, refl); in_ours = (refl, refl); in_theirs = (refl, refl); in_union = (refl, refl) };
  union_back_in_modes = record { in_merge = (refl, refl); in_diff3 = (refl, refl); in_zealous = (refl, refl); in_ours = (refl, refl); in_theirs = (refl, refl); in_union = (refl, refl) };
  equal_starts_in_modes = record { in_merge = (refl, refl); in_diff3 = (refl, refl); in_zealous = (refl, refl); in_ours = (refl, refl); in_theirs = (refl, refl); in_union = (refl, refl) };
  repeated_line_in_modes = record { in_merge = (refl, refl); in_diff3 = (refl, refl); in_zealous = (refl, refl); in_ours = (refl, refl); in_theirs = (refl, refl); in_union = (refl, refl) };
  union_middle_in_modes = record { in_merge = (refl, refl); in_diff3 = (refl, refl); in_zealous = (refl, refl); in_ours = (refl, refl); in_theirs = (refl, refl); in_union = (refl, refl) };
  touching_enter_refused = refl;
  later_enter_taken = refl;
  refused_number = refl;
  withdrawal_counts = refl;
  withdrawal_empties = refl;
  rewritten_outline = refl;
  small_sink = refl;
  fitting_sink = refl;
}
