-- The bytes of the four markers, and the labels handed over.
use Rattle.std.specs.Prelude.{ℕ}
use Rattle.std.specs.Option.{option_map}
use Rattle.rules.specs.declared.labels.Labels as code
use Rattle.rules.specs.Markers.{Labels, labels_of}
use Rattle.writing.specs.declared.mark.Mark.{Mark}
use Rattle.writing.specs.declared.mark.Mark.TheVariants.{Ours, Base, Middle, Theirs}

abbrev pub mark_byte : Mark → ℕ
mark_byte Ours = 60
mark_byte Base = 124
mark_byte Middle = 61
mark_byte Theirs = 62

-- The labels, as the bytes that they borrow.
abbrev pub labels_in : code.Labels → Labels
labels_in l = labels_of (option_map (λ x. x.now) l.ancestor) (option_map (λ x. x.now) l.current) (option_map (λ x. x.now) l.other)
