-- Words at the front of a line, the names of sides and kinds, and how one thing is read after another.
use Rattle.std.specs.Prelude.{ℕ, cond, List, [], ◌∷◌, Some, None, codes, Option, ◌==◌}
use Rattle.std.specs.Borrow.{Bor}
use Rattle.std.specs.List.{find}
use Rattle.std.specs.Str.{bytes_eq}
use Rattle.rules.specs.declared.hunk.Side.{Side}
use Rattle.rules.specs.declared.hunk.Side.TheVariants.{Current, Other, Ancestor}
use Rattle.job.specs.declared.command.SheetKind.{SheetKind}
use Rattle.job.specs.declared.command.SheetKind.TheVariants.{Text, Cells}
use Rattle.job.specs.declared.command.Verb.{Verb}
use Rattle.job.specs.declared.command.Verb.TheVariants.{Lines, Sheet, Row, Open, Enter, Withdraw, Held, Help}

-- The names of sides and kinds, and the first words of commands.
abbrev pub side_word : Side → List ℕ
side_word Ancestor = codes "ancestor"
side_word Current = codes "current"
side_word Other = codes "other"

abbrev pub kind_word : SheetKind → List ℕ
kind_word Text = codes "text"
kind_word Cells = codes "cells"

abbrev pub verb_word : Verb → List ℕ
verb_word Lines = codes "lines"
verb_word Sheet = codes "sheet"
verb_word Row = codes "row"
verb_word Open = codes "open"
verb_word Enter = codes "enter"
verb_word Withdraw = codes "withdraw"
verb_word Held = codes "held"
verb_word Help = codes "help"

abbrev pub sides : List Side
sides = Ancestor ∷ (Current ∷ (Other ∷ []))

abbrev pub kinds : List SheetKind
kinds = Text ∷ (Cells ∷ [])

abbrev pub verbs : List Verb
verbs = Lines ∷ (Sheet ∷ (Row ∷ (Open ∷ (Enter ∷ (Withdraw ∷ (Held ∷ (Help ∷ [])))))))

-- Which of some things a whole word names.
abbrev pub named : {X : Type 0} → (X → List ℕ) → List X → List ℕ → Option X
named name all word = find (λ x. bytes_eq (name x) word) all

abbrev pub side_named : List ℕ → Option Side
side_named word = named side_word sides word

-- What follows a word at the front of a line.
abbrev pub after : List ℕ → List ℕ → Option (List ℕ)
after [] line = Some line
after (w ∷ ws) [] = None
after (w ∷ ws) (b ∷ bs) = cond (w == b) (after ws bs) None

-- What is read from what follows a word, or else from the whole line.
abbrev pub or_else : {X : Type 0} → Option (List ℕ) → (List ℕ → Option X) → Option X → Option X
or_else None read other = other
or_else (Some rest) read other = read rest

-- What is read behind something that was read at the front of a line, with what follows that.
abbrev pub and_then : {X Y : Type 0} → Option (X × List ℕ) → (X → List ℕ → Option Y) → Option Y
and_then None read = None
and_then (Some (x, rest)) read = read x rest

-- Something read at the front of a line, and what follows it.
abbrev pub with_rest : {X : Type 0} → Option X → List ℕ → Option (X × List ℕ)
with_rest None rest = None
with_rest (Some x) rest = Some (x, rest)

-- The same with the rest as a slice.
abbrev pub told : {X : Type 0} → X × Bor (List ℕ) → X × List ℕ
told p = (p.0, p.1.now)

-- The first word of a line, as far as its first space, and what follows the space.
abbrev pub longer_by : ℕ → Option (List ℕ × List ℕ) → Option (List ℕ × List ℕ)
longer_by b None = None
longer_by b (Some (word, rest)) = Some (b ∷ word, rest)

abbrev pub front_word : List ℕ → Option (List ℕ × List ℕ)
front_word [] = None
front_word (b ∷ bs) = cond (b == 32) (Some ([], bs)) (longer_by b (front_word bs))

-- What the first word of a line names, and what follows the space behind it.
abbrev pub front_named : {X : Type 0} → (X → List ℕ) → List X → List ℕ → Option (X × List ℕ)
front_named name all line = and_then (front_word line) (λ word rest. with_rest (named name all word) rest)

abbrev pub front_side : List ℕ → Option (Side × List ℕ)
front_side line = front_named side_word sides line
