-- Lists of hunks in a fixed number of places: what one more hunk makes of them.
use Rattle.std.specs.Prelude.{ℕ, ◌+◌, cond, List, [], ◌∷◌, ◌++◌, length, Some, None, Option, nat_le, nat_lt}
use Rattle.std.specs.Borrow.{MutBor}
use Rattle.rules.specs.declared.hunk.Hunk.{Hunk}

-- One more hunk goes behind the last one, if fewer than n are held.
abbrev pub pushed : ℕ → List Hunk → Hunk → List Hunk
pushed n hs h = cond (nat_lt (length hs) n) (hs ++ (h ∷ [])) hs

-- Several go behind the last one, if all together are at most n.
abbrev pub pushed_all : ℕ → List Hunk → List Hunk → List Hunk
pushed_all n hs gs = cond (nat_le (length hs + length gs) n) (hs ++ gs) hs

-- The hunk that a reference points to, if one was lent.
abbrev pub pointed : Option (MutBor Hunk) → Option Hunk
pointed None = None
pointed (Some r) = Some r.now
