-- What one side of a table is asked.
use Rattle.std.specs.Prelude.{◌≡◌, List, [], length, Some, None, Option, nat_lt}
use Rattle.std.specs.Borrow.{Bor}
use Rattle.rules.specs.declared.hunk.Hunk.{Hunk}
use Rattle.rules.specs.declared.refusal.TableRefusal.{TableRefusal}
use Rattle.rules.specs.declared.refusal.TableRefusal.TheVariants.{NothingHeld}
use Rattle.rules.specs.declared.hunk.Side.{Side}
use Rattle.rules.specs.Questions.{ask}
use Rattle.rules.specs.Tables.{Held, count_of, held_of}
use Rattle.hunks.specs.declared.table.HeldSide.{HeldSide}

-- Withdraw, of a side that hunks are held of.
abbrev pub withdraw_question : List Hunk → Option TableRefusal
withdraw_question hs = ask (nat_lt 0 (length hs)) NothingHeld None

-- A reference to one side of a table, if hunks are held of that side.
abbrev pub IsSide : Held → Side → Option (Bor HeldSide) → Type 0
IsSide t side None = (count_of t side ≡ t.ancestor_lines) × (held_of t side ≡ [])
IsSide t side (Some r) = (r.now.lines ≡ count_of t side) × (r.now.hunks ≡ held_of t side)
