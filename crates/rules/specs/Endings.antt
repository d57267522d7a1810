-- The line ending that a list of hunks shows. Going back from the last hunk, the first with a non-empty after range (in its side's sheet) or else a
-- non-empty before range (in the ancestor) decides, by the last line of that range. A line that ends in carriage return and newline shows both bytes,
-- another line of two bytes or more that ends in newline shows newline, and a line of newline alone shows none. Where the last line lacks its newline,
-- the second-last byte of the line before it decides. Where there is no such hunk, line or byte, none is shown.
use Rattle.std.specs.Prelude.{ℕ, ◌-◌, Bool, cond, not, List, [], ◌∷◌, reverse, length, get_or, Some, None, Option, ◌==◌, nat_le, slice_index, slice_index_or}
use Rattle.rules.specs.declared.ending.Ending.{Ending}
use Rattle.rules.specs.declared.ending.Ending.TheVariants.{Newline, ReturnNewline}
use Rattle.rules.specs.declared.hunk.Hunk.{Hunk}
use Rattle.rules.specs.declared.hunk.Span.{Span}
use Rattle.rules.specs.Lines.{Line}
use Rattle.rules.specs.Hunks.{Sheets, sheet_of}

abbrev pub ending_bytes : Ending → List ℕ
ending_bytes Newline = 10 ∷ []
ending_bytes ReturnNewline = 13 ∷ (10 ∷ [])

-- Whether the second-last byte is a carriage return, where there is one.
abbrev pub by_second_last : Line → Option Ending
by_second_last l = cond (nat_le 2 (length l)) (Some (cond (slice_index l (length l - 2) == 13) ReturnNewline Newline)) None

abbrev pub ends_in_newline : Line → Bool
ends_in_newline l = slice_index l (length l - 1) == 10

-- What one line shows: a line that ends in carriage return and newline gives both bytes, another of two bytes or more that ends in newline gives
-- newline, and any other gives none.
abbrev pub line_ending : Line → Option Ending
line_ending l = cond (ends_in_newline l) (by_second_last l) None

-- By the line before line b of a sheet, b above 0. The line before that one may lie outside the hunk's range.
abbrev pub ending_before : List Line → ℕ → Option Ending
ending_before ls b =
    let line = get_or ls (b - 1) [] in
    cond (ends_in_newline line) (by_second_last line) (cond (nat_le 2 b) (by_second_last (slice_index_or ls (b - 2) [])) None)

abbrev pub no_lines : Span → Bool
no_lines r = nat_le r.end r.start

-- The hunks from the last one back.
abbrev pub ending_back : Sheets → List Hunk → Option Ending
ending_back s [] = None
ending_back s (h ∷ hs) = cond (not (no_lines h.after)) (ending_before (sheet_of s h.side) h.after.end) (cond (not (no_lines h.before)) (ending_before s.ancestor h.before.end) (ending_back s hs))

abbrev pub ending_of : Sheets → List Hunk → Option Ending
ending_of s hs = ending_back s (reverse hs)

-- The first that is shown, and newline where none is.
abbrev pub or_else : Option Ending → Option Ending → Option Ending
or_else None b = b
or_else (Some e) b = Some e

abbrev pub or_newline : Option Ending → Ending
or_newline None = Newline
or_newline (Some e) = e
