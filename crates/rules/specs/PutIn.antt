-- Hunks put into the ancestor: each one's lines replace its before range.
use Rattle.std.specs.Prelude.{ℕ, List, [], ◌∷◌, ◌++◌, drop}
use Rattle.rules.specs.declared.hunk.Hunk.{Hunk}
use Rattle.rules.specs.Lines.{Line, between}
use Rattle.rules.specs.Hunks.{Sheets, hunk_lines}

-- The ancestor's lines from line n on, with hunks put in: each one's lines replace its before range.
abbrev pub put_in : Sheets → ℕ → List Hunk → List Line
put_in s n [] = drop n s.ancestor
put_in s n (h ∷ hs) = between s.ancestor n h.before.start ++ (hunk_lines s h ++ put_in s h.before.end hs)

-- The same of the ancestor's lines a..b alone.
abbrev pub put_between : Sheets → ℕ → ℕ → List Hunk → List Line
put_between s a b [] = between s.ancestor a b
put_between s a b (h ∷ hs) = between s.ancestor a h.before.start ++ (hunk_lines s h ++ put_between s h.before.end b hs)
