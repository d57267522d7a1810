-- A cursor that goes back gives the last line left, and begins the last hunk that is whole.
use Rattle.std.proofs.Common.{◌≡◌, ℕ, ◌+◌, ◌-◌, ◌<◌, ◌≤◌, List, [], ◌∷◌, ◌++◌, reverse, length, get_or, take, drop, sym, ap, ◌∙◌, arith, length-drop}
use Rattle.std.specs.List.{AllByRecursion}
use Rattle.std.proofs.lemmas.List.{append-nil, append_assoc, take_more, reverse-append, get_or-drop}
use Rattle.rules.specs.declared.hunk.Hunk.{Hunk}
use Rattle.rules.specs.declared.hunk.Side.{Side}
use Rattle.rules.specs.Contraction.{read_range, Readable}
use Rattle.rules.specs.Hunks.{Sheets, sheet_of, hunk_lines, side_lines}
use Rattle.rules.specs.Lines.{Line, between}
use Rattle.rules.proofs.Texts.{side_lines_append}
use Rattle.reading.proofs.Reading.{lines_are}

pub none_between : (ls : List Line) (a b : ℕ) → b ≤ a → between ls a b ≡ []
none_between ls a b le = let e : b - a ≡ 0 = omega arith in ap (λ n. take n (drop a ls)) e

pub last_between : (ls : List Line) (a b n : ℕ) → a < b → b ≤ length ls → n + 1 ≡ b → between ls a b ≡ between ls a n ++ (get_or ls n [] ∷ [])
last_between ls a b n lt le e =
    let d : length (drop a ls) ≡ length ls - a = length-drop a ls in
    let p : b - a ≡ (n - a) + 1 = omega arith in
    let q : a + (n - a) ≡ n = omega arith in
    ap (λ m. take m (drop a ls)) p
    ∙ (take_more (drop a ls) (n - a) [] (omega arith)
    ∙ ap (λ (l : Line). between ls a n ++ (l ∷ [])) (get_or-drop a ls (n - a) [] ∙ ap (λ m. get_or ls m []) q))

module _ (s : Sheets) (side : Side) (a b : ℕ) (hs : List Hunk) where
  pub gives_back : (n : ℕ) → a < b → b ≤ length (sheet_of s side) → n + 1 ≡ b
      → reverse (side_lines s hs ++ between (sheet_of s side) a b) ≡ get_or (sheet_of s side) n [] ∷ reverse (side_lines s hs ++ between (sheet_of s side) a n)
  gives_back n lt le e =
      let ls = sheet_of s side in
      ap (λ (l : List Line). reverse (side_lines s hs ++ l)) (last_between ls a b n lt le e)
      ∙ (ap reverse (sym (append_assoc (side_lines s hs) (between ls a n) (get_or ls n [] ∷ [])))
      ∙ reverse-append (side_lines s hs ++ between ls a n) (get_or ls n [] ∷ []))

  pub begins_back : (others : List Hunk) (h : Hunk) → b ≤ a → hs ≡ others ++ (h ∷ [])
      → reverse (side_lines s hs ++ between (sheet_of s side) a b) ≡ reverse (side_lines s others ++ between (sheet_of s h.side) (read_range h.side h).start (read_range h.side h).end)
  begins_back others h le e =
      let last = append-nil (hunk_lines s h) ∙ lines_are h.side s h in
      ap (λ (l : List Line). reverse (side_lines s hs ++ l)) (none_between (sheet_of s side) a b le)
      ∙ (ap reverse (append-nil (side_lines s hs))
      ∙ (ap (λ (l : List Hunk). reverse (side_lines s l)) e
      ∙ (ap reverse (side_lines_append s others (h ∷ []))
      ∙ ap (λ (l : List Line). reverse (side_lines s others ++ l)) last)))

pub whole_back : (s : Sheets) (others : List Hunk) (h : Hunk) → AllByRecursion (Readable s) (others ++ (h ∷ [])) → AllByRecursion (Readable s) others × Readable s h
whole_back s [] h r = (tt, r.0)
whole_back s (g ∷ others) h r = let q = whole_back s others h r.1 in ((r.0, q.0), q.1)
