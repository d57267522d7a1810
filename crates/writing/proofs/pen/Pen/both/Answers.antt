use Rattle.std.proofs.Common.{◌≡◌, Bool, true, List, [], ◌∷◌, ◌++◌, sym, ◌∙◌, subst}
use Rattle.std.proofs.lemmas.Bool.{cond-true}
use Rattle.rules.specs.Endings.{ending_of, or_newline}
use Rattle.rules.specs.Hunks.{Sheets, side_lines}
use Rattle.rules.specs.Pieces.{ours, theirs}
use Rattle.rules.specs.Sides.{line_left}
use Rattle.rules.specs.Steps.{Step, close, each}
use Rattle.rules.specs.Unions.{both_steps}
use Rattle.writing.specs.declared.sides.Sides as code
use Rattle.writing.specs.States.{HasRoom, Wrote}
use Rattle.writing.proofs.Steps.{room_first, room_rest, wrote_on}
use Rattle.writing.proofs.pen.Pen.both.Goals as goal

-- ours and theirs, where either has a line
abbrev in_turn : Sheets → code.Sides → List Step
in_turn s d = close (or_newline (ending_of s d.front.now)) ∷ (each ours (side_lines s d.left.now) ++ (close (or_newline (ending_of s d.left.now)) ∷ each theirs (side_lines s d.right.now)))

both_are : (s : Sheets) (d : code.Sides) (b : Bool) → b ≡ line_left s d.left.now d.right.now → b ≡ true → both_steps s d.front.now d.left.now d.right.now ≡ in_turn s d
both_are s d b p q = cond-true (line_left s d.left.now d.right.now) (in_turn s d) [] (sym p ∙ q)

pub hunks-requires-clause-room : goal.hunks-requires-clause-room
hunks-requires-clause-room g c =
    let room = subst (HasRoom g.S.Sink c.args.self.now) (both_are (g.T.ThreeSheets.sheets c.args.three.now) c.args.sides _ c.any_line_left.ensures c.if-any_line_left.true) c.requires.room in
    room_first _ (room_rest room (rw c.shown_ending.ensures at c.close_line.ensures))

pub close_line-requires-then-any_line_left : goal.close_line-requires-then-any_line_left
close_line-requires-then-any_line_left g c =
    let room = subst (HasRoom g.S.Sink c.args.self.now) (both_are (g.T.ThreeSheets.sheets c.args.three.now) c.args.sides _ c.any_line_left.ensures c.if-any_line_left.true) c.requires.room in
    rw c.shown_ending-then-any_line_left.ensures (room_first _ (room_rest (room_rest room (rw c.shown_ending.ensures at c.close_line.ensures)) c.hunks.ensures))

pub hunks-requires-then-any_line_left-clause-room : goal.hunks-requires-then-any_line_left-clause-room
hunks-requires-then-any_line_left-clause-room g c =
    let room = subst (HasRoom g.S.Sink c.args.self.now) (both_are (g.T.ThreeSheets.sheets c.args.three.now) c.args.sides _ c.any_line_left.ensures c.if-any_line_left.true) c.requires.room in
    room_rest (room_rest (room_rest room (rw c.shown_ending.ensures at c.close_line.ensures)) c.hunks.ensures) (rw c.shown_ending-then-any_line_left.ensures at c.close_line-then-any_line_left.ensures)

pub returns-then-any_line_left : goal.returns-then-any_line_left
returns-then-any_line_left g c =
    subst (Wrote g.S.Sink c.args.self.now _) (sym (both_are (g.T.ThreeSheets.sheets c.args.three.now) c.args.sides _ c.any_line_left.ensures c.if-any_line_left.true))
    (wrote_on (rw c.shown_ending.ensures at c.close_line.ensures) (wrote_on c.hunks.ensures (wrote_on (rw c.shown_ending-then-any_line_left.ensures at c.close_line-then-any_line_left.ensures) c.hunks-then-any_line_left.ensures)))
