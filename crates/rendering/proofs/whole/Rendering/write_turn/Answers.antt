use Rattle.std.proofs.Common.{◌≡◌, Bool, false, cond, ◌++◌, sym, ap, subst}
use Rattle.rules.specs.declared.mode.Conflict as modes
use Rattle.rules.specs.Hunks.{Sheets, side_lines}
use Rattle.rules.specs.Markers.{Labels}
use Rattle.rules.specs.Pieces.{common}
use Rattle.rules.specs.Steps.{each}
use Rattle.rules.specs.Walk.{is_current}
use Rattle.writing.specs.Marks.{labels_in}
use Rattle.writing.specs.Sides.{lists_steps}
use Rattle.writing.specs.States.{HasRoom, Wrote}
use Rattle.writing.proofs.Steps.{Parts, room_first, room_rest, wrote_on}
use Rattle.rendering.specs.declared.walk.Turn.{Turn}
use Rattle.rendering.specs.Turning.{turn_steps}
use Rattle.rendering.specs.Whole.{side_in}
use Rattle.rendering.proofs.whole.Rendering.write_turn.Goals as goal

-- a lone hunk: the hunks taken of each side, one after the other
lone : (m : modes.Conflict) (s : Sheets) (l : Labels) (x : Turn) → x.cluster.is_group ≡ false → Parts (turn_steps m s l x) (each common (side_lines s x.current.now)) (each common (side_lines s x.other.now))
lone m s l x e = record { is = ap (λ (b : Bool). cond b (lists_steps m s l x.since x.cluster.range.start x.cluster.range.end (is_current x.cluster.lead) (side_in x.cluster x.current.now) (side_in x.cluster x.other.now)) (each common (side_lines s x.current.now) ++ each common (side_lines s x.other.now))) e }

pub hunks-requires-clause-room : goal.hunks-requires-clause-room
hunks-requires-clause-room g c =
    let e = lone c.args.self.now.mode (g.T.ThreeSheets.sheets c.args.self.now.three.now) (labels_in c.args.self.now.labels) c.args.turn c.if-cluster.false in
    room_first _ (subst (HasRoom g.S.Sink c.args.pen.now) e.is c.requires.room)

pub hunks-requires-else-cluster-clause-room : goal.hunks-requires-else-cluster-clause-room
hunks-requires-else-cluster-clause-room g c =
    let e = lone c.args.self.now.mode (g.T.ThreeSheets.sheets c.args.self.now.three.now) (labels_in c.args.self.now.labels) c.args.turn c.if-cluster.false in
    room_rest (subst (HasRoom g.S.Sink c.args.pen.now) e.is c.requires.room) c.hunks.ensures

pub returns-else-cluster-clause-wrote : goal.returns-else-cluster-clause-wrote
returns-else-cluster-clause-wrote g c =
    let e = lone c.args.self.now.mode (g.T.ThreeSheets.sheets c.args.self.now.three.now) (labels_in c.args.self.now.labels) c.args.turn c.if-cluster.false in
    subst (Wrote g.S.Sink c.args.pen.now _) (sym e.is) (wrote_on c.hunks.ensures c.hunks-else-cluster.ensures)
