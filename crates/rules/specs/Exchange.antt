-- Sides exchanged: of a hunk, of the sheets, of an outline, of a call.
use Rattle.std.specs.Prelude.{◌≡◌, map}
use Rattle.rules.specs.declared.hunk.Hunk.{Hunk}
use Rattle.rules.specs.declared.hunk.Side.{Side}
use Rattle.rules.specs.declared.hunk.Side.TheVariants.{Current, Other, Ancestor}
use Rattle.rules.specs.declared.mode.Conflict as modes
use Rattle.rules.specs.declared.mode.Conflict.TheVariants.{Keep, ResolveWithOurs, ResolveWithTheirs, ResolveWithUnion}
use Rattle.rules.specs.Hunks.{Sheets}
use Rattle.rules.specs.Markers.{Labels, labels_of}
use Rattle.rules.specs.Tables.{Held}
use Rattle.rules.specs.Renders.{Asked}
use Rattle.rules.specs.Runs.{Call, open_with, enter, withdraw, render}
use Rattle.rules.specs.Outline.{Item, line, block}

abbrev pub facing_side : Side → Side
facing_side Current = Other
facing_side Other = Current
facing_side Ancestor = Ancestor

abbrev pub exchanged_hunk : Hunk → Hunk
exchanged_hunk h = record { before = h.before; after = h.after; side = facing_side h.side }

abbrev pub exchanged_sheets : Sheets → Sheets
exchanged_sheets s = record { ancestor = s.ancestor; current = s.other; other = s.current }

abbrev pub exchanged_item : Item → Item
exchanged_item (line x) = line x
exchanged_item (block o b t) = block t b o

-- What is asked of a render: ours for theirs, and the labels of the two sides.
abbrev pub exchanged_mode : modes.Conflict → modes.Conflict
exchanged_mode (Keep style n) = Keep style n
exchanged_mode ResolveWithOurs = ResolveWithTheirs
exchanged_mode ResolveWithTheirs = ResolveWithOurs
exchanged_mode ResolveWithUnion = ResolveWithUnion

abbrev pub exchanged_labels : Labels → Labels
exchanged_labels l = labels_of l.ancestor l.other l.current

abbrev pub exchanged_asked : Asked → Asked
exchanged_asked a = record { mode = exchanged_mode a.mode; labels = exchanged_labels a.labels; capacity = a.capacity }

abbrev pub exchanged_call : Call → Call
exchanged_call (open_with a c o) = open_with a o c
exchanged_call (enter h) = enter (exchanged_hunk h)
exchanged_call (withdraw side) = withdraw (facing_side side)
exchanged_call (render s a) = render (exchanged_sheets s) (exchanged_asked a)

-- The second table holds the first one's hunks, sides exchanged.
abbrev pub HoldsExchanged : Held → Held → Type 0
HoldsExchanged t t' = (t'.current ≡ map exchanged_hunk t.other) × (t'.other ≡ map exchanged_hunk t.current)
