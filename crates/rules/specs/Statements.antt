-- The laws as statements of their own, of all hunks that a table can hold for its sheets.
use Rattle.std.specs.Prelude.{◌≤◌, List, length}
use Rattle.rules.specs.declared.hunk.Hunk.{Hunk}
use Rattle.rules.specs.Limits.{max_hunks}
use Rattle.rules.specs.Hunks.{Sheets}
use Rattle.rules.specs.Walk.{walk}
use Rattle.rules.specs.Runs.{Call}
use Rattle.rules.specs.Order.{Kept}
use Rattle.rules.specs.HunkLaws.{HunkLaws}
use Rattle.rules.specs.WalkLaws.{Walked}
use Rattle.rules.specs.GroupLaws.{GroupsAreChains, RangeLaws}
use Rattle.rules.specs.EndingLaws.{EndingLaws}
use Rattle.rules.specs.MarkerLaws.{MarkerLaws}
use Rattle.rules.specs.UnionLaws.{UnionLaw}
use Rattle.rules.specs.SideLaws.{SideLaws}
use Rattle.rules.specs.OutlineLaws.{OutlineLaws}
use Rattle.rules.specs.VerdictLaws.{VerdictLaws}
use Rattle.rules.specs.Lengths.{LengthLaw}
use Rattle.rules.specs.RunLaws.{HeldLaw}

-- A statement of the sheets and the hunks held of current and other, wherever a table may hold them.
abbrev pub WhereverKept : (Sheets → List Hunk → List Hunk → Type 0) → Type 0
WhereverKept P = (s : Sheets) (cs os : List Hunk) → Kept s cs os → P s cs os

abbrev pub HunksStand : Type 0
HunksStand = (s : Sheets) → HunkLaws s

abbrev pub WalksStand : Type 0
WalksStand = WhereverKept (λ s cs os. Walked cs os)

abbrev pub GroupsStand : Type 0
GroupsStand = WhereverKept (λ s cs os. GroupsAreChains (walk cs os))

abbrev pub RangesStand : Type 0
RangesStand = WhereverKept (λ s cs os. RangeLaws cs os)

-- Contraction too is among them.
abbrev pub SidesStand : Type 0
SidesStand = WhereverKept SideLaws

abbrev pub EndingsStand : Type 0
EndingsStand = (s : Sheets) → EndingLaws s

abbrev pub MarkersStand : Type 0
MarkersStand = WhereverKept MarkerLaws

abbrev pub UnionsStand : Type 0
UnionsStand = WhereverKept UnionLaw

abbrev pub VerdictsStand : Type 0
VerdictsStand = WhereverKept VerdictLaws

abbrev pub OutlinesStand : Type 0
OutlinesStand = WhereverKept OutlineLaws

abbrev pub LengthsStand : Type 0
LengthsStand = WhereverKept (λ s cs os. length cs ≤ max_hunks → length os ≤ max_hunks → LengthLaw s cs os)

abbrev pub HeldStands : Type 0
HeldStands = (xs : List Call) → HeldLaw xs
