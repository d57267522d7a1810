-- The two sides of a group as a mode takes them.
use Rattle.std.proofs.Common.{◌≡◌, Bool, true, false, cond, List, [], refl, ap}
use Rattle.std.specs.List.{AllByRecursion}
use Rattle.std.proofs.lemmas.Bool.{cond_both}
use Rattle.rules.specs.declared.hunk.Hunk.{Hunk}
use Rattle.rules.specs.declared.mode.ConflictStyle.{ConflictStyle}
use Rattle.rules.specs.declared.mode.Conflict.TheVariants.{Keep, ResolveWithOurs, ResolveWithTheirs, ResolveWithUnion}
use Rattle.rules.specs.Hunks.{Sheets}
use Rattle.rules.specs.Walk.{is_current}
use Rattle.rules.specs.Groups.{Cluster, from, to}
use Rattle.rules.specs.Filling.{ours_of, theirs_of}
use Rattle.rules.specs.Contraction.{Readable}
use Rattle.rules.specs.Sides.{Sides, contracts, contracted_by, sides_in, whole_sides}
use Rattle.rules.specs.Blocks.{keep_steps, blocked}
use Rattle.rules.specs.Unions.{union_steps}
use Rattle.contract.proofs.Contracting.{readables}
use Rattle.writing.specs.Sides.{sides_of, Readables, contracted_lists, lists_in, lists_differ, GroupsTold}

pub contracted_readable : (s : Sheets) (b : Bool) (l r : List Hunk) → AllByRecursion (Readable s) l → AllByRecursion (Readable s) r → Readables s (contracted_lists s b l r)
contracted_readable s true l r p q = let c = readables s l r p q in record { front = c.front; left = c.lead; right = c.facing; back = c.back }
contracted_readable s false l r p q = let c = readables s r l q p in record { front = c.front; left = c.facing; right = c.lead; back = c.back }

pub lists_readable : (style : ConflictStyle) (s : Sheets) (b : Bool) (l r : List Hunk) → AllByRecursion (Readable s) l → AllByRecursion (Readable s) r → Readables s (lists_in style s b l r)
lists_readable style s b l r p q =
    cond_both (contracts style) (contracted_lists s b l r) (sides_of [] l r []) (Readables s) (λ e. contracted_readable s b l r p q) (λ e. record { front = tt; left = p; right = q; back = tt })

-- A group's own sides.
contracted_own : (s : Sheets) (b : Bool) (k : Cluster) → contracted_lists s b (ours_of k) (theirs_of k) ≡ contracted_by s b k
contracted_own s true k = refl
contracted_own s false k = refl

own_sides : (style : ConflictStyle) (s : Sheets) (k : Cluster) → lists_in style s (is_current k.first.side) (ours_of k) (theirs_of k) ≡ sides_in style s k
own_sides style s k = ap (λ (d : Sides). cond (contracts style) d (whole_sides k)) (contracted_own s (is_current k.first.side) k)

pub groups_told : GroupsTold
groups_told (Keep style n) s labels since k = record {
  steps = ap (keep_steps style s n labels since (from k) (to k)) (own_sides style s k);
  marked = ap (λ (d : Sides). blocked style s d.left d.right) (own_sides style s k);
}
groups_told ResolveWithOurs s labels since k = record { steps = refl; marked = refl }
groups_told ResolveWithTheirs s labels since k = record { steps = refl; marked = refl }
groups_told ResolveWithUnion s labels since k =
    let e = contracted_own s (is_current k.first.side) k in
    record { steps = ap (union_steps s) e; marked = ap (λ (d : Sides). lists_differ s d.left d.right) e }
