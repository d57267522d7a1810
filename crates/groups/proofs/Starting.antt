-- A cluster at its first hunk, which leads the walk.
use Rattle.std.proofs.Common.{◌≡◌, ℕ, ◌<◌, ◌≤◌, false, leb, ◌⊎◌, List, [], ◌∷◌, length, get_or, take, Some, sym, refl, ap, ◌∙◌, subst, inl, inr, ⊎_elim, arith}
use Rattle.std.specs.List.{slice_get}
use Rattle.std.proofs.lemmas.Bool.{cond-true, cond-false, cond_both, leb-true, leb-false, or_parts}
use Rattle.rules.specs.declared.hunk.Hunk.{Hunk}
use Rattle.rules.specs.declared.hunk.Side.{Side}
use Rattle.rules.specs.declared.hunk.Side.TheVariants.{Current, Other}
use Rattle.rules.specs.Hunks.{touches, touches_any}
use Rattle.rules.specs.Tables.{last_of}
use Rattle.rules.specs.Walk.{walk, is_current, is_other}
use Rattle.rules.specs.Groups.{clusters}
use Rattle.rules.proofs.Chains.{alone}
use Rattle.rules.proofs.Woven.{Run, touches_sym}
use Rattle.hunks.proofs.Helds.{no_hunk}
use Rattle.groups.specs.Taking.{offers, one_of, facing_of, Taken}
use Rattle.groups.proofs.Heads.{lead_current, lead_other}
use Rattle.groups.proofs.Offered.{offer_is, none_taken}
use Rattle.groups.proofs.Growing.{Growing, complete}

-- A hunk of the current side that leads, and one of the other side.
pub record CurrentLeads (cs os : List Hunk) (h : Hunk) : Type 0 where
  pub side : h.side ≡ Current
  pub more : List Hunk
  pub is : cs ≡ h ∷ more
  pub ahead : 0 < length os → h.before.start ≤ (get_or os 0 no_hunk).before.start

pub record OtherLeads (cs os : List Hunk) (h : Hunk) : Type 0 where
  pub side : h.side ≡ Other
  pub more : List Hunk
  pub is : os ≡ h ∷ more
  pub ahead : 0 < length cs → h.before.start < (get_or cs 0 no_hunk).before.start

same_first : (h first : Hunk) (hs : List Hunk) → slice_get (h ∷ hs) 0 ≡ Some first → h ≡ first
same_first h first hs e = cc

current_leads : (c : Hunk) (cs os : List Hunk) (first : Hunk) → c ≡ first → c.side ≡ Current → (0 < length os → c.before.start ≤ (get_or os 0 no_hunk).before.start) → CurrentLeads (c ∷ cs) os first
current_leads c cs os first e s f = subst (CurrentLeads (c ∷ cs) os) e (record { side = s; more = cs; is = refl; ahead = f })

other_leads : (o : Hunk) (cs os : List Hunk) (first : Hunk) → o ≡ first → o.side ≡ Other → (0 < length cs → o.before.start < (get_or cs 0 no_hunk).before.start) → OtherLeads cs (o ∷ os) first
other_leads o cs os first e s f = subst (OtherLeads cs (o ∷ os)) e (record { side = s; more = os; is = refl; ahead = f })

pub leads : (cs os : List Hunk) (first : Hunk) → Run Current 0 cs → Run Other 0 os → slice_get (walk cs os) 0 ≡ Some first → CurrentLeads cs os first ⊎ OtherLeads cs os first
leads [] [] first rc ro e = let z : ◌≡◌ {A = ℕ} 0 1 = cc in absurd (omega arith)
leads [] (o ∷ os) first rc ro e = inr (other_leads o [] os first (same_first o first os e) ro.0 (λ p. absurd (omega arith)))
leads (c ∷ cs) [] first rc ro e = inl (current_leads c cs [] first (same_first c first (walk cs []) e) rc.0 (λ p. absurd (omega arith)))
leads (c ∷ cs) (o ∷ os) first rc ro e =
    cond_both (leb c.before.start o.before.start) (c ∷ walk cs (o ∷ os)) (o ∷ walk (c ∷ cs) os)
    (λ (l : List Hunk). slice_get l 0 ≡ Some first → CurrentLeads (c ∷ cs) (o ∷ os) first ⊎ OtherLeads (c ∷ cs) (o ∷ os) first)
    (λ t q. inl (current_leads c cs (o ∷ os) first (same_first c first (walk cs (o ∷ os)) q) rc.0 (λ p. leb-true c.before.start o.before.start t)))
    (λ t q. inr (other_leads o (c ∷ cs) os first (same_first o first (walk (c ∷ cs) os) q) ro.0 (λ p. leb-false c.before.start o.before.start t)))
    e

start_current : (c : Hunk) (cs os : List Hunk) → c.side ≡ Current → (0 < length os → c.before.start ≤ (get_or os 0 no_hunk).before.start) → Growing (c ∷ cs) os 1 0
start_current c cs os s f = record {
  cluster = alone c;
  ours = cond-true (is_current c.side) (c ∷ []) [] (ap is_current s);
  theirs = cond-false (is_other c.side) (c ∷ []) [] (ap is_other s);
  goal = sym (ap clusters (lead_current c cs os f));
  our_bound = omega arith;
  their_bound = omega arith;
  some = omega arith;
  ours_first = λ p lt. f lt;
  theirs_first = λ p lt. absurd (omega arith);
}

start_other : (o : Hunk) (cs os : List Hunk) → o.side ≡ Other → (0 < length cs → o.before.start < (get_or cs 0 no_hunk).before.start) → Growing cs (o ∷ os) 0 1
start_other o cs os s f = record {
  cluster = alone o;
  ours = cond-false (is_current o.side) (o ∷ []) [] (ap is_current s);
  theirs = cond-true (is_other o.side) (o ∷ []) [] (ap is_other s);
  goal = sym (ap clusters (lead_other o cs os f));
  our_bound = omega arith;
  their_bound = omega arith;
  some = omega arith;
  ours_first = λ p lt. absurd (omega arith);
  theirs_first = λ p lt. let q = f lt in omega arith;
}

module _ (cs os : List Hunk) (first : Hunk) (rc : Run Current 0 cs) (ro : Run Other 0 os) (lead : slice_get (walk cs os) 0 ≡ Some first) where
  started_current : CurrentLeads cs os first → Growing cs os 1 0
  started_current l = subst (λ (x : List Hunk). Growing x os 1 0) (sym l.is) (start_current first l.more os l.side l.ahead)

  started_other : OtherLeads cs os first → Growing cs os 0 1
  started_other l = subst (λ (x : List Hunk). Growing cs x 0 1) (sym l.is) (start_other first cs l.more l.side l.ahead)

  pub started : Growing cs os (one_of first.side).0 (one_of first.side).1
  started =
      ⊎_elim
      (λ (l : CurrentLeads cs os first). subst (λ (s : Side). Growing cs os (one_of s).0 (one_of s).1) (sym l.side) (started_current l))
      (λ (l : OtherLeads cs os first). subst (λ (s : Side). Growing cs os (one_of s).0 (one_of s).1) (sym l.side) (started_other l))
      (leads cs os first rc ro lead)

  untouched : (xs : List Hunk) → touches_any first xs ≡ false → offers (slice_get xs 0) (Some first) ≡ false
  untouched [] e = refl
  untouched (x ∷ xs) e = touches_sym x first ∙ (or_parts (touches first x) (touches_any first xs) e).0

  -- A hunk that touches none of the facing side is taken alone.
  pub lone : touches_any first (facing_of first.side cs os) ≡ false → Taken cs os (one_of first.side).0 (one_of first.side).1
  lone t =
      ⊎_elim
      (λ (l : CurrentLeads cs os first).
      let u : touches_any first os ≡ false = subst (λ (s : Side). touches_any first (facing_of s cs os) ≡ false) l.side t in
      let p : offers (slice_get os 0) (last_of (take 1 cs)) ≡ false = ap (λ (x : List Hunk). offers (slice_get os 0) (last_of (take 1 x))) l.is ∙ untouched os u in
      subst (λ (s : Side). Taken cs os (one_of s).0 (one_of s).1) (sym l.side) (complete cs os rc ro 1 0 (started_current l) (sym (offer_is os cs 0 1 ∙ p)) (sym (offer_is cs os 1 0 ∙ none_taken cs os 1 0 refl))))
      (λ (l : OtherLeads cs os first).
      let u : touches_any first cs ≡ false = subst (λ (s : Side). touches_any first (facing_of s cs os) ≡ false) l.side t in
      let p : offers (slice_get cs 0) (last_of (take 1 os)) ≡ false = ap (λ (x : List Hunk). offers (slice_get cs 0) (last_of (take 1 x))) l.is ∙ untouched cs u in
      subst (λ (s : Side). Taken cs os (one_of s).0 (one_of s).1) (sym l.side) (complete cs os rc ro 0 1 (started_other l) (sym (offer_is os cs 1 0 ∙ none_taken os cs 1 0 refl)) (sym (offer_is cs os 0 1 ∙ p))))
      (leads cs os first rc ro lead)
