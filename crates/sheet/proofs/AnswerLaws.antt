use Rattle.std.proofs.Common.{◌≡◌, ℕ, ◌≤◌, Bool, true, false, cond, ltb, List, length, take, Ok, Err, Result, sym, refl, ap, ◌∙◌, subst, arith, ltb-false, ltb-true}
use Rattle.sheet.specs.declared.refusal.SheetRefusal.{SheetRefusal}
use Rattle.sheet.specs.declared.refusal.SheetRefusal.TheVariants.{TextTooLong, TooManyLines, TableTooSmall, StartsAbsent}
use Rattle.rules.specs.Texts.{text_lines}
use Rattle.sheet.specs.Starts.{starts_of}
use Rattle.sheet.specs.Splits.{TextLaw, text_answer, same}
use Rattle.sheet.proofs.StartLaws.{same_refl, same_sound}

-- an accepted answer passed its test
passed : {N : Type 0} (v : Bool) (e : SheetRefusal) (r : Result N SheetRefusal) (n : N) → cond v (Err e) r ≡ Ok n → (v ≡ false) × (r ≡ Ok n)
passed true e r n h = absurd (let z : ◌≡◌ {A = ℕ} 0 1 = cc in omega arith)
passed false e r n h = (refl, h)

met : {N : Type 0} (v : Bool) (e : SheetRefusal) (m n : N) → cond v (Ok m) (Err e) ≡ Ok n → (v ≡ true) × (m ≡ n)
met true e m n h = (refl, cc)
met false e m n h = absurd (let z : ◌≡◌ {A = ℕ} 0 1 = cc in omega arith)

-- what a text and a table have that make a sheet
pub record Fit (t table : List ℕ) (n : ℕ) : Type 0 where
  pub small : length t ≤ 60000
  pub few : length (text_lines t) ≤ 4096
  pub placed : take n table ≡ starts_of t
  pub counted : n ≡ length (text_lines t)

pub text_fits : (t table : List ℕ) (n : ℕ) → text_answer t table ≡ Ok n → Fit t table n
text_fits t table n h =
    let a = passed (ltb 60000 (length t)) _ _ n h in
    let b = passed (ltb 4096 (length (text_lines t))) _ _ n a.1 in
    let d = passed (ltb (length table) (length (text_lines t))) _ _ n b.1 in
    let e = met (same (take (length (text_lines t)) table) (starts_of t)) _ _ n d.1 in
    let f = ltb-false _ _ b.0 in
    record {
      small = ltb-false _ _ a.0;
      few = f;
      placed = subst (λ (k : ℕ). take k table ≡ starts_of t) e.1 (same_sound _ _ e.0);
      counted = sym e.1;
    }

-- the four tests in their order, and which of them a refusal tells of
abbrev asked : Bool → Bool → Bool → Bool → ℕ → Result ℕ SheetRefusal
asked a b d e n = cond a (Err TextTooLong) (cond b (Err TooManyLines) (cond d (Err TableTooSmall) (cond e (Ok n) (Err StartsAbsent))))

record Told (a b d e : Bool) (n : ℕ) : Type 0 where
  too_long : asked a b d e n ≡ Err TextTooLong → a ≡ true
  too_many : asked a b d e n ≡ Err TooManyLines → (a ≡ false) × (b ≡ true)
  too_small : asked a b d e n ≡ Err TableTooSmall → (a ≡ false) × (b ≡ false) × (d ≡ true)
  absent : asked a b d e n ≡ Err StartsAbsent → (a ≡ false) × (b ≡ false) × (d ≡ false) × (e ≡ false)

told : (a b d e : Bool) (n : ℕ) → Told a b d e n
told true b d e n = record { too_long = λ h. refl; too_many = λ h. absurd (let z : ◌≡◌ {A = ℕ} 0 1 = cc in omega arith); too_small = λ h. absurd (let z : ◌≡◌ {A = ℕ} 0 1 = cc in omega arith); absent = λ h. absurd (let z : ◌≡◌ {A = ℕ} 0 1 = cc in omega arith) }
told false true d e n = record { too_long = λ h. absurd (let z : ◌≡◌ {A = ℕ} 0 1 = cc in omega arith); too_many = λ h. (refl, refl); too_small = λ h. absurd (let z : ◌≡◌ {A = ℕ} 0 1 = cc in omega arith); absent = λ h. absurd (let z : ◌≡◌ {A = ℕ} 0 1 = cc in omega arith) }
told false false true e n = record { too_long = λ h. absurd (let z : ◌≡◌ {A = ℕ} 0 1 = cc in omega arith); too_many = λ h. absurd (let z : ◌≡◌ {A = ℕ} 0 1 = cc in omega arith); too_small = λ h. (refl, refl, refl); absent = λ h. absurd (let z : ◌≡◌ {A = ℕ} 0 1 = cc in omega arith) }
told false false false true n = record { too_long = λ h. absurd (let z : ◌≡◌ {A = ℕ} 0 1 = cc in omega arith); too_many = λ h. absurd (let z : ◌≡◌ {A = ℕ} 0 1 = cc in omega arith); too_small = λ h. absurd (let z : ◌≡◌ {A = ℕ} 0 1 = cc in omega arith); absent = λ h. absurd (let z : ◌≡◌ {A = ℕ} 0 1 = cc in omega arith) }
told false false false false n = record { too_long = λ h. absurd (let z : ◌≡◌ {A = ℕ} 0 1 = cc in omega arith); too_many = λ h. absurd (let z : ◌≡◌ {A = ℕ} 0 1 = cc in omega arith); too_small = λ h. absurd (let z : ◌≡◌ {A = ℕ} 0 1 = cc in omega arith); absent = λ h. (refl, refl, refl, refl) }

unlike : (xs ys : List ℕ) → same xs ys ≡ false → xs ≡ ys → ⊥
unlike xs ys h e =
    let t : same xs ys ≡ true = ap (λ zs. same zs ys) e ∙ same_refl ys in
    let z : ◌≡◌ {A = ℕ} 0 1 = cc in omega arith

pub text_law : (t table : List ℕ) → TextLaw t table
text_law t table =
    let r = told (ltb 60000 (length t)) (ltb 4096 (length (text_lines t))) (ltb (length table) (length (text_lines t))) (same (take (length (text_lines t)) table) (starts_of t)) (length (text_lines t)) in
    record {
      accepted = λ n h. let f = text_fits t table n h in (f.small, (let a = f.few in let b = f.counted in omega arith), f.counted, f.placed);
      too_long = λ h. ltb-true _ _ (r.too_long h);
      too_many = λ h. let x = r.too_many h in (ltb-false _ _ x.0, ltb-true _ _ x.1);
      too_small = λ h. let x = r.too_small h in (ltb-false _ _ x.0, ltb-false _ _ x.1, ltb-true _ _ x.2);
      absent = λ h. let x = r.absent h in (ltb-false _ _ x.0, ltb-false _ _ x.1, ltb-false _ _ x.2, unlike _ _ x.3);
    }
