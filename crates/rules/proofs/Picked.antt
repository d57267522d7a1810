-- The hunks of a list that a test of their sides picks: currents and others at once.
use Rattle.std.proofs.Common.{◌≡◌, Bool, true, false, cond, ◌&&◌, ◌||◌, leb, List, [], ◌∷◌, filter, refl, ap, ◌∙◌, ap₂}
use mathlib.Core.List.{Memᴰ}
use Rattle.std.proofs.lemmas.Bool.{cond_both, and_left}
use Rattle.rules.specs.declared.hunk.Hunk.{Hunk}
use Rattle.rules.specs.declared.hunk.Side.{Side}
use Rattle.rules.specs.declared.hunk.Side.TheVariants.{Current, Other, Ancestor}
use Rattle.rules.specs.Hunks.{opposite, touches, touches_any}
use Rattle.rules.specs.Walk.{is_current, is_other, picked, currents, others}

pub kept_same : (p q : Hunk → Bool) (hs : List Hunk) → ((h : Hunk) → Memᴰ h hs → p h ≡ q h) → filter p hs ≡ filter q hs
kept_same p q [] f = refl
kept_same p q (h ∷ hs) f = ap₂ (λ (b : Bool) (l : List Hunk). cond b (h ∷ l) l) (f h (Memᴰ.head refl)) (kept_same p q hs (λ g m. f g (Memᴰ.tail m)))

pub kept_all : (p : Hunk → Bool) (hs : List Hunk) → ((h : Hunk) → Memᴰ h hs → p h ≡ true) → filter p hs ≡ hs
kept_all p [] f = refl
kept_all p (h ∷ hs) f = ap₂ (λ (b : Bool) (l : List Hunk). cond b (h ∷ l) l) (f h (Memᴰ.head refl)) (kept_all p hs (λ g m. f g (Memᴰ.tail m)))

pub kept_none : (p : Hunk → Bool) (hs : List Hunk) → ((h : Hunk) → Memᴰ h hs → p h ≡ false) → filter p hs ≡ []
kept_none p [] f = refl
kept_none p (h ∷ hs) f = ap₂ (λ (b : Bool) (l : List Hunk). cond b (h ∷ l) l) (f h (Memᴰ.head refl)) (kept_none p hs (λ g m. f g (Memᴰ.tail m)))

-- a hunk touches what it touches of the facing side
pub any_picked : (f : Side → Bool) (h : Hunk) → ((s : Side) → opposite h.side s ≡ f s) → (ms : List Hunk) → touches_any h ms ≡ touches_any h (picked f ms)
any_picked f h faces [] = refl
any_picked f h faces (m ∷ ms) = cond_both (f m.side) (m ∷ picked f ms) (picked f ms) (λ l. (touches h m || touches_any h ms) ≡ touches_any h l)
    (λ e. ap (λ (x : Bool). touches h m || x) (any_picked f h faces ms))
    (λ e. ap (λ (x : Bool). x || touches_any h ms) (and_left (opposite h.side m.side) (leb h.before.start m.before.end && leb m.before.start h.before.end) (faces m.side ∙ e)) ∙ any_picked f h faces ms)

pub current_faces : (s : Side) → opposite Current s ≡ is_other s
current_faces Current = refl
current_faces Other = refl
current_faces Ancestor = refl

pub other_faces : (s : Side) → opposite Other s ≡ is_current s
other_faces Current = refl
other_faces Other = refl
other_faces Ancestor = refl

pub any_others : (h : Hunk) → h.side ≡ Current → (ms : List Hunk) → touches_any h ms ≡ touches_any h (others ms)
any_others h e ms = any_picked is_other h (λ s. ap (λ (x : Side). opposite x s) e ∙ current_faces s) ms

pub any_currents : (h : Hunk) → h.side ≡ Other → (ms : List Hunk) → touches_any h ms ≡ touches_any h (currents ms)
any_currents h e ms = any_picked is_current h (λ s. ap (λ (x : Side). opposite x s) e ∙ other_faces s) ms
