-- What a log keeps.
use Rattle.std.proofs.Common.{◌≡◌, true, false, ltb, List, [], ◌∷◌, ◌++◌, length, sym, ap, ◌∙◌, ⊎_elim, append_assoc, append-nil}
use Rattle.std.proofs.lemmas.Bool.{cond-true, cond-false, cases_Bool, true≢false}
use Rattle.rules.specs.Pieces.{Chunk, made}
use Rattle.sink_tests.specs.Logs.{LogValue, log_places, log_rule}

-- What was lost stays lost.
stays : (v : LogValue) (cs : List Chunk) → v.lost ≡ true → (made log_rule v cs).lost ≡ true
stays v [] h = h
stays v (c ∷ cs) h =
    stays (log_rule v c) cs
    (⊎_elim
    (λ (e : ltb (length v.pieces) log_places ≡ true). ap (λ (w : LogValue). w.lost) (cond-true (ltb (length v.pieces) log_places) _ _ e) ∙ h)
    (λ (e : ltb (length v.pieces) log_places ≡ false). ap (λ (w : LogValue). w.lost) (cond-false (ltb (length v.pieces) log_places) _ _ e))
    (cases_Bool (ltb (length v.pieces) log_places)))

-- Where nothing is lost, every piece is kept, in order.
pub keeps : (v : LogValue) (cs : List Chunk) → (made log_rule v cs).lost ≡ false → (made log_rule v cs).pieces ≡ v.pieces ++ cs
keeps v [] h = sym (append-nil v.pieces)
keeps v (c ∷ cs) h =
    ⊎_elim
    (λ (e : ltb (length v.pieces) log_places ≡ true).
    keeps (log_rule v c) cs h ∙ ap (λ (w : LogValue). w.pieces ++ cs) (cond-true (ltb (length v.pieces) log_places) _ _ e)
    ∙ append_assoc v.pieces (c ∷ []) cs)
    (λ (e : ltb (length v.pieces) log_places ≡ false).
    absurd (true≢false (sym (stays (log_rule v c) cs (ap (λ (w : LogValue). w.lost) (cond-false (ltb (length v.pieces) log_places) _ _ e))) ∙ h)))
    (cases_Bool (ltb (length v.pieces) log_places))
