-- One header more is made.
use Rattle.std.proofs.Common.{◌≡◌, ◌<◌, ℕ, ◌==◌, Bool, true, false, List, Option, Some, length, refl, sym, ap, subst, ◌∙◌}
use Rattle.std.proofs.Common.{eqb-true, eq-eqb, true≢false}
use Rattle.std.specs.Prelude.{option_map, slice_get, slice_set}
use Rattle.x12_write.specs.declared.envelope.Envelope.{Envelope}
use Rattle.x12_write.specs.Outbound.{AreHeaderEnds, HeaderEnds}
use Rattle.partner_setup.specs.Envelopes.{envelope_to}
use Rattle.partner_setup.specs.Setup.{SetupValue}
use Rattle.set_answers.specs.Headers.{AreHeadersTo, IsHeaderTo}
use Rattle.set_answers.proofs.Putting.{there_is, set_here, set_there, length_set}

-- the header of the envelope to a partner
pub header-to : (setup : SetupValue) (at : List ℕ) (place : ℕ) (e : Envelope) (h : HeaderEnds)
    → option_map (envelope_to setup) (slice_get setup.partners place) ≡ Some e → AreHeaderEnds e at h → IsHeaderTo setup at place h
header-to setup at place e h is ends = λ p there.
    let some : Some e ≡ Some (envelope_to setup p) = sym is ∙ ap (option_map (envelope_to setup)) there in
    let same : e ≡ envelope_to setup p = cc in
    subst (λ (x : Envelope). AreHeaderEnds x at h) same ends

-- at its place it is there
pub put-there : (headers : List (Option HeaderEnds)) (place : ℕ) (h : HeaderEnds) → place < length headers
    → slice_get (slice_set headers place (Some h)) place ≡ Some (Some h)
put-there headers place h within =
    let before = there_is headers place within in
    set_here headers place before.0 (Some h) before.1

-- beside those that are made
pub header-more : (setup : SetupValue) (at : List ℕ) (headers : List (Option HeaderEnds)) (place : ℕ) (h : HeaderEnds)
    → place < length headers → AreHeadersTo setup at headers → IsHeaderTo setup at place h
    → AreHeadersTo setup at (slice_set headers place (Some h))
header-more setup at headers place h within are is = record {
  count = length_set headers place (Some h) ∙ are.count;
  each = λ n g there. each n g there (place == n) refl;
}
  where
    each : (n : ℕ) (g : HeaderEnds) → slice_get (slice_set headers place (Some h)) n ≡ Some (Some g)
        → (b : Bool) → (place == n) ≡ b → IsHeaderTo setup at n g
    each n g there true same =
        let here : place ≡ n = eqb-true place n same in
        let some : Some (Some h) ≡ Some (Some g) =
        sym (put-there headers place h within) ∙ ap (slice_get (slice_set headers place (Some h))) here ∙ there in
        let equal : h ≡ g = cc in
        subst (λ (x : HeaderEnds). IsHeaderTo setup at n x) equal (subst (λ (m : ℕ). IsHeaderTo setup at m h) here is)
    each n g there false apart =
        are.each n g (sym (set_there headers place n (Some h) (λ same. true≢false (sym (eq-eqb place n same) ∙ apart))) ∙ there)
