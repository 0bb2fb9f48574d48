-- A text that begins with a header still does with more after it.
use Rattle.std.proofs.Common.{◌≡◌, ℕ, List, ◌++◌, sym, ap, subst, ◌∙◌, append_assoc}
use Rattle.x12_write.specs.declared.envelope.Envelope.{Envelope}
use Rattle.x12_write.specs.Sendable.{IsReadAs, BeginsWithHeader}

pub begins-longer : (e : Envelope) (at : List ℕ) (number : ℕ) (text more longer : List ℕ) (place : ℕ) → longer ≡ text ++ more
    → BeginsWithHeader e at number text place → BeginsWithHeader e at number longer place
begins-longer e at number text more longer place is begins = λ sendable most behind.
    let moved : longer ++ behind ≡ text ++ (more ++ behind) = ap (λ (t : List ℕ). t ++ behind) is ∙ append_assoc text more behind in
    subst (λ (t : List ℕ). IsReadAs e at number t place) (sym moved) (begins sendable most (more ++ behind))
