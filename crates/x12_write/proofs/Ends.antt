-- A header that is sent, before its number and after it.
use Rattle.std.proofs.Common.{◌≡◌, ◌++◌, [], ◌∷◌, List, ℕ, append_assoc}
use Rattle.std.specs.Prelude.{codes}
use Rattle.std.specs.List.{flat_map}
use Rattle.std.proofs.lemmas.List.Concat.{flat_map-append}
use Rattle.x12_write.specs.declared.envelope.Envelope.{Envelope}
use Rattle.x12_write.specs.Header.{header_text, party_elements}
use Rattle.x12_write.specs.Number.{padded_number}
use Rattle.x12_write.specs.Outbound.{back_text, front_text, moment_elements}

-- the elements before one and after it, with what stands around them
around : (s : ℕ) (id number end : List ℕ) (xs ys zs : List (List ℕ))
    → (id ++ (flat_map (λ x. s ∷ x) (xs ++ ys) ++ s ∷ [])) ++ (number ++ (flat_map (λ x. s ∷ x) zs ++ end))
    ≡ id ++ (flat_map (λ x. s ∷ x) (xs ++ (ys ++ number ∷ zs)) ++ end)
around s id number end xs ys zs = simp (flat_map-append, append_assoc)

-- it is the two with the number between them
pub header-of_ends : (e : Envelope) (at : List ℕ) (number : ℕ)
    → front_text e at ++ (padded_number 9 number ++ back_text e) ≡ header_text e at number
header-of_ends e at number =
    around e.delims.element (codes "ISA") (padded_number 9 number) (e.delims.terminator ∷ []) (party_elements e) (moment_elements e at)
    (codes "0" ∷ (e.usage ∷ []) ∷ (e.delims.component ∷ []) ∷ [])

-- a text after another, by its parts
pub behind : (out mid new front number back back' : List ℕ) → mid ≡ out ++ front → back ≡ back' → new ≡ mid ++ (number ++ back)
    → new ≡ out ++ (front ++ (number ++ back'))
behind out mid new front number back back' first same second = rw (second, first, same) (append_assoc out front (number ++ back'))

-- a header's ends, whatever the number between them
pub ends-text : (e : Envelope) (at front back : List ℕ) → front ≡ front_text e at → back ≡ back_text e
    → (number : ℕ) → front ++ (padded_number 9 number ++ back) ≡ header_text e at number
ends-text e at front back first last number = rw (first, last) (header-of_ends e at number)
