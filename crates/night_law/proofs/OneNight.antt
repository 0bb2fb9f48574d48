-- A text has one night by a setup and at a moment.
use Rattle.std.proofs.Common.{◌≡◌, ℕ, List, sym, ap, subst, ◌∙◌}
use Rattle.hub_kinds.specs.declared.counters.Counters.{Counters}
use Rattle.env_index.specs.Words.{IndexValue, settled}
use Rattle.env_index.proofs.ForAbove.{index_is_one}
use Rattle.partner_setup.specs.declared.partner.Partner.{Partner}
use Rattle.partner_setup.specs.Setup.{SetupValue}
use Rattle.set_answers.specs.CheckedText.{CheckedInterchange, AreCheckedAs}
use Rattle.set_answers.specs.Settled.{settled_faults}
use Rattle.night_batches.specs.declared.night.Night.{Night}
use Rattle.night_batches.specs.Night.{AreForPartners, IsKnown, IsNight, IsNightOf, acks_of, box_of, next_of}
use Rattle.night_law.proofs.Once.{checked_once, pairs_once}

for_partners_once : {A : Type 0} (setup : SetupValue) (f : ℕ → Partner → A) (xs ys : List A)
    → AreForPartners setup f xs → AreForPartners setup f ys → xs ≡ ys
for_partners_once {A} setup f xs ys are were =
    pairs_once (λ (n : ℕ) (p : Partner) (x : A). x ≡ f n p) (λ n p x y is was. is ∙ sym was) setup.partners xs ys are were

parts_are_all : (a b : Night) → a.acks ≡ b.acks → a.boxes ≡ b.boxes → a.report ≡ b.report → a.next ≡ b.next → a ≡ b
parts_are_all a b acks boxes report next =
    ap (λ (v : List (List ℕ)). let n : Night = record { acks = v; boxes = a.boxes; report = a.report; next = a.next } in n) acks
    ∙ ap (λ (v : List (List ℕ)). let n : Night = record { acks = b.acks; boxes = v; report = a.report; next = a.next } in n) boxes
    ∙ ap (λ (v : List ℕ). let n : Night = record { acks = b.acks; boxes = b.boxes; report = v; next = a.next } in n) report
    ∙ ap (λ (v : List Counters). let n : Night = record { acks = b.acks; boxes = b.boxes; report = b.report; next = v } in n) next

-- of what is known there is one night
night_of_known : (text : List ℕ) (setup : SetupValue) (at : List ℕ) (known : List CheckedInterchange) (outside : ℕ) (a b : Night)
    → IsNightOf text setup at known outside a → IsNightOf text setup at known outside b → a ≡ b
night_of_known text setup at known outside a b is was = parts_are_all a b
    (for_partners_once setup (acks_of setup at known) a.acks b.acks is.acks was.acks)
    (for_partners_once setup (box_of text setup at known) a.boxes b.boxes is.boxes was.boxes)
    (is.report ∙ sym was.report)
    (for_partners_once setup (next_of text setup known) a.next b.next is.next was.next)

-- one thing is known of a text
pub known_once : (text : List ℕ) (setup : SetupValue) (a b : List CheckedInterchange) (m n : ℕ) → (is : IsKnown text setup a m)
    → (was : IsKnown text setup b n) → (a ≡ b) × (m ≡ n)
known_once text setup a b m n is was =
    let same : is.index ≡ was.index = index_is_one text is.index was.index is.read was.read in
    let there = subst (λ (i : IndexValue). AreCheckedAs text setup (settled i (settled_faults setup i.entries)).entries b)
    (sym same) was.answered in (
      checked_once text setup (settled is.index (settled_faults setup is.index.entries)).entries a b is.answered there,
      is.counted ∙ ap (λ (i : IndexValue). i.outside) same ∙ sym was.counted,
    )

pub night_once : (text : List ℕ) (setup : SetupValue) (at : List ℕ) (a b : Night) → IsNight text setup at a → IsNight text setup at b
    → a ≡ b
night_once text setup at a b is was =
    let same = known_once text setup is.known was.known is.outside was.outside is.is_known was.is_known in
    night_of_known text setup at is.known is.outside a b is.is
    (subst (λ (k : List CheckedInterchange). IsNightOf text setup at k is.outside b) (sym same.0)
    (subst (λ (n : ℕ). IsNightOf text setup at was.known n b) (sym same.1) was.is))
