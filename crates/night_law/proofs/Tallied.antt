-- The next counters of a night are those of its tallies, and so are a partner's first numbers.
use Rattle.std.proofs.Common.{◌≡◌, ◌<◌, ◌≤◌, ◌^◌, ℕ, Bool, true, false, ◌+◌, List, [], ◌∷◌, ◌++◌, length, map, refl, ap, sym, ◌∙◌}
use Rattle.std.proofs.Common.{arith}
use Rattle.std.specs.Prelude.{slice_get, Some, if◌then◌else◌}
use Rattle.std.proofs.lemmas.List.{length-map}
use Rattle.std.proofs.lemmas.List.FromFn.{get_or-map-range_with_len, length-map-range_with_len}
use Rattle.std.proofs.lemmas.Option.{slice_get_within, get_or_from_slice_get}
use Rattle.hub_kinds.specs.declared.counters.Counters.{Counters}
use Rattle.count_numbers.specs.declared.run.RunKey.{RunKey}
use Rattle.count_numbers.specs.Counted.{acknowledgments_in, groups_in, numbers_behind}
use Rattle.count_numbers.specs.Layout.{delivered_groups}
use Rattle.count_numbers.specs.Numbers.{numbers_of}
use Rattle.count_numbers.specs.Tallies.{entries_for, tallies_of}
use Rattle.count_numbers.specs.Tally.{PartnerTally, groups_in_one, keys_of, tally_of}
use Rattle.count_numbers.specs.declared.entry.Entry.{Entry}
use Rattle.count_numbers.specs.declared.entry.Entry.TheVariants.{Delivered}
use Rattle.count_numbers.specs.declared.entry.PartnerEntry.{PartnerEntry}
use Rattle.count_numbers.specs.declared.numbering.PartnerNumbers.{PartnerNumbers}
use Rattle.count_numbers.proofs.ForAbove.{numbers_counted}
use Rattle.answered_sets.specs.Judged.{PlacedValue}
use Rattle.mailbox.specs.Mailbox.{group_total}
use Rattle.mailbox.specs.Numbered.{group_key_of}
use Rattle.mailbox.proofs.ForAbove.{groups_are_counted}
use Rattle.partner_setup.specs.declared.partner.Partner.{Partner}
use Rattle.set_answers.specs.Acknowledgments.{has_reports}
use Rattle.set_answers.specs.CheckedText.{CheckedInterchange, acknowledged_to, acknowledgment_of, groups_to}
use Rattle.night_batches.specs.Night.{counters_by, sets_to}
use Rattle.night_law.specs.Tallied.{AreCountersTallied, AreNumbersTallied, entry_of, night_numbers}

abbrev deliveries : List PlacedValue → List Entry
deliveries sets = map (λ (set : PlacedValue). Delivered (group_key_of set)) sets

abbrev entries : List CheckedInterchange → List PlacedValue → List Entry
entries xs sets = map entry_of xs ++ deliveries sets

none_acknowledged : (sets : List PlacedValue) → acknowledgments_in (deliveries sets) ≡ 0
none_acknowledged [] = refl
none_acknowledged (set ∷ sets) = none_acknowledged sets

acknowledgments_counted : (xs : List CheckedInterchange) (sets : List PlacedValue) → acknowledgments_in (entries xs sets) ≡ length xs
acknowledgments_counted [] sets = none_acknowledged sets
acknowledgments_counted (x ∷ xs) sets = ap (λ (n : ℕ). 1 + n) (acknowledgments_counted xs sets) ∙ omega arith

none_grouped : (sets : List PlacedValue) → groups_in (deliveries sets) ≡ 0
none_grouped [] = refl
none_grouped (set ∷ sets) = none_grouped sets

one_grouped : (b : Bool) → groups_in_one b ≡ (if b then 1 else 0)
one_grouped true = refl
one_grouped false = refl

groups_counted : (xs : List CheckedInterchange) (sets : List PlacedValue) → groups_in (entries xs sets) ≡ groups_to xs
groups_counted [] sets = none_grouped sets
groups_counted (x ∷ xs) sets =
    ap (λ (n : ℕ). n + groups_in (entries xs sets)) (one_grouped (has_reports (acknowledgment_of x)))
    ∙ ap (λ (n : ℕ). (if has_reports (acknowledgment_of x) then 1 else 0) + n) (groups_counted xs sets)

keys_delivered : (sets : List PlacedValue) → keys_of (deliveries sets) ≡ map group_key_of sets
keys_delivered [] = refl
keys_delivered (set ∷ sets) = ap (λ (keys : List RunKey). group_key_of set ∷ keys) (keys_delivered sets)

keys_behind : (xs : List CheckedInterchange) (sets : List PlacedValue) → keys_of (entries xs sets) ≡ map group_key_of sets
keys_behind [] sets = keys_delivered sets
keys_behind (x ∷ xs) sets = keys_behind xs sets

-- the next counters, counted by keys, are those counted by sets
next_counted : (p : Partner) (acknowledgments groups : ℕ) (sets : List PlacedValue)
    → (numbers_behind p.counters p.cap acknowledgments groups (map group_key_of sets)).next
    ≡ counters_by p.counters p.cap acknowledgments groups (length sets) (group_total p.cap sets)
next_counted p acknowledgments groups sets =
    ap (λ (n : ℕ). counters_by p.counters p.cap acknowledgments groups n (delivered_groups p.cap (map group_key_of sets)))
    (length-map sets group_key_of)
    ∙ ap (counters_by p.counters p.cap acknowledgments groups (length sets)) (sym (groups_are_counted p.cap sets))

-- a partner's numbers by the counts of its entries
told : (es : List Entry) (p : Partner) (acknowledgments groups : ℕ) (sets : List PlacedValue) → 1 ≤ p.cap → length es < 2 ^ 64
    → acknowledgments_in es ≡ acknowledgments → groups_in es ≡ groups → keys_of es ≡ map group_key_of sets
    → numbers_of (tally_of es) p.counters p.cap ≡ numbers_behind p.counters p.cap acknowledgments groups (map group_key_of sets)
told es p acknowledgments groups sets some few as_many as_many_groups same =
    numbers_counted es few p.counters p.cap some
    ∙ ap (λ (a : ℕ). numbers_behind p.counters p.cap a (groups_in es) (keys_of es)) as_many
    ∙ ap (λ (g : ℕ). numbers_behind p.counters p.cap acknowledgments g (keys_of es)) as_many_groups
    ∙ ap (λ (keys : List RunKey). numbers_behind p.counters p.cap acknowledgments groups keys) same

abbrev next_in : PartnerNumbers → Counters
next_in numbers = numbers.next

pub counters_tallied : AreCountersTallied
counters_tallied text setup known place partner some few =
    let xs : List CheckedInterchange = acknowledged_to place known in
    let sets : List PlacedValue = sets_to text setup known place in
    ap next_in (told (entries xs sets) partner (length xs) (groups_to xs) sets some few (acknowledgments_counted xs sets)
    (groups_counted xs sets) (keys_behind xs sets))
    ∙ next_counted partner (length xs) (groups_to xs) sets

-- the tally of a partner, at its place among those of all
tally_at_place : (n place : ℕ) (es : List PartnerEntry) (tally : PartnerTally) → slice_get (tallies_of n es) place ≡ Some tally
    → tally ≡ tally_of (entries_for place es)
tally_at_place n place es tally at =
    let of : ℕ → PartnerTally = λ p. tally_of (entries_for p es) in
    let within : place < length (tallies_of n es) = slice_get_within (tallies_of n es) place tally at in
    let few : place < n = omega (arith, length-map-range_with_len of 0 n) in
    sym (get_or_from_slice_get (tallies_of n es) place tally tally at)
    ∙ get_or-map-range_with_len of 0 n place place tally few (omega arith)

pub numbers_tallied : AreNumbersTallied
numbers_tallied text setup known place partner n es tally some are few at =
    let xs : List CheckedInterchange = acknowledged_to place known in
    let sets : List PlacedValue = sets_to text setup known place in
    let whole : numbers_of tally partner.counters partner.cap ≡ night_numbers text setup known place partner =
    ap (λ (t : PartnerTally). numbers_of t partner.counters partner.cap) (tally_at_place n place es tally at)
    ∙ told (entries_for place es) partner (length xs) (groups_to xs) sets some few are.acknowledgments are.groups are.keys in
    (whole, ap next_in whole ∙ next_counted partner (length xs) (groups_to xs) sets)
