-- How many acknowledgments there can be.
use Rattle.std.proofs.Common.{◌≡◌, ◌<◌, ◌≤◌, ℕ, ◌+◌, Bool, true, false, if◌then◌else◌, List, [], ◌∷◌, Some, length}
use Rattle.std.proofs.Common.{refl, sym, ap}
use Rattle.std.proofs.Common.{◌∙◌, arith}
use Rattle.std.specs.Prelude.{slice_get}
use Rattle.std.proofs.lemmas.Option.{slice_get_within}
use Rattle.partner_setup.specs.Setup.{SetupValue}
use Rattle.set_answers.specs.CheckedText.{CheckedInterchange, AreAcknowledgments, HaveRoom, SentValues, acknowledged_to}
use Rattle.set_answers.specs.CheckedText.{acknowledgments_to}
use Rattle.set_answers.specs.CheckedText.{acknowledgment_of, groups_to, is_acknowledged_to}
use Rattle.set_answers.specs.Acknowledgments.{acknowledgment_group_count, has_reports}
use Rattle.set_answers.specs.SentAfter.{AreSentAfter, CanCount, sent_after}
use Rattle.set_answers.proofs.Putting.{there_is}
use Rattle.std.proofs.lemmas.List.Sums.{length-filter, count_by-le-length}

-- an acknowledgment has at most one group
one_at_most : (x : CheckedInterchange) (b : Bool) → has_reports (acknowledgment_of x) ≡ b → acknowledgment_group_count
    (acknowledgment_of x) ≤ 1
one_at_most x true is =
    let one : acknowledgment_group_count (acknowledgment_of x) ≡ 1 = ap (λ (b : Bool). if b then 1 else 0) is in
    omega (arith, one)
one_at_most x false is =
    let none : acknowledgment_group_count (acknowledgment_of x) ≡ 0 = ap (λ (b : Bool). if b then 1 else 0) is in
    omega (arith, none)

few_groups : (xs : List CheckedInterchange) → groups_to xs ≤ length xs
few_groups [] = omega arith
few_groups (x ∷ xs) = omega (arith, one_at_most x (has_reports (acknowledgment_of x)) refl, few_groups xs)

-- no more acknowledgments than interchanges so far
pub room_left : (setup : SetupValue) (at : List ℕ) (done : List CheckedInterchange) (files : List SentValues) (place : ℕ)
    (f : SentValues) (n : ℕ)
    → AreAcknowledgments setup at done files → slice_get files place ≡ Some f → length done ≡ n → f.count ≤ n
room_left setup at done files place f n are there counted =
    let within : place < length setup.partners = omega (arith, slice_get_within files place f there, are.count) in
    let partner = there_is setup.partners place within in
    let kept : List CheckedInterchange = acknowledged_to place done in
    let same : Some f ≡ Some (acknowledgments_to setup at done place partner.0) = sym there ∙ are.each place partner.0 partner.1 in
    let value : f ≡ acknowledgments_to setup at done place partner.0 = cc in
    let count : f.count ≡ length kept = ap (λ (v : SentValues). v.count) value in
    omega (arith, count, length-filter (is_acknowledged_to place) done, count_by-le-length (is_acknowledged_to place) done, counted)

-- no more groups of them
pub groups_left : (setup : SetupValue) (at : List ℕ) (done : List CheckedInterchange) (files : List SentValues) (place : ℕ)
    (f : SentValues) (n : ℕ)
    → AreAcknowledgments setup at done files → slice_get files place ≡ Some f → length done ≡ n → f.groups ≤ n
groups_left setup at done files place f n are there counted =
    let within : place < length setup.partners = omega (arith, slice_get_within files place f there, are.count) in
    let partner = there_is setup.partners place within in
    let kept : List CheckedInterchange = acknowledged_to place done in
    let same : Some f ≡ Some (acknowledgments_to setup at done place partner.0) = sym there ∙ are.each place partner.0 partner.1 in
    let value : f ≡ acknowledgments_to setup at done place partner.0 = cc in
    let groups : f.groups ≡ groups_to kept = ap (λ (v : SentValues). v.groups) value in
    omega (
      arith,
      groups,
      few_groups kept,
      length-filter (is_acknowledged_to place) done,
      count_by-le-length (is_acknowledged_to place) done,
      counted,
    )

pub can_count : (setup : SetupValue) (at : List ℕ) (n : ℕ) (files : List SentValues) → HaveRoom setup at n files → CanCount n files
can_count setup at n files room q f there =
    let count = room_left setup at room.0 files q f (length room.0) room.1 there refl in
    let groups = groups_left setup at room.0 files q f (length room.0) room.1 there refl in
    (omega (arith, count, room.2), omega (arith, groups, room.2))

-- for what is left of m interchanges, once these are acknowledged
pub room_after : (setup : SetupValue) (at : List ℕ) (answered : List CheckedInterchange) (old new : List SentValues) (m k : ℕ)
    → length old ≡ length setup.partners → AreSentAfter setup at answered old new → CanCount m old → length answered + k ≤ m
    → CanCount k new
room_after setup at answered old new m k counted after room fits q f there =
    let within : q < length old = omega (arith, slice_get_within new q f there, after.count) in
    let partner = there_is setup.partners q (omega (arith, within, counted)) in
    let was = there_is old q within in
    let kept : List CheckedInterchange = acknowledged_to q answered in
    let same : Some f ≡ Some (sent_after setup partner.0 at was.0 kept) =
    sym there ∙ after.each q partner.0 was.0 partner.1 was.1 in
    let value : f ≡ sent_after setup partner.0 at was.0 kept = cc in
    let count : f.count ≡ was.0.count + length kept = ap (λ (v : SentValues). v.count) value in
    let groups : f.groups ≡ was.0.groups + groups_to kept = ap (λ (v : SentValues). v.groups) value in
    let had = room q was.0 was.1 in
    let few = length-filter (is_acknowledged_to q) answered in
    let fewer = count_by-le-length (is_acknowledged_to q) answered in
    (omega (arith, count, had.0, few, fewer, fits), omega (arith, groups, had.1, few_groups kept, few, fewer, fits))
