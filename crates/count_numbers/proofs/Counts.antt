-- Fewer than 2^64 acknowledgments, their groups and sets are as many as a tally gives.
use Rattle.std.proofs.Common.{◌≡◌, ◌<◌, ◌≤◌, ◌+◌, ◌^◌, ℕ, Bool, true, false, List, [], ◌∷◌, length, refl, ap, ◌∙◌, arith}
use Rattle.hub_kinds.specs.declared.counters.Counters.{Counters}
use Rattle.count_numbers.specs.declared.numbering.PartnerNumbers.{PartnerNumbers}
use Rattle.count_numbers.specs.Tally.{Entry, Acknowledged, Delivered, acknowledged_groups, acknowledgment_count, groups_in_one, keys_of}
use Rattle.count_numbers.specs.Layout.{delivered_groups, group_count, interchange_count, set_count}
use Rattle.count_numbers.specs.Num.{num}
use Rattle.count_numbers.specs.Runs.{runs_of}
use Rattle.count_numbers.specs.Counted.{acknowledgments_in, groups_in, NumbersAreCounted}
use Rattle.count_numbers.proofs.Expanding.{sets_counted}
use Rattle.count_numbers.proofs.Grouping.{groups_counted}

acks_bound : (es : List Entry) → acknowledgments_in es ≤ length es
acks_bound [] = omega arith
acks_bound (Acknowledged has_group ∷ es) = let rest = acks_bound es in omega arith
acks_bound (Delivered key ∷ es) = let rest = acks_bound es in omega arith

acks_told : (es : List Entry) → length es < 2 ^ 64 → acknowledgment_count es ≡ acknowledgments_in es
acks_told [] h = refl
acks_told (Acknowledged has_group ∷ es) h =
    let bound = acks_bound es in
    let rest = acks_told es (omega arith) in
    omega arith
acks_told (Delivered key ∷ es) h = acks_told es (omega arith)

at_most_one : (has_group : Bool) → groups_in_one has_group ≤ 1
at_most_one true = omega arith
at_most_one false = omega arith

groups_bound : (es : List Entry) → groups_in es ≤ length es
groups_bound [] = omega arith
groups_bound (Acknowledged has_group ∷ es) = let rest = groups_bound es in let one = at_most_one has_group in omega arith
groups_bound (Delivered key ∷ es) = let rest = groups_bound es in omega arith

groups_told : (es : List Entry) → length es < 2 ^ 64 → acknowledged_groups es ≡ groups_in es
groups_told [] h = refl
groups_told (Acknowledged has_group ∷ es) h =
    let bound = groups_bound es in
    let one = at_most_one has_group in
    let rest = groups_told es (omega arith) in
    omega arith
groups_told (Delivered key ∷ es) h = groups_told es (omega arith)

keys_bound : (es : List Entry) → length (keys_of es) ≤ length es
keys_bound [] = omega arith
keys_bound (Acknowledged has_group ∷ es) = let rest = keys_bound es in omega arith
keys_bound (Delivered key ∷ es) = let rest = keys_bound es in omega arith

-- a partner's numbers by five counts
abbrev numbers_by : Counters → (acknowledgments groups interchanges delivered sets : ℕ) → PartnerNumbers
numbers_by counters acknowledgments groups interchanges delivered sets = record {
  first_acknowledgment = counters.interchange;
  first_delivered = num counters.interchange acknowledgments;
  first_group = counters.group;
  first_delivered_group = num counters.group groups;
  first_set = counters.set;
  delivered = interchanges;
  groups = delivered;
  sets = sets;
  next = record {
    interchange = num counters.interchange (acknowledgments + interchanges);
    group = num counters.group (groups + delivered);
    set = num counters.set sets;
  };
}

pub numbers_counted : NumbersAreCounted
numbers_counted es h counters cap some =
    let keys = keys_of es in
    let bound = keys_bound es in
    let groups = groups_counted cap keys some (omega arith) in
    ap (λ (a : ℕ). numbers_by counters a (acknowledged_groups es) (interchange_count cap (set_count (runs_of keys)))
    (group_count cap (runs_of keys)) (set_count (runs_of keys))) (acks_told es h)
    ∙ ap (λ (g : ℕ). numbers_by counters (acknowledgments_in es) g (interchange_count cap (set_count (runs_of keys)))
    (group_count cap (runs_of keys)) (set_count (runs_of keys))) (groups_told es h)
    ∙ ap (λ (d : ℕ). numbers_by counters (acknowledgments_in es) (groups_in es) (interchange_count cap (set_count (runs_of keys))) d
    (set_count (runs_of keys))) groups.1
    ∙ ap (λ (n : ℕ). numbers_by counters (acknowledgments_in es) (groups_in es) (interchange_count cap n) (delivered_groups cap keys) n)
    (sets_counted keys (omega arith))
