-- Numbers, runs and tallies on examples.
use Rattle.std.specs.Prelude.{◌≡◌, [], ◌∷◌, refl, codes, ℕ, List, Bool, false, true}
use Rattle.hub_kinds.specs.declared.counters.Counters.{Counters}
use Rattle.count_numbers.specs.declared.entry.Entry.{Entry}
use Rattle.count_numbers.specs.declared.entry.PartnerEntry.{PartnerEntry}
use Rattle.count_numbers.specs.Counted.{acknowledgments_in, groups_in, numbers_behind}
use Rattle.count_numbers.specs.Tallies.{all_joined, entries_for, tallies_between, tallies_of}
use Rattle.count_numbers.specs.TallyPieces.{tally_between}
use Rattle.count_numbers.specs.declared.run.RunKey.{RunKey}
use Rattle.count_numbers.specs.declared.run.Run.{Run}
use Rattle.count_numbers.specs.Num.{num}
use Rattle.count_numbers.specs.declared.number.TheConstants.{GREATEST_NUMBER}
use Rattle.count_numbers.specs.Numbers.{numbers_of}
use Rattle.count_numbers.specs.Runs.{same_key, together, runs_of, join_runs}
use Rattle.count_numbers.specs.Tally.{Acknowledged, Delivered, PartnerTally, joined, tally_of}
use Rattle.count_numbers.specs.Layout.{delivered_groups, delivered_groups_by, group_count, interchange_count, interchanges_over, layout_by}

greatest_number : GREATEST_NUMBER ≡ 999999999
greatest_number = refl

first_number : num 1 0 ≡ 1
first_number = refl

number_behind : num 7 5 ≡ 12
number_behind = refl

one_follows_the_greatest : num 999999998 2 ≡ 1
one_follows_the_greatest = refl

the_greatest_is_given : num 999999998 1 ≡ 999999999
the_greatest_is_given = refl

all_round : num 4 999999999 ≡ 4
all_round = refl

abbrev key : (sender : ℕ) → RunKey
key sender = record { sender = sender; functional_id = codes "PO"; version = codes "005010" }

abbrev of_another_version : RunKey
of_another_version = record { sender = 0; functional_id = codes "PO"; version = codes "004010" }

abbrev of_another_kind : RunKey
of_another_kind = record { sender = 0; functional_id = codes "SH"; version = codes "005010" }

abbrev run : ℕ → RunKey → Run
run sets key = record { key = key; sets = sets }

keys_are_the_same : same_key (key 0) (key 0) ≡ true
keys_are_the_same = refl

keys_of_two_senders : same_key (key 0) (key 1) ≡ false
keys_of_two_senders = refl

keys_of_two_kinds : same_key (key 0) of_another_kind ≡ false
keys_of_two_kinds = refl

keys_of_two_versions : same_key (key 0) of_another_version ≡ false
keys_of_two_versions = refl

runs_are_maximal : runs_of (key 0 ∷ key 0 ∷ key 1 ∷ key 0 ∷ []) ≡ run 2 (key 0) ∷ run 1 (key 1) ∷ run 1 (key 0) ∷ []
runs_are_maximal = refl

no_runs : runs_of [] ≡ []
no_runs = refl

-- at a cut, two runs of one key are one
joined_at_a_cut : join_runs (run 2 (key 0) ∷ []) (run 3 (key 0) ∷ []) ≡ run 5 (key 0) ∷ []
joined_at_a_cut = refl

apart_at_a_cut : join_runs (run 2 (key 0) ∷ []) (run 3 (key 1) ∷ []) ≡ run 2 (key 0) ∷ run 3 (key 1) ∷ []
apart_at_a_cut = refl

-- under a cap of 2, these are delivered interchanges of 2, 2 and 1 sets
laid_out : layout_by 2 (run 5 (key 0) ∷ []) ≡ (run 2 (key 0) ∷ []) ∷ (run 2 (key 0) ∷ []) ∷ (run 1 (key 0) ∷ []) ∷ []
laid_out = refl

two_groups_in_an_interchange :
    layout_by 3 (run 2 (key 0) ∷ run 2 (key 1) ∷ []) ≡ (run 2 (key 0) ∷ run 1 (key 1) ∷ []) ∷ (run 1 (key 1) ∷ []) ∷ []
two_groups_in_an_interchange = refl

five_under_two : interchange_count 2 5 ≡ 3
five_under_two = refl

four_under_two : interchange_count 2 4 ≡ 2
four_under_two = refl

none_under_two : interchange_count 2 0 ≡ 0
none_under_two = refl

abbrev tally : (acknowledgments groups : ℕ) → List Run → PartnerTally
tally acknowledgments groups runs = record { acknowledgments = acknowledgments; groups = groups; runs = runs }

abbrev next : (interchange group set : ℕ) → Counters
next interchange group set = record { interchange = interchange; group = group; set = set }

sums_end : together 18446744073709551615 1 ≡ 18446744073709551615
sums_end = refl

-- one of two acknowledgments has a group
a_tally : tally_of (Acknowledged true ∷ Delivered (key 0) ∷ Acknowledged false ∷ Delivered (key 0) ∷ Delivered (key 1) ∷ [])
    ≡ record { acknowledgments = 2; groups = 1; runs = run 2 (key 0) ∷ run 1 (key 1) ∷ [] }
a_tally = refl

-- under a cap of 2 the second run lies in two interchanges, the first of which it shares, and the third in one
groups_are_counted : delivered_groups 2 (key 0 ∷ key 1 ∷ key 1 ∷ key 1 ∷ key 0 ∷ []) ≡ 4
groups_are_counted = refl

groups_are_counted_by_runs : delivered_groups_by 2 (run 1 (key 0) ∷ run 3 (key 1) ∷ run 1 (key 0) ∷ []) ≡ 4
groups_are_counted_by_runs = refl

groups_are_told_by_runs : group_count 2 (run 1 (key 0) ∷ run 3 (key 1) ∷ run 1 (key 0) ∷ []) ≡ 4
groups_are_told_by_runs = refl

no_groups : group_count 2 [] ≡ 0
no_groups = refl

-- after one set, three sets lie in the first and the second interchange of two each, after two in the second and the third
over_two : interchanges_over 2 1 3 ≡ 2
over_two = refl

over_two_from_a_start : interchanges_over 2 2 3 ≡ 2
over_two_from_a_start = refl

over_three : interchanges_over 2 1 4 ≡ 3
over_three = refl

-- one acknowledgment and three sets under a cap of 1: interchanges 999999998, and then 999999999, 1 and 2; groups 999999999, and
-- then 1, 2 and 3
numbered : numbers_of (tally 1 1 (run 3 (key 0) ∷ [])) (next 999999998 999999999 1) 1
    ≡ record {
      first_acknowledgment = 999999998;
      first_delivered = 999999999;
      first_group = 999999999;
      first_delivered_group = 1;
      first_set = 1;
      delivered = 3;
      groups = 3;
      sets = 3;
      next = next 3 4 4;
    }
numbered = refl

-- nothing leaves the counters as they are
unnumbered : numbers_of (tally 0 0 []) (next 8 5 9) 2
    ≡ record {
      first_acknowledgment = 8;
      first_delivered = 8;
      first_group = 5;
      first_delivered_group = 5;
      first_set = 9;
      delivered = 0;
      groups = 0;
      sets = 0;
      next = next 8 5 9;
    }
unnumbered = refl

-- an acknowledgment without a group takes no group's number
without_a_group : numbers_of (tally 2 1 (run 1 (key 0) ∷ [])) (next 1 1 1) 2
    ≡ record {
      first_acknowledgment = 1;
      first_delivered = 3;
      first_group = 1;
      first_delivered_group = 2;
      first_set = 1;
      delivered = 1;
      groups = 1;
      sets = 1;
      next = next 4 3 2;
    }
without_a_group = refl

abbrev some_entries : List Entry
some_entries = Delivered (key 0) ∷ Delivered (key 0) ∷ Acknowledged true ∷ Delivered (key 0) ∷ Delivered (key 1) ∷ []

-- a run goes on after a cut
tally_in_front : tally_between tt some_entries 0 2 ≡ tally 0 0 (run 2 (key 0) ∷ [])
tally_in_front = refl

tally_behind : tally_between tt some_entries 2 5 ≡ tally 1 1 (run 1 (key 0) ∷ run 1 (key 1) ∷ [])
tally_behind = refl

tally_of_both :
    joined (tally_between tt some_entries 0 2) (tally_between tt some_entries 2 5) ≡ tally 1 1 (run 3 (key 0) ∷ run 1 (key 1) ∷ [])
tally_of_both = refl

-- two tallies whose only runs have one key make one run of both
one_run_of_both : joined (tally 0 0 (run 2 (key 0) ∷ [])) (tally 0 0 (run 3 (key 0) ∷ [])) ≡ tally 0 0 (run 5 (key 0) ∷ [])
one_run_of_both = refl

-- which under a cap of 2 is delivered in interchanges of 2, 2 and 1 sets
laid_out_from_both :
    layout_by 2 (joined (tally 0 0 (run 2 (key 0) ∷ [])) (tally 0 0 (run 3 (key 0) ∷ []))).runs
    ≡ (run 2 (key 0) ∷ []) ∷ (run 2 (key 0) ∷ []) ∷ (run 1 (key 0) ∷ []) ∷ []
laid_out_from_both = refl

-- a run ends where another key follows it
another_key_behind_a_cut :
    joined (tally 0 0 (run 2 (key 0) ∷ [])) (tally 1 1 (run 1 (key 1) ∷ [])) ≡ tally 1 1 (run 2 (key 0) ∷ run 1 (key 1) ∷ [])
another_key_behind_a_cut = refl

abbrev happens : ℕ → Entry → PartnerEntry
happens partner entry = record { partner = partner; entry = entry }

-- what happens for three partners, in the order of the text
abbrev some_happenings : List PartnerEntry
some_happenings =
    happens 1 (Delivered (key 0)) ∷ happens 0 (Acknowledged true) ∷ happens 2 (Acknowledged false) ∷ happens 1 (Delivered (key 0))
    ∷ happens 0 (Delivered (key 1)) ∷ []

for_the_first : entries_for 0 some_happenings ≡ Acknowledged true ∷ Delivered (key 1) ∷ []
for_the_first = refl

for_the_second : entries_for 1 some_happenings ≡ Delivered (key 0) ∷ Delivered (key 0) ∷ []
for_the_second = refl

for_nobody : entries_for 3 some_happenings ≡ []
for_nobody = refl

of_two_partners : tallies_of 2 some_happenings ≡ tally 1 1 (run 1 (key 1) ∷ []) ∷ tally 0 0 (run 2 (key 0) ∷ []) ∷ []
of_two_partners = refl

of_no_partner : tallies_of 0 some_happenings ≡ []
of_no_partner = refl

in_front_of_two : tallies_between 2 some_happenings 0 3 ≡ tally 1 1 [] ∷ tally 0 0 (run 1 (key 0) ∷ []) ∷ []
in_front_of_two = refl

-- what happens for one partner between two sets of another leaves their run one
gathered_for_two :
    all_joined (tallies_between 2 some_happenings 0 3) (tallies_between 2 some_happenings 3 5) ≡ tallies_of 2 some_happenings
gathered_for_two = refl

acknowledgments_counted : acknowledgments_in some_entries ≡ 1
acknowledgments_counted = refl

-- of three acknowledgments two have a group
groups_counted : groups_in (Acknowledged true ∷ Acknowledged false ∷ Delivered (key 0) ∷ Acknowledged true ∷ []) ≡ 2
groups_counted = refl

-- two acknowledgments, one of them with a group, and four sets, three at most in an interchange: the interchanges 8 and 9 are
-- delivered, with the groups 1 and 2 and the group 3
four_sets_numbered : numbers_behind (next 6 999999999 9) 3 2 1 (key 0 ∷ key 1 ∷ key 1 ∷ key 1 ∷ [])
    ≡ record {
      first_acknowledgment = 6;
      first_delivered = 8;
      first_group = 999999999;
      first_delivered_group = 1;
      first_set = 9;
      delivered = 2;
      groups = 3;
      sets = 4;
      next = next 10 4 13;
    }
four_sets_numbered = refl

nothing_numbered : numbers_behind (next 6 2 9) 3 0 0 []
    ≡ record {
      first_acknowledgment = 6;
      first_delivered = 6;
      first_group = 2;
      first_delivered_group = 2;
      first_set = 9;
      delivered = 0;
      groups = 0;
      sets = 0;
      next = next 6 2 9;
    }
nothing_numbered = refl
