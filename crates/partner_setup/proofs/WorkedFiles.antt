-- What setup files and counters files hold, on examples: the receivers of a route, and counters in both versions.
use Rattle.std.specs.Prelude.{ℕ, zero, suc, ◌≡◌, true, pos, negsuc, List, [], ◌∷◌, codes, refl, Some, None, Ok, Err}
use Rattle.toml.specs.Data.{Data, string, integer, boolean, array, table, Items, no_items, item, Members, no_members, member}
use Rattle.toml_keys.specs.Refusals.{missing, wrong_kind, unknown}
use Rattle.partner_setup.specs.CountersFile.{counter_in, counters_of_table, first_counter_of, second_counter_of, counters_top, version_in}
use Rattle.partner_setup.specs.SetupFile.{receivers_in, route_in, route_of}
use Rattle.partner_setup.specs.declared.receivers.TheConstants.{MOST_RECEIVERS}
use Rattle.partner_setup.specs.declared.values.Version.TheVariants as versions

most_receivers : MOST_RECEIVERS ≡ 16
most_receivers = refl

-- so many items `A`
abbrev pub items : ℕ → Items
items zero = no_items
items (suc n) = item (string (codes "A")) (items n)

abbrev pub texts : ℕ → List (List ℕ)
texts zero = []
texts (suc n) = codes "A" ∷ texts n

one_text : receivers_in (string (codes "BOLT")) ≡ Some (codes "BOLT" ∷ [])
one_text = refl

list_of_one : receivers_in (array (items 1)) ≡ Some (texts 1)
list_of_one = refl

-- in the order of the list
list_of_two : receivers_in (array (item (string (codes "BOLT")) (item (string (codes "ACME")) no_items)))
    ≡ Some (codes "BOLT" ∷ codes "ACME" ∷ [])
list_of_two = refl

empty_list : receivers_in (array no_items) ≡ None
empty_list = refl

list_of_sixteen : receivers_in (array (items 16)) ≡ Some (texts 16)
list_of_sixteen = refl

list_of_seventeen : receivers_in (array (items 17)) ≡ None
list_of_seventeen = refl

list_with_a_number : receivers_in (array (item (string (codes "BOLT")) (item (integer (pos 1)) no_items))) ≡ None
list_with_a_number = refl

list_of_a_list : receivers_in (array (item (array (items 1)) no_items)) ≡ None
list_of_a_list = refl

number_as_receiver : receivers_in (integer (pos 1)) ≡ None
number_as_receiver = refl

table_as_receiver : receivers_in (table no_members) ≡ None
table_as_receiver = refl

-- a route with this target
abbrev pub route_with : Data → Data
route_with to = table (member (codes "code") (string (codes "BOLT")) (member (codes "to") to no_members))

route_to_one : route_in (route_with (string (codes "BOLT"))) ≡ Ok (record { code = codes "BOLT"; to = codes "BOLT" ∷ [] })
unfolding route_of
route_to_one = refl

route_to_sixteen : route_in (route_with (array (items 16))) ≡ Ok (record { code = codes "BOLT"; to = texts 16 })
unfolding route_of
route_to_sixteen = refl

route_to_seventeen : route_in (route_with (array (items 17))) ≡ Err (wrong_kind (codes "to"))
unfolding route_of
route_to_seventeen = refl

route_to_an_empty_list : route_in (route_with (array no_items)) ≡ Err (wrong_kind (codes "to"))
unfolding route_of
route_to_an_empty_list = refl

route_without_target : route_in (table (member (codes "code") (string (codes "BOLT")) no_members)) ≡ Err (missing (codes "to"))
unfolding route_of
route_without_target = refl

version_one : version_in (integer (pos 1)) ≡ Some versions.First
version_one = refl

version_two : version_in (integer (pos 2)) ≡ Some versions.Second
version_two = refl

version_zero : version_in (integer (pos 0)) ≡ None
version_zero = refl

version_three : version_in (integer (pos 3)) ≡ None
version_three = refl

version_below_zero : version_in (integer (negsuc 0)) ≡ None
version_below_zero = refl

version_as_text : version_in (string (codes "1")) ≡ None
version_as_text = refl

-- a counter without `group`, and one with it
abbrev pub without_group : Data
without_group = table
    (member (codes "interchange") (integer (pos 2)) (member (codes "partner") (string (codes "ACME"))
    (member (codes "set") (integer (pos 4)) no_members)))

abbrev pub with_group : Data
with_group = table
    (member (codes "group") (integer (pos 3)) (member (codes "interchange") (integer (pos 2))
    (member (codes "partner") (string (codes "ACME")) (member (codes "set") (integer (pos 4)) no_members))))

first_without_group : counter_in versions.First without_group
    ≡ Ok (record { partner = codes "ACME"; counters = record { interchange = 2; group = 1; set = 4 } })
unfolding first_counter_of
first_without_group = refl

first_with_group : counter_in versions.First with_group ≡ Err (unknown (codes "group"))
unfolding first_counter_of
first_with_group = refl

second_with_group : counter_in versions.Second with_group
    ≡ Ok (record { partner = codes "ACME"; counters = record { interchange = 2; group = 3; set = 4 } })
unfolding second_counter_of
second_with_group = refl

second_without_group : counter_in versions.Second without_group ≡ Err (missing (codes "group"))
unfolding second_counter_of
second_without_group = refl

-- what is missing is named in the order of the keys
second_without_any : counter_in versions.Second (table no_members) ≡ Err (missing (codes "partner"))
unfolding second_counter_of
second_without_any = refl

second_without_group_and_set : counter_in versions.Second
    (table (member (codes "interchange") (integer (pos 2)) (member (codes "partner") (string (codes "ACME")) no_members)))
    ≡ Err (missing (codes "group"))
unfolding second_counter_of
second_without_group_and_set = refl

-- a file of one counter in this version
abbrev pub file_of : (version counter : Data) → Members
file_of version counter = member (codes "counter") (array (item counter no_items)) (member (codes "version") version no_members)

file_of_version_one : counters_of_table (file_of (integer (pos 1)) without_group)
    ≡ Ok (record { partner = codes "ACME"; counters = record { interchange = 2; group = 1; set = 4 } } ∷ [])
unfolding counters_of_table counters_top first_counter_of
file_of_version_one = refl

file_of_version_two : counters_of_table (file_of (integer (pos 2)) with_group)
    ≡ Ok (record { partner = codes "ACME"; counters = record { interchange = 2; group = 3; set = 4 } } ∷ [])
unfolding counters_of_table counters_top second_counter_of
file_of_version_two = refl

-- the version is judged before the counters
file_of_version_three : counters_of_table (file_of (integer (pos 3)) (boolean true)) ≡ Err (wrong_kind (codes "version"))
unfolding counters_of_table counters_top
file_of_version_three = refl

file_without_counters : counters_of_table (member (codes "version") (integer (pos 2)) no_members) ≡ Ok []
unfolding counters_of_table counters_top
file_without_counters = refl
