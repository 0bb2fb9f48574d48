-- A setup of two partners and two guides: accepted, refused for each reason, and looked up.
use Rattle.std.proofs.Common.{ap, arith, ◌∙◌}
use Rattle.std.proofs.lemmas.Fmt.{decimal-digits_of}
use Rattle.std.specs.Prelude.{ℕ, ◌≡◌, ◌++◌, List, [], ◌∷◌, Vec, codes, refl, true, false, Some, None}
use Rattle.std.specs.declared.alloc.Global.{Global}
use Rattle.guide_tree.specs.declared.node.Node.{Node}
use Rattle.guide_tree.specs.declared.rows.GuideRows.{GuideRows}
use Rattle.hub_kinds.specs.declared.counters.Counters.{Counters}
use Rattle.partner_setup.specs.declared.rows.CounterRow.{CounterRow}
use Rattle.partner_setup.specs.declared.rows.HubRow.{HubRow}
use Rattle.partner_setup.specs.declared.rows.PartnerRow.{PartnerRow}
use Rattle.partner_setup.specs.declared.rows.RouteRow.{RouteRow}
use Rattle.partner_setup.specs.declared.rows.SetupRows.{SetupRows}
use Rattle.partner_setup.specs.declared.rows.Usage.TheVariants as usage
use Rattle.partner_setup.specs.declared.setup_fault.GuidesOwner.TheVariants as guided
use Rattle.partner_setup.specs.declared.setup_fault.IdOwner.TheVariants as owner
use Rattle.partner_setup.specs.declared.setup_fault.SetupFault.TheVariants as fault
use Rattle.partner_setup.specs.SetupFaults.{first_fault}
use Rattle.partner_setup.specs.Setup.{counters_of, setup_of, route_of, has_group, has_version, guide_for_set}
use Rattle.partner_setup.specs.CountersText.{counters_text, counter_lines, name_lines, number_line, line_end}

abbrev pub guide : (name group set version : List ℕ) → Vec Node Global → GuideRows
guide name group set version nodes = record {
  head = record {
    name = name;
    group = group;
    set = set;
    version = version;
    convention = None;
    dictionary = [];
    tolerate_segment = [];
    tolerate_element = [];
  };
  hl = None;
  depends = [];
  nodes = nodes;
}

abbrev pub orders : Vec Node Global → GuideRows
orders nodes = guide (codes "H850") (codes "PO") (codes "850") (codes "005010") nodes

abbrev pub shipments : Vec Node Global → GuideRows
shipments nodes = guide (codes "H856") (codes "SH") (codes "856") (codes "005010") nodes

-- for the same sets as H850
abbrev pub other_orders : Vec Node Global → GuideRows
other_orders nodes = guide (codes "H850B") (codes "PO") (codes "850") (codes "005010") nodes

abbrev pub guides : Vec Node Global → List GuideRows
guides nodes = orders nodes ∷ shipments nodes ∷ other_orders nodes ∷ []

abbrev pub hub : HubRow
hub = record { qualifier = codes "ZZ"; id = codes "HUB"; code = codes "HUB"; usage = usage.Production }

abbrev pub acme_keeps : List (List ℕ) → PartnerRow
acme_keeps kept = record {
  name = codes "ACME";
  qualifier = codes "01";
  id = codes "ACME";
  code = codes "ACME";
  element = codes "*";
  component = codes ">";
  repetition = codes "^";
  terminator = codes "~";
  cap = 2;
  guides = kept;
}

abbrev pub acme : PartnerRow
acme = acme_keeps (codes "H850" ∷ codes "H856" ∷ [])

-- a second partner with this name, id, code, component separator and cap
abbrev pub other : (name id code component : List ℕ) → (cap : ℕ) → PartnerRow
other name id code component cap = record {
  name = name;
  qualifier = codes "01";
  id = id;
  code = code;
  element = codes "|";
  component = component;
  repetition = codes "^";
  terminator = codes "!";
  cap = cap;
  guides = codes "H850" ∷ [];
}

abbrev pub bolt : PartnerRow
bolt = other (codes "BOLT") (codes "BOLT") (codes "BOLT") (codes ":") 1

abbrev pub route_to : (code : List ℕ) → (to : List (List ℕ)) → RouteRow
route_to code to = record { code = code; to = to }

abbrev pub route : (code to : List ℕ) → RouteRow
route code to = route_to code (to ∷ [])

abbrev pub routes : List RouteRow
routes = route (codes "ACME") (codes "ACME") ∷ route (codes "BOLT") (codes "BOLT") ∷ []

abbrev pub rows_with : List PartnerRow → List RouteRow → SetupRows
rows_with partners rs = record { hub = hub; partners = partners; routes = rs }

abbrev pub rows : SetupRows
rows = rows_with (acme ∷ bolt ∷ []) routes

abbrev pub counter : (partner : List ℕ) → (interchange group set : ℕ) → CounterRow
counter partner interchange group set =
    record { partner = partner; counters = record { interchange = interchange; group = group; set = set } }

abbrev pub counters : List CounterRow
counters = counter (codes "BOLT") 3 5 7 ∷ []

nothing_is_refused : (nodes : Vec Node Global) → first_fault rows counters (guides nodes) ≡ None
nothing_is_refused nodes = refl

without_partners : (nodes : Vec Node Global) → first_fault (rows_with [] []) [] (guides nodes) ≡ None
without_partners nodes = refl

same_name : (nodes : Vec Node Global) → first_fault
    (rows_with (acme ∷ other (codes "ACME") (codes "BOLT") (codes "BOLT") (codes ":") 1 ∷ []) []) [] (guides nodes)
    ≡ Some (fault.SamePartner 0)
same_name nodes = refl

same_id : (nodes : Vec Node Global) → first_fault
    (rows_with (acme ∷ other (codes "BOLT") (codes "ACME") (codes "BOLT") (codes ":") 1 ∷ []) []) [] (guides nodes)
    ≡ Some (fault.SamePartner 0)
same_id nodes = refl

-- two partners may share a code
same_code : (nodes : Vec Node Global) → first_fault
    (rows_with (acme ∷ other (codes "BOLT") (codes "BOLT") (codes "ACME") (codes ":") 1 ∷ []) []) [] (guides nodes) ≡ None
same_code nodes = refl

bad_delimiters : (nodes : Vec Node Global) → first_fault
    (rows_with (acme ∷ other (codes "BOLT") (codes "BOLT") (codes "BOLT") (codes "|") 1 ∷ []) routes) [] (guides nodes)
    ≡ Some (fault.BadDelimiters 1)
bad_delimiters nodes = refl

-- the delimiters are judged before the ids
bad_delimiters_and_id : (nodes : Vec Node Global) → first_fault
    (rows_with (acme ∷ other (codes "BOLT") (codes "BOLT") (codes "B") (codes "|") 1 ∷ []) routes) [] (guides nodes)
    ≡ Some (fault.BadDelimiters 1)
bad_delimiters_and_id nodes = refl

bad_code : (nodes : Vec Node Global) → first_fault
    (rows_with (acme ∷ other (codes "BOLT") (codes "BOLT") (codes "B") (codes ":") 1 ∷ []) routes) [] (guides nodes)
    ≡ Some (fault.BadId (owner.Partner 1))
bad_code nodes = refl

bad_name : (nodes : Vec Node Global) → first_fault
    (rows_with (acme ∷ other (codes "BOLT-1") (codes "BOLT") (codes "BOLT") (codes ":") 1 ∷ []) []) [] (guides nodes)
    ≡ Some (fault.BadId (owner.Partner 1))
bad_name nodes = refl

no_such_guide : (nodes : Vec Node Global) → first_fault
    (rows_with (acme_keeps (codes "H999" ∷ []) ∷ bolt ∷ []) routes) counters (guides nodes) ≡ Some (fault.BadGuides (guided.Partner 0))
no_such_guide nodes = refl

two_guides_for_the_same : (nodes : Vec Node Global) → first_fault
    (rows_with (acme_keeps (codes "H850" ∷ codes "H850B" ∷ []) ∷ bolt ∷ []) routes) counters (guides nodes)
    ≡ Some (fault.BadGuides (guided.Partner 0))
two_guides_for_the_same nodes = refl

a_guide_named_twice : (nodes : Vec Node Global) → first_fault
    (rows_with (acme_keeps (codes "H850" ∷ codes "H850" ∷ []) ∷ bolt ∷ []) routes) counters (guides nodes)
    ≡ Some (fault.BadGuides (guided.Partner 0))
a_guide_named_twice nodes = refl

-- two partners may keep to one guide each for the same sets
others_guide_for_the_same : (nodes : Vec Node Global) → first_fault
    (rows_with (acme_keeps (codes "H850B" ∷ []) ∷ bolt ∷ []) routes) counters (guides nodes) ≡ None
others_guide_for_the_same nodes = refl

two_guides_with_one_name : (nodes : Vec Node Global) → first_fault rows counters (orders nodes ∷ guides nodes)
    ≡ Some (fault.BadGuides (guided.Guide 0))
two_guides_with_one_name nodes = refl

route_to_nobody : (nodes : Vec Node Global) → first_fault
    (rows_with (acme ∷ bolt ∷ []) (route (codes "CARL") (codes "CARL") ∷ [])) counters (guides nodes) ≡ Some (fault.BadRoute 0)
route_to_nobody nodes = refl

route_to_both : (nodes : Vec Node Global) → first_fault
    (rows_with (acme ∷ bolt ∷ []) (route_to (codes "BOLT") (codes "BOLT" ∷ codes "ACME" ∷ []) ∷ [])) counters (guides nodes) ≡ None
route_to_both nodes = refl

second_target_is_nobody : (nodes : Vec Node Global) → first_fault
    (rows_with (acme ∷ bolt ∷ []) (route_to (codes "BOLT") (codes "BOLT" ∷ codes "CARL" ∷ []) ∷ [])) counters (guides nodes)
    ≡ Some (fault.BadRoute 0)
second_target_is_nobody nodes = refl

target_named_twice : (nodes : Vec Node Global) → first_fault
    (rows_with (acme ∷ bolt ∷ []) (route_to (codes "BOLT") (codes "BOLT" ∷ codes "ACME" ∷ codes "BOLT" ∷ []) ∷ [])) counters (guides nodes)
    ≡ Some (fault.BadRoute 0)
target_named_twice nodes = refl

-- two routes may lead to one partner
target_of_two_routes : (nodes : Vec Node Global) → first_fault
    (rows_with (acme ∷ bolt ∷ []) (route (codes "AC") (codes "BOLT") ∷ route (codes "BO") (codes "BOLT") ∷ [])) counters (guides nodes)
    ≡ None
target_of_two_routes nodes = refl

-- the routes are judged before the counters
route_and_counter : (nodes : Vec Node Global) → first_fault
    (rows_with (acme ∷ bolt ∷ []) (route_to (codes "BOLT") (codes "BOLT" ∷ codes "BOLT" ∷ []) ∷ [])) (counter (codes "BOLT") 1 0 1 ∷ [])
    (guides nodes) ≡ Some (fault.BadRoute 0)
route_and_counter nodes = refl

route_of_one_byte : (nodes : Vec Node Global) → first_fault
    (rows_with (acme ∷ bolt ∷ []) (route (codes "A") (codes "ACME") ∷ [])) counters (guides nodes) ≡ Some (fault.BadRoute 0)
route_of_one_byte nodes = refl

route_given_twice : (nodes : Vec Node Global) → first_fault
    (rows_with (acme ∷ bolt ∷ []) (route (codes "AC") (codes "ACME") ∷ route (codes "AC") (codes "BOLT") ∷ [])) counters (guides nodes)
    ≡ Some (fault.BadRoute 0)
route_given_twice nodes = refl

interchange_counter_of_zero : (nodes : Vec Node Global) → first_fault rows (counter (codes "BOLT") 0 1 1 ∷ []) (guides nodes)
    ≡ Some (fault.BadCounter 0)
interchange_counter_of_zero nodes = refl

group_counter_of_zero : (nodes : Vec Node Global) → first_fault rows (counter (codes "BOLT") 1 0 1 ∷ []) (guides nodes)
    ≡ Some (fault.BadCounter 0)
group_counter_of_zero nodes = refl

set_counter_of_zero : (nodes : Vec Node Global) → first_fault rows (counter (codes "BOLT") 1 1 0 ∷ []) (guides nodes)
    ≡ Some (fault.BadCounter 0)
set_counter_of_zero nodes = refl

greatest_group_counter : (nodes : Vec Node Global) → first_fault rows (counter (codes "BOLT") 1 999999999 1 ∷ []) (guides nodes) ≡ None
greatest_group_counter nodes = refl

group_counter_too_great : (nodes : Vec Node Global) → first_fault rows (counter (codes "BOLT") 1 1000000000 1 ∷ []) (guides nodes)
    ≡ Some (fault.BadCounter 0)
group_counter_too_great nodes = refl

counter_of_nobody : (nodes : Vec Node Global) → first_fault rows (counter (codes "CARL") 1 1 1 ∷ []) (guides nodes)
    ≡ Some (fault.BadCounter 0)
counter_of_nobody nodes = refl

counter_given_twice : (nodes : Vec Node Global) → first_fault rows (counter (codes "BOLT") 1 1 1 ∷ counters) (guides nodes)
    ≡ Some (fault.BadCounter 0)
counter_given_twice nodes = refl

cap_of_zero : (nodes : Vec Node Global) → first_fault
    (rows_with (acme ∷ other (codes "BOLT") (codes "BOLT") (codes "BOLT") (codes ":") 0 ∷ []) routes) counters (guides nodes)
    ≡ Some (fault.BadCap 1)
cap_of_zero nodes = refl

counters_of_a_row : counters_of counters (codes "BOLT") ≡ record { interchange = 3; group = 5; set = 7 }
counters_of_a_row = refl

counters_without_a_row : counters_of counters (codes "ACME") ≡ record { interchange = 1; group = 1; set = 1 }
counters_without_a_row = refl

goes_to_bolt : (nodes : Vec Node Global) → route_of (setup_of rows counters (guides nodes)) (codes "BOLT") ≡ 1 ∷ []
goes_to_bolt nodes = refl

-- the places of both, in the order in which they are named
goes_to_both : (nodes : Vec Node Global) → route_of
    (setup_of (rows_with (acme ∷ bolt ∷ []) (route_to (codes "BOLT") (codes "BOLT" ∷ codes "ACME" ∷ []) ∷ [])) counters (guides nodes))
    (codes "BOLT") ≡ 1 ∷ 0 ∷ []
goes_to_both nodes = refl

goes_nowhere : (nodes : Vec Node Global) → route_of (setup_of rows counters (guides nodes)) (codes "CARL") ≡ []
goes_nowhere nodes = refl

acme_has_shipments : (nodes : Vec Node Global) → has_group (setup_of rows counters (guides nodes)) 0 (codes "SH") ≡ true
acme_has_shipments nodes = refl

bolt_has_none : (nodes : Vec Node Global) → has_group (setup_of rows counters (guides nodes)) 1 (codes "SH") ≡ false
bolt_has_none nodes = refl

nobody_has_any : (nodes : Vec Node Global) → has_group (setup_of rows counters (guides nodes)) 2 (codes "PO") ≡ false
nobody_has_any nodes = refl

this_version : (nodes : Vec Node Global) → has_version (setup_of rows counters (guides nodes)) 1 (codes "PO") (codes "005010") ≡ true
this_version nodes = refl

another_version : (nodes : Vec Node Global) → has_version (setup_of rows counters (guides nodes)) 1 (codes "PO") (codes "004010") ≡ false
another_version nodes = refl

-- of rows that are given twice, the first one that stands again after it
second_route_given_twice : (nodes : Vec Node Global) → first_fault
    (rows_with (acme ∷ bolt ∷ [])
    (route (codes "AB") (codes "ACME") ∷ route (codes "AC") (codes "ACME") ∷ route (codes "AC") (codes "BOLT") ∷ [])) counters
    (guides nodes) ≡ Some (fault.BadRoute 1)
second_route_given_twice nodes = refl

-- a wrong row before one that is given twice, and after it
wrong_route_first : (nodes : Vec Node Global) → first_fault
    (rows_with (acme ∷ bolt ∷ [])
    (route (codes "A") (codes "ACME") ∷ route (codes "AC") (codes "ACME") ∷ route (codes "AC") (codes "BOLT") ∷ [])) counters
    (guides nodes) ≡ Some (fault.BadRoute 0)
wrong_route_first nodes = refl

twin_route_first : (nodes : Vec Node Global) → first_fault
    (rows_with (acme ∷ bolt ∷ [])
    (route (codes "AC") (codes "ACME") ∷ route (codes "A") (codes "ACME") ∷ route (codes "AC") (codes "BOLT") ∷ [])) counters
    (guides nodes) ≡ Some (fault.BadRoute 0)
twin_route_first nodes = refl

bad_hub : (nodes : Vec Node Global) → first_fault
    (record {
      hub = record { qualifier = codes "Z"; id = codes "HUB"; code = codes "HUB"; usage = usage.Production };
      partners = acme ∷ other (codes "BOLT") (codes "BOLT") (codes "B") (codes ":") 1 ∷ [];
      routes = routes;
    }) [] (guides nodes)
    ≡ Some (fault.BadId owner.Hub)
bad_hub nodes = refl

counter_of_the_second_row : (nodes : Vec Node Global) → first_fault rows (counter (codes "ACME") 1 1 1 ∷ counter (codes "BOLT") 0 1 1 ∷ [])
    (guides nodes) ≡ Some (fault.BadCounter 1)
counter_of_the_second_row nodes = refl

guide_of_orders : (nodes : Vec Node Global) →
    guide_for_set (setup_of rows counters (guides nodes)) 1 (codes "PO") (codes "005010") (codes "850") ≡ Some (orders nodes)
guide_of_orders nodes = refl

no_guide_of_a_set : (nodes : Vec Node Global) →
    guide_for_set (setup_of rows counters (guides nodes)) 1 (codes "PO") (codes "005010") (codes "860") ≡ None
no_guide_of_a_set nodes = refl

-- the numbers of the next night, partner by partner
counters_written : (nodes : Vec Node Global) (c d : Counters) → counters_text (setup_of rows counters (guides nodes)) (c ∷ d ∷ [])
    ≡ codes "version = 2\n" ++ (counter_lines (codes "ACME") c ++ (counter_lines (codes "BOLT") d ++ []))
counters_written nodes c d = refl

name_written : name_lines (codes "ACME") ≡ codes "\n[[counter]]\npartner = \"ACME\"\n"
name_written = refl

number_written : number_line (codes "set") 10 ≡ codes "set = 10\n"
number_written = ap (λ (digits : List ℕ). codes "set = " ++ (digits ++ line_end)) (decimal-digits_of 10 (omega arith) (omega arith))

lines_of_a_partner : counter_lines (codes "ACME") (record { interchange = 2; group = 3; set = 10 })
    ≡ codes "\n[[counter]]\npartner = \"ACME\"\ninterchange = 2\ngroup = 3\nset = 10\n"
lines_of_a_partner =
    ap (λ (digits : List ℕ).
    name_lines (codes "ACME") ++ ((codes "interchange = " ++ (digits ++ line_end))
    ++ (number_line (codes "group") 3 ++ number_line (codes "set") 10)))
    (decimal-digits_of 2 (omega arith) (omega arith))
    ∙ ap (λ (digits : List ℕ). codes "\n[[counter]]\npartner = \"ACME\"\ninterchange = 2\n"
    ++ ((codes "group = " ++ (digits ++ line_end)) ++ number_line (codes "set") 10))
    (decimal-digits_of 3 (omega arith) (omega arith))
    ∙ ap (λ (digits : List ℕ). codes "\n[[counter]]\npartner = \"ACME\"\ninterchange = 2\ngroup = 3\nset = " ++ (digits ++ line_end))
    (decimal-digits_of 10 (omega arith) (omega arith))
