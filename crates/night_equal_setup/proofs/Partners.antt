-- The hub, partners and routes of a setup file.
use Rattle.std.proofs.Common.{◌≡◌, ℕ, List, [], ◌∷◌, map, Bool, true, false, cond, Option, Some, None, Result, Ok, Err, codes, is_some}
use Rattle.std.proofs.Common.{option_and_then, refl, sym, ap, ◌∙◌, subst}
use Rattle.std.specs.List.{list_all}
use Rattle.std.specs.Option.{option_map_or}
use Rattle.toml.specs.Data.{Data, string, integer, float, boolean, datetime, array, table, Members, get_member, as_str, as_table}
use Rattle.x12_bytes.specs.declared.delims.Delims.{Delims}
use Rattle.hub_kinds.specs.Words.{contains_text}
use Rattle.hub_kinds.specs.declared.counters.Counters.{Counters}
use Rattle.guide_tree.specs.declared.rows.GuideRows.{GuideRows}
use Rattle.guide_tree.specs.Words.{guide_of}
use Rattle.toml_keys.specs.Refusals.{Refusal, missing, wrong_kind}
use Rattle.toml_keys.specs.Keys.{least_unknown}
use Rattle.toml_keys.specs.Tables.{◌>>=◌ as ◌⊳◌, count_of_data, list_in, required_of}
use Rattle.toml_keys.specs.Tables as then
use Rattle.partner_setup.specs.declared.partner.Partner.{Partner}
use Rattle.partner_setup.specs.declared.rows.CounterRow.{CounterRow}
use Rattle.partner_setup.specs.declared.rows.HubRow.{HubRow}
use Rattle.partner_setup.specs.declared.rows.PartnerRow.{PartnerRow}
use Rattle.partner_setup.specs.declared.rows.Usage.{Usage}
use Rattle.partner_setup.specs.declared.rows.Usage.TheVariants as isa15
use Rattle.partner_setup.specs.Names.{places_of_texts}
use Rattle.partner_setup.specs.Setup.{no_delims, route_by}
use Rattle.partner_setup.specs.Setup as then_setup
use Rattle.partner_setup.specs.SetupFaults.{are_delimiters, byte_of, delims_by, guide_name}
use Rattle.partner_setup.specs.SetupFile.{hub_of as old_hub, partner_in, partner_of as old_partner, partner_keys}
use Rattle.partner_setup.specs.SetupFile.{usage_in, usage_of}
use Rattle.night_definition.specs.Tables.{number, one_of, required, table_of, texts}
use Rattle.night_definition.specs.SetupFile.{counters_of, delims_of, hub_of, only_byte, partner_of, place_of, text}
use Rattle.night_equal_guides.proofs.ForAbove.{IsGiven, asked_is, first_if, gives, known_is, needs, number_is, of_ok, ok_is, required_is}
use Rattle.night_equal_guides.proofs.ForAbove.{same_steps, turned}
use Rattle.night_equal_setup.proofs.Accepted.{can_be_partner}
use Rattle.night_equal_setup.proofs.Looking.{both, counters_are, guide_names, list_placed, named_counters}

-- the hub
abbrev usages : List (List ℕ × Usage)
usages = (codes "P", isa15.Production) ∷ (codes "T", isa15.Test) ∷ []

usage_is : (t : List ℕ) → usage_of t ≡ one_of usages t
usage_is t = sym (first_if isa15.Production _ _ _ _ (turned (codes "P") t) (first_if isa15.Test _ _ _ _ (turned (codes "T") t) refl))

in_steps : {A B C : Type 0} (h : A → Option B) (g : B → Option C) (o : Option A)
    → option_and_then g (option_and_then h o) ≡ option_and_then (λ u. option_and_then g (h u)) o
in_steps h g None = refl
in_steps h g (Some x) = refl

in_text : {B C : Type 0} (h : List ℕ → Option B) (g : B → Option C) (o : Option Data)
    → option_and_then g (option_and_then (λ d. option_and_then h (as_str d)) o)
    ≡ option_and_then (λ u. option_and_then g (h u)) (option_and_then as_str o)
in_text h g None = refl
in_text h g (Some d) = in_steps h g (as_str d)

turn : {A B : Type 0} (view : A → B) (r : Result A Refusal) (o p : Option B) → o ≡ p → IsGiven view r o → IsGiven view r p
turn view r o p e given = record { is = λ x f. sym e ∙ given.is x f }

hub_is : (ms : Members) → IsGiven (λ x. x) (old_hub ms) (hub_of ms)
unfolding old_hub
hub_is ms =
    needs (λ x. x) _ _ as_str as_str (codes "qualifier") ms (λ d. refl) (λ qualifier.
    needs (λ x. x) _ _ as_str as_str (codes "id") ms (λ d. refl) (λ id.
    needs (λ x. x) _ _ as_str as_str (codes "code") ms (λ d. refl) (λ code.
    turn (λ x. x) _ _ _ (in_text (one_of usages) (λ usage. Some (let h : HubRow = record {
      qualifier = qualifier;
      id = id;
      code = code;
      usage = usage;
    } in h)) (get_member (codes "usage") ms))
    (needs (λ x. x) _ _ usage_in (λ d. option_and_then (one_of usages) (as_str d)) (codes "usage") ms
    (λ d. same_steps usage_of (one_of usages) (as_str d) usage_is) (λ usage. gives (λ x. x) _)))))

in_table : {B : Type 0} (h : Members → Option B) (o : Option Data)
    → option_and_then (table_of h) o ≡ option_and_then h (option_and_then as_table o)
in_table h None = refl
in_table h (Some d) = refl

pub hub_at : (ms top : Members) (hub : HubRow) → then.required as_table (codes "hub") ms ≡ Ok top → old_hub top ≡ Ok hub
    → required (table_of hub_of) (codes "hub") ms ≡ Some hub
hub_at ms top hub e f =
    in_table hub_of (get_member (codes "hub") ms)
    ∙ ap (option_and_then hub_of) (required_is as_table as_table (codes "hub") (get_member (codes "hub") ms) (λ d. refl) top e)
    ∙ (hub_is top).is hub f

-- delimiters
byte_is : (t : List ℕ) → only_byte t ≡ byte_of t
byte_is [] = refl
byte_is (b ∷ []) = refl
byte_is (b ∷ c ∷ bs) = refl

abbrev delims_made : Option ℕ → Option ℕ → Option ℕ → Option ℕ → Option Delims
delims_made e c r t =
    option_and_then (λ e. option_and_then (λ c. option_and_then (λ r. option_and_then (λ t.
    Some (record { element = e; component = c; repetition = Some r; terminator = t })) t) r) c) e

abbrev or_none : Option Delims → Delims
or_none o = option_map_or (λ d. d) o no_delims

made_is : (e c r t : Option ℕ) → is_some (delims_by e c r t) ≡ true → delims_made e c r t ≡ Some (or_none (delims_by e c r t))
made_is None c r t h = let no : false ≡ true = h in cc
made_is (Some e) None r t h = let no : false ≡ true = h in cc
made_is (Some e) (Some c) None t h = let no : false ≡ true = h in cc
made_is (Some e) (Some c) (Some r) None h = let no : false ≡ true = h in cc
made_is (Some e) (Some c) (Some r) (Some t) h = by (are_delimiters e c r t) h
  where
    by : (b : Bool)
        → is_some (cond b (Some (let d : Delims = record { element = e; component = c; repetition = Some r; terminator = t } in d)) None)
        ≡ true
        → delims_made (Some e) (Some c) (Some r) (Some t)
        ≡ Some (or_none (cond b (Some (record { element = e; component = c; repetition = Some r; terminator = t })) None))
    by true h = refl
    by false h = let no : false ≡ true = h in cc

pub text_is : (key : List ℕ) (ms : Members) (t : List ℕ) → then.required as_str key ms ≡ Ok t → text key ms ≡ Some t
text_is key ms t e = required_is as_str as_str key (get_member key ms) (λ d. refl) t e

byte_at : (key : List ℕ) (ms : Members) (t : List ℕ) → then.required as_str key ms ≡ Ok t
    → option_and_then only_byte (text key ms) ≡ byte_of t
byte_at key ms t e = ap (option_and_then only_byte) (text_is key ms t e) ∙ byte_is t

delims_are : (ms : Members) (e c r t : List ℕ) → then.required as_str (codes "element") ms ≡ Ok e
    → then.required as_str (codes "component") ms ≡ Ok c → then.required as_str (codes "repetition") ms ≡ Ok r
    → then.required as_str (codes "terminator") ms ≡ Ok t
    → is_some (delims_by (byte_of e) (byte_of c) (byte_of r) (byte_of t)) ≡ true
    → delims_of ms ≡ Some (or_none (delims_by (byte_of e) (byte_of c) (byte_of r) (byte_of t)))
delims_are ms e c r t is_e is_c is_r is_t h =
    ap (λ o. delims_made o (option_and_then only_byte (text (codes "component") ms))
    (option_and_then only_byte (text (codes "repetition") ms))
    (option_and_then only_byte (text (codes "terminator") ms))) (byte_at (codes "element") ms e is_e)
    ∙ ap (λ o. delims_made (byte_of e) o (option_and_then only_byte (text (codes "repetition") ms))
    (option_and_then only_byte (text (codes "terminator") ms))) (byte_at (codes "component") ms c is_c)
    ∙ ap (λ o. delims_made (byte_of e) (byte_of c) o (option_and_then only_byte (text (codes "terminator") ms)))
    (byte_at (codes "repetition") ms r is_r)
    ∙ ap (delims_made (byte_of e) (byte_of c) (byte_of r)) (byte_at (codes "terminator") ms t is_t)
    ∙ made_is (byte_of e) (byte_of c) (byte_of r) (byte_of t) h

-- places of names that are all there
places_at : (there : List (List ℕ)) (key : List ℕ) (o : Option Data) (names : List (List ℕ)) → required_of (list_in as_str) key o ≡ Ok names
    → list_all (contains_text there) names ≡ true → option_and_then (texts (place_of there)) o ≡ Some (places_of_texts there names)
places_at there key None names e all = let no : Err (missing key) ≡ Ok names = e in cc
places_at there key (Some d) names e all = list_placed there d names (asked_is key (list_in as_str d) names e) all

-- a partner
abbrev partner_made : List (List ℕ × Counters) → Option (List ℕ) → Option (List ℕ) → Option (List ℕ) → Option (List ℕ) → Option Delims
    → Option ℕ → Option (List ℕ) → Option Partner
partner_made rows name qualifier id code delims cap places =
    option_and_then (λ name. option_and_then (λ qualifier. option_and_then (λ id. option_and_then (λ code.
    option_and_then (λ delims. option_and_then (λ cap. option_and_then (λ places.
    Some (let p : Partner = record {
      name = name;
      qualifier = qualifier;
      id = id;
      code = code;
      delims = delims;
      cap = cap;
      counters = counters_of rows name;
      guides = places;
    } in p)) places) cap) delims) code) id) qualifier) name

-- the parts of a partner, each read alone
record ArePartsOf (guides : List GuideRows) (ms : Members) (row : PartnerRow) : Type 0 where
  name : text (codes "name") ms ≡ Some row.name
  qualifier : text (codes "qualifier") ms ≡ Some row.qualifier
  id : text (codes "id") ms ≡ Some row.id
  code : text (codes "code") ms ≡ Some row.code
  delims : delims_of ms ≡ Some (then_setup.delims_or_none row)
  cap : required number (codes "cap") ms ≡ Some row.cap
  places : required (texts (place_of (map (λ g. g.head.name) (map guide_of guides)))) (codes "guides") ms
      ≡ Some (places_of_texts (map guide_name guides) row.guides)

parts_are : (guides : List GuideRows) (ms : Members) (row : PartnerRow) → old_partner ms ≡ Ok row → can_be_partner guides row ≡ true
    → ArePartsOf guides ms row
unfolding old_partner
parts_are guides ms row e can =
    of_ok _ (then.required as_str (codes "name") ms) row e (λ name is_name e1.
    of_ok _ (then.required as_str (codes "qualifier") ms) row e1 (λ qualifier is_qualifier e2.
    of_ok _ (then.required as_str (codes "id") ms) row e2 (λ id is_id e3.
    of_ok _ (then.required as_str (codes "code") ms) row e3 (λ code is_code e4.
    of_ok _ (then.required as_str (codes "element") ms) row e4 (λ element is_element e5.
    of_ok _ (then.required as_str (codes "component") ms) row e5 (λ component is_component e6.
    of_ok _ (then.required as_str (codes "repetition") ms) row e6 (λ repetition is_repetition e7.
    of_ok _ (then.required as_str (codes "terminator") ms) row e7 (λ terminator is_terminator e8.
    of_ok _ (then.required count_of_data (codes "cap") ms) row e8 (λ cap is_cap e9.
    of_ok _ (then.required (list_in as_str) (codes "guides") ms) row e9 (λ names are_names e10.
    let read : PartnerRow = record {
      name = name;
      qualifier = qualifier;
      id = id;
      code = code;
      element = element;
      component = component;
      repetition = repetition;
      terminator = terminator;
      cap = cap;
      guides = names;
    } in
    let same : read ≡ row = ok_is read row e10 in
    let known = both (is_some (delims_by (byte_of element) (byte_of component) (byte_of repetition) (byte_of terminator)))
    (list_all (contains_text (map guide_name guides)) names) (ap (can_be_partner guides) same ∙ can) in
    let parts : ArePartsOf guides ms read = record {
      name = text_is (codes "name") ms name is_name;
      qualifier = text_is (codes "qualifier") ms qualifier is_qualifier;
      id = text_is (codes "id") ms id is_id;
      code = text_is (codes "code") ms code is_code;
      delims = delims_are ms element component repetition terminator is_element is_component is_repetition is_terminator known.0;
      cap = required_is count_of_data number (codes "cap") (get_member (codes "cap") ms) number_is cap is_cap;
      places = ap (λ (ns : List (List ℕ)). required (texts (place_of ns)) (codes "guides") ms) (guide_names guides)
          ∙ places_at (map guide_name guides) (codes "guides") (get_member (codes "guides") ms) names are_names known.1;
    } in
    subst (ArePartsOf guides ms) same parts))))))))))

partner_is : (counters : List CounterRow) (guides : List GuideRows) (ms : Members) (row : PartnerRow) → ArePartsOf guides ms row
    → partner_of (map named_counters counters) (map guide_of guides) ms ≡ Some (then_setup.partner_of counters guides row)
partner_is counters guides ms row parts =
    let rows : List (List ℕ × Counters) = map named_counters counters in
    let names : List (List ℕ) = map (λ g. g.head.name) (map guide_of guides) in
    let cap : Option ℕ = required number (codes "cap") ms in
    let places : Option (List ℕ) = required (texts (place_of names)) (codes "guides") ms in
    ap (λ o. partner_made rows o (text (codes "qualifier") ms) (text (codes "id") ms) (text (codes "code") ms) (delims_of ms) cap places)
    parts.name
    ∙ ap (λ o. partner_made rows (Some row.name) o (text (codes "id") ms) (text (codes "code") ms) (delims_of ms) cap places)
    parts.qualifier
    ∙ ap (λ o. partner_made rows (Some row.name) (Some row.qualifier) o (text (codes "code") ms) (delims_of ms) cap places) parts.id
    ∙ ap (λ o. partner_made rows (Some row.name) (Some row.qualifier) (Some row.id) o (delims_of ms) cap places) parts.code
    ∙ ap (λ o. partner_made rows (Some row.name) (Some row.qualifier) (Some row.id) (Some row.code) o cap places) parts.delims
    ∙ ap (λ o. partner_made rows (Some row.name) (Some row.qualifier) (Some row.id) (Some row.code)
    (Some (then_setup.delims_or_none row)) o places) parts.cap
    ∙ ap (λ o. partner_made rows (Some row.name) (Some row.qualifier) (Some row.id) (Some row.code)
    (Some (then_setup.delims_or_none row)) (Some row.cap) o) parts.places
    ∙ ap (λ c. Some (record (then_setup.partner_of counters guides row) { counters = c })) (counters_are counters row.name)

pub partner_at : (counters : List CounterRow) (guides : List GuideRows) (d : Data) (row : PartnerRow) → partner_in d ≡ Ok row
    → can_be_partner guides row ≡ true
    → table_of (partner_of (map named_counters counters) (map guide_of guides)) d ≡ Some (then_setup.partner_of counters guides row)
partner_at counters guides (table ms) row e can =
    partner_is counters guides ms row
    (parts_are guides ms row (known_is (least_unknown partner_keys ms) (old_partner ms) row e) can)
partner_at counters guides (string s) row e can = let no : Err (wrong_kind (codes "partner")) ≡ Ok row = e in cc
partner_at counters guides (integer z) row e can = let no : Err (wrong_kind (codes "partner")) ≡ Ok row = e in cc
partner_at counters guides (float x) row e can = let no : Err (wrong_kind (codes "partner")) ≡ Ok row = e in cc
partner_at counters guides (boolean b) row e can = let no : Err (wrong_kind (codes "partner")) ≡ Ok row = e in cc
partner_at counters guides (datetime t) row e can = let no : Err (wrong_kind (codes "partner")) ≡ Ok row = e in cc
partner_at counters guides (array ds) row e can = let no : Err (wrong_kind (codes "partner")) ≡ Ok row = e in cc
