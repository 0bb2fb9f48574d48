-- The rows of a counters file, in both versions.
use Rattle.std.proofs.Common.{◌≡◌, ℕ, List, [], ◌∷◌, map, Bool, true, false, cond, Option, Some, None, Result, Ok, Err, codes, bytes_eq}
use Rattle.std.proofs.Common.{option_map, option_and_then, is_eq, nat_cmp, refl, sym, ap, ◌∙◌}
use Rattle.std.specs.declared.cmp.Ordering.{Ordering}
use Rattle.std.specs.declared.cmp.Ordering.TheVariants as ordering
use Rattle.std.specs.Ordering.{match_ordering}
use Rattle.std.specs.Cmp.Lexicographic.{slice_cmp}
use Rattle.std.specs.List.{list_all}
use Rattle.std.specs.Option.{option_map_or}
use Rattle.std.proofs.lemmas.Map.Text.{is_eq-slice_cmp}
use Rattle.std.proofs.lemmas.Slice.Eq.{bytes_eq-Decides}
use Rattle.toml.specs.Data.{Data, string, integer, float, boolean, datetime, array, table, Items, no_items, item, Members, no_members}
use Rattle.toml.specs.Data.{member, get_member, as_str}
use Rattle.hub_kinds.specs.Words.{contains_text}
use Rattle.toml_keys.specs.Refusals.{Refusal, missing, unknown, wrong_kind}
use Rattle.toml_keys.specs.Keys.{if_known, least_text, least_unknown, unknown_keys}
use Rattle.toml_keys.specs.Tables.{◌>>=◌ as ◌⊳◌, count_of_data, optional_of, required_of, tables_in}
use Rattle.toml_keys.specs.Tables as then
use Rattle.partner_setup.specs.declared.rows.CounterRow.{CounterRow}
use Rattle.partner_setup.specs.declared.values.Version.{Version}
use Rattle.partner_setup.specs.declared.values.Version.TheVariants as versions
use Rattle.partner_setup.specs.SetupFile.{known, rows_in}
use Rattle.partner_setup.specs.CountersFile.{counter_in, counter_of, counters_of_table, counters_top, file_keys, first_counter_of}
use Rattle.partner_setup.specs.CountersFile.{first_keys}
use Rattle.partner_setup.specs.CountersFile.{second_counter_of, second_keys, version_in}
use Rattle.night_definition.specs.Tables.{each, list_of, number, optional, table_of}
use Rattle.night_definition.specs.SetupFile.{counters_row}
use Rattle.night_equal_guides.proofs.ForAbove.{IsGiven, asked_is, gives, known_is, needs, number_is, of_ok, ok_is, required_is, tables_are}
use Rattle.night_equal_setup.proofs.Looking.{both, named_counters}

-- rows of a list of tables, of which each is so
pub rows_are : {A B : Type 0} (old : Data → Result A Refusal) (new : Data → Option B) (view : A → B) (good : A → Bool)
    → ((d : Data) (x : A) → old d ≡ Ok x → good x ≡ true → new d ≡ Some (view x))
    → (ds : Items) (xs : List A) → rows_in old ds ≡ Ok xs → list_all good xs ≡ true → each new ds ≡ Some (map view xs)
rows_are old new view good one no_items xs e all = ap (λ (ys : List _). Some (map view ys)) (ok_is [] xs e)
rows_are old new view good one (item d ds) xs e all =
    of_ok _ (old d) xs e (λ x is_x e1. of_ok _ (rows_in old ds) xs e1 (λ more is_more e2.
    let same : x ∷ more ≡ xs = ok_is (x ∷ more) xs e2 in
    let known = both (good x) (list_all good more) (ap (list_all good) same ∙ all) in
    ap (λ o. option_and_then (λ y. option_map (λ (ys : List _). y ∷ ys) (each new ds)) o) (one d x is_x known.0)
    ∙ ap (option_map (λ (ys : List _). view x ∷ ys)) (rows_are old new view good one ds more is_more known.1)
    ∙ ap (λ (ys : List _). Some (map view ys)) same))

-- a list of tables that may be absent, and one that has to be there
pub list_optional : {B : Type 0} (key : List ℕ) (o : Option Data) (items : Items) (new : Data → Option B) (xs : List B)
    → optional_of no_items tables_in key o ≡ Ok items → each new items ≡ Some xs → option_map_or (list_of new) o (Some []) ≡ Some xs
list_optional key None items new xs e f = ap (each new) (ok_is no_items items e) ∙ f
list_optional key (Some d) items new xs e f =
    ap (option_and_then (each new)) (tables_are d items (asked_is key (tables_in d) items e)) ∙ f

pub list_required : {B : Type 0} (key : List ℕ) (o : Option Data) (items : Items) (new : Data → Option B) (xs : List B)
    → required_of tables_in key o ≡ Ok items → each new items ≡ Some xs → option_and_then (list_of new) o ≡ Some xs
list_required key None items new xs e f = let no : Err (missing key) ≡ Ok items = e in cc
list_required key (Some d) items new xs e f =
    ap (option_and_then (each new)) (tables_are d items (asked_is key (tables_in d) items e)) ∙ f

-- a key that isn't listed is absent from a table whose keys are all listed
none_unknown : (keys : List (List ℕ)) → least_text keys ≡ None → keys ≡ []
none_unknown [] e = refl
none_unknown (k ∷ ks) e = let no : None ≡ least_text (k ∷ ks) = sym e in cc

listed_by : (listed : List (List ℕ)) (key l : List ℕ) (d : Data) (rest : Option Data) (o : Ordering) (same : Bool) → is_eq o ≡ same
    → bytes_eq key l ≡ same → contains_text listed key ≡ false → (known : Bool) → contains_text listed l ≡ known
    → (others : List (List ℕ)) → cond known others (l ∷ others) ≡ [] → (others ≡ [] → rest ≡ None)
    → match_ordering o rest (Some d) rest ≡ None
listed_by listed key l d rest o same e f not_there false g others h more = let no : l ∷ others ≡ [] = h in cc
listed_by listed key l d rest ordering.Less same e f not_there true g others h more = more h
listed_by listed key l d rest ordering.Greater same e f not_there true g others h more = more h
listed_by listed key l d rest ordering.Equal same e f not_there true g others h more =
    let is : key ≡ l = (bytes_eq-Decides key l).0 (f ∙ sym e) in
    let no : false ≡ true = sym not_there ∙ ap (contains_text listed) is ∙ g in cc

absent : (listed : List (List ℕ)) (key : List ℕ) (ms : Members) → contains_text listed key ≡ false → unknown_keys listed ms ≡ []
    → get_member key ms ≡ None
absent listed key no_members not_there e = refl
absent listed key (member l d ms) not_there e =
    listed_by listed key l d (get_member key ms) (slice_cmp nat_cmp key l) (bytes_eq key l) (is_eq-slice_cmp key l) refl not_there
    (contains_text listed l) refl (unknown_keys listed ms) e (λ f. absent listed key ms not_there f)

none_of_known : {A : Type 0} (o : Option (List ℕ)) (r : Result A Refusal) (x : A) → if_known o r ≡ Ok x → o ≡ None
none_of_known None r x e = refl
none_of_known (Some key) r x e = let no : Err (unknown key) ≡ Ok x = e in cc

-- what is read already
passes : {A B C : Type 0} (view : B → C) (r : Result B Refusal) (g : A → Option C) (o : Option A) (x : A) → o ≡ Some x
    → IsGiven view r (g x) → IsGiven view r (option_and_then g o)
passes view r g o x e given = record { is = λ y f. ap (option_and_then g) e ∙ given.is y f }

present : {A : Type 0} (absent : A) (new : Data → Option A) (o : Option Data) (x : A) → option_and_then new o ≡ Some x
    → option_map_or new o (Some absent) ≡ Some x
present absent new None x e = let no : None ≡ Some x = e in cc
present absent new (Some d) x e = e

first_is : (ms : Members) → get_member (codes "group") ms ≡ None → IsGiven named_counters (first_counter_of ms) (counters_row ms)
unfolding first_counter_of
first_is ms none =
    needs named_counters _ _ as_str as_str (codes "partner") ms (λ d. refl) (λ partner.
    needs named_counters _ _ count_of_data number (codes "interchange") ms number_is (λ interchange.
    passes named_counters _ _ (optional 1 number (codes "group") ms) 1 (ap (λ o. option_map_or number o (Some 1)) none)
    (needs named_counters _ _ count_of_data number (codes "set") ms number_is (λ set. gives named_counters _))))

needs_group : {B C : Type 0} (view : B → C) (f : ℕ → Result B Refusal) (g : ℕ → Option C) (ms : Members)
    → ((x : ℕ) → IsGiven view (f x) (g x))
    → IsGiven view (then.required count_of_data (codes "group") ms ⊳ f) (option_and_then g (optional 1 number (codes "group") ms))
needs_group view f g ms more = record {
  is = λ y e. of_ok f (then.required count_of_data (codes "group") ms) y e (λ x is_x e1.
      ap (option_and_then g) (present 1 number (get_member (codes "group") ms) x
      (required_is count_of_data number (codes "group") (get_member (codes "group") ms) number_is x is_x)) ∙ (more x).is y e1);
}

second_is : (ms : Members) → IsGiven named_counters (second_counter_of ms) (counters_row ms)
unfolding second_counter_of
second_is ms =
    needs named_counters _ _ as_str as_str (codes "partner") ms (λ d. refl) (λ partner.
    needs named_counters _ _ count_of_data number (codes "interchange") ms number_is (λ interchange.
    needs_group named_counters _ _ ms (λ group.
    needs named_counters _ _ count_of_data number (codes "set") ms number_is (λ set. gives named_counters _))))

counter_is : (v : Version) (ms : Members) (c : CounterRow) → counter_of v ms ≡ Ok c → counters_row ms ≡ Some (named_counters c)
counter_is versions.First ms c e =
    (first_is ms (absent first_keys (codes "group") ms refl
    (none_unknown (unknown_keys first_keys ms) (none_of_known (least_unknown first_keys ms) (first_counter_of ms) c e)))).is c
    (known_is (least_unknown first_keys ms) (first_counter_of ms) c e)
counter_is versions.Second ms c e = (second_is ms).is c (known_is (least_unknown second_keys ms) (second_counter_of ms) c e)

counter_at : (v : Version) (d : Data) (c : CounterRow) → counter_in v d ≡ Ok c → table_of counters_row d ≡ Some (named_counters c)
counter_at v (table ms) c e = counter_is v ms c e
counter_at v (string s) c e = let no : Err (wrong_kind (codes "counter")) ≡ Ok c = e in cc
counter_at v (integer z) c e = let no : Err (wrong_kind (codes "counter")) ≡ Ok c = e in cc
counter_at v (float x) c e = let no : Err (wrong_kind (codes "counter")) ≡ Ok c = e in cc
counter_at v (boolean b) c e = let no : Err (wrong_kind (codes "counter")) ≡ Ok c = e in cc
counter_at v (datetime t) c e = let no : Err (wrong_kind (codes "counter")) ≡ Ok c = e in cc
counter_at v (array ds) c e = let no : Err (wrong_kind (codes "counter")) ≡ Ok c = e in cc

always : {A : Type 0} (xs : List A) → list_all (λ (x : A). true) xs ≡ true
always [] = refl
always (x ∷ xs) = always xs

-- the rows of a counters file
pub counters_are : (ms : Members) (cs : List CounterRow) → counters_of_table ms ≡ Ok cs
    → optional [] (list_of (table_of counters_row)) (codes "counter") ms ≡ Some (map named_counters cs)
unfolding counters_of_table counters_top
counters_are ms cs e =
    of_ok _ (known file_keys ms (counters_top ms)) cs e (λ (top : Version × Items) is_top e1.
    of_ok _ (then.required version_in (codes "version") ms) top
    (known_is (least_unknown file_keys ms) (counters_top ms) top is_top) (λ v is_v e2.
    of_ok _ (then.optional no_items tables_in (codes "counter") ms) top e2 (λ items is_items e3.
    let parts : Version × Items = (v, items) in
    let same : parts ≡ top = ok_is parts top e3 in
    list_optional (codes "counter") (get_member (codes "counter") ms) items (table_of counters_row) (map named_counters cs) is_items
    (rows_are (counter_in v) (table_of counters_row) named_counters (λ c. true) (λ d c f g. counter_at v d c f) items cs
    (ap (λ (x : Version × Items). rows_in (counter_in x.0) x.1) same ∙ e1) (always cs)))))
