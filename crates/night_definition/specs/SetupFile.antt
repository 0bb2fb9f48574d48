-- own: the setup described by a setup file, a counters file and guides; and the files of a night.
use Rattle.std.specs.Prelude.{ℕ, ◌-◌, List, [], ◌∷◌, ◌++◌, length, map, codes, decimal, Option, Some, None, Bool, not, ◌&&◌, ◌||◌}
use Rattle.std.specs.Prelude.{option_map, bytes_eq, find, position, slice_index_or, take}
use Rattle.std.specs.Option.{option_map_or}
use Rattle.std.specs.List.{list_any}
use Rattle.toml.specs.Data.{Data, Members, as_str}
use Rattle.x12_bytes.specs.declared.delims.Delims.{Delims}
use Rattle.hub_kinds.specs.declared.counters.Counters.{Counters}
use Rattle.guide_tree.specs.Tree.{GuideTree}
use Rattle.partner_setup.specs.declared.partner.Partner.{Partner}
use Rattle.partner_setup.specs.declared.partner.Route.{Route}
use Rattle.partner_setup.specs.declared.rows.HubRow.{HubRow}
use Rattle.partner_setup.specs.declared.rows.Usage.TheVariants as isa15
use Rattle.night_definition.specs.Header.{divided}
use Rattle.night_definition.specs.Setup.{Setup}
use Rattle.night_definition.specs.Night.{Night}
use Rattle.night_definition.specs.Tables.{◌>>=◌, required, optional, number, list_of, table_of, texts, one_of}

abbrev pub text : (key : List ℕ) → Members → Option (List ℕ)
text key ms = required as_str key ms

abbrev pub hub_of : Members → Option HubRow
hub_of ms =
    text (codes "qualifier") ms >>= λ qualifier. text (codes "id") ms >>= λ id. text (codes "code") ms >>= λ code.
    text (codes "usage") ms >>= λ u. one_of ((codes "P", isa15.Production) ∷ (codes "T", isa15.Test) ∷ []) u >>= λ usage.
    Some (record { qualifier = qualifier; id = id; code = code; usage = usage })

-- the place of a name in a list
abbrev pub place_of : List (List ℕ) → (name : List ℕ) → Option ℕ
place_of names name = position (bytes_eq name) names

-- a partner's counters are those of its row, or 1, 1 and 1; in version 1 a row has no group counter, which starts at 1
abbrev pub counters_row : Members → Option (List ℕ × Counters)
counters_row ms =
    text (codes "partner") ms >>= λ name. required number (codes "interchange") ms >>= λ interchange.
    optional 1 number (codes "group") ms >>= λ group. required number (codes "set") ms >>= λ set.
    Some (name, record { interchange = interchange; group = group; set = set })

abbrev pub counters_of : List (List ℕ × Counters) → (name : List ℕ) → Counters
counters_of rows name =
    option_map_or (λ (r : List ℕ × Counters). r.1) (find (λ (r : List ℕ × Counters). bytes_eq r.0 name) rows)
    (record { interchange = 1; group = 1; set = 1 })

abbrev pub only_byte : List ℕ → Option ℕ
only_byte (b ∷ []) = Some b
only_byte t = None

abbrev pub byte : (key : List ℕ) → Members → Option ℕ
byte key ms = text key ms >>= only_byte

abbrev pub delims_of : Members → Option Delims
delims_of ms =
    byte (codes "element") ms >>= λ e. byte (codes "component") ms >>= λ c. byte (codes "repetition") ms
    >>= λ r. byte (codes "terminator") ms >>= λ t.
    Some (record { element = e; component = c; repetition = Some r; terminator = t })

abbrev pub partner_of : List (List ℕ × Counters) → List GuideTree → Members → Option Partner
partner_of rows guides ms =
    text (codes "name") ms >>= λ name. text (codes "qualifier") ms >>= λ qualifier. text (codes "id") ms >>= λ id.
    text (codes "code") ms >>= λ code. delims_of ms >>= λ delims. required number (codes "cap") ms >>= λ cap.
    required (texts (place_of (map (λ g. g.head.name) guides))) (codes "guides") ms >>= λ places.
    Some (record {
      name = name;
      qualifier = qualifier;
      id = id;
      code = code;
      delims = delims;
      cap = cap;
      counters = counters_of rows name;
      guides = places;
    })

abbrev pub names_of : List Partner → List (List ℕ)
names_of ps = map (λ (p : Partner). p.name) ps

-- `to` is a partner's name, or a list of them
abbrev pub receivers : List Partner → Data → Option (List ℕ)
receivers ps d =
    option_map_or (λ name. option_map (λ p. p ∷ []) (place_of (names_of ps) name)) (as_str d) (texts (place_of (names_of ps)) d)

abbrev pub route_of : List Partner → Members → Option Route
route_of ps ms = text (codes "code") ms >>= λ code. required (receivers ps) (codes "to") ms
    >>= λ to. Some (record { code = code; to = to })

abbrev pub setup_of_tables : (setup counters : Members) → List GuideTree → Option Setup
setup_of_tables setup counters guides =
    optional [] (list_of (table_of counters_row)) (codes "counter") counters >>= λ rows.
    required (table_of hub_of) (codes "hub") setup >>= λ hub.
    required (list_of (table_of (partner_of rows guides))) (codes "partner") setup >>= λ partners.
    optional [] (list_of (table_of (route_of partners))) (codes "route") setup >>= λ routes.
    Some (record { hub = hub; partners = partners; routes = routes; guides = guides })

abbrev pub counter_text : Partner → Counters → List ℕ
counter_text p c =
    codes "\n[[counter]]\npartner = \"" ++ p.name ++ codes "\"\ninterchange = " ++ decimal c.interchange
    ++ codes "\ngroup = " ++ decimal c.group ++ codes "\nset = " ++ decimal c.set ++ codes "\n"

abbrev pub counter_texts : List Partner → List Counters → List ℕ
counter_texts [] cs = []
counter_texts (p ∷ ps) [] = []
counter_texts (p ∷ ps) (c ∷ cs) = counter_text p c ++ counter_texts ps cs

-- the text of the next night's counters
abbrev pub counters_text : List Partner → List Counters → List ℕ
counters_text partners next = codes "version = 2\n" ++ counter_texts partners next

abbrev pub partner_files : List Partner → (acks boxes : List (List ℕ)) → List (List ℕ × List ℕ)
partner_files (p ∷ ps) (a ∷ acks) (b ∷ boxes) =
    (p.name ++ codes ".ack", a) ∷ (p.name ++ codes ".box", b) ∷ partner_files ps acks boxes
partner_files ps acks boxes = []

-- each file's name and bytes
abbrev pub night_files : Setup → Night → List (List ℕ × List ℕ)
night_files setup night =
    partner_files setup.partners night.acks night.boxes
    ++ (codes "report.txt", night.report) ∷ (codes "counters.toml", counters_text setup.partners night.next) ∷ []

abbrev pub lines_of : (report : List ℕ) → List (List ℕ)
lines_of report = let parts = divided 10 report in take (length parts - 1) parts

abbrev pub has_word : (line : List ℕ) → (n : ℕ) → (word : List ℕ) → Bool
has_word line n word = bytes_eq (slice_index_or (divided 32 line) (n - 1) []) word

-- a night is clean if nothing is refused, held or outside, and no group is P or R
abbrev pub is_clean : (report : List ℕ) → Bool
is_clean report =
    let lines = lines_of report in
    let last = slice_index_or lines (length lines - 1) [] in
    not (list_any (λ l. has_word l 1 (codes "held") || (has_word l 1 (codes "interchange") && has_word l 9 (codes "refused"))
    || (has_word l 1 (codes "group") && (has_word l 4 (codes "P") || has_word l 4 (codes "R")))) lines)
    && has_word last (length (divided 32 last)) (codes "0")
