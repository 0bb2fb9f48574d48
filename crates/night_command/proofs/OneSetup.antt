-- Files that make a setup aren't refused.
use Rattle.std.proofs.Common.{◌≡◌, ◌∷◌, ◌∙◌, [], inl, inr, ℕ, ◌+◌, Bool, not, ◌&&◌, ◌||◌, List, Option, None, Some}
use Rattle.std.proofs.Common.{Result, Ok, Err, cond, map, ap, ap₂, refl, subst, sym}
use Rattle.std.specs.Prelude.{option_map, slice_get}
use Rattle.std.specs.List.{list_all, position_from}
use Rattle.std.specs.Option.{option_or}
use Rattle.std.proofs.lemmas.Option.{slice_get-map}
use Rattle.std.proofs.lemmas.Simd.{map-map}
use Rattle.clap.proofs.WalkLemmas.{list_any-map}
use Rattle.toml.specs.Data.{Members}
use Rattle.hub_kinds.specs.Words.{has_same_key, has_twice, contains_text}
use Rattle.guide_tree.specs.Words.{HasFault, IsFirstFault, GuideTree, with_slot_numbers}
use Rattle.guide_tree.specs.declared.fault.GuideFault.{GuideFault}
use Rattle.guide_tree.specs.declared.rows.GuideHead.{GuideHead}
use Rattle.guide_tree.specs.declared.rows.GuideRows.{GuideRows}
use Rattle.guide_toml.specs.Answers.{Answers, Refuses}
use Rattle.guide_toml.specs.Guides.{guide_of_table}
use Rattle.guide_toml.specs.Refused.{Refused}
use Rattle.toml_keys.specs.Refusals.{Refusal}
use Rattle.guide_toml.specs.declared.fault.GuideFileFault.{GuideFileFault}
use Rattle.guide_toml.specs.declared.fault.GuideFileFault.TheVariants as fault
use Rattle.partner_setup.specs.CountersFile.{counters_of_table}
use Rattle.partner_setup.specs.Names.{and_some, places_of_texts, those_at}
use Rattle.partner_setup.specs.Setup.{SetupValue}
use Rattle.partner_setup.specs.SetupFaults.{bad_guides, by_name, first_fault, first_row, first_twin, guide_name, has_guides}
use Rattle.partner_setup.specs.SetupFaults.{purpose_key, key_of_texts, twin_from}
use Rattle.partner_setup.specs.SetupFile.{setup_of_table}
use Rattle.toml_keys.specs.declared.file_fault.FileFault.{FileFault}
use Rattle.toml_keys.specs.declared.file_fault.FileFault.TheVariants as file
use Rattle.partner_setup.specs.declared.rows.CounterRow.{CounterRow}
use Rattle.partner_setup.specs.declared.rows.PartnerRow.{PartnerRow}
use Rattle.partner_setup.specs.declared.rows.SetupRows.{SetupRows}
use Rattle.partner_setup.specs.declared.setup_fault.GuidesOwner.{GuidesOwner}
use Rattle.partner_setup.specs.declared.setup_fault.GuidesOwner.TheVariants as guided
use Rattle.partner_setup.specs.declared.setup_fault.SetupFault.{SetupFault}
use Rattle.guide_toml.specs.FileBytes.{HasTable, IsFileOf, IsGuideOf}
use Rattle.night_command.specs.SetupFiles.{AreGuidesOf, IsFileRefused, IsFirstGuideRefused, IsFirstRefusal}
use Rattle.night_command.specs.SetupFiles.{IsGuideRefused, IsSetupOf}
use Rattle.night_command.specs.declared.failure.Failure.{Failure}
use Rattle.night_command.specs.declared.failure.Failure.TheVariants as failure
use Rattle.night_command.specs.FileAt.{FileValue}
use Rattle.night_command.specs.declared.setup_files.SetupFiles.{SetupFiles}

-- two facts of the table of the same bytes are facts of one table
same_table : {A : Type 0} (bytes : List ℕ) (P Q : Members → Type 0) → ((t : Members) → P t → Q t → A) → HasTable bytes P
    → HasTable bytes Q → A
same_table bytes P Q both first second =
    let same : first.0 ≡ second.0 = cc in
    both second.0 (subst (λ (t : Members). P t) same first.2) second.2

-- a guide isn't refused
not_faulty : (g : GuideRows) (tree : GuideTree) (f : GuideFault) → Answers (Ok g) (Ok tree) → IsFirstFault (with_slot_numbers tree) f → ⊥
not_faulty g tree f is first = is.1.well_formed f (subst (λ (x : GuideTree). HasFault x f) (sym is.0) first.holds)

guide_not_both : (g : GuideRows) (read : Result GuideTree Refused) (r : Refused) → Answers (Ok g) read → read ≡ Err r → ⊥
guide_not_both g (Ok tree) r is refused = cc
guide_not_both g (Err s) r is refused = is

guide_not_faulty : (g : GuideRows) (f : GuideFault) (read : Result GuideTree Refused) → Answers (Ok g) read
    → Refuses (fault.Guide f) read → ⊥
guide_not_faulty g f (Ok tree) is refused = not_faulty g tree f is refused
guide_not_faulty g f (Err r) is refused = refused

guide_or_refused : (from : Option (List ℕ)) (g : GuideRows) (refusal : Option GuideFileFault) → IsGuideOf from g
    → IsGuideRefused from refusal → ⊥
guide_or_refused None g refusal is refused = is
guide_or_refused (Some bytes) g None is refused = refused
guide_or_refused (Some bytes) g (Some fault.NotToml) is refused = let e = is.1 in cc
guide_or_refused (Some bytes) g (Some fault.NoMemory) is refused = refused
guide_or_refused (Some bytes) g (Some (fault.Missing k slot)) is refused =
    same_table bytes _ _ (λ t a b. guide_not_both g (guide_of_table t) _ a b) is refused
guide_or_refused (Some bytes) g (Some (fault.WrongKind k slot)) is refused =
    same_table bytes _ _ (λ t a b. guide_not_both g (guide_of_table t) _ a b) is refused
guide_or_refused (Some bytes) g (Some (fault.Unknown k slot)) is refused =
    same_table bytes _ _ (λ t a b. guide_not_both g (guide_of_table t) _ a b) is refused
guide_or_refused (Some bytes) g (Some (fault.Guide f)) is refused =
    same_table bytes _ _ (λ t a b. guide_not_faulty g f (guide_of_table t) a b) is refused

guides_or_refused : (fs : List FileValue) (gs : List GuideRows) (path : List ℕ) (refusal : Option GuideFileFault) → AreGuidesOf fs gs
    → IsFirstGuideRefused fs path refusal → ⊥
guides_or_refused [] gs path refusal all is = is
guides_or_refused (f ∷ fs) [] path refusal all is = all
guides_or_refused (f ∷ fs) (g ∷ gs) path refusal all (inl here) = guide_or_refused f.bytes g refusal all.0 here.1
guides_or_refused (f ∷ fs) (g ∷ gs) path refusal all (inr behind) = guides_or_refused fs gs path refusal all.1 behind.2

-- nor is another file
not_both : {A : Type 0} (read : Result A Refusal) (rows : A) (r : Refusal) → read ≡ Ok rows → read ≡ Err r → ⊥
not_both read rows r is refused = cc

file_or_refused : {A : Type 0} (read : Members → Result A Refusal) (from : Option (List ℕ)) (rows : A) (refusal : Option FileFault)
    → IsFileOf read from rows → IsFileRefused read from refusal → ⊥
file_or_refused read None rows refusal is refused = is
file_or_refused read (Some bytes) rows None is refused = refused
file_or_refused read (Some bytes) rows (Some file.NotToml) is refused = let e = is.1 in cc
file_or_refused read (Some bytes) rows (Some file.NoMemory) is refused = refused
file_or_refused read (Some bytes) rows (Some (file.Missing k)) is refused =
    same_table bytes _ _ (λ t a b. not_both (read t) rows _ a b) is refused
file_or_refused read (Some bytes) rows (Some (file.WrongKind k)) is refused =
    same_table bytes _ _ (λ t a b. not_both (read t) rows _ a b) is refused
file_or_refused read (Some bytes) rows (Some (file.Unknown k)) is refused =
    same_table bytes _ _ (λ t a b. not_both (read t) rows _ a b) is refused

-- the rows of a file are one
one_of : {A : Type 0} (read : Result A Refusal) (a b : A) → read ≡ Ok a → read ≡ Ok b → a ≡ b
one_of read a b first second = cc

rows_are_one : {A : Type 0} (read : Members → Result A Refusal) (from : Option (List ℕ)) (a b : A) → IsFileOf read from a
    → IsFileOf read from b → a ≡ b
rows_are_one read None a b first second = absurd first
rows_are_one read (Some bytes) a b first second = same_table bytes _ _ (λ t x y. one_of (read t) a b x y) first second

-- and so are the heads of guides, by which a setup is refused
abbrev head_of : GuideRows → GuideHead
head_of g = g.head

head_is_one : (g h : GuideRows) (read : Result GuideTree Refused) → Answers (Ok g) read → Answers (Ok h) read → head_of g ≡ head_of h
head_is_one g h (Ok tree) first second = ap (λ (t : GuideTree). t.head) (first.0 ∙ sym second.0)
head_is_one g h (Err r) first second = absurd first

guide_head_is_one : (from : Option (List ℕ)) (g h : GuideRows) → IsGuideOf from g → IsGuideOf from h → head_of g ≡ head_of h
guide_head_is_one None g h first second = absurd first
guide_head_is_one (Some bytes) g h first second =
    same_table bytes _ _ (λ t x y. head_is_one g h (guide_of_table t) x y) first second

heads_are_one : (fs : List FileValue) (gs hs : List GuideRows) → AreGuidesOf fs gs → AreGuidesOf fs hs → map head_of gs ≡ map head_of hs
heads_are_one [] [] [] first second = refl
heads_are_one [] [] (h ∷ hs) first second = absurd second
heads_are_one [] (g ∷ gs) hs first second = absurd first
heads_are_one (f ∷ fs) [] hs first second = absurd first
heads_are_one (f ∷ fs) (g ∷ gs) [] first second = absurd second
heads_are_one (f ∷ fs) (g ∷ gs) (h ∷ hs) first second =
    ap₂ (λ (x : GuideHead) (xs : List GuideHead). x ∷ xs) (guide_head_is_one f.bytes g h first.0 second.0)
    (heads_are_one fs gs hs first.1 second.1)

-- what is refused of a setup for its guides, by their heads
abbrev name_in : GuideHead → List ℕ
name_in h = h.name

abbrev purpose_in : GuideHead → List ℕ
purpose_in h = key_of_texts h.group h.version h.set

abbrev has_guides_by : List GuideHead → PartnerRow → Bool
has_guides_by hs p =
    list_all (contains_text (map name_in hs)) p.guides
    && not (has_twice purpose_in (those_at hs (places_of_texts (map name_in hs) p.guides)))

abbrev bad_guides_by : List PartnerRow → List GuideHead → Option GuidesOwner
bad_guides_by ps hs = option_or (option_map guided.Partner (first_row (λ p. not (has_guides_by hs p)) ps))
    (option_map guided.Guide (first_twin (λ h. by_name (name_in h)) hs))

and_some_by : (o : Option GuideRows) (xs : List GuideRows) → map head_of (and_some o xs) ≡ and_some (option_map head_of o) (map head_of xs)
and_some_by None xs = refl
and_some_by (Some x) xs = refl

those_by : (gs : List GuideRows) (places : List ℕ) → map head_of (those_at gs places) ≡ those_at (map head_of gs) places
those_by gs [] = refl
those_by gs (p ∷ ps) =
    and_some_by (slice_get gs p) (those_at gs ps)
    ∙ ap₂ (λ (o : Option GuideHead) (xs : List GuideHead). and_some o xs) (sym (slice_get-map head_of gs p)) (those_by gs ps)

twice_by : (key : GuideHead → List ℕ) (gs : List GuideRows) → has_twice (λ g. key (head_of g)) gs ≡ has_twice key (map head_of gs)
twice_by key [] = refl
twice_by key (g ∷ gs) =
    ap₂ (λ (a b : Bool). a || b) (list_any-map (has_same_key key (head_of g)) head_of gs) (twice_by key gs)

twins_by : (key : GuideHead → List ℕ) (n : ℕ) (gs : List GuideRows)
    → twin_from (λ g. key (head_of g)) n gs ≡ twin_from key n (map head_of gs)
twins_by key n [] = refl
twins_by key n (g ∷ gs) =
    ap₂ (λ (b : Bool) (o : Option ℕ). cond b (Some n) o) (list_any-map (λ h. has_same_key key h (head_of g)) head_of gs)
    (twins_by key (n + 1) gs)

names_by : (gs : List GuideRows) → map guide_name gs ≡ map name_in (map head_of gs)
names_by gs = sym (map-map name_in head_of gs)

guides_by : (gs : List GuideRows) (p : PartnerRow) → has_guides gs p ≡ has_guides_by (map head_of gs) p
guides_by gs p =
    let purposes : (places : List ℕ) → has_twice purpose_key (those_at gs places)
    ≡ has_twice purpose_in (those_at (map head_of gs) places) =
    λ places. twice_by purpose_in (those_at gs places) ∙ ap (has_twice purpose_in) (those_by gs places) in
    ap (λ (names : List (List ℕ)). list_all (contains_text names) p.guides
    && not (has_twice purpose_key (those_at gs (places_of_texts names p.guides))))
    (names_by gs)
    ∙ ap (λ (b : Bool). list_all (contains_text (map name_in (map head_of gs))) p.guides && not b)
    (purposes (places_of_texts (map name_in (map head_of gs)) p.guides))

first_by : (test same : PartnerRow → Bool) → ((p : PartnerRow) → test p ≡ same p) → (n : ℕ) (ps : List PartnerRow)
    → position_from test n ps ≡ position_from same n ps
first_by test same are n [] = refl
first_by test same are n (p ∷ ps) =
    ap₂ (λ (b : Bool) (o : Option ℕ). cond b (Some n) o) (are p) (first_by test same are (n + 1) ps)

bad_by : (ps : List PartnerRow) (gs : List GuideRows) → bad_guides ps gs ≡ bad_guides_by ps (map head_of gs)
bad_by ps gs =
    ap₂ (λ (a b : Option ℕ). option_or (option_map guided.Partner a) (option_map guided.Guide b))
    (first_by (λ p. not (has_guides gs p)) (λ p. not (has_guides_by (map head_of gs) p)) (λ p. ap not (guides_by gs p)) 0 ps)
    (twins_by (λ h. by_name (name_in h)) 0 gs)

-- the first fault, where this says whether the guides are bad
fault_is_one : (rows : SetupRows) (counters : List CounterRow) (gs hs : List GuideRows) → map head_of gs ≡ map head_of hs
    → first_fault rows counters gs ≡ first_fault rows counters hs
fault_is_one rows counters gs hs same =
    let bad : bad_guides rows.partners gs ≡ bad_guides rows.partners hs =
    bad_by rows.partners gs ∙ ap (bad_guides_by rows.partners) same ∙ sym (bad_by rows.partners hs) in
    rw (bad) refl

setup_or_refused : (files : SetupFiles) (setup : SetupValue) (refusal : SetupFault) → IsSetupOf files setup
    → IsFirstRefusal files (failure.Setup refusal) → ⊥
setup_or_refused files setup refusal made is =
    let read = is.3 in
    let rows : made.rows ≡ is.1 = rows_are_one setup_of_table files.setup.bytes made.rows is.1 made.read.1 read.1 in
    let counters : made.counters ≡ is.2 = rows_are_one counters_of_table files.counters.bytes made.counters is.2 made.read.2 read.2 in
    let heads = heads_are_one files.guides made.guides is.0 made.read.0 read.0 in
    let faults = fault_is_one is.1 is.2 made.guides is.0 heads in
    let none : first_fault is.1 is.2 made.guides ≡ None =
    subst (λ (r : SetupRows). first_fault r is.2 made.guides ≡ None) rows
    (subst (λ (c : List CounterRow). first_fault made.rows c made.guides ≡ None) counters made.accepted) in
    let some = is.4 in
    cc

pub never_both : (files : SetupFiles) (setup : SetupValue) (failed : Failure) → IsSetupOf files setup → IsFirstRefusal files failed → ⊥
never_both files setup (failure.Guide path refusal) made is = guides_or_refused files.guides made.guides path.now refusal made.read.0 is
never_both files setup (failure.SetupFile refusal) made is =
    file_or_refused setup_of_table files.setup.bytes made.rows refusal made.read.1 is.2
never_both files setup (failure.CountersFile refusal) made is =
    file_or_refused counters_of_table files.counters.bytes made.counters refusal made.read.2 is.4
never_both files setup (failure.Setup refusal) made is = setup_or_refused files setup refusal made is
never_both files setup _ made is = is
