-- Segments, loops, hierarchies, dependencies and the head of a guide, as their tables write them.
use Rattle.std.proofs.Common.{◌≡◌, ℕ, List, [], ◌∷◌, Option, Some, None, Result, Ok, Err, codes, option_map, option_and_then, refl, sym, ap}
use Rattle.std.proofs.Common.{◌∙◌}
use Rattle.std.specs.Option.{option_map_or}
use Rattle.toml.specs.Data.{Data, string, integer, float, boolean, datetime, array, table, Items, no_items, item, Members}
use Rattle.toml.specs.Data.{as_bool, as_str}
use Rattle.guide_tree.specs.declared.slot.Slot.{Slot}
use Rattle.guide_tree.specs.declared.node.Loop.{Loop}
use Rattle.guide_tree.specs.declared.rows.HlRule.{HlRule}
use Rattle.guide_tree.specs.declared.rows.Dependency.{Dependency}
use Rattle.toml_keys.specs.Refusals.{Refusal, wrong_kind}
use Rattle.toml_keys.specs.Keys.{if_known, least_unknown}
use Rattle.toml_keys.specs.Tables.{count_of_data, optional_of, required, some_table, some_word_in, tables_in, word_in}
use Rattle.guide_toml.specs.declared.keys.TableKind.TheVariants as kind
use Rattle.guide_toml.specs.declared.entry.Form.TheVariants as form
use Rattle.guide_toml.specs.Entries.{formed}
use Rattle.guide_toml.specs.Keys.{keys_of}
use Rattle.guide_toml.specs.ElementTexts.{element_of_text}
use Rattle.guide_toml.specs.Entries as entries
use Rattle.guide_toml.specs.Values.{dependency_kind_in, group_in, texts_in}
use Rattle.guide_toml.specs.Guides.{segment_of, loop_of as old_loop, hl_of as old_hl, dependency_of as old_dependency, head_of as old_head}
use Rattle.guide_toml.specs.Guides.{dependencies_in, dependency_in, hl_in}
use Rattle.night_definition.specs.Acknowledgments.{is_id}
use Rattle.night_definition.specs.Tables.{each, list_of, number, only, one_of, table_of, texts, word}
use Rattle.night_definition.specs.GuideFile.{condition_of, dependency_of, element_code, element_text, head_of, hl_of, is_code, is_group}
use Rattle.night_definition.specs.GuideFile.{loop_of}
use Rattle.night_definition.specs.GuideFile.{pair_of, pick_of, segment_code, slot_of}
use Rattle.night_equal_guides.proofs.Steps.{IsGiven, asked_is, gives, known_is, may, needs, number_is, of_ok, ok_is, skips, tables_are}
use Rattle.night_equal_guides.proofs.Steps.{texts_are}
use Rattle.night_equal_guides.proofs.Elements.{element_text_is}
use Rattle.night_equal_guides.proofs.Entries.{condition_is, element_code_is, kind_is, kinds, pair_is, pick_is, segment_code_is}

abbrev pub with_number : ℕ → Slot → Slot
with_number n s = record s { number = n }

abbrev pub with_loop_number : ℕ → Loop → Loop
with_loop_number n l = record l { number = n }

pub slot_is : (n : ℕ) (ms : Members) → IsGiven (with_number n) (segment_of ms) (slot_of n ms)
unfolding segment_of
slot_is n ms =
    needs (with_number n) _ _ as_str as_str (codes "seg") ms (λ d. refl) (λ id.
    needs (with_number n) _ _ count_of_data number (codes "min") ms number_is (λ least.
    needs (with_number n) _ _ count_of_data number (codes "max") ms number_is (λ most.
    may (with_number n) _ _ None (some_word_in 1 20) (λ d. option_map Some (word 1 20 d)) (codes "label") ms (λ d. refl) (λ label.
    may (with_number n) _ _ [] (texts_in entries.pick_of) (texts pick_of) (codes "pick") ms
    (texts_are entries.pick_of pick_of (λ t. sym (pick_is t))) (λ picks.
    needs (with_number n) _ _ (texts_in element_of_text) (texts element_text) (codes "elements") ms
    (texts_are element_of_text element_text (λ t. sym (element_text_is t))) (λ elements.
    may (with_number n) _ _ [] (texts_in entries.condition_of) (texts condition_of) (codes "conditions") ms
    (texts_are entries.condition_of condition_of (λ t. sym (condition_is t))) (λ conditions.
    gives (with_number n) _)))))))

pub loop_is : (n : ℕ) (ms : Members) → IsGiven (with_loop_number n) (old_loop ms) (loop_of n ms)
unfolding old_loop
loop_is n ms =
    needs (with_loop_number n) _ _ (word_in 1 4) (word 1 4) (codes "loop") ms (λ d. refl) (λ id.
    needs (with_loop_number n) _ _ count_of_data number (codes "min") ms number_is (λ least.
    needs (with_loop_number n) _ _ count_of_data number (codes "max") ms number_is (λ most.
    skips (with_loop_number n) _ (required tables_in (codes "nodes") ms) _ (λ nodes. gives (with_loop_number n) _))))

-- the nodes of a loop are a list of tables
pub loop_nodes : {P : Type 0} (ms : Members) (l : Loop) → old_loop ms ≡ Ok l
    → ((nodes : Items) → required tables_in (codes "nodes") ms ≡ Ok nodes → P) → P
unfolding old_loop
loop_nodes ms l e k =
    of_ok _ (required (word_in 1 4) (codes "loop") ms) l e (λ id is_id e1.
    of_ok _ (required count_of_data (codes "min") ms) l e1 (λ least is_least e2.
    of_ok _ (required count_of_data (codes "max") ms) l e2 (λ most is_most e3.
    of_ok _ (required tables_in (codes "nodes") ms) l e3 (λ nodes is_nodes e4. k nodes is_nodes))))

pub hl_is : (ms : Members) → IsGiven (λ x. x) (old_hl ms) (hl_of ms)
unfolding old_hl
hl_is ms =
    needs (λ x. x) _ _ (texts_in entries.pair_of) (texts pair_of) (codes "pairs") ms
    (texts_are entries.pair_of pair_of (λ t. sym (pair_is t))) (λ pairs.
    needs (λ x. x) _ _ as_bool as_bool (codes "sequential") ms (λ d. refl) (λ sequential. gives (λ x. x) _))

code_is : (t : List ℕ) → formed form.Code t ≡ only is_code t
code_is t = refl

id_is : (t : List ℕ) → formed form.SegmentId t ≡ only is_id t
id_is t = refl

pub dependency_is : (ms : Members) → IsGiven (λ x. x) (old_dependency ms) (dependency_of ms)
unfolding old_dependency
dependency_is ms =
    needs (λ x. x) _ _ dependency_kind_in (λ d. option_and_then (one_of kinds) (as_str d)) (codes "kind") ms kind_is (λ k.
    needs (λ x. x) _ _ (word_in 1 20) (word 1 20) (codes "slot") ms (λ d. refl) (λ slot.
    needs (λ x. x) _ _ count_of_data number (codes "at") ms number_is (λ position.
    needs (λ x. x) _ _ (texts_in (formed form.Code)) (texts (only is_code)) (codes "codes") ms
    (texts_are (formed form.Code) (only is_code) code_is) (λ values.
    needs (λ x. x) _ _ (word_in 1 20) (word 1 20) (codes "target") ms (λ d. refl) (λ target.
    needs (λ x. x) _ _ count_of_data number (codes "element") ms number_is (λ element. gives (λ x. x) _))))))

pub head_is : (ms : Members) → IsGiven (λ x. x) (old_head ms) (head_of ms)
unfolding old_head
head_is ms =
    needs (λ x. x) _ _ (word_in 1 20) (word 1 20) (codes "name") ms (λ d. refl) (λ name.
    needs (λ x. x) _ _ group_in (λ d. option_and_then (only is_group) (as_str d)) (codes "group") ms (λ d. refl) (λ group.
    needs (λ x. x) _ _ (word_in 3 3) (word 3 3) (codes "set") ms (λ d. refl) (λ set.
    needs (λ x. x) _ _ (word_in 1 12) (word 1 12) (codes "version") ms (λ d. refl) (λ version.
    may (λ x. x) _ _ None (some_word_in 1 35) (λ d. option_map Some (word 1 35 d)) (codes "convention") ms (λ d. refl) (λ convention.
    may (λ x. x) _ _ [] (texts_in (formed form.SegmentId)) (texts (only is_id)) (codes "dictionary") ms
    (texts_are (formed form.SegmentId) (only is_id) id_is) (λ dictionary.
    may (λ x. x) _ _ [] (texts_in entries.segment_code_of) (texts segment_code) (codes "tolerate_segment") ms
    (texts_are entries.segment_code_of segment_code (λ t. sym (segment_code_is t))) (λ tolerate_segment.
    may (λ x. x) _ _ [] (texts_in entries.element_code_of) (texts element_code) (codes "tolerate_element") ms
    (texts_are entries.element_code_of element_code (λ t. sym (element_code_is t))) (λ tolerate_element. gives (λ x. x) _))))))))

-- the table of levels, where there is one
hl_there : (ms : Members) (h : Option HlRule) → hl_in (Some ms) ≡ Ok h → option_map Some (hl_of ms) ≡ Some h
hl_there ms h e =
    of_ok _ (if_known (least_unknown (keys_of kind.Hierarchy) ms) (old_hl ms)) h e (λ rule is_rule e1.
    ap (option_map Some) ((hl_is ms).is rule (known_is (least_unknown (keys_of kind.Hierarchy) ms) (old_hl ms) rule is_rule))
    ∙ ap Some (ok_is (Some rule) h e1))

no_table : (key : List ℕ) (rule : Option Members) (h : Option (Option HlRule)) (x : Option HlRule)
    → (let r : Result (Option Members) Refusal = Err (wrong_kind key) in r ≡ Ok rule) → h ≡ Some x
no_table key rule h x e = cc

hl_by : (key : List ℕ) (d : Data) (rule : Option Members) (h : Option HlRule) → optional_of None some_table key (Some d) ≡ Ok rule
    → hl_in rule ≡ Ok h → option_map Some (table_of hl_of d) ≡ Some h
hl_by key (table ms) rule h e f = hl_there ms h (ap hl_in (ok_is (Some ms) rule e) ∙ f)
hl_by key (string s) rule h e f = no_table key rule _ h e
hl_by key (integer z) rule h e f = no_table key rule _ h e
hl_by key (float x) rule h e f = no_table key rule _ h e
hl_by key (boolean b) rule h e f = no_table key rule _ h e
hl_by key (datetime t) rule h e f = no_table key rule _ h e
hl_by key (array ds) rule h e f = no_table key rule _ h e

pub hl_at : (key : List ℕ) (o : Option Data) (rule : Option Members) (h : Option HlRule) → optional_of None some_table key o ≡ Ok rule
    → hl_in rule ≡ Ok h → option_map_or (λ d. option_map Some (table_of hl_of d)) o (Some None) ≡ Some h
hl_at key None rule h e f = ap Some (ok_is None h (ap hl_in (ok_is None rule e) ∙ f))
hl_at key (Some d) rule h e f = hl_by key d rule h e f

dependency_at : (d : Data) (x : Dependency) → dependency_in d ≡ Ok x → table_of dependency_of d ≡ Some x
dependency_at (table ms) x e =
    (dependency_is ms).is x (known_is (least_unknown (keys_of kind.Dependency) ms) (old_dependency ms) x e)
dependency_at (string s) x e = let no : Err (wrong_kind (codes "depends")) ≡ Ok x = e in cc
dependency_at (integer z) x e = let no : Err (wrong_kind (codes "depends")) ≡ Ok x = e in cc
dependency_at (float f) x e = let no : Err (wrong_kind (codes "depends")) ≡ Ok x = e in cc
dependency_at (boolean b) x e = let no : Err (wrong_kind (codes "depends")) ≡ Ok x = e in cc
dependency_at (datetime t) x e = let no : Err (wrong_kind (codes "depends")) ≡ Ok x = e in cc
dependency_at (array ds) x e = let no : Err (wrong_kind (codes "depends")) ≡ Ok x = e in cc

dependencies_are : (ds : Items) (xs : List Dependency) → dependencies_in ds ≡ Ok xs → each (table_of dependency_of) ds ≡ Some xs
dependencies_are no_items xs e = ap Some (ok_is [] xs e)
dependencies_are (item d ds) xs e =
    of_ok _ (dependency_in d) xs e (λ x is_x e1. of_ok _ (dependencies_in ds) xs e1 (λ more is_more e2.
    ap (option_and_then (λ y. option_map (λ (ys : List Dependency). y ∷ ys) (each (table_of dependency_of) ds))) (dependency_at d x is_x)
    ∙ ap (option_map (λ (ys : List Dependency). x ∷ ys)) (dependencies_are ds more is_more) ∙ ap Some (ok_is (x ∷ more) xs e2)))

pub depends_at : (key : List ℕ) (o : Option Data) (rows : Items) (xs : List Dependency) → optional_of no_items tables_in key o ≡ Ok rows
    → dependencies_in rows ≡ Ok xs → option_map_or (list_of (table_of dependency_of)) o (Some []) ≡ Some xs
depends_at key None rows xs e f = ap Some (ok_is [] xs (ap dependencies_in (ok_is no_items rows e) ∙ f))
depends_at key (Some d) rows xs e f =
    ap (option_and_then (each (table_of dependency_of))) (tables_are d rows (asked_is key (tables_in d) rows e))
    ∙ dependencies_are rows xs f
