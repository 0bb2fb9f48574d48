-- The guide of a table, and of a file's bytes.
use Rattle.std.proofs.Common.{◌≡◌, List, [], Option, Some, None, Result, Ok, Err, codes, option_and_then, option_map, refl, sym, ap, ◌∙◌}
use Rattle.toml.specs.Data.{array, Items, no_items, Members, get_member}
use Rattle.guide_tree.specs.declared.rows.GuideHead.{GuideHead}
use Rattle.guide_tree.specs.declared.rows.HlRule.{HlRule}
use Rattle.guide_tree.specs.declared.rows.Dependency.{Dependency}
use Rattle.guide_tree.specs.declared.rows.GuideRows.{GuideRows}
use Rattle.guide_tree.specs.Words.{GuideTree, Trees, guide_of, numbered, with_slot_numbers}
use Rattle.toml_keys.specs.Keys.{least_unknown}
use Rattle.toml_keys.specs.Tables.{optional, required, some_table, tables_in}
use Rattle.guide_toml.specs.declared.keys.TableKind.TheVariants as kind
use Rattle.guide_toml.specs.Answers.{Answers}
use Rattle.guide_toml.specs.Keys.{keys_of}
use Rattle.guide_toml.specs.Refused.{Refused, at_slot}
use Rattle.guide_toml.specs.Guides.{dependencies_in, guide_of_table as old_guide, guide_top, head_of as old_head, hl_in, known_keys}
use Rattle.guide_toml.specs.Guides.{nodes_in}
use Rattle.night_definition.specs.GuideFile.{dependency_of, guide_of_table, head_of, hl_of, nodes_among}
use Rattle.night_definition.specs.Tables as room
use Rattle.night_equal_guides.specs.Laws.{GuideBytesAreOne, GuideFilesAreOne}
use Rattle.night_equal_guides.proofs.Steps.{known_is, of_ok, ok_is}
use Rattle.night_equal_guides.proofs.Slots.{depends_at, head_is, hl_at}
use Rattle.night_equal_guides.proofs.Nodes.{among_are, array_at, nodes_are, of_placed, own_table, placed_is}

abbrev made : Option GuideHead → Option (Option HlRule) → Option (List Dependency) → Option Trees → Option GuideTree
made head rule rows nodes =
    option_and_then (λ head. option_and_then (λ rule. option_and_then (λ rows. option_and_then (λ nodes.
    Some (record { head = head; hl = rule; depends = rows; nodes = nodes })) nodes) rows) rule) head

abbrev room_hl : Members → Option (Option HlRule)
room_hl ms = room.optional None (λ d. option_map Some (room.table_of hl_of d)) (codes "hl") ms

abbrev room_depends : Members → Option (List Dependency)
room_depends ms = room.optional [] (room.list_of (room.table_of dependency_of)) (codes "depends") ms

abbrev Top : Type 0
Top = GuideHead × Option HlRule × List Dependency × Items

abbrev guide_by : Top → Trees → GuideTree
guide_by top nodes = record { head = top.0; hl = top.1; depends = top.2; nodes = nodes }

top_is : (ms : Members) (top : Top) (trees : Trees) → guide_top ms ≡ Ok top → nodes_in 1 top.3 ≡ Ok trees
    → guide_of_table ms ≡ Some (guide_by top (numbered 1 trees))
unfolding guide_top
top_is ms top trees e f =
    of_ok _ (known_keys kind.Guide ms (old_head ms)) top e (λ head is_head e1.
    of_ok _ (optional None some_table (codes "hl") ms) top e1 (λ rule is_rule e2.
    of_ok _ (optional no_items tables_in (codes "depends") ms) top e2 (λ rows is_rows e3.
    of_ok _ (required tables_in (codes "nodes") ms) top e3 (λ nodes is_nodes e4.
    of_ok _ (hl_in rule) top e4 (λ h is_h e5. of_ok _ (dependencies_in rows) top e5 (λ depends is_depends e6.
    let parts : Top = (head, h, depends, nodes) in
    let same : parts ≡ top = ok_is parts top e6 in
    let room_head : head_of ms ≡ Some head =
    (head_is ms).is head (known_is (least_unknown (keys_of kind.Guide) ms) (old_head ms) head is_head) in
    let room_nodes : nodes_among 1 ms ≡ Some (numbered 1 trees) =
    among_are 1 ms (array nodes) (array_at (codes "nodes") (get_member (codes "nodes") ms) nodes is_nodes)
    ∙ nodes_are 1 1 nodes trees (ap (λ (x : Top). nodes_in 1 x.3) same ∙ f) in
    ap (λ o. made o (room_hl ms) (room_depends ms) (nodes_among 1 ms)) room_head
    ∙ ap (λ o. made (Some head) o (room_depends ms) (nodes_among 1 ms))
    (hl_at (codes "hl") (get_member (codes "hl") ms) rule h is_rule is_h)
    ∙ ap (λ o. made (Some head) (Some h) o (nodes_among 1 ms))
    (depends_at (codes "depends") (get_member (codes "depends") ms) rows depends is_rows is_depends)
    ∙ ap (made (Some head) (Some h) (Some depends)) room_nodes
    ∙ ap (λ (x : Top). Some (guide_by x (numbered 1 trees))) same))))))

pub guide_files_are_one : GuideFilesAreOne
guide_files_are_one ms g e =
    of_placed _ (at_slot 0 (guide_top ms)) g e (λ (top : Top) is_top e1. of_placed _ (nodes_in 1 top.3) g e1 (λ trees is_trees e2.
    top_is ms top trees (own_table 0 (guide_top ms) top is_top) is_trees
    ∙ ap (λ (x : GuideTree). Some (with_slot_numbers x)) (placed_is (guide_by top trees) g e2)))

answered : (t : Members) (rows : GuideRows) (read : Result GuideTree Refused) → old_guide t ≡ read → Answers (Ok rows) read
    → guide_of_table t ≡ Some (guide_of rows)
answered t rows (Ok g) e a = guide_files_are_one t g e ∙ ap Some (sym a.0)
answered t rows (Err r) e a = absurd a

pub guide_bytes_are_one : GuideBytesAreOne
guide_bytes_are_one bytes rows is =
    ap (option_and_then guide_of_table) is.1 ∙ answered is.0 rows (old_guide is.0) refl is.2
