-- The words of clauses of guide_tree: what its definitions are called, in one place.
pub use Rattle.guide_tree.specs.Accepted.{IsAccepted}
pub use Rattle.guide_tree.specs.Ambiguity.{AreRivals, IsAmbiguousAt, IsPlaceOrBeginning}
pub use Rattle.guide_tree.specs.Bounds.{are_codes_bounded, envelope_ids, is_bounded, is_component_bounded, is_element_bounded, has_codes}
pub use Rattle.guide_tree.specs.Bounds.{is_length_range, is_loop_bounded, is_loop_id, is_repeat, is_row_bounded, is_slot_bounded}
pub use Rattle.guide_tree.specs.Bounds.{is_slot_id, is_use_range, is_within}
pub use Rattle.guide_tree.specs.Conditions.{are_names_known, are_picks_of, has_label, has_row, has_trigger, is_condition_of}
pub use Rattle.guide_tree.specs.Conditions.{is_conditioned, is_dependency_of, is_distinct, is_hierarchy_of, is_hierarchy_slot}
pub use Rattle.guide_tree.specs.Conditions.{is_label_new, is_once, is_pick_of, is_slot_conditioned, is_triggered, labelled, pick_position}
pub use Rattle.guide_tree.specs.Faults.{FailsAt, HasFault, IsBelow, IsFirstFault, IsWellFormed, order_of}
pub use Rattle.guide_tree.specs.Fits.{fit_again, fit_behind, fit_from, fit_in, fit_next, fit_start, fit_starts}
pub use Rattle.guide_tree.specs.Grammar.{Derives, Given, IsDerived, IsPart, joined}
pub use Rattle.guide_tree.specs.Judging.{between_slots, first_in_rows, first_in_size}
pub use Rattle.guide_tree.specs.Nexts.{Candidate, again, first_fit, into, may_repeat, nexts, nexts_from, nexts_in, next_place_of}
pub use Rattle.guide_tree.specs.Nexts.{placing_from}
pub use Rattle.guide_tree.specs.Nexts.{placing_of, start_of, starts}
pub use Rattle.guide_tree.specs.Pass.{end_faults, ended, ended_in, entered, fault_of, loop_of, missing, pass, past, step_faults, stepped}
pub use Rattle.guide_tree.specs.Pass.{stepped_in, stray_fault, structure_faults, too_few, unused}
pub use Rattle.guide_tree.specs.Places.{FitsAt, Follows, IsFirst, IsNext, IsPlacing, MayCome, MayRepeat, Pair, Place, slot_at, slot_given}
pub use Rattle.guide_tree.specs.Places.{slot_in, slot_nth, use_of}
pub use Rattle.guide_tree.specs.Rivals.{Numbers, against, against_each, against_slot, entry, is_less, keep_least, least_in, least_rivals}
pub use Rattle.guide_tree.specs.Rivals.{numbers_of, within, within_in}
pub use Rattle.guide_tree.specs.Room.{room_left}
pub use Rattle.guide_tree.specs.Rules.{first_failing, first_failing_in, keeps}
pub use Rattle.guide_tree.specs.Segments.{Segment, agree, can_fit_both, element_at, fits, segment_id, share_text}
pub use Rattle.guide_tree.specs.Slots.{IsSound, has_slot_number, slot_numbered}
pub use Rattle.guide_tree.specs.Structure.{Begins, Has, IsBefore, IsBehind, IsFirstAt, IsNowhere, IsPast, IsReportedAt, IsShort, IsStray}
pub use Rattle.guide_tree.specs.Structure.{IsStructureFault, IsThere, few_code, first_id, innermost, loop_id_at, node_at, node_fault}
pub use Rattle.guide_tree.specs.Structure.{node_in, node_nth, past_code, stray_code}
pub use Rattle.guide_tree.specs.Tree.{AnyIn, AnyNode, EachIn, EachNode, GuideTree, Tree, Trees, any_slot, count_in, find_slot}
pub use Rattle.guide_tree.specs.Tree.{find_slot_in, loop, max_of, min_of, nesting, nesting_in, no_trees, node_count, node_number, numbered}
pub use Rattle.guide_tree.specs.Tree.{numbered_in, or_else, segment, tree, with_slot_numbers}
pub use Rattle.guide_tree.specs.View.{guide_of, nodes_view, numbered_guide, view}
