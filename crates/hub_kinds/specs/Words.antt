-- The words of clauses of hub_kinds: what its definitions are called, in one place.
pub use Rattle.hub_kinds.specs.ByText.{by_text}
pub use Rattle.hub_kinds.specs.Characters.{is_segment_id, is_upper_or_digit, is_word}
pub use Rattle.hub_kinds.specs.Codes.{element_rank, element_code_text, segment_rank, segment_code_text}
pub use Rattle.hub_kinds.specs.Fault.{AreElementsRising, AreRising, elem_key, element_key_of, head_of, key_of}
pub use Rattle.hub_kinds.specs.Interchange.{acknowledgment_code, fault_rank, fault_text, note_text}
pub use Rattle.hub_kinds.specs.Numbers.{is_number, number_of, value_of}
pub use Rattle.hub_kinds.specs.Place.{place_key}
pub use Rattle.hub_kinds.specs.Rising.{IsKeyedBy, IsRisingBy, order_by}
pub use Rattle.hub_kinds.specs.SetCodes.{group_code_text, group_verdict_text, set_code_text, verdict_text}
pub use Rattle.hub_kinds.specs.TextList.{contains_text}
pub use Rattle.hub_kinds.specs.Twice.{has_same_key, has_twice}
