-- Numbers, segments, headers, trailers and groups are written alike by the definition and by the layers.
use Rattle.std.specs.Prelude.{◌≡◌, ℕ, List}
use Rattle.x12_bytes.specs.declared.delims.Delims.{Delims}
use Rattle.moment.specs.Moment as old_moment
use Rattle.x12_write.specs.declared.group.GroupHeader.{GroupHeader}
use Rattle.x12_write.specs.Number as old_number
use Rattle.x12_write.specs.Segment as old_segment
use Rattle.x12_write.specs.Header as old_header
use Rattle.x12_write.specs.Trailer as old_trailer
use Rattle.x12_write.specs.Group as old_group
use Rattle.count_numbers.specs.Num as old_num
use Rattle.partner_setup.specs.declared.partner.Partner.{Partner}
use Rattle.partner_setup.specs.declared.rows.HubRow.{HubRow}
use Rattle.partner_setup.specs.Envelopes.{envelope_between}
use Rattle.night_definition.specs.Written as room
use Rattle.night_definition.specs.Acknowledgments as room_acks

pub record TextsAreOne : Type 0 where
  -- X12.6, N0 and AN
  pub number : (least n : ℕ) → room.padded_number least n ≡ old_number.padded_number least n
  pub text : (least : ℕ) (text : List ℕ) → room.padded_text least text ≡ old_number.padded_text least text
  -- a moment's date, short date and time
  pub date : (at : List ℕ) → room.date_of at ≡ old_moment.date_of at
  pub short_date : (at : List ℕ) → room.short_date_of at ≡ old_moment.short_date_of at
  pub time : (at : List ℕ) → room.time_of at ≡ old_moment.time_of at
  -- which control number comes so far after a first one
  pub num : (start k : ℕ) → room_acks.num start k ≡ old_num.num start k
  -- a segment, with all of its elements or without the empty ones at its end
  pub full : (d : Delims) (id : List ℕ) (elements : List (List ℕ)) → room.full_text d id elements
      ≡ old_segment.full_segment_text d id elements
  pub segment : (d : Delims) (id : List ℕ) (elements : List (List ℕ)) → room.segment_text d id elements
      ≡ old_segment.segment_text d id elements
  -- ISA, IEA, and a group with its GS and GE
  pub isa : (hub : HubRow) (p : Partner) (at : List ℕ) (number : ℕ)
      → room.isa_text hub p at number ≡ old_header.header_text (envelope_between hub p) at number
  pub iea : (d : Delims) (groups number : ℕ) → room.iea_text d groups number ≡ old_trailer.trailer_text d groups number
  pub group : (d : Delims) (at : List ℕ) (g : GroupHeader) (sets : List (List ℕ))
      → room.group_text d at g.functional_id g.sender g.receiver g.control g.version sets ≡ old_group.group_text d at g sets
