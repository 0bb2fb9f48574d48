-- X12.5, interchange control, and X12.6, functional group and transaction set: what a partner finds in its mailbox (own: which
-- values the headers have). All is written with the partner's delimiters, with no byte between segments.
use Rattle.std.specs.Prelude.{ℕ, ◌+◌, ◌==◌, List, [], ◌∷◌, ◌++◌, Option, Some, None, map, length, take, drop, codes, decimal, unwrap_or}
use Rattle.std.specs.Prelude.{slice_get, if◌then◌else◌}
use Rattle.std.specs.List.{flat_map}
use Rattle.x12_bytes.specs.declared.delims.Delims.{Delims}
use Rattle.x12_segs.specs.Words.{SegValue, elements_of, element_of}
use Rattle.count_numbers.specs.Layout.{interchanges_of}
use Rattle.count_numbers.specs.Num.{num}
use Rattle.partner_setup.specs.declared.partner.Partner.{Partner}
use Rattle.partner_setup.specs.Setup.{SetupValue}
use Rattle.partner_setup.specs.Envelopes.{envelope_to}
use Rattle.x12_write.specs.declared.group.GroupHeader.{GroupHeader}
use Rattle.x12_write.specs.Delimiters.{is_this}
use Rattle.x12_write.specs.Group.{group_text}
use Rattle.x12_write.specs.Header.{header_text}
use Rattle.x12_write.specs.Number.{set_number}
use Rattle.x12_write.specs.Segment.{segment_text, elements_text}
use Rattle.x12_write.specs.Trailer.{trailer_text}
use Rattle.mailbox.specs.Deliveries.{inner_in}
use Rattle.answered_sets.specs.Judged.{PlacedValue, delims_in}
use Rattle.mailbox.specs.Numbered.{NumberedValue, groups_of, numbered_from, sender_in}

-- a byte of a set, with the delimiters changed to the receiver's
abbrev pub mapped_byte : Delims → Delims → ℕ → ℕ
mapped_byte from to b =
    if b == from.element then to.element
    else if b == from.component then to.component
    else if b == from.terminator then to.terminator
    else if is_this from.repetition b then unwrap_or to.repetition b
    else b

abbrev pub mapped : Delims → Delims → List ℕ → List ℕ
mapped from to bytes = map (mapped_byte from to) bytes

-- elements, each after an element separator
abbrev pub mapped_elements : Delims → Delims → List (List ℕ) → List ℕ
mapped_elements from to elements = elements_text to.element (map (mapped from to) elements)

-- ST: as written, with ST02 written anew
abbrev pub set_header_text : Delims → Delims → SegValue → ℕ → List ℕ
set_header_text from to header n =
    codes "ST" ++ mapped_elements from to (take 1 (drop 1 (elements_of header)))
    ++ elements_text to.element (set_number n ∷ [])
    ++ mapped_elements from to (drop 2 (drop 1 (elements_of header)))
    ++ to.terminator ∷ []

-- a segment between ST and SE
abbrev pub inner_text : Delims → Delims → SegValue → List ℕ
inner_text from to seg = mapped from to seg.bytes ++ to.terminator ∷ []

-- SE, written anew
abbrev pub set_trailer_text : Delims → ℕ → ℕ → List ℕ
set_trailer_text to segments n = segment_text to (codes "SE") (decimal segments ∷ set_number n ∷ [])

-- a set as it is delivered, as set number n
abbrev pub set_text : (to : Delims) → PlacedValue → ℕ → List ℕ
set_text to p n =
    set_header_text (delims_in p) to p.set.header n ++ flat_map (inner_text (delims_in p) to) (inner_in p)
    ++ set_trailer_text to (length (inner_in p) + 2) n

-- the number of a delivered set: this many after the partner's first
abbrev pub numbered_text : Partner → NumberedValue → List ℕ
numbered_text partner x = set_text partner.delims x.set (num partner.counters.set x.place)

-- the sender's application code
abbrev pub code_by : Option Partner → List ℕ
code_by None = []
code_by (Some partner) = partner.code

abbrev pub sender_code : SetupValue → PlacedValue → List ℕ
sender_code setup p = code_by (slice_get setup.partners (sender_in p))

-- GS by the first set of the group: its GS01 and GS08, from the sender's code to the partner's
abbrev pub group_header_of : SetupValue → Partner → (g : ℕ) → PlacedValue → GroupHeader
group_header_of setup partner g p = record {
  functional_id = element_of p.group.header 1;
  sender = sender_code setup p;
  receiver = partner.code;
  control = g;
  version = element_of p.group.header 8;
}

-- a group: GS by its first set, its sets, GE
abbrev pub delivered_group_text : SetupValue → Partner → (at : List ℕ) → (g : ℕ) → List NumberedValue → List ℕ
delivered_group_text setup partner at g [] = []
delivered_group_text setup partner at g (x ∷ xs) =
    group_text partner.delims at (group_header_of setup partner g x.set) (map (numbered_text partner) (x ∷ xs))

-- groups, the first of them as number g of those that the partner is sent: GS06 and GE02 are the number so far after its counter
abbrev pub groups_text : SetupValue → Partner → (at : List ℕ) → (g : ℕ) → List (List NumberedValue) → List ℕ
groups_text setup partner at g [] = []
groups_text setup partner at g (group ∷ groups) =
    delivered_group_text setup partner at (num partner.counters.group g) group ++ groups_text setup partner at (g + 1) groups

-- a delivered interchange, before which the partner is sent this many groups
abbrev pub delivered_text : SetupValue → Partner → (at : List ℕ) → (number before : ℕ) → List NumberedValue → List ℕ
delivered_text setup partner at number before sets =
    header_text (envelope_to setup partner) at number
    ++ groups_text setup partner at before (groups_of sets)
    ++ trailer_text partner.delims (length (groups_of sets)) number

-- delivered interchanges, the first of them as number k of those that the partner is sent, and its groups after this many before
abbrev pub delivered_texts : SetupValue → Partner → (at : List ℕ) → (k before : ℕ) → List (List NumberedValue) → List ℕ
delivered_texts setup partner at k before [] = []
delivered_texts setup partner at k before (sets ∷ more) =
    delivered_text setup partner at (num partner.counters.interchange k) before sets
    ++ delivered_texts setup partner at (k + 1) (before + length (groups_of sets)) more

-- a partner's mailbox, after this many acknowledgments, this many of them with a group: set k is in interchange k / cap
abbrev pub box_text : SetupValue → Partner → (at : List ℕ) → (acknowledgments groups : ℕ) → List PlacedValue → List ℕ
box_text setup partner at acknowledgments groups sets =
    delivered_texts setup partner at acknowledgments groups (interchanges_of partner.cap (numbered_from 0 sets))

-- how many groups delivered interchanges have
abbrev pub groups_within : List (List NumberedValue) → ℕ
groups_within [] = 0
groups_within (sets ∷ more) = length (groups_of sets) + groups_within more

-- how many groups a mailbox has
abbrev pub group_total : (cap : ℕ) → List PlacedValue → ℕ
group_total cap sets = groups_within (interchanges_of cap (numbered_from 0 sets))
