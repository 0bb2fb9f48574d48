-- X12.6, transaction set: what a partner finds in its mailbox, and what was sent to it: the sets of its senders, but for ST02 and SE.
use Rattle.std.specs.Prelude.{◌≡◌, ℕ, ◌+◌, List, [], ◌∷◌, ◌++◌, Option, Some, None, map, take, drop, length, codes, decimal}
use Rattle.std.specs.Prelude.{Bool, if◌then◌else◌}
use Rattle.std.specs.Str.{bytes_eq}
use Rattle.x12_bytes.specs.declared.delims.Delims.{Delims}
use Rattle.x12_segs.specs.Words.{components, elements_of, occurrences, part_or_empty, views}
use Rattle.x12_write.specs.Number.{set_number}
use Rattle.count_numbers.specs.Num.{num}
use Rattle.partner_setup.specs.declared.partner.Partner.{Partner}
use Rattle.partner_setup.specs.Setup.{SetupValue}
use Rattle.mailbox.specs.Deliveries.{inner_in}
use Rattle.answered_sets.specs.Judged.{PlacedValue, delims_in}
use Rattle.mailbox.specs.Numbered.{NumberedValue, numbered_from}
use Rattle.set_answers.specs.CheckedText.{CheckedInterchange}
use Rattle.set_answers.specs.Pairs.{AreAllPairs}
use Rattle.night_batches.specs.Night.{IsKnown, sets_to}

-- segments, each by its id and its elements
abbrev pub Segments : Type 0
Segments = List (List (List ℕ))

abbrev pub has_id : List (List ℕ) → (id : List ℕ) → Bool
has_id segment id = bytes_eq (part_or_empty segment 0) id

-- the sets in segments, each from an ST to the SE after it; an ST without SE isn't a set
abbrev pub sets_read : (begun : Option Segments) → Segments → List Segments
sets_read begun [] = []
sets_read None (s ∷ ss) = if has_id s (codes "ST") then sets_read (Some (s ∷ [])) ss else sets_read None ss
sets_read (Some begun) (s ∷ ss) =
    if has_id s (codes "ST") then sets_read (Some (s ∷ [])) ss
    else (if has_id s (codes "SE") then (begun ++ s ∷ []) ∷ sets_read None ss else sets_read (Some (begun ++ s ∷ [])) ss)

-- the sets in a text, read by these delimiters
abbrev pub sets_found : Delims → (text : List ℕ) → List Segments
sets_found d text = sets_read None (map elements_of (views text d))

-- what an element says: the components of each of its occurrences
abbrev pub Said : Type 0
Said = List (List (List ℕ))

abbrev pub said_in : Delims → (element : List ℕ) → Said
said_in d element = map (components d) (occurrences d element)

-- what a segment says: its id, and each of its elements
abbrev pub values_of_segment : Delims → List (List ℕ) → List Said
values_of_segment d segment = map (said_in d) segment

-- an element of one component
abbrev pub plainly : List ℕ → Said
plainly text = (text ∷ []) ∷ []

-- ST as its sender wrote it, with ST02 anew
abbrev pub header_said : List Said → (n : ℕ) → List Said
header_said header n = plainly (codes "ST") ∷ (take 1 (drop 1 header) ++ plainly (set_number n) ∷ drop 2 (drop 1 header))

-- SE, anew
abbrev pub trailer_said : (segments n : ℕ) → List Said
trailer_said segments n = plainly (codes "SE") ∷ plainly (decimal segments) ∷ plainly (set_number n) ∷ []

-- what a set says as its sender wrote it, but for ST02 and SE, as set number n
abbrev pub set_said : PlacedValue → (n : ℕ) → List (List Said)
set_said p n =
    header_said (values_of_segment (delims_in p) (elements_of p.set.header)) n
    ∷ (map (λ segment. values_of_segment (delims_in p) (elements_of segment)) (inner_in p) ++ trailer_said (length (inner_in p) + 2) n ∷ [])

-- a partner finds these sets in a mailbox, in their order, and no other
abbrev pub AreSetsFound : Partner → List PlacedValue → (box : List ℕ) → Type 0
AreSetsFound partner sets box =
    map (map (values_of_segment partner.delims)) (sets_found partner.delims box)
    ≡ map (λ (x : NumberedValue). set_said x.set (num partner.counters.set x.place)) (numbered_from 0 sets)

-- each partner finds just the sets that are delivered to it
pub record AreBoxesRead (text : List ℕ) (setup : SetupValue) (boxes : List (List ℕ)) : Type 0 where
  pub known : List CheckedInterchange
  pub outside : ℕ
  pub is_known : IsKnown text setup known outside
  pub each : AreAllPairs (λ place partner box. AreSetsFound partner (sets_to text setup known place) box) setup.partners boxes
