-- What a partner reads in its files: its acknowledgments (999 guide, AK2 and IK5) accept a set exactly if it meets its guide; its TA1s
-- (X12.5); and in its mailbox the sets that are sent to it (X12.6).
use Rattle.std.specs.Prelude.{ℕ, ◌≡◌, ◌↔◌, ◌-◌, List, [], ◌∷◌, ◌++◌, map, length, codes, decimal, bytes_eq, Some, if◌then◌else◌, filter}
use Rattle.std.specs.Prelude.{flat_map}
use Rattle.std.specs.Prelude.{◌+◌, Bool, IsTrue, not, filter_map, take, drop, option_map, slice_get, unwrap_or}
use Rattle.std.specs.List.{list_all, list_any, Contains}
use Rattle.std.specs.Char.{is_ascii_alphanumeric}
use Rattle.x12_bytes.specs.declared.delims.Delims.{Delims}
use Rattle.guide_tree.specs.declared.element.Element.{Element}
use Rattle.guide_tree.specs.declared.element.Element.TheVariants as row
use Rattle.guide_tree.specs.Tree.{GuideTree}
use Rattle.hub_kinds.specs.declared.set_codes.Verdict.TheVariants as ik501
use Rattle.partner_setup.specs.declared.partner.Partner.{Partner}
use Rattle.night_definition.specs.Header.{field, divided}
use Rattle.night_definition.specs.Segments.{Elements, element, segment_of, is_blank}
use Rattle.night_definition.specs.Guides.{slots}
use Rattle.night_definition.specs.Elements.{occurrences, components, numbered, component_reference}
use Rattle.night_definition.specs.Codes.{verdict_text}
use Rattle.night_definition.specs.Sets.{Meets}
use Rattle.night_definition.specs.Setup.{Setup, guide_of}
use Rattle.night_definition.specs.Answers.{Answer, AnsweredGroup, Answered}
use Rattle.night_definition.specs.Written.{set_number}
use Rattle.night_definition.specs.Acknowledgments.{num, reported, acknowledged_to, hides_sets, ta1_note, ta1_code}
use Rattle.night_definition.specs.Deliveries.{Sent, delivered_to}
use Rattle.night_definition.specs.Night.{Night, night_of, answered_text}

-- the segments of a written text, each as its elements
abbrev pub segments_in : Delims → (text : List ℕ) → List Elements
segments_in d text =
    let parts = divided d.terminator text in
    map (λ part. (segment_of d 0 part).elements) (filter (λ part. not (is_blank part)) (take (length parts - 1) parts))

-- AK201, AK202 and IK501
abbrev pub Response : Type 0
Response = List ℕ × List ℕ × List ℕ

abbrev pub responses_after : (ak2 : Elements) → List Elements → List Response
responses_after ak2 [] = []
responses_after ak2 (s ∷ ss) =
    if bytes_eq (element 0 s) (codes "AK2") then responses_after s ss
    else if bytes_eq (element 0 s) (codes "IK5") then (element 1 ak2, element 2 ak2, element 1 s) ∷ responses_after ak2 ss
    else responses_after ak2 ss

-- the answers that a partner's acknowledgments report
abbrev pub reported_answers : (partner : ℕ) → List Answered → List Answer
reported_answers partner xs =
    flat_map (λ x. flat_map (λ (g : AnsweredGroup). if list_any hides_sets g.codes then [] else g.answers) (reported x))
    (acknowledged_to partner xs)

-- its responses are those to these sets, in order
abbrev pub AreResponses : (partner : ℕ) → Partner → List Answered → (ack : List ℕ) → Type 0
AreResponses n p xs ack =
    responses_after [] (segments_in p.delims ack)
    ≡ map (λ (a : Answer). (element 1 a.set.header.elements, element 2 a.set.header.elements, verdict_text a.verdict))
    (reported_answers n xs)

-- a set's verdict is A exactly if it meets its guide; nothing is reported to a group of acknowledgments (FA), so nothing is said of one
abbrev pub IsVerdictTrue : Setup → Answered → AnsweredGroup → (n : ℕ) → Answer → Type 0
IsVerdictTrue setup x g n a =
    (a.verdict ≡ ik501.Accepted)
    ↔ Meets (guide_of setup (unwrap_or x.judged.sender 0) g.group.header.elements (element 1 a.set.header.elements))
    x.judged.interchange.delims (take n g.group.sets) a.set

abbrev pub AreVerdictsTrue : (text : List ℕ) → Setup → Type 0
AreVerdictsTrue text setup =
    (x : Answered) (g : AnsweredGroup) (n : ℕ) (a : Answer) → Contains (answered_text text setup) x → Contains (reported x) g
    → slice_get g.answers n ≡ Some a → IsVerdictTrue setup x g n a

-- its TA1s: TA101 to TA105
abbrev pub AreTa1s : (partner : ℕ) → Partner → List Answered → (ack : List ℕ) → Type 0
AreTa1s n p xs ack =
    map (drop 1) (filter (λ s. bytes_eq (element 0 s) (codes "TA1")) (segments_in p.delims ack))
    ≡ filter_map (λ (x : Answered). let isa = x.judged.interchange.header in
    option_map (λ note. field 13 isa ∷ field 9 isa ∷ field 10 isa ∷ ta1_code note ∷ note ∷ []) (ta1_note x.judged)) (acknowledged_to n xs)

-- the sets of a mailbox: from each ST to the SE after it; `begun` is the open set, empty between sets
abbrev pub sets_after : (begun : List Elements) → List Elements → List (List Elements)
sets_after begun [] = []
sets_after [] (s ∷ ss) = sets_after (if bytes_eq (element 0 s) (codes "ST") then s ∷ [] else []) ss
sets_after (st ∷ inner) (s ∷ ss) =
    if bytes_eq (element 0 s) (codes "ST") then sets_after (s ∷ []) ss
    else if bytes_eq (element 0 s) (codes "SE") then (st ∷ inner ++ s ∷ []) ∷ sets_after [] ss
    else sets_after (st ∷ inner ++ s ∷ []) ss

-- an element without its delimiters: its occurrences, each as its components
abbrev pub element_content : Delims → List ℕ → List (List (List ℕ))
element_content d e = map (components d) (occurrences d e)

abbrev pub text_content : List ℕ → List (List (List ℕ))
text_content text = (text ∷ []) ∷ []

-- a set without its delimiters, with a new ST02 and a new SE
abbrev pub set_content : ℕ → Sent → List (List (List (List (List ℕ))))
set_content control s =
    let st = s.answer.set.header.elements in
    let inner = s.answer.set.inner in
    (map (element_content s.delims) (take 2 st) ++ text_content (set_number control) ∷ map (element_content s.delims) (drop 3 st))
    ∷ map (λ x. map (element_content s.delims) x.elements) inner
    ++ (text_content (codes "SE") ∷ text_content (decimal (length inner + 2)) ∷ text_content (set_number control) ∷ []) ∷ []

-- its mailbox has the delivered sets, each with the content that was sent
abbrev pub IsBoxRead : Setup → (partner : ℕ) → Partner → List Answered → (box : List ℕ) → Type 0
IsBoxRead setup n p xs box =
    map (map (map (element_content p.delims))) (sets_after [] (segments_in p.delims box))
    ≡ map (λ x. set_content (num p.counters.set x.0) x.1) (numbered 0 (delivered_to setup n xs))

-- the reference numbers of a row: its own, and those of its components
abbrev pub references_of : Element → List (List ℕ)
references_of (row.NotUsed reference) = reference ∷ []
references_of (row.Simple r repeat) = r.reference ∷ []
references_of (row.Composite r) = r.reference ∷ map component_reference r.components

-- X12.6, data element reference number: those of a guide, which IK402 repeats, contain letters and digits alone, so no delimiter
abbrev pub has_plain_references : GuideTree → Bool
has_plain_references g =
    list_all (λ x. list_all (λ r. list_all (list_all is_ascii_alphanumeric) (references_of r)) x.0.elements) (slots [] g.nodes)

abbrev pub AreReferencesPlain : Setup → Type 0
AreReferencesPlain setup = IsTrue (list_all has_plain_references setup.guides)

-- The files are those of the night, and partners read them so. Acknowledgments can be read if the guides' reference numbers can be
-- quoted in them, as those of guide files always can.
pub record IsNight (text : List ℕ) (setup : Setup) (at : List ℕ) (night : Night) : Type 0 where
  pub is : night ≡ night_of text setup at
  pub verdicts : AreVerdictsTrue text setup
  pub responses : AreReferencesPlain setup → (n : ℕ) (p : Partner) (ack : List ℕ) → slice_get setup.partners n ≡ Some p
      → slice_get night.acks n ≡ Some ack → AreResponses n p (answered_text text setup) ack
  pub ta1s : AreReferencesPlain setup → (n : ℕ) (p : Partner) (ack : List ℕ) → slice_get setup.partners n ≡ Some p
      → slice_get night.acks n ≡ Some ack → AreTa1s n p (answered_text text setup) ack
  pub boxes : (n : ℕ) (p : Partner) (box : List ℕ) → slice_get setup.partners n ≡ Some p → slice_get night.boxes n ≡ Some box
      → IsBoxRead setup n p (answered_text text setup) box
