-- The lines of a night's report.
use Rattle.std.proofs.Common.{◌≡◌, ℕ, ◌+◌, List, [], ◌∷◌, ◌++◌, map, Bool, true, false, ◌&&◌, not, Option, Some, None, length, refl, sym}
use Rattle.std.proofs.Common.{ap, ◌∙◌, arith}
use Rattle.std.proofs.Math.Path.{fun_ext}
use Rattle.std.proofs.lemmas.List.Folds.{flat_map-map}
use Rattle.std.specs.Prelude.{◌==◌, if◌then◌else◌, codes, decimal, flat_map, slice_get, is_some, is_none}
use Rattle.std.specs.Option.{option_map_or}
use Rattle.std.specs.List.{AllZip}
use Rattle.x12_segs.specs.Words.{elements_of}
use Rattle.hub_kinds.specs.Words as words
use Rattle.hub_kinds.specs.declared.interchange.InterchangeFault.{InterchangeFault}
use Rattle.hub_kinds.specs.declared.set_codes.GroupVerdict.{GroupVerdict}
use Rattle.guide_tree.specs.Tree.{GuideTree}
use Rattle.partner_setup.specs.declared.partner.Partner.{Partner}
use Rattle.partner_setup.specs.Setup.{SetupValue}
use Rattle.answered_sets.specs.Answered as old_note
use Rattle.answered_sets.specs.Judged.{JudgedValue, PlacedValue, is_fa, is_refused}
use Rattle.mailbox.specs.Deliveries as old_deliveries
use Rattle.night_report.specs.Lines as old_lines
use Rattle.night_report.specs.Report as old
use Rattle.night_report.specs.Report.{ShownGroup}
use Rattle.night_definition.specs.Header as room_header
use Rattle.night_definition.specs.Segments.{Elements, element}
use Rattle.night_definition.specs.Elements.{numbered}
use Rattle.night_definition.specs.Codes as room_codes
use Rattle.night_definition.specs.Setup as room_setups
use Rattle.night_definition.specs.Setup.{Setup}
use Rattle.night_definition.specs.Answers.{Answer, AnsweredGroup, Answered, accepted_sets}
use Rattle.night_definition.specs.Acknowledgments as room_acks
use Rattle.night_definition.specs.Deliveries as room_deliveries
use Rattle.night_definition.specs.Deliveries.{sent, delivered, held_for_delimiter, held_for_route}
use Rattle.night_definition.specs.Report as room
use Rattle.night_equal_writing.specs.Deliveries.{room_setup, now, IsSeenIn}
use Rattle.night_equal_writing.specs.Report.{ReportsAreOne, IsSet, IsShown, IsTold}
use Rattle.night_equal_writing.proofs.Codes as codes_are
use Rattle.night_equal_writing.proofs.Answers.{note_is}
use Rattle.night_equal_writing.proofs.Deliveries.{outcomes_are}

name_is : (o : Option Partner) → option_map_or (λ (p : Partner). p.name) o (codes "?") ≡ old.name_by o
name_is None = refl
name_is (Some partner) = refl

sender_is : (setup : SetupValue) (guides : List GuideTree) (o : Option ℕ) → room.name_of (room_setup setup guides) o
    ≡ old.sender_name setup o
sender_is setup guides None = refl
sender_is setup guides (Some n) = name_is (slice_get setup.partners n)

outcome_line_is : (setup : SetupValue) (guides : List GuideTree) (n : ℕ) (o : room_deliveries.Outcome)
    → room.held_line (room_setup setup guides) n o ≡ old.outcome_line setup n (now o)
outcome_line_is setup guides n (delivered to) = refl
outcome_line_is setup guides n (held_for_delimiter to) =
    ap (λ name. old_lines.held_line n (codes "delimiter" ∷ name ∷ [])) (name_is (slice_get setup.partners to))
outcome_line_is setup guides n held_for_route = refl

held_are : (setup : SetupValue) (guides : List GuideTree) (x : Answered) (g : AnsweredGroup) (p : PlacedValue) (a : ℕ × Answer)
    → IsSet x g p a
    → flat_map (room.held_line (room_setup setup guides) a.0) (room_deliveries.outcomes (room_setup setup guides) g (sent x g a.1))
    ≡ old.held_lines setup p
held_are setup guides x g p a is =
    let os : List room_deliveries.Outcome = room_deliveries.outcomes (room_setup setup guides) g (sent x g a.1) in
    ap (λ (h : room_deliveries.Outcome → List ℕ). flat_map h os) (fun_ext (outcome_line_is setup guides a.0))
    ∙ sym (flat_map-map (old.outcome_line setup a.0) now os)
    ∙ ap (flat_map (old.outcome_line setup a.0)) (outcomes_are setup guides p g (sent x g a.1) is.set)
    ∙ sym (ap (λ n. flat_map (old.outcome_line setup n) (old_deliveries.outcomes setup p)) is.number)

all_held : (setup : SetupValue) (guides : List GuideTree) (x : Answered) (g : AnsweredGroup) (ps : List PlacedValue)
    (answers : List (ℕ × Answer))
    → AllZip (IsSet x g) ps answers
    → flat_map (λ (a : ℕ × Answer). flat_map (room.held_line (room_setup setup guides) a.0)
    (room_deliveries.outcomes (room_setup setup guides) g (sent x g a.1))) answers
    ≡ flat_map (old.held_lines setup) ps
all_held setup guides x g [] [] zip = refl
all_held setup guides x g (p ∷ ps) [] zip = absurd zip
all_held setup guides x g [] (a ∷ answers) zip = absurd zip
all_held setup guides x g (p ∷ ps) (a ∷ answers) zip =
    ap (λ t. t ++ flat_map (λ (a : ℕ × Answer). flat_map (room.held_line (room_setup setup guides) a.0)
    (room_deliveries.outcomes (room_setup setup guides) g (sent x g a.1))) answers) (held_are setup guides x g p a zip.0)
    ∙ ap (λ r. old.held_lines setup p ++ r) (all_held setup guides x g ps answers zip.1)

abbrev shown_by : Bool → Elements → ℕ → GroupVerdict → ℕ → List ℕ
shown_by t gs n v accepted =
    if t then old_lines.fa_line (element 6 gs) n else old_lines.answered_line (element 1 gs) (element 6 gs) v n accepted

same_shown : (t : Bool) (gs : Elements) (n : ℕ) (v w : GroupVerdict) (a b : ℕ) → (t ≡ false → v ≡ w) → (t ≡ false → a ≡ b)
    → shown_by t gs n v a ≡ shown_by t gs n w b
same_shown true gs n v w a b same_v same_a = refl
same_shown false gs n v w a b same_v same_a =
    ap (λ v. old_lines.answered_line (element 1 gs) (element 6 gs) v n a) (same_v refl)
    ∙ ap (λ a. old_lines.answered_line (element 1 gs) (element 6 gs) w n a) (same_a refl)

group_line_is : (x : Answered) (s : ShownGroup) (g : AnsweredGroup) → IsShown x s g
    → (if g.is_fa
    then old_lines.fa_line (element 6 g.group.header.elements) (length g.answers)
    else old_lines.verdict_line (element 1 g.group.header.elements) (element 6 g.group.header.elements)
    (room_codes.group_verdict_text g.verdict)
    (length g.answers) (accepted_sets g))
    ≡ old.group_line s.group s.standing
group_line_is x s g is =
    let gs : Elements = g.group.header.elements in
    ap (λ t. if g.is_fa then old_lines.fa_line (element 6 gs) (length g.answers)
    else old_lines.verdict_line (element 1 gs) (element 6 gs) t (length g.answers) (accepted_sets g)) (codes_are.group_verdict g.verdict)
    ∙ sym (same_shown g.is_fa gs (length g.answers) s.standing.verdict g.verdict s.standing.accepted
    (accepted_sets g) is.verdict is.accepted)
    ∙ sym (ap (λ t. shown_by t (elements_of s.group.header) (length s.group.sets) s.standing.verdict s.standing.accepted) is.fa
    ∙ ap (λ (gs : Elements). shown_by g.is_fa gs (length s.group.sets) s.standing.verdict s.standing.accepted) is.gs
    ∙ ap (λ n. shown_by g.is_fa gs n s.standing.verdict s.standing.accepted) is.count)

pub group_is : (setup : SetupValue) (guides : List GuideTree) (x : Answered) (s : ShownGroup) (g : AnsweredGroup) → IsShown x s g
    → room.group_lines (room_setup setup guides) x g ≡ old.group_lines setup s
group_is setup guides x s g is =
    ap (λ t. t ++ flat_map (λ (a : ℕ × Answer). flat_map (room.held_line (room_setup setup guides) a.0)
    (room_deliveries.outcomes (room_setup setup guides) g (sent x g a.1))) (numbered 1 g.answers)) (group_line_is x s g is)
    ∙ ap (λ r. old.group_line s.group s.standing ++ r) (all_held setup guides x g (old.placed_sets_in s) (numbered 1 g.answers) is.sets)

groups_are : (setup : SetupValue) (guides : List GuideTree) (x : Answered) (ss : List ShownGroup) (gs : List AnsweredGroup)
    → AllZip (IsShown x) ss gs
    → flat_map (room.group_lines (room_setup setup guides) x) gs ≡ flat_map (old.group_lines setup) ss
groups_are setup guides x [] [] zip = refl
groups_are setup guides x (s ∷ ss) [] zip = absurd zip
groups_are setup guides x [] (g ∷ gs) zip = absurd zip
groups_are setup guides x (s ∷ ss) (g ∷ gs) zip =
    ap (λ t. t ++ flat_map (room.group_lines (room_setup setup guides) x) gs) (group_is setup guides x s g zip.0)
    ∙ ap (λ r. old.group_lines setup s ++ r) (groups_are setup guides x ss gs zip.1)

some_if : (a b : Bool) (v : ℕ) → is_some (if a then (if b then Some v else None) else None) ≡ (a && b)
some_if true true v = refl
some_if true false v = refl
some_if false b v = refl

control_is : (header : List ℕ)
    → (if is_some (room_setups.control_number header) then room_header.field 13 header else codes "?") ≡ old_lines.control_shown header
control_is header =
    let text : List ℕ = room_header.field 13 header in
    ap (λ t. if t then text else codes "?") (some_if (length text == 9) (words.is_number 9 text) (words.value_of text))

ends_are : (o : Option InterchangeFault)
    → option_map_or (λ f. codes "refused" ∷ (room_codes.fault_texts f).0 ∷ []) o (codes "accepted" ∷ []) ≡ old_lines.end_words o
ends_are None = refl
ends_are (Some f) = ap (λ (x : List ℕ × Option (List ℕ)). codes "refused" ∷ x.0 ∷ []) (codes_are.fault f)

abbrev first_by : (n start : ℕ) → (name control : List ℕ) → (ends : List (List ℕ)) → List ℕ
first_by n start name control ends =
    old_lines.line (codes "interchange") (decimal n ∷ codes "at" ∷ decimal start ∷ codes "from" ∷ name ∷ codes "control" ∷ control ∷ ends)

first_is : (setup : SetupValue) (guides : List GuideTree) (n : ℕ) (j : JudgedValue) (x : Answered) → IsTold j x
    → room.interchange_line (room_setup setup guides) n x ≡ old.first_line setup 0 n j
first_is setup guides n j x is =
    let isa : List ℕ = x.judged.interchange.header in
    let start : ℕ = x.judged.interchange.start in
    let same : start ≡ 0 + j.interchange.start = omega (arith, is.start) in
    ap (λ name. first_by n start name (if is_some (room_setups.control_number isa) then room_header.field 13 isa else codes "?")
    (option_map_or (λ f. codes "refused" ∷ (room_codes.fault_texts f).0 ∷ []) x.judged.fault (codes "accepted" ∷ [])))
    (sender_is setup guides x.judged.sender)
    ∙ ap (λ control. first_by n start (old.sender_name setup x.judged.sender) control
    (option_map_or (λ f. codes "refused" ∷ (room_codes.fault_texts f).0 ∷ []) x.judged.fault (codes "accepted" ∷ []))) (control_is isa)
    ∙ ap (λ ends. first_by n start (old.sender_name setup x.judged.sender) (old_lines.control_shown isa) ends) (ends_are x.judged.fault)
    ∙ ap (λ k. old_lines.interchange_line n k (old.sender_name setup x.judged.sender) (old_lines.control_shown isa) x.judged.fault) same
    ∙ sym (ap (λ o. old_lines.interchange_line n (0 + j.interchange.start) (old.sender_name setup o)
    (old_lines.control_shown j.interchange.header) j.fault) is.sender
    ∙ ap (λ h. old_lines.interchange_line n (0 + j.interchange.start) (old.sender_name setup x.judged.sender)
    (old_lines.control_shown h) j.fault) is.header
    ∙ ap (λ f. old_lines.interchange_line n (0 + j.interchange.start) (old.sender_name setup x.judged.sender)
    (old_lines.control_shown isa) f) is.fault)

answer_is : (o : Option (List ℕ))
    → option_map_or (λ note. room.line (codes "ta1" ∷ codes "sent" ∷ room_acks.ta1_code note ∷ note ∷ [])) o [] ≡ old.answer_line o
answer_is None = refl
answer_is (Some note) = refl

content_is : (o : Option InterchangeFault) (text : List ℕ) → (if is_some o then [] else text) ≡ (if not (is_none o) then [] else text)
content_is None text = refl
content_is (Some f) text = refl

pub interchange_is : (setup : SetupValue) (guides : List GuideTree) (n : ℕ) (j : JudgedValue) (x : Answered) → IsTold j x
    → room.interchange_lines (room_setup setup guides) n x ≡ old.interchange_lines setup 0 n j
interchange_is setup guides n j x is =
    let room_content : List ℕ = old_lines.ta1_line x.judged.interchange.content.ta1s
    ++ flat_map (room.group_lines (room_setup setup guides) x) x.groups in
    ap (λ t. t ++ option_map_or (λ note. room.line (codes "ta1" ∷ codes "sent" ∷ room_acks.ta1_code note ∷ note ∷ []))
    (room_acks.ta1_note x.judged) []
    ++ (if is_some x.judged.fault then [] else room_content)) (first_is setup guides n j x is)
    ∙ ap (λ t. old.first_line setup 0 n j ++ t ++ (if is_some x.judged.fault then [] else room_content))
    (answer_is (room_acks.ta1_note x.judged)
    ∙ ap old.answer_line (note_is x.judged j.interchange is.header is.count
    ∙ sym (ap (λ s. old_note.ta1_note s j.fault j.interchange) is.sender
    ∙ ap (λ f. old_note.ta1_note x.judged.sender f j.interchange) is.fault)))
    ∙ ap (λ t. old.first_line setup 0 n j ++ old.answer_line (old_note.ta1_note j.sender j.fault j.interchange) ++ t)
    (content_is x.judged.fault room_content
    ∙ sym (ap (λ (f : Option InterchangeFault). if not (is_none f) then []
    else old_lines.ta1_line j.interchange.content.ta1s ++ flat_map (old.group_lines setup) (old.groups_shown j)) is.fault
    ∙ ap (λ k. if not (is_none x.judged.fault) then [] else old_lines.ta1_line k
    ++ flat_map (old.group_lines setup) (old.groups_shown j)) is.ta1s
    ∙ ap (λ t. if not (is_none x.judged.fault) then [] else old_lines.ta1_line x.judged.interchange.content.ta1s ++ t)
    (sym (groups_are setup guides x (old.groups_shown j) x.groups is.groups))))

pub all_are : (setup : SetupValue) (guides : List GuideTree) (n : ℕ) (js : List JudgedValue) (xs : List Answered) → AllZip IsTold js xs
    → flat_map (λ (x : ℕ × Answered). room.interchange_lines (room_setup setup guides) x.0 x.1) (numbered n xs)
    ≡ old.all_lines setup 0 n js
all_are setup guides n [] [] zip = refl
all_are setup guides n (j ∷ js) [] zip = absurd zip
all_are setup guides n [] (x ∷ xs) zip = absurd zip
all_are setup guides n (j ∷ js) (x ∷ xs) zip =
    ap (λ t. t ++ flat_map (λ (x : ℕ × Answered). room.interchange_lines (room_setup setup guides) x.0 x.1) (numbered (n + 1) xs))
    (interchange_is setup guides n j x zip.0)
    ∙ ap (λ r. old.interchange_lines setup 0 n j ++ r) (all_are setup guides (n + 1) js xs zip.1)

pub reports_are_one : ReportsAreOne
reports_are_one = record {
  group = group_is;
  interchange = interchange_is;
  all = all_are;
}
