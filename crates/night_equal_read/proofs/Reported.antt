-- The responses and TA1s of answered interchanges are those of the definition.
use Rattle.std.proofs.Common.{◌≡◌, ℕ, List, [], ◌∷◌, ◌++◌, map, Bool, true, false, not, ◌||◌, Option, Some, None, refl, sym, ap, ◌∙◌}
use Rattle.std.specs.Prelude.{filter, filter_map, if◌then◌else◌, option_map}
use Rattle.std.specs.List.{AllZip, cons_option, flat_map, list_any}
use Rattle.std.proofs.lemmas.List.{map-append}
use Rattle.x12_bytes.specs.Header.{field_of}
use Rattle.hub_kinds.specs.declared.set_codes.GroupCode.{GroupCode}
use Rattle.hub_kinds.specs.declared.set_codes.GroupCode.TheVariants as ak905
use Rattle.ack_999.specs.Report as old
use Rattle.set_answers.specs.declared.answered.AnsweredGroup as layer
use Rattle.set_answers.specs.Acknowledgments.{Acknowledgment, present}
use Rattle.set_answers.specs.CheckedText.{CheckedInterchange, acknowledgment_of}
use Rattle.night_definition.specs.Header.{field}
use Rattle.night_definition.specs.Segments.{Elements, element}
use Rattle.night_definition.specs.Codes.{verdict_text}
use Rattle.night_definition.specs.Answers.{Answer, AnsweredGroup, Answered}
use Rattle.night_definition.specs.Acknowledgments.{hides_sets, reported, ta1_code, ta1_note}
use Rattle.night_definition.specs.ReadBack.{Response}
use Rattle.night_equal_writing.specs.Acknowledgments.{acknowledgment, answered_group, group_answer, set_answer}
use Rattle.night_equal_writing.specs.Answers.{IsAnswered}
use Rattle.night_equal_writing.specs.Codes.{CodesAreOne}
use Rattle.night_equal_read.proofs.Reading.{response_of, shown}
use Rattle.night_equal_read.proofs.Enveloped.{group_responses, responses_to, ta1s_to, ta1s_with}

hides_is : (c : GroupCode) → hides_sets c ≡ old.hides_sets c
hides_is ak905.NotSupported = refl
hides_is ak905.VersionNotSupported = refl
hides_is ak905.TrailerMissing = refl
hides_is ak905.ControlNumbersDiffer = refl
hides_is ak905.SetCountWrong = refl
hides_is ak905.ControlNumberNotUnique = refl

any_hides : (cs : List GroupCode) → list_any hides_sets cs ≡ list_any old.hides_sets cs
any_hides [] = refl
any_hides (c ∷ cs) = ap (λ b. b || list_any hides_sets cs) (hides_is c) ∙ ap (λ b. old.hides_sets c || b) (any_hides cs)

-- the answers that are reported of a group, and of an interchange
abbrev pub shown_answers : AnsweredGroup → List Answer
shown_answers g = if list_any hides_sets g.codes then [] else g.answers

abbrev pub reported_in : Answered → List Answer
reported_in x = flat_map shown_answers (reported x)

-- what is read of one
abbrev pub read_of : Answer → Response
read_of a = (element 1 a.set.header.elements, element 2 a.set.header.elements, verdict_text a.verdict)

-- TA101 to TA105 as the definition has them
abbrev pub ta1_elements : (header note : List ℕ) → Elements
ta1_elements header note = field 13 header ∷ field 9 header ∷ field 10 header ∷ ta1_code note ∷ note ∷ []

abbrev pub ta1_of : Answered → Option Elements
ta1_of x = option_map (ta1_elements x.judged.interchange.header) (ta1_note x.judged)

abbrev ta1_made : (header code note : List ℕ) → Elements
ta1_made header code note = field_of header 13 ∷ field_of header 9 ∷ field_of header 10 ∷ code ∷ note ∷ []

module _ (codes_one : CodesAreOne) where
  answers_are : (xs : List Answer) → map read_of xs ≡ map response_of (map set_answer xs)
  answers_are [] = refl
  answers_are (a ∷ xs) =
      ap (λ (v : List ℕ). (element 1 a.set.header.elements, element 2 a.set.header.elements, v) ∷ map read_of xs)
      (codes_one.verdict a.verdict)
      ∙ ap (λ (rs : List Response). response_of (set_answer a) ∷ rs) (answers_are xs)

  by_shown : (hidden : Bool) (xs : List Answer) → map read_of (if hidden then [] else xs) ≡ shown (not hidden) (map set_answer xs)
  by_shown true xs = refl
  by_shown false xs = answers_are xs

  group_is : (g : AnsweredGroup) → map read_of (shown_answers g) ≡ shown (old.shows_sets g.codes) (map set_answer g.answers)
  group_is g =
      ap (λ (b : Bool). map read_of (if b then [] else g.answers)) (any_hides g.codes)
      ∙ by_shown (list_any old.hides_sets g.codes) g.answers

  abbrev others : List AnsweredGroup → List AnsweredGroup
  others gs = filter (λ (g : AnsweredGroup). not g.is_fa) gs

  abbrev own : AnsweredGroup → layer.AnsweredGroup
  own g = record { answer = group_answer g; sets = map set_answer g.answers }

  with_group : (b : Bool) (g : AnsweredGroup) (gs : List AnsweredGroup)
      → map read_of (flat_map shown_answers (others gs)) ≡ flat_map group_responses (present (map answered_group gs))
      → map read_of (flat_map shown_answers (if not b then g ∷ others gs else others gs))
      ≡ flat_map group_responses (present ((if b then None else Some (own g)) ∷ map answered_group gs))
  with_group true g gs rest = rest
  with_group false g gs rest =
      map-append read_of (shown_answers g) (flat_map shown_answers (others gs))
      ∙ ap (λ (rs : List Response). rs ++ map read_of (flat_map shown_answers (others gs))) (group_is g)
      ∙ ap (λ (rs : List Response). group_responses (own g) ++ rs) rest

  groups_are : (gs : List AnsweredGroup)
      → map read_of (flat_map shown_answers (others gs)) ≡ flat_map group_responses (present (map answered_group gs))
  groups_are [] = refl
  groups_are (g ∷ gs) = with_group g.is_fa g gs (groups_are gs)

  pub responses_are : (cs : List CheckedInterchange) (xs : List Answered) → AllZip IsAnswered cs xs
      → flat_map (λ c. responses_to (acknowledgment_of c)) cs ≡ map read_of (flat_map reported_in xs)
  responses_are [] [] zip = refl
  responses_are [] (x ∷ xs) zip = absurd zip
  responses_are (c ∷ cs) [] zip = absurd zip
  responses_are (c ∷ cs) (x ∷ xs) zip =
      let rest : List Response = flat_map (λ c. responses_to (acknowledgment_of c)) cs in
      ap (λ (a : Acknowledgment). responses_to a ++ rest) zip.0.acknowledgment
      ∙ ap (λ (rs : List Response). rs ++ rest) (sym (groups_are x.groups))
      ∙ ap (λ (rs : List Response). map read_of (reported_in x) ++ rs) (responses_are cs xs zip.1)
      ∙ sym (map-append read_of (reported_in x) (flat_map reported_in xs))

  one_ta1 : (x : Answered) (note : Option (List ℕ)) (more : List Elements)
      → ta1s_with x.judged.interchange.header note ++ more
      ≡ cons_option (option_map (ta1_elements x.judged.interchange.header) note) more
  one_ta1 x None more = refl
  one_ta1 x (Some note) more =
      ap (λ (code : List ℕ). ta1_made x.judged.interchange.header code note ∷ more) (sym (codes_one.note note))

  pub ta1s_are : (cs : List CheckedInterchange) (xs : List Answered) → AllZip IsAnswered cs xs
      → flat_map (λ c. ta1s_to (acknowledgment_of c)) cs ≡ filter_map ta1_of xs
  ta1s_are [] [] zip = refl
  ta1s_are [] (x ∷ xs) zip = absurd zip
  ta1s_are (c ∷ cs) [] zip = absurd zip
  ta1s_are (c ∷ cs) (x ∷ xs) zip =
      ap (λ (a : Acknowledgment). ta1s_to a ++ flat_map (λ c. ta1s_to (acknowledgment_of c)) cs) zip.0.acknowledgment
      ∙ ap (λ (ts : List Elements). ta1s_to (acknowledgment x) ++ ts) (ta1s_are cs xs zip.1)
      ∙ one_ta1 x (ta1_note x.judged) (filter_map ta1_of xs)
