-- The fields of an interchange, of a group and of a set are the same.
use Rattle.std.proofs.Common.{◌≡◌, ℕ, List, [], ◌∷◌, ◌++◌, map, Bool, true, false, Option, Some, None, length, refl, sym, ap, ◌∙◌}
use Rattle.std.proofs.Math.Path.{fun_ext}
use Rattle.std.specs.Prelude.{if◌then◌else◌, codes, decimal, drop, slice_get, take}
use Rattle.std.specs.Option.{option_map_or}
use Rattle.x12_segs.specs.Words.{elements_of}
use Rattle.hub_kinds.specs.Words as words
use Rattle.hub_kinds.specs.declared.fault.Fault.{Fault}
use Rattle.hub_kinds.specs.declared.interchange.InterchangeFault.{InterchangeFault}
use Rattle.hub_kinds.specs.declared.set_codes.GroupCode.{GroupCode}
use Rattle.hub_kinds.specs.declared.set_codes.GroupVerdict.{GroupVerdict}
use Rattle.hub_kinds.specs.declared.set_codes.SetCode.{SetCode}
use Rattle.hub_kinds.specs.declared.set_codes.Verdict.{Verdict}
use Rattle.partner_setup.specs.declared.partner.Partner.{Partner}
use Rattle.partner_setup.specs.Setup.{SetupValue}
use Rattle.answered_sets.specs.Answered.{ta1_note}
use Rattle.answered_sets.specs.Judged.{JudgedValue, PlacedValue, is_fa, segments_in, verdict_by_standing}
use Rattle.night_report.specs.Report.{ShownGroup}
use Rattle.set_documents.specs.Documents.{DocumentValue}
use Rattle.track_table.specs.declared.notes.SetNotes.{SetNotes}
use Rattle.track_table.specs.Cells as old
use Rattle.night_definition.specs.Header.{field}
use Rattle.night_definition.specs.Segments.{Elements, element}
use Rattle.night_definition.specs.Codes as room_codes
use Rattle.night_definition.specs.Setup.{Setup, Judged}
use Rattle.night_definition.specs.Answers.{Answer, AnsweredGroup, Answered}
use Rattle.night_definition.specs.Acknowledgments as room_acks
use Rattle.night_definition.specs.Deliveries.{sent}
use Rattle.night_definition.specs.Report.{name_of}
use Rattle.night_equal_text.specs.LookedUp.{seen_setup}
use Rattle.night_equal_writing.specs.Answers.{AnswersAreOne}
use Rattle.night_equal_writing.specs.Codes.{CodesAreOne}
use Rattle.night_equal_writing.specs.Deliveries.{IsSeenIn}
use Rattle.night_equal_writing.specs.Report.{IsShown, IsTold}
use Rattle.track_definition.specs.Columns.{spaced_words}
use Rattle.track_definition.specs.Cells as room
use Rattle.track_equal.proofs.Documents.{elements_in, number_is}

map_same : {A B : Type 0} (f g : A → B) → ((x : A) → f x ≡ g x) → (xs : List A) → map f xs ≡ map g xs
map_same f g same xs = ap (λ h. map h xs) (fun_ext same)

-- names of partners
name_is : (o : Option Partner) → old.name_by o ≡ option_map_or (λ (p : Partner). p.name) o (codes "?")
name_is None = refl
name_is (Some partner) = refl

sender_is : (setup : SetupValue) (o : Option ℕ) → old.sender_name setup o ≡ name_of (seen_setup setup) o
sender_is setup None = refl
sender_is setup (Some n) = name_is (slice_get setup.partners n)

note_is : (o : Option (List ℕ)) → old.note_cell o ≡ option_map_or (λ (note : List ℕ). note) o []
note_is None = refl
note_is (Some note) = refl

module _ (writes : AnswersAreOne) (writ : CodesAreOne) where
  fault_is : (o : Option InterchangeFault) → old.fault_cell o ≡ option_map_or (λ (f : InterchangeFault). (room_codes.fault_texts f).0) o []
  fault_is None = refl
  fault_is (Some f) = sym (ap (λ (x : List ℕ × Option (List ℕ)). x.0) (writ.fault f))

  abbrev cells : (n start : ℕ) → (name isa13 fault note : List ℕ) → List (List ℕ)
  cells n start name isa13 fault note = decimal n ∷ decimal start ∷ name ∷ isa13 ∷ fault ∷ note ∷ []

  pub interchange_is : (setup : SetupValue) (n : ℕ) (j : JudgedValue) (x : Answered) → IsTold j x
      → old.interchange_cells setup n j ≡ room.interchange_cells (seen_setup setup) n x.judged
  interchange_is setup n j x is =
      let header : List ℕ = j.interchange.header in
      let old_note : List ℕ = old.note_cell (ta1_note j.sender j.fault j.interchange) in
      let start : ℕ = x.judged.interchange.start in
      let name : List ℕ = name_of (seen_setup setup) x.judged.sender in
      let isa : List ℕ = x.judged.interchange.header in
      ap (λ k. cells n k (old.sender_name setup j.sender) (field 13 header) (old.fault_cell j.fault) old_note) is.start
      ∙ ap (λ t. cells n start t (field 13 header) (old.fault_cell j.fault) old_note)
      (sender_is setup j.sender ∙ ap (name_of (seen_setup setup)) is.sender)
      ∙ ap (λ (h : List ℕ). cells n start name (field 13 h) (old.fault_cell j.fault) old_note) is.header
      ∙ ap (λ t. cells n start name (field 13 isa) t old_note)
      (fault_is j.fault ∙ ap (λ (o : Option InterchangeFault). option_map_or
      (λ (f : InterchangeFault). (room_codes.fault_texts f).0) o []) is.fault)
      ∙ ap (λ t. cells n start name (field 13 isa)
      (option_map_or (λ (f : InterchangeFault). (room_codes.fault_texts f).0) x.judged.fault []) t)
      (note_is (ta1_note j.sender j.fault j.interchange)
      ∙ ap (λ (o : Option (List ℕ)). option_map_or (λ (note : List ℕ). note) o [])
      (ap (λ (o : Option ℕ). ta1_note o j.fault j.interchange) is.sender
      ∙ ap (λ (o : Option InterchangeFault). ta1_note x.judged.sender o j.interchange) is.fault
      ∙ sym (writes.note x.judged j.interchange is.header is.count)))

  -- AK901 and AK905
  abbrev standing : Bool → (verdict codes : List ℕ) → List (List ℕ)
  standing fa verdict codes = if fa then [] ∷ [] ∷ [] else verdict ∷ codes ∷ []

  same_standing : (t u : Bool) → t ≡ u → (a b c d : List ℕ) → (u ≡ false → a ≡ b) → (u ≡ false → c ≡ d) → standing t a c ≡ standing u b d
  same_standing true true e a b c d verdict codes = refl
  same_standing false false e a b c d verdict codes =
      ap (λ v. v ∷ c ∷ []) (verdict refl) ∙ ap (λ k. b ∷ k ∷ []) (codes refl)
  same_standing true false e a b c d verdict codes = cc
  same_standing false true e a b c d verdict codes = cc

  words_are : {A : Type 0} (f g : A → List ℕ) → ((x : A) → f x ≡ g x) → (xs ys : List A) → xs ≡ ys
      → spaced_words (map f xs) ≡ spaced_words (map g ys)
  words_are {A} f g same xs ys is = ap (λ (zs : List A). spaced_words (map f zs)) is ∙ ap spaced_words (map_same f g same ys)

  pub group_is : (x : Answered) (s : ShownGroup) (g : AnsweredGroup) (codes : List GroupCode) → IsShown x s g
      → (g.is_fa ≡ false → codes ≡ g.codes) → old.group_cells s.group s.standing.verdict codes ≡ room.group_cells g
  group_is x s g codes is same =
      let answers : List (List ℕ) = old.standing_cells s.group s.standing.verdict codes in
      ap (λ (gs : Elements). element 1 gs ∷ element 6 gs ∷ take 99 (element 2 gs) ∷ take 99 (element 3 gs) ∷ answers) is.gs
      ∙ ap (λ (rest : List (List ℕ)). element 1 g.group.header.elements ∷ element 6 g.group.header.elements
      ∷ take 99 (element 2 g.group.header.elements) ∷ take 99 (element 3 g.group.header.elements) ∷ rest)
      (same_standing (is_fa s.group) g.is_fa is.fa (words.group_verdict_text s.standing.verdict) (room_codes.group_verdict_text g.verdict)
      (spaced_words (map words.group_code_text codes)) (spaced_words (map room_codes.group_code_text g.codes))
      (λ other. ap words.group_verdict_text (is.verdict other) ∙ sym (writ.group_verdict g.verdict))
      (λ other. words_are words.group_code_text room_codes.group_code_text (λ c. sym (writ.group c)) codes g.codes (same other)))

  -- IK501, IK502 and the number of faults
  abbrev answer : Bool → (verdict codes faults : List ℕ) → List (List ℕ)
  answer fa verdict codes faults = if fa then [] ∷ [] ∷ [] ∷ [] else verdict ∷ codes ∷ faults ∷ []

  same_answer : (t u : Bool) → u ≡ t → (a b c d e f : List ℕ) → (t ≡ false → a ≡ b) → (t ≡ false → c ≡ d) → (t ≡ false → e ≡ f)
      → answer t a c e ≡ answer u b d f
  same_answer true true is a b c d e f verdict codes faults = refl
  same_answer false false is a b c d e f verdict codes faults =
      ap (λ v. v ∷ c ∷ e ∷ []) (verdict refl) ∙ ap (λ k. b ∷ k ∷ e ∷ []) (codes refl) ∙ ap (λ k. b ∷ d ∷ k ∷ []) (faults refl)
  same_answer true false is a b c d e f verdict codes faults = cc
  same_answer false true is a b c d e f verdict codes faults = cc

  abbrev pub notes_of : Answer → SetNotes
  notes_of a = record { codes = a.codes; faults = length a.faults }

  pub set_is : (documents : List DocumentValue) (x : Answered) (p : PlacedValue) (g : AnsweredGroup) (a : Answer) (notes : SetNotes)
      → IsSeenIn p g (sent x g a) → (is_fa p.group ≡ false → notes ≡ notes_of a)
      → elements_in (room.segments_after a.set) ≡ map elements_of (drop 1 (segments_in p))
      → old.set_cells documents p notes ≡ room.set_cells documents g a
  set_is documents x p g a notes is same after =
      let st : Elements = a.set.header.elements in
      let answers : List (List ℕ) = old.answer_cells p notes in
      sym (ap (λ (st : Elements). element 1 st ∷ element 2 st
      ∷ Rattle.set_documents.specs.Documents.document_number documents (element 1 st) (drop 1 (segments_in p)) ∷ answers) is.set.st)
      ∙ ap (λ (t : List ℕ). element 1 st ∷ element 2 st ∷ t ∷ answers) (number_is documents a.set (drop 1 (segments_in p)) after)
      ∙ ap (λ (rest : List (List ℕ)). element 1 st ∷ element 2 st ∷ room.document_number documents a.set ∷ rest)
      (same_answer (is_fa p.group) g.is_fa is.fa (words.verdict_text (verdict_by_standing p)) (room_codes.verdict_text a.verdict)
      (spaced_words (map words.set_code_text notes.codes)) (spaced_words (map room_codes.set_code_text a.codes))
      (decimal notes.faults) (decimal (length a.faults))
      (λ other. ap words.verdict_text (sym (is.verdict other)) ∙ sym (writ.verdict a.verdict))
      (λ other. words_are words.set_code_text room_codes.set_code_text (λ c. sym (writ.set c)) notes.codes a.codes
      (ap (λ (n : SetNotes). n.codes) (same other)))
      (λ other. ap (λ (n : SetNotes). decimal n.faults) (same other)))
