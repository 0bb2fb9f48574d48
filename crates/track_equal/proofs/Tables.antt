-- The table of a night is the definition's.
use Rattle.std.proofs.Common.{◌≡◌, ℕ, ◌+◌, List, [], ◌∷◌, ◌++◌, map, Bool, true, false, not, Option, Some, None, refl, sym, ap, ◌∙◌, subst}
use Rattle.std.specs.Prelude.{filter, is_none}
use Rattle.std.specs.List.{All, AllZip}
use Rattle.std.proofs.lemmas.List.Elements.{All-head, All-tail}
use Rattle.x12_bytes.specs.Header.{header_delims}
use Rattle.x12_bytes.specs.declared.delims.Delims.{Delims}
use Rattle.csv_fields.specs.Csv.{table_text}
use Rattle.hub_kinds.specs.declared.interchange.InterchangeFault.{InterchangeFault}
use Rattle.env_index.specs.Words.{GroupEntry}
use Rattle.env_index.specs.declared.entry.SetEnvelope.{SetEnvelope}
use Rattle.guide_tree.specs.View.{guide_of}
use Rattle.partner_setup.specs.Setup.{SetupValue}
use Rattle.answered_sets.specs.Judged.{JudgedValue, PlacedValue, is_refused, sets_of}
use Rattle.set_answers.specs.CheckedText.{CheckedInterchange, judged}
use Rattle.night_report.specs.Report.{report_text}
use Rattle.night_report.specs.Clean as old_clean
use Rattle.night_batches.specs.Night.{IsKnown, judgements}
use Rattle.night_law.proofs.ForAbove.{IsThere}
use Rattle.set_documents.specs.Documents.{DocumentValue}
use Rattle.track_table.specs.Noted.{notes_of}
use Rattle.track_table.specs.Track.{IsTrack, tracked_by}
use Rattle.track_table.specs.declared.track.Track.{Track}
use Rattle.track_table.specs.Rows as old
use Rattle.night_definition.specs.Envelopes.{Group, Set}
use Rattle.night_definition.specs.Interchanges.{Interchange, text_of}
use Rattle.night_definition.specs.Setup.{Judged, Setup, judged_after}
use Rattle.night_definition.specs.Answers.{Answer, AnsweredGroup, Answered, answered, answers_after, groups_after}
use Rattle.night_definition.specs.Night.{answered_text, night_of}
use Rattle.night_definition.specs.Report.{report_of}
use Rattle.night_definition.specs.SetupFile.{is_clean}
use Rattle.night_equal_text.specs.Kept.{IsKept}
use Rattle.night_equal_text.specs.Laws.{TextsAreIndexes}
use Rattle.night_equal_text.specs.LookedUp.{seen_setup}
use Rattle.night_equal_text.specs.Spanned.{AreGroupsIn, AreSetsIn}
use Rattle.night_equal_writing.specs.Acknowledgments.{answered_group}
use Rattle.night_equal_writing.specs.Answers.{AnswersAreOne, IsAnswered}
use Rattle.night_equal_writing.specs.Codes.{CodesAreOne}
use Rattle.night_equal_writing.specs.Deliveries.{DeliveriesAreOne}
use Rattle.night_equal_writing.specs.Report.{IsTold}
use Rattle.night_equal_writing.specs.Texts.{TextsAreOne}
use Rattle.night_equal_writing.specs.Totals.{TotalsAreOne}
use Rattle.night_equal_writing.proofs.ForAbove.{clean_is}
use Rattle.night_equal_night.proofs.ForAbove.{IsReady, TextLaws, known_answers, known_seen, known_told, ready}
use Rattle.csv_fields.specs.Columns.{column_names}
use Rattle.track_definition.specs.Rows as room
use Rattle.track_definition.specs.Rows.{Placed, all_sets_in, table_of}
use Rattle.track_equal.specs.Table.{IsTableOf, TracksAreOne}
use Rattle.track_equal.proofs.Documents.{after_are}
use Rattle.track_equal.proofs.Ends.{IsKnownNight}
use Rattle.track_equal.proofs.Mailed.{Seen, is_open}
use Rattle.track_equal.proofs.Rows.{HasSegments, HaveSegments, IsHere, interchange_open, interchange_rows_are, onto_open}

-- the answers to the sets of a group are to its sets, in their order
module _ (setup : Setup) (sender : ℕ) (marks : Delims) (text : List ℕ) (d : Delims) where
  sets_have : (group : Group) (before ss : List Set) (es : List SetEnvelope) → AreSetsIn text d ss es → All (IsThere text d) es
      → AllZip (HasSegments text d) (answers_after setup sender marks group before ss) es
  sets_have group before [] [] is_in there = tt
  sets_have group before [] (e ∷ es) is_in there = absurd is_in
  sets_have group before (s ∷ ss) [] is_in there = absurd is_in
  sets_have group before (s ∷ ss) (e ∷ es) is_in there = (
    after_are text d e s (All-head (IsThere text d) e es there) is_in.0,
    sets_have group (before ++ s ∷ []) ss es is_in.1 (All-tail (IsThere text d) e es there),
  )

  groups_have : (before gs : List Group) (es : List GroupEntry) → AreGroupsIn text d gs es
      → All (λ (e : GroupEntry). All (IsThere text d) e.sets) es
      → AllZip (HaveSegments text d) (groups_after setup sender marks before gs) es
  groups_have before [] [] is_in there = tt
  groups_have before [] (e ∷ es) is_in there = absurd is_in
  groups_have before (g ∷ gs) [] is_in there = absurd is_in
  groups_have before (g ∷ gs) (e ∷ es) is_in there =
      let P : GroupEntry → Type 0 = λ e. All (IsThere text d) e.sets in (
        sets_have g [] g.sets e.sets is_in.0 (All-head P e es there),
        groups_have (before ++ g ∷ []) gs es is_in.1 (All-tail P e es there),
      )

-- what is laid down of a text that is known
pub record Laws : Type 0 where
  pub known : TextLaws
  pub indexes : TextsAreIndexes
  pub texts : TextsAreOne
  pub writ : CodesAreOne
  pub answers : AnswersAreOne
  pub deliveries : DeliveriesAreOne
  pub totals : TotalsAreOne

abbrev refused_by : Option InterchangeFault → Bool
refused_by o = not (is_none o)

module _ (laws : Laws) (text : List ℕ) (setup : SetupValue) where
  abbrev there : Setup
  there = seen_setup setup

  have_by : (x : Interchange) (es : List GroupEntry) (d : Delims) → AreGroupsIn text d x.content.groups es
      → All (λ (e : GroupEntry). All (IsThere text d) e.sets) es → (f : Option InterchangeFault) (s : Option ℕ)
      → (f ≡ None → s ≡ None → ⊥) → refused_by f ≡ false
      → AllZip (HaveSegments text d) (answered there (record { interchange = x; sender = s; fault = f })).groups es
  have_by x es d is_in are (Some f) s known refused = cc
  have_by x es d is_in are None None known refused = absurd (known refl refl)
  have_by x es d is_in are None (Some n) known refused = groups_have there n x.delims text d [] x.content.groups es is_in are

  segments_of : (c : CheckedInterchange) (k : Judged) → IsReady text setup c k → refused_by c.entry.fault ≡ false
      → AllZip (HaveSegments text (header_delims c.entry.interchange.header)) (answered there k).groups
      c.entry.interchange.content.groups
  segments_of c k r refused =
      let kept : IsKept k.interchange c.entry.interchange = laws.known.keeps text k.interchange c.entry.interchange r.judged.same in
      let es : List GroupEntry = c.entry.interchange.content.groups in
      let d : Delims = header_delims c.entry.interchange.header in
      have_by k.interchange es d (subst (λ d. AreGroupsIn text d k.interchange.content.groups es) kept.delims r.sets) r.source.1
      k.fault k.sender (λ f s. r.known (sym r.judged.fault ∙ f) (sym r.judged.sender ∙ s))
      (ap refused_by r.judged.fault ∙ refused)

  all_here : (cs : List CheckedInterchange) (ks : List Judged) → AllZip (IsReady text setup) cs ks
      → AllZip IsTold (map (judged text) cs) (map (answered there) ks) → AllZip IsAnswered cs (map (answered there) ks)
      → AllZip (IsHere text) cs (map (answered there) ks)
  all_here [] [] are told answers = tt
  all_here [] (k ∷ ks) are told answers = absurd are
  all_here (c ∷ cs) [] are told answers = absurd are
  all_here (c ∷ cs) (k ∷ ks) are told answers = (
    record {
      told = told.0;
      groups = ap (λ (a : Rattle.set_answers.specs.Acknowledgments.Acknowledgment). a.groups) answers.0.acknowledgment;
      segments = segments_of c k are.0;
    },
    all_here cs ks are.1 told.1 answers.1,
  )

  module _ (documents : List DocumentValue) (all : List CheckedInterchange) (night : List Answered) (known : IsKnownNight setup all night)
    where
      rows_are : (n : ℕ) (before : List PlacedValue) (placed : List Placed) → AllZip Seen (filter is_open before) placed
          → (cs : List CheckedInterchange) (xs : List Answered) → AllZip (IsHere text) cs xs
          → old.rows_from (tracked_by setup documents all) n before (map (judged text) cs) (map notes_of cs)
          ≡ room.rows_from there documents night n placed xs
      rows_are n before placed zip [] [] here = refl
      rows_are n before placed zip [] (x ∷ xs) here = absurd here
      rows_are n before placed zip (c ∷ cs) [] here = absurd here
      rows_are n before placed zip (c ∷ cs) (x ∷ xs) here =
          let j : JudgedValue = judged text c in
          ap (λ (rows : List (List (List ℕ))). rows ++ old.rows_from (tracked_by setup documents all) (n + 1) (before ++ sets_of j)
          (map (judged text) cs) (map notes_of cs))
          (interchange_rows_are setup documents all night known laws.writ n text before placed zip c x here.0)
          ∙ ap (λ (rows : List (List (List ℕ))). room.interchange_rows there documents night n placed x ++ rows)
          (rows_are (n + 1) (before ++ sets_of j) (placed ++ all_sets_in x)
          (onto_open before (sets_of j) placed (all_sets_in x) zip (interchange_open j x here.0.told)) cs xs here.1)

  module _ (known : List CheckedInterchange) (outside : ℕ) (is : IsKnown text setup known outside) where
    abbrev night : List Answered
    night = answered_text text there

    told_zip : AllZip IsTold (judgements text known) night
    told_zip = known_told laws.known text setup known outside is

    answers_zip : AllZip IsAnswered known night
    answers_zip = known_answers laws.known text setup known outside is

    known_night : IsKnownNight setup known night
    known_night = record { writes = laws.answers; delivers = laws.deliveries; texts = laws.texts; answered = answers_zip }

    here : AllZip (IsHere text) known night
    here =
        all_here known (judged_after there [] (text_of text).interchanges)
        (ready text setup laws.known.settle laws.known.parts is.index known is.read is.answered) told_zip answers_zip

    pub table_is : (documents : List DocumentValue)
        → old.track_text (tracked_by setup documents known) (judgements text known) ≡ table_of text there documents
    table_is documents =
        ap (λ (rows : List (List (List ℕ))). table_text (column_names ∷ rows))
        (rows_are documents known night known_night 1 [] [] tt known night here)

    outside_is : outside ≡ (text_of text).outside
    outside_is = is.counted ∙ sym (laws.indexes text is.index is.read).1

    pub clean_report : (at : List ℕ) → old_clean.is_clean (report_text setup (judgements text known) outside)
        ≡ is_clean (night_of text there at).report
    clean_report at =
        ap old_clean.is_clean (sym (laws.totals.report setup (map guide_of setup.guides) (judgements text known) night outside told_zip
        (known_seen laws.known text setup known outside is))
        ∙ ap (λ n. report_of there night n) outside_is)
        ∙ sym (clean_is (report_of there night (text_of text).outside))

pub tracks : Laws → TracksAreOne
tracks laws text setup documents track is = record {
  table = is.table ∙ table_is laws text setup is.known is.outside is.is_known documents;
  clean = λ at. is.clean ∙ clean_report laws text setup is.known is.outside is.is_known at;
}
