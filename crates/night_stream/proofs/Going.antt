-- A night goes on by a batch.
use Rattle.std.proofs.Common.{◌≡◌, ℕ, ◌+◌, ◌<◌, List, [], ◌∷◌, ◌++◌, Option, Some, length, map, take, refl, sym, ap}
use Rattle.std.proofs.Common.{subst, ◌∙◌, arith}
use Rattle.std.specs.List.{All}
use Rattle.std.proofs.lemmas.List.{length-append, length-map, map-append, take_at}
use Rattle.std.proofs.lemmas.Option.{slice_get_within}
use Rattle.std.proofs.lemmas.List.Elements.{All-cons, All-head, All-nil, All-tail}
use Rattle.hub_kinds.specs.declared.interchange.InterchangeFault.{InterchangeFault}
use Rattle.env_index.specs.Words.{Extent, HasSpans, IndexEntry, IsEntryOf, IsIndex, with_fault, with_faults}
use Rattle.partner_setup.specs.Setup.{SetupValue}
use Rattle.mailbox.specs.Deliveries.{delivered_to}
use Rattle.answered_sets.specs.Judged.{JudgedValue, PlacedValue, all_sets}
use Rattle.night_report.specs.Adding.{together}
use Rattle.night_report.specs.Report.{all_lines, report_totals}
use Rattle.night_report.specs.Told.{ToldValue}
use Rattle.night_report.specs.declared.totals.Totals.{Totals}
use Rattle.set_answers.specs.CheckedText.{AreAcknowledgments, AreCheckedAs, IsCheckedAs}
use Rattle.set_answers.specs.CheckedText.{judged}
use Rattle.set_answers.specs.Settled.{faults_from, faults_with, kept_keys, settled_faults}
use Rattle.set_answers.proofs.ForAbove.{by_numbers}
use Rattle.whole_interchanges.specs.Batches.{ChainUpTo}
use Rattle.whole_interchanges.specs.Moved.{IsIndexUpTo, moved_entry}
use Rattle.whole_interchanges.proofs.ForAbove.{ends, starts, steps}
use Rattle.night_stream.specs.MovedSets.{moved_judged, moved_placed}
use Rattle.mailbox.specs.Rendered.{RenderedValue, rendered_from}
use Rattle.night_stream.proofs.Placed.{delivered_moved}
use Rattle.night_stream.specs.Within.{IsWithinText}
use Rattle.night_stream.proofs.Lines.{lines_moved}
use Rattle.night_stream.proofs.Totals.{totals_moved}
use Rattle.night_report.proofs.ForAbove.{lines_joined, totals_joined}
use Rattle.night_stream.specs.MovedAnswers.{moved_answered}
use Rattle.night_stream.proofs.Answering.{all_moved, judged_moved}
use Rattle.night_stream.proofs.Filing.{filed_moved}
use Rattle.night_stream.proofs.Numbering.{faults_moved, settled_joined}
use Rattle.night_stream.proofs.Pairs.{pairs_joined}
use Rattle.night_stream.specs.UpTo as up
use Rattle.night_batches.proofs.ForAbove.{rendered_length, nothing_is_written}
use Rattle.night_batches.specs.Night.{judgements}
use Rattle.night_batches.specs.Writing.{AreRendered}
use Rattle.night_stream.specs.UpTo.{IsBatchDone, IsNightUpTo, IsWhole, NightSoFar}
use Rattle.night_stream.proofs.Written.{all_filtered, all_within, delivered_joined, rendered_joined, rendered_moved}

settled_moved : (by : ℕ) (es : List IndexEntry) (fs : List (Option InterchangeFault))
    → with_faults (map (moved_entry by) es) fs ≡ map (moved_entry by) (with_faults es fs)
settled_moved by [] fs = refl
settled_moved by (e ∷ es) [] = refl
settled_moved by (e ∷ es) (f ∷ fs) = ap (λ (l : List IndexEntry). moved_entry by (with_fault e f) ∷ l) (settled_moved by es fs)

abbrev pub HasTheSpans : List ℕ → IndexEntry → Type 0
HasTheSpans text e = HasSpans text e.interchange

pub spans_settled : (text : List ℕ) (es : List IndexEntry) (fs : List (Option InterchangeFault)) → All (HasTheSpans text) es
    → All (HasTheSpans text) (with_faults es fs)
spans_settled text [] fs all = All-nil (HasTheSpans text)
spans_settled text (e ∷ es) [] all = all
spans_settled text (e ∷ es) (f ∷ fs) all =
    All-cons (HasTheSpans text) (with_fault e f) (with_faults es fs) (All-head (HasTheSpans text) e es all)
    (spans_settled text es fs (All-tail (HasTheSpans text) e es all))

pub spans_read : (text : List ℕ) (es : List IndexEntry) → All (IsEntryOf text) es → All (HasTheSpans text) es
spans_read text [] all = All-nil (HasTheSpans text)
spans_read text (e ∷ es) all =
    All-cons (HasTheSpans text) e es (All-head (IsEntryOf text) e es all).read.spans (spans_read text es (All-tail
    (IsEntryOf text) e es all))

-- nothing yet
pub night_starts : (text : List ℕ) (setup : SetupValue) (at : List ℕ) → IsNightUpTo text setup at 0 (up.none_yet setup)
night_starts text setup at = record {
  index = starts text;
  answered = record { count = refl; each = λ n e x is_e is_x. absurd (let no : n < 0 = slice_get_within [] n e is_e in omega (arith, no)) };
  written = nothing_is_written text setup at;
}

-- all of it
pub system_io : (text : List ℕ) (setup : SetupValue) (at : List ℕ) (n : NightSoFar) → IsNightUpTo text setup at (length text) n
    → IsWhole text setup at n
system_io text setup at n is = record {
  index = record { text = text; entries = n.entries; outside = n.writing.outside };
  read = ends text n.entries n.writing.outside is.index;
  counted = refl;
  answered = is.answered;
  written = is.written;
}

module _ (before batch behind : List ℕ) (setup : SetupValue) (at : List ℕ) (old new : NightSoFar) (xs : List Extent)
    (chain : ChainUpTo (batch ++ behind) 0 (length batch) xs)
    (so_far : IsNightUpTo (before ++ (batch ++ behind)) setup at (length before) old)
    (done : IsBatchDone batch setup at (length before) old new) where
  whole : List ℕ
  whole = before ++ (batch ++ behind)

  abbrev the_whole : List ℕ
  the_whole = before ++ (batch ++ behind)

  abbrev by : ℕ
  by = length before

  abbrev es : List IndexEntry
  es = done.index.entries

  abbrev fs : List (Option InterchangeFault)
  fs = faults_with setup (kept_keys setup old.entries) es

  within : All IsWithinText (all_sets (judgements batch done.written.known))
  within = all_within batch done.written.known done.spans

  index_on : IsIndexUpTo the_whole (by + length batch) new.entries new.writing.outside
  index_on =
      let front : take (length batch) (batch ++ behind) ≡ batch = take_at batch behind (length batch) refl in
      let read : IsIndex (take (length batch) (batch ++ behind)) done.index = subst
      (λ (t : List ℕ). IsIndex t done.index) (sym front) done.read in
      let next : IsIndexUpTo the_whole (by + length batch) (old.entries ++ map (moved_entry by) es)
      (old.writing.outside + done.index.outside) =
      steps before (batch ++ behind) old.entries old.writing.outside (length batch) xs done.index so_far.index
      (omega (arith, length-append batch behind)) chain read in
      subst (λ (l : List IndexEntry). IsIndexUpTo the_whole (by + length batch) l new.writing.outside) (sym done.entries)
      (subst (λ (n : ℕ). IsIndexUpTo the_whole (by + length batch) (old.entries ++ map (moved_entry by) es) n)
      (sym done.written.outside) next)

  answered_on : AreCheckedAs the_whole setup (with_faults new.entries (settled_faults setup new.entries)) new.known
  answered_on =
      let spans : All (HasTheSpans batch) (with_faults es fs) = spans_settled batch es fs (spans_read batch es done.read.entries) in
      let more : AreCheckedAs the_whole setup (map (moved_entry by) (with_faults es fs)) (map (moved_answered by) done.written.known) =
      all_moved before batch behind setup (with_faults es fs) done.written.known spans done.written.answered in
      let faults : faults_from setup old.entries (map (moved_entry by) es) ≡ fs =
      by_numbers setup old.entries (map (moved_entry by) es) ∙ faults_moved setup (kept_keys setup old.entries) by es in
      let settled_is : with_faults (old.entries ++ map (moved_entry by) es) (settled_faults setup (old.entries ++ map (moved_entry by) es))
      ≡ with_faults old.entries (settled_faults setup old.entries) ++ map (moved_entry by) (with_faults es fs) =
      settled_joined setup old.entries (map (moved_entry by) es)
      ∙ ap (λ (l : List (Option InterchangeFault)). with_faults old.entries (settled_faults setup old.entries) ++ with_faults (map
      (moved_entry by) es) l) faults
      ∙ ap (λ (l : List IndexEntry). with_faults old.entries (settled_faults setup old.entries) ++ l) (settled_moved by es fs) in
      let joined : AreCheckedAs the_whole setup
      (with_faults old.entries (settled_faults setup old.entries) ++ map (moved_entry by) (with_faults es fs))
      (old.known ++ map (moved_answered by) done.written.known) =
      pairs_joined (IsCheckedAs the_whole setup) (with_faults old.entries (settled_faults setup old.entries))
      (map (moved_entry by) (with_faults es fs)) old.known (map (moved_answered by) done.written.known) so_far.answered more in
      subst (λ (l : List IndexEntry). AreCheckedAs the_whole setup (with_faults l (settled_faults setup l)) new.known) (sym done.entries)
      (subst (AreCheckedAs the_whole setup (with_faults (old.entries ++ map (moved_entry by) es)
      (settled_faults setup (old.entries ++ map (moved_entry by) es)))) (sym done.all_known)
      (subst (λ (l : List IndexEntry). AreCheckedAs the_whole setup l (old.known ++ map (moved_answered by) done.written.known))
      (sym settled_is) joined))

  judged_on : judgements the_whole new.known
      ≡ judgements the_whole old.known ++ map (moved_judged before behind) (judgements batch done.written.known)
  judged_on =
      ap (judgements the_whole) done.all_known ∙ map-append (judged the_whole) old.known (map (moved_answered by) done.written.known)
      ∙ ap (λ l. judgements the_whole old.known ++ l) (judged_moved before batch behind done.written.known)

  abbrev first : List JudgedValue
  first = judgements the_whole old.known

  abbrev second : List JudgedValue
  second = judgements batch done.written.known

  lines_on : new.writing.told.lines ≡ all_lines setup 0 1 (judgements the_whole new.known)
  lines_on =
      let count : old.writing.told.count + 1 ≡ 1 + length first =
      (let c : old.writing.told.count ≡ length first = so_far.written.told.count in omega (arith, c)) in
      ap (λ (t : ToldValue). t.lines) done.written.told
      ∙ ap (λ (n : ℕ). old.writing.told.lines ++ all_lines setup by n second) count
      ∙ ap (λ (l : List ℕ). l ++ all_lines setup by (1 + length first) second) so_far.written.told.lines
      ∙ ap (λ (l : List ℕ). all_lines setup 0 1 first ++ l) (sym (lines_moved setup before behind (1 + length first) second within))
      ∙ sym (lines_joined setup 0 1 first (map (moved_judged before behind) second))
      ∙ ap (all_lines setup 0 1) (sym judged_on)

  totals_on : new.writing.told.totals ≡ report_totals setup (judgements the_whole new.known)
  totals_on =
      ap (λ (t : ToldValue). t.totals) done.written.told
      ∙ ap (λ (t : Totals). together t (report_totals setup second)) so_far.written.told.totals
      ∙ ap (together (report_totals setup first)) (sym (totals_moved setup before behind second within))
      ∙ sym (totals_joined setup first (map (moved_judged before behind) second))
      ∙ ap (report_totals setup) (sym judged_on)

  count_on : new.writing.told.count ≡ length (judgements the_whole new.known)
  count_on =
      ap (λ (t : ToldValue). t.count) done.written.told
      ∙ ap (λ (n : ℕ). n + length second) so_far.written.told.count
      ∙ ap (λ (n : ℕ). length first + n) (sym (length-map second (moved_judged before behind)))
      ∙ sym (length-append first (map (moved_judged before behind) second))
      ∙ ap (λ (xs : List JudgedValue). length xs) (sym judged_on)

  boxes_on : AreRendered setup (judgements the_whole new.known) new.writing.boxes
  boxes_on = record {
    count = done.written.boxes.count ∙ so_far.written.boxes.count;
    each = λ place partner there.
        (let js : List JudgedValue = judgements the_whole old.known in
        let ks : List JudgedValue = judgements batch done.written.known in
        let first : List PlacedValue = delivered_to setup place js in
        let second : List PlacedValue = delivered_to setup place ks in
        let inside : All IsWithinText second = all_filtered IsWithinText
        (Rattle.mailbox.specs.Deliveries.is_delivered_to setup place) (all_sets ks) within in
        done.written.boxes.each place partner (rendered_from partner 0 first) there (so_far.written.boxes.each place partner there)
        ∙ ap (λ (n : ℕ). Some (rendered_from partner 0 first ++ rendered_from partner n second)) (rendered_length partner 0 first)
        ∙ ap (λ (l : List RenderedValue). Some (rendered_from partner 0 first ++ l))
        (sym (rendered_moved before behind partner (length first) second inside)
        ∙ ap (λ (n : ℕ). rendered_from partner n (map (moved_placed before behind) second)) (let z : length first
        ≡ 0 + length first = omega arith in z))
        ∙ ap (λ (l : List RenderedValue). Some l) (sym (rendered_joined partner 0 first (map (moved_placed before behind) second)))
        ∙ ap (λ (ps : List PlacedValue). Some (rendered_from partner 0 (first ++ ps))) (sym
        (delivered_moved before behind setup place ks within))
        ∙ ap (λ (ps : List PlacedValue). Some (rendered_from partner 0 ps))
        (sym (delivered_joined setup place js (map (moved_judged before behind) ks)) ∙ ap (delivered_to setup place) (sym judged_on)));
  }

  pub night_steps : IsNightUpTo the_whole setup at (by + length batch) new
  night_steps = record {
    index = index_on;
    answered = answered_on;
    written = record {
      files = subst (λ l. AreAcknowledgments setup at l new.writing.files) (sym done.all_known)
          (filed_moved by setup at old.known done.written.known new.writing.files (done.written.files old.known so_far.written.files));
      told = record { lines = lines_on; totals = totals_on; count = count_on };
      boxes = boxes_on;
    };
  }
