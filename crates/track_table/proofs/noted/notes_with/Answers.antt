use Rattle.std.proofs.Common.{◌≡◌, ℕ, ◌||◌, Bool, List, Option, None, cond, is_some, option_map, refl, Some, map, sym, ap, ◌∙◌}
use Rattle.env_index.specs.Words.{IndexEntry, InterchangeEntry}
use Rattle.set_answers.specs.Acknowledgments.{has_any, present}
use Rattle.set_answers.specs.declared.answered.AnsweredGroup.{AnsweredGroup}
use Rattle.set_answers.specs.CheckedText.{CheckedInterchange, recipient_of}
use Rattle.answered_sets.specs.Answered.{ta1_note}
use Rattle.track_table.specs.AnswerNotes.{notes_by}
use Rattle.track_table.specs.declared.notes.GroupNotes.{GroupNotes}
use Rattle.track_table.specs.declared.notes.Notes.{Notes}
use Rattle.track_table.proofs.noted.notes_with.Goals as goal

some_mapped : {A B : Type 0} (f : A → B) (o : Option A) → is_some (option_map f o) ≡ is_some o
some_mapped f None = refl
some_mapped f (Some a) = refl

abbrev notes_made : List GroupNotes → Option ℕ → Bool → Notes
notes_made gs r h = record { groups = gs; recipient = r; has_reports = h }

pub returns : goal.returns
returns c x entry sender groups =
    let s = c.args.sender in
    let r : Bool = c.has_any-has_reports.result in
    let kept = c.in_ok-all_notes.ensures ∙ ap (λ (gs : List (Option AnsweredGroup)). map notes_by gs) (sym groups) in
    let reports : r ≡ has_any (present x.groups) = c.has_any-has_reports.ensures
    ∙ ap (λ (gs : List (Option AnsweredGroup)). has_any (present gs)) (c.as_slice.ensures.value ∙ sym groups) in
    let fault = c.fault.ensures ∙ sym (ap (λ (e : IndexEntry). e.fault) entry) in
    let interchange = c.interchange.ensures.value ∙ sym (ap (λ (e : IndexEntry). e.interchange) entry) in
    let note : Bool = is_some (ta1_note x.sender x.entry.fault x.entry.interchange) in
    let noted : c.is_some-noted.result ≡ note =
    c.is_some-noted.ensures ∙ sym (some_mapped _ c.ta1_note.result)
    ∙ ap (λ n. is_some n) (c.ta1_note.ensures
    ∙ ap (λ t. ta1_note t c.fault.result c.interchange.result.now) (sym sender)
    ∙ ap (λ f. ta1_note x.sender f c.interchange.result.now) fault
    ∙ ap (λ i. ta1_note x.sender x.entry.fault i) interchange) in
    let who : c.if_any.result ≡ recipient_of x = c.if_any.ensures
    ∙ ap (λ (n : Bool). cond (n || r) s None) noted
    ∙ ap (λ (h : Bool). cond (note || h) s None) reports
    ∙ ap (λ (t : Option ℕ). cond (note || has_any (present x.groups)) t None) (sym sender) in
    ap (λ gs. notes_made gs c.if_any.result r) kept
    ∙ ap (λ w. notes_made (map notes_by x.groups) w r) who
    ∙ ap (λ h. notes_made (map notes_by x.groups) (recipient_of x) h) reports
