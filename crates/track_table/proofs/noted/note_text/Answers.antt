use Rattle.std.proofs.Common.{◌≡◌, ℕ, ◌+◌, List, [], ◌∷◌, ◌++◌, Some, length, refl, sym, ap, subst, ◌∙◌, arith, length-append}
use Rattle.std.specs.Prelude.{slice_get}
use Rattle.std.proofs.lemmas.Option.{slice_get_read}
use Rattle.env_index.specs.Words.{IndexEntry, HasSpans}
use Rattle.answered_sets.specs.Judged.{JudgedValue}
use Rattle.set_answers.specs.CheckedText.{CheckedInterchange, IsCheckedAs, judged}
use Rattle.set_answers.proofs.ForAbove.{at_index, map_snoc, no_pairs, pairs_more}
use Rattle.track_table.specs.Noted.{notes_of}
use Rattle.track_table.specs.declared.notes.Notes.{Notes}
use Rattle.track_table.proofs.noted.note_text.Goals as goal

pub loop-i-init : goal.loop-i-init
loop-i-init c = (
  [],
  no_pairs (λ n e x. IsCheckedAs c.args.index.now.text c.args.setup.now e x) c.args.index.now.entries,
  refl,
  c.new-interchanges.ensures.items,
  c.new-notes.ensures.items,
)

pub note_interchange-requires : goal.note_interchange-requires
note_interchange-requires c =
    let entries : List IndexEntry = c.args.index.now.entries in
    let read : slice_get c.interchanges-entries.result.now c.loop-i.i ≡ Some c.index-entries-i.result =
    slice_get_read c.interchanges-entries.result.now _ c.loop-i.i c.index-entries-i.result refl c.loop-i-test.true c.index-entries-i.is in
    let there : slice_get entries c.loop-i.i ≡ Some c.index-entries-i.result =
    ap (λ (es : List IndexEntry). slice_get es c.loop-i.i) (sym c.interchanges-entries.ensures.value) ∙ read in
    subst (λ (text : List ℕ). HasSpans text c.index-entries-i.result.interchange) (sym c.text-text.ensures)
    (at_index (λ (e : IndexEntry). HasSpans c.args.index.now.text e.interchange) entries c.loop-i.i c.index-entries-i.result there
    c.requires)

pub loop-i-preserved : goal.loop-i-preserved
loop-i-preserved c =
    let entries : List IndexEntry = c.args.index.now.entries in
    let done : List CheckedInterchange = c.loop-i.invariant.0 in
    let counted : length done ≡ c.loop-i.i = c.loop-i.invariant.2 in
    let noted = c.in_ok-judged.ensures in
    let R = λ (n : ℕ) (e : IndexEntry) (x : CheckedInterchange). IsCheckedAs c.args.index.now.text c.args.setup.now e x in
    let read : slice_get c.interchanges-entries.result.now c.loop-i.i ≡ Some c.index-entries-i.result =
    slice_get_read c.interchanges-entries.result.now _ c.loop-i.i c.index-entries-i.result refl c.loop-i-test.true c.index-entries-i.is in
    let there : slice_get entries (length done) ≡ Some c.index-entries-i.result =
    ap (λ (es : List IndexEntry). slice_get es (length done)) (sym c.interchanges-entries.ensures.value)
    ∙ ap (λ (n : ℕ). slice_get c.interchanges-entries.result.now n) counted ∙ read in
    let is : R (length done) c.index-entries-i.result noted.known =
    subst (λ (text : List ℕ). IsCheckedAs text c.args.setup.now c.index-entries-i.result noted.known)
    c.text-text.ensures noted.answered in (
      done ++ noted.known ∷ [],
      pairs_more R entries done c.index-entries-i.result noted.known c.loop-i.invariant.1 there is,
      length-append done (noted.known ∷ []) ∙ ap (λ (n : ℕ). n + 1) counted,
      c.in_ok-push.ensures.items
          ∙ ap (λ (j : JudgedValue). c.loop-i.interchanges.items ++ j ∷ [])
          (noted.judgement ∙ ap (λ (text : List ℕ). judged text noted.known) c.text-text.ensures)
          ∙ ap (λ (js : List JudgedValue). js ++ judged c.args.index.now.text noted.known ∷ []) c.loop-i.invariant.3
          ∙ sym (map_snoc (judged c.args.index.now.text) done noted.known),
      c.in_ok-push-2.ensures.items
          ∙ ap (λ (m : Notes). c.loop-i.notes.items ++ m ∷ []) noted.is
          ∙ ap (λ (ms : List Notes). ms ++ notes_of noted.known ∷ []) c.loop-i.invariant.4
          ∙ sym (map_snoc notes_of done noted.known),
    )

pub returns : goal.returns
returns c = record {
  known = c.loop-i.invariant.0;
  answered = record {
    count = omega (
      arith,
      c.loop-i.invariant.2,
      c.loop-i-test.false,
      c.loop-i.auto.i-end,
      ap (λ (es : List IndexEntry). length es) c.interchanges-entries.ensures.value,
    );
    each = c.loop-i.invariant.1;
  };
  judgements = c.loop-i.invariant.3;
  are = c.loop-i.invariant.4;
}
