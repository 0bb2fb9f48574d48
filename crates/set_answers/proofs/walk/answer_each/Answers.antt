use Rattle.std.proofs.Common.{◌≡◌, ◌≤◌, ℕ, ◌+◌, drop, List, [], ◌∷◌, ◌++◌, Option, None, Some, length, refl, sym, ap, subst, ◌∙◌, arith}
use Rattle.std.proofs.Common.{length-append}
use Rattle.std.specs.Prelude.{slice_get}
use Rattle.std.specs.List.{AllZip}
use Rattle.std.proofs.lemmas.Option.{slice_get_read}
use Rattle.env_index.specs.Words.{IndexEntry, HasSpans}
use Rattle.partner_setup.specs.Setup.{sender_of}
use Rattle.answered_sets.specs.Judged.{JudgedValue}
use Rattle.set_answers.specs.Asked.{IsFound, asked_of}
use Rattle.set_answers.specs.CheckedText.{CheckedInterchange, IsCheckedAs, judged}
use Rattle.set_answers.proofs.Acknowledging.{sent_both, sent_none}
use Rattle.set_answers.proofs.Growing.{at_index, map_snoc, mapped_at}
use Rattle.set_answers.proofs.Pairing.{no_pairs, pairs_more}
use Rattle.set_answers.proofs.Starting.{room_after}
use Rattle.set_answers.proofs.Taking.{drop_one_more}
use Rattle.set_answers.proofs.walk.answer_each.Goals as goal

pub loop-i-init : goal.loop-i-init
loop-i-init g c = (
  [],
  no_pairs (λ n e x. IsCheckedAs c.args.batch.now.text.now c.args.batch.now.setup.now e x) c.args.entries.now,
  refl,
  c.new-interchanges.ensures.items,
  sent_none c.args.batch.now.setup.now c.args.batch.now.at.now c.args.files.now,
  c.requires.headers,
  c.requires.found,
)

pub answer_interchange-requires : goal.answer_interchange-requires
answer_interchange-requires g c =
    let batch = c.args.batch.now in
    let setup = batch.setup.now in
    let text : List ℕ = batch.text.now in
    let entries : List IndexEntry = c.args.entries.now in
    let senders : List (Option ℕ) = c.args.senders.now in
    let i : ℕ = c.loop-i.i in
    let done = c.loop-i.invariant in
    let there : slice_get entries i ≡ Some c.index-entries-i.result =
    slice_get_read entries _ i c.index-entries-i.result refl c.loop-i-test.true c.index-entries-i.is in
    let left : length done.0 + 1 ≤ length entries = omega (arith, done.2, c.loop-i-test.true) in
    record {
      ready = c.requires.ready;
      spans = at_index (λ (e : IndexEntry). HasSpans text e.interchange) entries i c.index-entries-i.result there c.requires.spans;
      sender = mapped_at (λ (e : IndexEntry). sender_of setup e.interchange.header) entries senders i c.index-entries-i.result None
          c.requires.senders there;
      found = (
        asked_of text setup (drop (i + 1) entries),
        subst (λ (es : List IndexEntry). AllZip IsFound (asked_of text setup es) c.loop-i.findings)
            (drop_one_more entries i c.index-entries-i.result there) done.6,
      );
      count = done.4.count ∙ c.requires.count;
      room = room_after setup batch.at.now done.0 c.args.files.now c.loop-i.files (length entries) 1 c.requires.count done.4
          c.requires.room left;
      headers = done.5;
    }

pub loop-i-preserved : goal.loop-i-preserved
loop-i-preserved g c =
    let batch = c.args.batch.now in
    let setup = batch.setup.now in
    let at : List ℕ = batch.at.now in
    let text : List ℕ = batch.text.now in
    let entries : List IndexEntry = c.args.entries.now in
    let i : ℕ = c.loop-i.i in
    let done : List CheckedInterchange = c.loop-i.invariant.0 in
    let counted : length done ≡ i = c.loop-i.invariant.2 in
    let next = c.in_ok-judged.ensures.answered in
    let R = λ (n : ℕ) (e : IndexEntry) (x : CheckedInterchange). IsCheckedAs text setup e x in
    let there : slice_get entries i ≡ Some c.index-entries-i.result =
    slice_get_read entries _ i c.index-entries-i.result refl c.loop-i-test.true c.index-entries-i.is in (
      done ++ next.answered ∷ [],
      pairs_more R entries done c.index-entries-i.result next.answered c.loop-i.invariant.1
          (ap (λ (n : ℕ). slice_get entries n) counted ∙ there) next.is,
      length-append done (next.answered ∷ []) ∙ ap (λ (n : ℕ). n + 1) counted,
      c.in_ok-push.ensures.items
          ∙ ap (λ (j : JudgedValue). c.loop-i.interchanges.items ++ j ∷ []) next.judged
          ∙ ap (λ (js : List JudgedValue). js ++ judged text next.answered ∷ []) c.loop-i.invariant.3
          ∙ sym (map_snoc (judged text) done next.answered),
      sent_both setup at done (next.answered ∷ []) c.args.files.now c.loop-i.files c.answer_interchange.new.files c.loop-i.invariant.4
          next.sent,
      c.in_ok-judged.ensures.headers,
      c.in_ok-judged.ensures.rest (asked_of text setup (drop (i + 1) entries))
          (subst (λ (es : List IndexEntry). AllZip IsFound (asked_of text setup es) c.loop-i.findings)
          (drop_one_more entries i c.index-entries-i.result there) c.loop-i.invariant.6),
    )

pub returns : goal.returns
returns g c = record {
  answered = c.loop-i.invariant.0;
  are = record {
    count = omega (arith, c.loop-i.invariant.2, c.loop-i-test.false, c.loop-i.auto.i-end);
    each = c.loop-i.invariant.1;
  };
  judged = c.loop-i.invariant.3;
  sent = c.loop-i.invariant.4;
}
