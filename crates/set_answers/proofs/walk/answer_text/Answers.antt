use Rattle.std.proofs.Common.{◌∙◌, ℕ, List, length, sym, subst}
use Rattle.std.specs.List.{All}
use Rattle.std.proofs.lemmas.Result.{IfOk-weaker}
use Rattle.env_index.specs.Words.{IndexEntry, HasSpans}
use Rattle.set_answers.specs.FoundRows.{AreFoundRows}
use Rattle.set_answers.specs.SentAfter.{CanCount}
use Rattle.set_answers.proofs.Acknowledging.{checked_after}
use Rattle.set_answers.proofs.Starting.{can_count}
use Rattle.set_answers.proofs.walk.answer_text.Goals as goal

pub answer_entries-requires : goal.answer_entries-requires
answer_entries-requires g c =
    let setup = c.args.setup.now in
    let index = c.args.index.now in
    let text = sym c.text-text.ensures in
    let entries = sym c.interchanges.ensures.value in
    let spans = subst (λ (t : List ℕ). All (λ e. HasSpans t e.interchange) c.interchanges.result.now) text
    (subst (λ (es : List IndexEntry). All (λ e. HasSpans index.text e.interchange) es) entries c.requires.spans) in
    let found : AreFoundRows c.text-text.result.now setup c.interchanges.result.now c.args.found =
    subst (λ (t : List ℕ). AreFoundRows t setup c.interchanges.result.now c.args.found) text
    (subst (λ (es : List IndexEntry). AreFoundRows index.text setup es c.args.found) entries c.requires.found) in
    let room = subst (λ (es : List IndexEntry). CanCount (length es) c.args.sent.items) entries
    (can_count setup c.args.at.now (length index.entries) c.args.sent.items c.requires.sent) in
    record {
      ready = c.requires.ready;
      spans = spans;
      senders = c.as_slice.ensures.value ∙ found.senders;
      found = found.findings;
      count = c.requires.sent.1.count;
      room = room;
    }

pub returns : goal.returns
returns g c =
    IfOk-weaker c.answer_entries.result _ _
    (λ v is. checked_after c.args.index.now.text c.text-text.result.now c.args.setup.now c.args.at.now c.args.index.now.entries
    c.interchanges.result.now v.interchanges.items c.args.sent.items v.acknowledgments.items c.text-text.ensures
    c.interchanges.ensures.value is)
    c.answer_entries.ensures
