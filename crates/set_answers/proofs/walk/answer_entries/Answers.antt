use Rattle.std.proofs.Common.{List, Option, length, sym, ap, subst, ◌∙◌}
use Rattle.std.specs.List.{AllZip}
use Rattle.x12_write.specs.Outbound.{HeaderEnds}
use Rattle.set_check.specs.declared.finding.Finding.{Finding}
use Rattle.set_answers.specs.Asked.{IsFound, asked_of}
use Rattle.set_answers.specs.CheckedText.{SentValues}
use Rattle.set_answers.specs.Headers.{AreHeadersTo}
use Rattle.set_answers.specs.SentAfter.{CanCount}
use Rattle.set_answers.proofs.walk.answer_entries.Goals as goal

pub answer_each-requires : goal.answer_each-requires
answer_each-requires g c =
    let setup = c.args.batch.now.setup.now in
    let at = c.args.batch.now.at.now in
    let count = ap (λ (files : List SentValues). length files) c.as_mut_slice-files.ensures.value ∙ c.requires.count in
    let room = subst (λ (files : List SentValues). CanCount (length c.args.entries.now) files) (sym c.as_mut_slice-files.ensures.value)
    c.requires.room in
    let headers = subst (λ (made : List (Option HeaderEnds)). AreHeadersTo setup at made) (sym c.as_mut_slice-headers.ensures.value)
    (c.in_ok-made.ensures at) in
    let found = subst (λ (fs : List Finding). AllZip IsFound (asked_of c.args.batch.now.text.now setup c.args.entries.now) fs)
    (sym c.new-findings.ensures) c.requires.found in
    record {
      ready = c.requires.ready;
      spans = c.requires.spans;
      senders = c.requires.senders;
      found = found;
      count = count;
      room = room;
      headers = headers;
    }
