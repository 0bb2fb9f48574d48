use Rattle.std.proofs.Common.{None, refl}
use Rattle.std.proofs.lemmas.Option.{slice_get_read}
use Rattle.env_index.specs.Words.{IndexEntry}
use Rattle.partner_setup.specs.Setup.{sender_of}
use Rattle.set_answers.proofs.ForAbove.{mapped_at}
use Rattle.set_findings.proofs.Adding.{jobs_all}
use Rattle.set_findings.proofs.jobs.jobs_behind.Goals as goal

pub add_interchange-requires-clause-sender : goal.add_interchange-requires-clause-sender
add_interchange-requires-clause-sender c =
    mapped_at (λ (e : IndexEntry). sender_of c.args.guides.now e.interchange.header) c.args.entries.now c.args.senders.now c.loop-i.i
    c.index-entries-i.result None c.requires.senders
    (slice_get_read c.args.entries.now _ c.loop-i.i c.index-entries-i.result refl c.loop-i-test.true c.index-entries-i.is)

pub returns : goal.returns
returns c =
    jobs_all c.args.text.now c.args.guides.now c.args.entries.now c.loop-i.i _ c.loop-i.jobs.items _ c.loop-i-test.false c.loop-i.invariant
