use Rattle.std.proofs.Common.{◌≡◌, sym, subst, List}
use Rattle.std.specs.List.{All}
use Rattle.x12_segs.specs.Words.{SegValue}
use Rattle.set_check.specs.Envelope.{IsEnvelopeOf}
use Rattle.set_check.specs.SetParts.{parts_of}
use Rattle.set_check.proofs.Spans.{read_of}
use Rattle.set_check.proofs.fast.check_set_fast.Goals as goal

pub set_faults_fast-requires-clause-read : goal.set_faults_fast-requires-clause-read
set_faults_fast-requires-clause-read c =
    subst (All (λ (s : SegValue). s.delims ≡ c.args.set.delims)) (sym c.as_slice.ensures.value)
    (read_of c.args.text.now c.args.set c.in_ok-segs.segs.items c.requires.span c.in_ok-segs.ensures)

pub checked_by-requires-2-clause-envelope : goal.checked_by-requires-2-clause-envelope
checked_by-requires-2-clause-envelope c =
    subst (λ (x : List SegValue). IsEnvelopeOf (parts_of c.args.set.delims c.args.set.closed x) c.envelope_of-envelope.result)
    c.in_ok-segs.ensures (c.envelope_of-envelope.ensures c.args.set.delims)
