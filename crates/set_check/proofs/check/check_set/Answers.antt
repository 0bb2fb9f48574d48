use Rattle.std.proofs.Common.{◌≡◌, ◌∙◌, sym, subst, List}
use Rattle.std.specs.List.{All}
use Rattle.std.specs.Option.{option_copied}
use Rattle.x12_segs.specs.Words.{SegValue}
use Rattle.set_check.specs.Envelope.{IsEnvelopeOf}
use Rattle.set_check.specs.SetFaults.{AreSetFaults}
use Rattle.set_check.specs.SetParts.{parts_of}
use Rattle.set_check.specs.Checked.{guide_tree_of}
use Rattle.set_check.proofs.Spans.{read_of}
use Rattle.set_check.proofs.check.check_set.Goals as goal

pub set_faults-requires-clause-read : goal.set_faults-requires-clause-read
set_faults-requires-clause-read c =
    subst (All (λ (s : SegValue). s.delims ≡ c.args.set.delims)) (sym c.as_slice.ensures.value)
    (read_of c.args.text.now c.args.set c.in_ok-segs.segs.items c.requires.span c.in_ok-segs.ensures)

pub checked_by-requires-clause-faults : goal.checked_by-requires-clause-faults
checked_by-requires-clause-faults c =
    subst (λ (x : List SegValue). AreSetFaults (guide_tree_of (option_copied c.args.guide)) (parts_of c.args.set.delims c.args.set.closed x)
    c.in_ok-faults.faults)
    (c.as_slice.ensures.value ∙ c.in_ok-segs.ensures) c.in_ok-faults.ensures.exact

pub checked_by-requires-clause-envelope : goal.checked_by-requires-clause-envelope
checked_by-requires-clause-envelope c =
    subst (λ (x : List SegValue). IsEnvelopeOf (parts_of c.args.set.delims c.args.set.closed x) c.envelope_of.result)
    c.in_ok-segs.ensures (c.envelope_of.ensures c.args.set.delims)
