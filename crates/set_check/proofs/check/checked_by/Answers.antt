use Rattle.std.proofs.Common.{refl}
use Rattle.std.specs.Option.{option_copied}
use Rattle.set_check.specs.SetParts.{set_parts}
use Rattle.set_check.proofs.Checking.{kept_envelope, put_down}
use Rattle.set_check.proofs.Clean.{clean_as_met}
use Rattle.set_check.proofs.check.checked_by.Goals as goal

pub invariant_of-result : goal.invariant_of-result
invariant_of-result c = (
  put_down c.args.text.now c.args.set (option_copied c.args.guide) c.args.faults c.args.faults c.args.faults c.args.envelope
      (option_copied c.as_ref.result) c.in_ok-codes.codes.items _ c.in_ok-codes.ensures.sound c.requires.faults c.requires.rising
      c.requires.envelope refl c.as_ref.ensures.value c.in_ok-codes.ensures.codes
      refl c.in_ok-found.ensures.codes,
  c.requires.span,
  kept_envelope c.in_ok-found.found (λ f. f.value.envelope) (set_parts c.args.text.now c.args.set) c.args.envelope
      c.in_ok-found.ensures.envelope c.requires.envelope,
  c.in_ok-found.ensures.none,
)

pub returns-clause-meets : goal.returns-clause-meets
returns-clause-meets c = clean_as_met _ (invariant_of-result c).0
