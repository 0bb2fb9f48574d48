-- What the register says of a place's number is reported.
use Rattle.std.proofs.Common.{Option, Some, None, refl, sym, true≢false}
use Rattle.std.specs.Prelude.{is_some}
use Rattle.hub_kinds.specs.declared.place.Place.{Place}
use Rattle.env_index.specs.Words.{IndexValue}
use Rattle.number_register.specs.Recording.{IsEarlierIn}
use Rattle.set_findings.specs.Flags.{IsTold}

pub told_by : (index : IndexValue) (p : Place) (o : Option Place) → IsEarlierIn index p o → IsTold index p (is_some o)
told_by index p None none = (λ h. absurd (true≢false (sym h)), λ x. absurd (none x.0 x.1))
told_by index p (Some q) first = (λ h. (q, first), λ x. refl)
