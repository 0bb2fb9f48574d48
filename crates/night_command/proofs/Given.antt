-- A night that is given is printed.
use Rattle.std.proofs.Common.{ℕ, List, Option, Result, Ok, Err, IsOkAnd}
use Rattle.partner_setup.specs.Setup.{SetupValue}
use Rattle.night_command.specs.CommandLine.{guide_paths}
use Rattle.night_command.specs.Outbox.{File}
use Rattle.night_command.specs.Outcome.{IsGiven, IsPrinted}
use Rattle.night_command.specs.SetupFiles.{IsSetupAt}
use Rattle.night_command.specs.declared.command.Options.{Options}

pub printed_of : {F E : Type 0} (declared : F → Option (List ℕ)) (options : Options) (setup : SetupValue) (answer : Result F E)
    (status : ℕ) (had has : Option (List File)) (was is : Option (List ℕ))
    → IsSetupAt (guide_paths options) options.setup.now options.counters.now setup
    → IsOkAnd answer (λ file. IsGiven (declared file) setup options.at status had has was is) → IsPrinted options status was is
printed_of declared options setup (Ok file) status had has was is made given = record {
  night = given.night;
  by = record {
    setup = setup;
    made = made;
    text = given.by.text;
    within = given.by.within;
    definition = given.by.definition;
    run = given.by.run made.files made.makes;
    plain = given.by.plain made.files made.makes;
  };
  own_status = given.own_status;
  printed = given.printed;
}
printed_of declared options setup (Err error) status had has was is made given = absurd given
