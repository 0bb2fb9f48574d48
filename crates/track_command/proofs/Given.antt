-- A table that is given is that of a night by the options.
use Rattle.std.proofs.Common.{◌≡◌, ℕ, List, Option, Result, Ok, Err, IsOkAnd, subst}
use Rattle.partner_setup.specs.Setup.{SetupValue}
use Rattle.set_documents.specs.Documents.{DocumentValue}
use Rattle.night_command.specs.Outbox.{File}
use Rattle.night_command.specs.SetupFiles.{IsSetupAt}
use Rattle.track_command.specs.CommandLine.{guide_paths}
use Rattle.track_command.specs.Outcome.{IsGiven, IsTrackBy}
use Rattle.track_command.specs.declared.command.Options.{Options}

pub tracked_of : {F E : Type 0} (declared : F → Option (List ℕ)) (options : Options) (setup : SetupValue) (answer : Result F E)
    (name : List ℕ) (status : ℕ) (had has : Option (List File))
    → IsSetupAt (guide_paths options) options.setup.now options.counters.now setup
    → IsOkAnd answer (λ file. IsGiven (declared file) setup options.documents.items name status had has) → IsTrackBy options status
tracked_of declared options setup (Ok file) name status had has made given = record {
  setup = setup;
  made = made;
  text = given.by.text;
  within = given.by.within;
  track = given.track;
  is = given.by.is;
  own_status = given.own_status;
}
tracked_of declared options setup (Err error) name status had has made given = absurd given

-- the same, by the same documents and under the same name
pub given_as : (told : Option (List ℕ)) (setup : SetupValue) (documents by : List DocumentValue) (name as_ : List ℕ) (status : ℕ)
    (had has : Option (List File)) → by ≡ documents → as_ ≡ name → IsGiven told setup by as_ status had has
    → IsGiven told setup documents name status had has
given_as told setup documents by name as_ status had has same named given =
    subst (λ (d : List DocumentValue). IsGiven told setup d name status had has) same
    (subst (λ (n : List ℕ). IsGiven told setup by n status had has) named given)
