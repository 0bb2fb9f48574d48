-- The command line's definitions on arguments that are written out.
use Rattle.std.proofs.Common.{◌≡◌, List, [], ◌∷◌, Some, None, true, false, codes, refl}
use Rattle.clap.specs.Words.{Text, fault_of, takes}
use Rattle.clap.specs.declared.error.kind.ErrorKind.TheVariants.{DisplayHelp, DisplayVersion}
use Rattle.clap.proofs.OnLiterals.{clap_on_literals}
use Rattle.program_frame.specs.Arguments.{value_in, values_in}
use Rattle.night_command.specs.CommandLine.{hub_app, piece_given, workers_given}

-- all arguments but those that name guides
abbrev others : List Text
others = codes "--counters" ∷ codes "c" ∷ codes "--at" ∷ codes "202603011530" ∷ codes "--in" ∷ codes "i" ∷ codes "--out" ∷ codes "o"
    ∷ codes "--setup" ∷ codes "s" ∷ []

abbrev words : List Text
words = codes "--guide" ∷ codes "g" ∷ codes "--guide" ∷ codes "h" ∷ others

taken : takes hub_app words ≡ true
unfolding clap_on_literals
taken = refl

guides : values_in hub_app words (codes "guide") ≡ Some (codes "g" ∷ codes "h" ∷ [])
unfolding clap_on_literals
guides = refl

setup : value_in hub_app words (codes "setup") ≡ Some (codes "s")
unfolding clap_on_literals
setup = refl

output : value_in hub_app words (codes "out") ≡ Some (codes "o")
unfolding clap_on_literals
output = refl

without_guide : takes hub_app others ≡ false
unfolding clap_on_literals
without_guide = refl

twice : takes hub_app (codes "--in" ∷ codes "b" ∷ words) ≡ false
unfolding clap_on_literals
twice = refl

one_more : takes hub_app (codes "b" ∷ words) ≡ false
unfolding clap_on_literals
one_more = refl

unknown : takes hub_app (codes "--thread" ∷ codes "4" ∷ words) ≡ false
unfolding clap_on_literals
unknown = refl

shared : takes hub_app (codes "--workers" ∷ codes "7" ∷ codes "--piece" ∷ codes "53" ∷ words) ≡ true
unfolding clap_on_literals
shared = refl

too_many : takes hub_app (codes "--workers" ∷ codes "65" ∷ words) ≡ false
unfolding clap_on_literals
too_many = refl

not_one : takes hub_app (codes "--workers" ∷ codes "0" ∷ words) ≡ false
unfolding clap_on_literals
not_one = refl

piece_of_none : takes hub_app (codes "--piece" ∷ codes "0" ∷ words) ≡ false
unfolding clap_on_literals
piece_of_none = refl

workers_twice : takes hub_app (codes "--workers" ∷ codes "7" ∷ codes "--workers" ∷ codes "7" ∷ words) ≡ false
unfolding clap_on_literals
workers_twice = refl

seven : value_in hub_app (codes "--workers" ∷ codes "7" ∷ words) (codes "workers") ≡ Some (codes "7")
unfolding clap_on_literals
seven = refl

no_workers : value_in hub_app words (codes "workers") ≡ None
unfolding clap_on_literals
no_workers = refl

none_given : workers_given None ≡ Some 4
none_given = refl

least_workers : workers_given (Some (codes "1")) ≡ Some 1
least_workers = refl

most_workers : workers_given (Some (codes "64")) ≡ Some 64
most_workers = refl

no_worker : workers_given (Some (codes "0")) ≡ None
no_worker = refl

too_many_workers : workers_given (Some (codes "65")) ≡ None
too_many_workers = refl

workers_in_words : workers_given (Some (codes "four")) ≡ None
workers_in_words = refl

no_piece_given : piece_given None ≡ Some 1048576
no_piece_given = refl

least_piece : piece_given (Some (codes "1")) ≡ Some 1
least_piece = refl

most_piece : piece_given (Some (codes "4294967295")) ≡ Some 4294967295
most_piece = refl

piece_past_the_limit : piece_given (Some (codes "4294967296")) ≡ None
piece_past_the_limit = refl

no_piece : piece_given (Some (codes "0")) ≡ None
no_piece = refl

help : fault_of hub_app (codes "--help" ∷ []) ≡ DisplayHelp ∷ []
unfolding clap_on_literals
help = refl

version : fault_of hub_app (codes "--version" ∷ []) ≡ DisplayVersion ∷ []
unfolding clap_on_literals
version = refl
