-- The setup of the layers as the definition has it.
use Rattle.std.specs.Prelude.{map}
use Rattle.guide_tree.specs.View.{guide_of}
use Rattle.partner_setup.specs.Setup.{SetupValue}
use Rattle.night_definition.specs.Setup.{Setup}

abbrev pub seen_setup : SetupValue → Setup
seen_setup s = record { hub = s.hub; partners = s.partners; routes = s.routes; guides = map guide_of s.guides }
