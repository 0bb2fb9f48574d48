use Rattle.night_breaches.proofs.GoingOn.{sound_go_on}
use Rattle.night_breaches.proofs.laws.sound_nights_go_on.Goals as goal

pub returns : goal.returns
returns c = sound_go_on
