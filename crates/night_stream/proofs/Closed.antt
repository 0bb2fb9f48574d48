-- The night of a text by what was carried from batch to batch.
use Rattle.std.proofs.Common.{ℕ, List, length}
use Rattle.partner_setup.specs.Setup.{SetupValue}
use Rattle.night_stream.specs.UpTo.{IsNightUpTo, IsWhole, NightSoFar}
use Rattle.night_stream.proofs.Going.{system_io}
use Rattle.night_batches.proofs.ForAbove.{night_of_written}
use Rattle.night_batches.specs.Night.{IsNight}
use Rattle.night_batches.specs.Writing.{IsClosedBy}
use Rattle.night_batches.specs.declared.night.Night.{Night}

pub closed : (text : List ℕ) (setup : SetupValue) (at : List ℕ) (n : NightSoFar) (night : Night)
    → IsNightUpTo text setup at (length text) n → IsClosedBy setup at n.writing night → IsNight text setup at night
closed text setup at n night is by =
    let whole : IsWhole text setup at n = system_io text setup at n is in
    record {
      known = n.known;
      outside = n.writing.outside;
      is_known = record { index = whole.index; read = whole.read; answered = whole.answered; counted = whole.counted };
      is = night_of_written text setup at n.known n.writing is.written night by;
    }
