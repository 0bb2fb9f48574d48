use Rattle.std.proofs.Common.{None, refl}
use Rattle.record_review.specs.Found.{folder_path}
use Rattle.record_review.proofs.names.names_at.Goals as goal

pub returns-in_default : goal.returns-in_default
returns-in_default g c =
    record {
      listing = record { path = folder_path c.args.night.now c.args.folder.now; names = None };
      path_is = refl;
      names_are = c.new.ensures.items;
    }
