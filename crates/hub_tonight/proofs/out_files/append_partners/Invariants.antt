use Rattle.std.proofs.Common.{◌≡◌, ◌++◌, drop, map}
use Rattle.hub_tonight.specs.Files.{out_file}
use Rattle.night_definition.specs.SetupFile.{partner_files}
use Rattle.hub_tonight.proofs.out_files.append_partners.Given as goal

abbrev pub invariant-loop-i : goal.invariant-loop-i
invariant-loop-i l = l.files.items ++ map out_file (partner_files (drop l.i l.partners) (drop l.i l.acks) (drop l.i l.boxes))
    ≡ l.initial.files.items ++ map out_file (partner_files l.partners l.acks l.boxes)
