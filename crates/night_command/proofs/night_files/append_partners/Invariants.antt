use Rattle.std.proofs.Common.{◌≡◌, ◌++◌, drop, map}
use Rattle.night_command.specs.Outbox.{file_of}
use Rattle.night_command.specs.NightFiles.{partner_files}
use Rattle.night_command.proofs.night_files.append_partners.Given as goal

abbrev pub invariant-loop-i : goal.invariant-loop-i
invariant-loop-i l = map file_of l.files.items ++ partner_files (drop l.i l.partners) (drop l.i l.acks) (drop l.i l.boxes)
    ≡ map file_of l.initial.files.items ++ partner_files l.partners l.acks l.boxes
