use Rattle.trial_workers.proofs.recording.recorded_of.Given as goal

abbrev pub ghosts-recorded_by-J-Named : goal.ghosts-recorded_by-J-Named
ghosts-recorded_by-J-Named g a = record { index = a.index.now }

abbrev pub ghosts-recorded_by-J-Ledger : goal.ghosts-recorded_by-J-Ledger
ghosts-recorded_by-J-Ledger g a = record { name = a.blank.name; parts = a.blank.parts }
