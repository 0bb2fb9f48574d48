use Rattle.set_findings.proofs.checking.checks_by.Given as goal

abbrev pub ghosts-checks_named-J-Named : goal.ghosts-checks_named-J-Named
ghosts-checks_named-J-Named g a = record { index = a.index.now }

abbrev pub ghosts-checks_named-J-Ledger : goal.ghosts-checks_named-J-Ledger
ghosts-checks_named-J-Ledger g a = record { name = a.blank.name; parts = a.blank.parts }
