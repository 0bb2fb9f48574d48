use Rattle.std.proofs.Common.{◌≡◌}
use Rattle.guide_tree.specs.Words.{guide_of}
use Rattle.page_command.specs.Folder.{AddsBroken}
use Rattle.page_command.proofs.folder.put_rules.Given as goal

abbrev pub invariant-loop-number : goal.invariant-loop-number
invariant-loop-number g l =
    AddsBroken (guide_of l.rules.guide) l.rules.rules 0 l.number (g.B.Outbox.contents l.initial.folder) (g.B.Outbox.contents l.folder)
    l.initial.list.items l.list.items × (g.B.Outbox.faults l.folder ≡ g.B.Outbox.faults l.initial.folder)
