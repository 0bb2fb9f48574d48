use Rattle.std.proofs.Common.{◌≡◌, ◌+◌, ◌≤◌, ℕ, List, length}
use Rattle.count_numbers.specs.Layout.{interchanges_of}
use Rattle.mailbox.specs.Rendered.{box_of_rendered, groups_in, groups_of_rendered, interchanges_text}
use Rattle.mailbox.specs.Woven.{HasWoven}
use Rattle.mailbox.specs.declared.woven.Cut.{Cut}
use Rattle.mailbox.proofs.assembling.append_interchanges.Given as goal

-- what is written, with whatever is written of the interchanges that are left, is all; so are the groups that are counted
abbrev pub invariant-loop-rest : goal.invariant-loop-rest
invariant-loop-rest l = record {
  text : (end : List ℕ) (ends : List Cut)
      → HasWoven l.out.items l.cuts.items end ends l.rest (interchanges_text l.setup l.partner l.at (l.acknowledgments + l.written)
      (l.groups + l.count) (interchanges_of l.partner.cap l.rest))
      → HasWoven l.initial.out.items l.initial.cuts.items end ends l.sets
      (box_of_rendered l.setup l.partner l.at l.acknowledgments l.groups l.sets);
  count : l.count + groups_in (interchanges_of l.partner.cap l.rest) ≡ groups_of_rendered l.partner.cap l.sets;
  bound : l.count + length l.rest ≤ length l.sets;
  written : l.written + length l.rest ≤ length l.sets;
}

abbrev pub decreases-loop-rest : goal.decreases-loop-rest
decreases-loop-rest l = length l.rest
