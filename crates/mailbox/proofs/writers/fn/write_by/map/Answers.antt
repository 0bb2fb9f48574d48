use Rattle.std.proofs.Common.{ap, ◌∙◌, ◌≤◌, ℕ, List, length}
use Rattle.std.proofs.lemmas.List.Elements.{All-get_or}
use Rattle.std.proofs.lemmas.Option.{get_or_from_slice_get}
use Rattle.std.proofs.lemmas.Result.{IfOk-weaker}
use Rattle.mailbox.specs.Parts.{rendered_part}
use Rattle.mailbox.specs.declared.parts.Part.{Part}
use Rattle.mailbox.proofs.Sharing.{parts_within}
use Rattle.mailbox.proofs.writers.fn.write_by.map.Goals as goal

pub write_part-requires : goal.write_part-requires
write_part-requires c =
    let n : ℕ = length c.captures.sets.now in
    let parts : List Part = c.captures.parts.now in
    let its = All-get_or (λ (p : Part). (p.from ≤ p.to) × (p.to ≤ n)) parts c.args.i _ c.requires.0
    (parts_within 0 n parts c.requires.1) in
    record { counters = c.requires.2; few = c.requires.3; order = its.0; within = its.1 }

pub returns : goal.returns
returns c =
    IfOk-weaker c.write_part.result _ _ (λ v is (p : Part) at. is
    ∙ ap (rendered_part c.captures.partner.now c.captures.k c.captures.sets.now)
    (get_or_from_slice_get c.captures.parts.now c.args.i p _ at)) c.write_part.ensures
