use Rattle.std.proofs.Common.{◌≡◌, true, false, sym, ◌∙◌, arith}
use Rattle.std.proofs.lemmas.Grind.{common_steps}
use Rattle.env_index.specs.declared.entry.SetEnvelope.{SetEnvelope}
use Rattle.env_index.specs.Faults.{is_set_header}
use Rattle.env_index.proofs.Each.{part_fails, part_passes}
use Rattle.env_index.proofs.faults.group_has_set_headers.Goals as goal

pub returns-then-not-is_set_header : goal.returns-then-not-is_set_header
returns-then-not-is_set_header c =
    let fails : c.is_set_header.result ≡ false = grind (arith, common_steps) in
    sym (part_fails (λ (set : SetEnvelope). set.header) is_set_header c.args.group.now.sets c.loop-index.index c.set_header.result
    c.set_header.ensures
    (sym c.is_set_header.ensures ∙ fails))

pub loop-index-preserved : goal.loop-index-preserved
loop-index-preserved c =
    let passes : c.is_set_header.result ≡ true = grind (arith, common_steps) in
    part_passes (λ (set : SetEnvelope). set.header) is_set_header c.args.group.now.sets c.loop-index.index c.set_header.result
    c.set_header.ensures
    (sym c.is_set_header.ensures ∙ passes) c.loop-index.invariant
