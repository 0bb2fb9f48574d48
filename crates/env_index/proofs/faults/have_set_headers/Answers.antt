use Rattle.std.proofs.Common.{◌≡◌, true, false, sym, ◌∙◌, arith}
use Rattle.std.proofs.lemmas.Grind.{common_steps}
use Rattle.env_index.specs.Faults.{has_set_headers}
use Rattle.env_index.proofs.Each.{one_fails, one_passes}
use Rattle.env_index.proofs.faults.have_set_headers.Goals as goal

pub returns-then-not-group_has_set_headers : goal.returns-then-not-group_has_set_headers
returns-then-not-group_has_set_headers c =
    let fails : c.group_has_set_headers.result ≡ false = grind (arith, common_steps) in
    sym (one_fails (has_set_headers) c.args.interchange.now.content.groups c.loop-index.index c.group.result c.group.ensures
    (sym c.group_has_set_headers.ensures ∙ fails))

pub loop-index-preserved : goal.loop-index-preserved
loop-index-preserved c =
    let passes : c.group_has_set_headers.result ≡ true = grind (arith, common_steps) in
    one_passes (has_set_headers) c.args.interchange.now.content.groups c.loop-index.index c.group.result c.group.ensures
    (sym c.group_has_set_headers.ensures ∙ passes) c.loop-index.invariant
