use Rattle.std.proofs.Common.{◌≡◌, true, false, sym, ap, ◌∙◌, arith}
use Rattle.std.proofs.lemmas.Grind.{common_steps}
use Rattle.env_index.specs.Faults.{is_group_header}
use Rattle.env_index.specs.Summary.{GroupEntry}
use Rattle.env_index.proofs.Each.{one_fails, one_passes}
use Rattle.env_index.proofs.faults.have_group_headers.Goals as goal

pub returns-then-not-is_group_header : goal.returns-then-not-is_group_header
returns-then-not-is_group_header c =
    let fails : c.is_group_header.result ≡ false = grind (arith, common_steps) in
    sym (one_fails (λ (group : GroupEntry). is_group_header group.header) c.args.interchange.now.content.groups c.loop-index.index
    c.group.result c.group.ensures (sym (c.is_group_header.ensures ∙ ap is_group_header c.header.ensures) ∙ fails))

pub loop-index-preserved : goal.loop-index-preserved
loop-index-preserved c =
    let passes : c.is_group_header.result ≡ true = grind (arith, common_steps) in
    one_passes (λ (group : GroupEntry). is_group_header group.header) c.args.interchange.now.content.groups c.loop-index.index
    c.group.result c.group.ensures (sym (c.is_group_header.ensures ∙ ap is_group_header c.header.ensures)
    ∙ passes) c.loop-index.invariant
