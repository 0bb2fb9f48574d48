use Rattle.std.proofs.Common.{ap, ◌∙◌, ◌++◌, List, ℕ}
use Rattle.std.proofs.lemmas.Result.{on_ok_weaker}
use Rattle.x12_write.specs.Number.{padded_number}
use Rattle.x12_write.specs.Outbound.{back_text, front_text}
use Rattle.x12_write.proofs.Ends.{behind, header-of_ends}
use Rattle.x12_write.proofs.Headers.{header-read}
use Rattle.x12_write.proofs.header.append_header.Goals as goal

pub returns-clause-text : goal.returns-clause-text
returns-clause-text c =
    let e = c.args.envelope.now in
    on_ok_weaker c.append_rest.result
    (λ written. behind c.args.out.now.items c.append_front.new.out.items c.append_rest.new.out.items (front_text e c.args.at.now)
    (padded_number 9 c.args.number) c.back_of.result (back_text e) c.in_ok-append_front.ensures.text c.back_of.ensures written
    ∙ ap (λ (t : List ℕ). c.args.out.now.items ++ t) (header-of_ends e c.args.at.now c.args.number))
    c.append_rest.ensures.text

pub returns-clause-header : goal.returns-clause-header
returns-clause-header c =
    on_ok_weaker c.append_rest.result
    (λ written. header-read c.args.envelope.now c.args.at.now c.args.number c.append_rest.new.out.items c.args.out.now.items written
    c.append_front.ensures.moment)
    (returns-clause-text c)
