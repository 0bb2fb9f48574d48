use Rattle.std.proofs.Common.{ap, ◌∙◌, ◌++◌, List, ℕ}
use Rattle.std.proofs.lemmas.Result.{on_ok_weaker}
use Rattle.x12_write.proofs.Headers.{header-read}
use Rattle.x12_write.proofs.Ends.{behind}
use Rattle.x12_write.specs.Number.{padded_number}
use Rattle.x12_write.specs.Outbound.{HeaderEnds}
use Rattle.x12_write.proofs.outbound.OutboundHeader.append.Goals as goal

pub returns-clause-header : goal.returns-clause-header
returns-clause-header c =
    let front = ap (λ (h : HeaderEnds). h.front) c.self.view_is in
    let back = ap (λ (h : HeaderEnds). h.back) c.self.view_is in
    on_ok_weaker c.append_rest.result
    (λ written e at ends. header-read e at c.args.number c.append_rest.new.out.items c.args.out.now.items
    (behind c.args.out.now.items c.extend_from_slice.new.self.items c.append_rest.new.out.items c.args.self.now.front
    (padded_number 9 c.args.number) c.self.inside.back c.args.self.now.back
    (c.in_ok-extend_from_slice.ensures.items ∙ ap (λ (t : List ℕ). c.args.out.now.items ++ t) (c.as_slice.ensures.value ∙ front))
    back written
    ∙ ap (λ (t : List ℕ). c.args.out.now.items ++ t) (ends.text c.args.number)) ends.moment)
    c.append_rest.ensures.text
