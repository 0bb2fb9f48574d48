use Rattle.std.proofs.Common.{ℕ, List, length, ap, subst}
use Rattle.x12_write.specs.Sendable.{BeginsWithHeader}
use Rattle.x12_write.proofs.ForAbove.{begins-longer}
use Rattle.ack_999.proofs.interchange.write_ack_interchange.Goals as goal

pub returns-clause-header : goal.returns-clause-header
returns-clause-header c =
    let e = c.args.envelope.now in
    let at = c.args.at.now in
    let n = c.args.number in
    let front : List ℕ = c.append_header.new.out.items in
    let noted : List ℕ = c.append_ta1_part.new.out.items in
    let grouped : List ℕ = c.append_group_part.new.out.items in
    let first = subst (λ (place : ℕ). BeginsWithHeader e at n front place) (ap length c.new-out.ensures.items)
    c.in_ok-append_header.ensures.header in
    let second = begins-longer e at n front _ noted 0 c.in_ok-append_ta1_part.ensures.text first in
    let third = begins-longer e at n noted _ grouped 0 c.in_ok-append_group_part.ensures.text second in
    begins-longer e at n grouped _ c.append_trailer.new.out.items 0 c.in_ok-append_trailer.ensures.text third
