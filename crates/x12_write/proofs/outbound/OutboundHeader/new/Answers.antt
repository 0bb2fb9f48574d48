use Rattle.std.proofs.Common.{ap, ◌∙◌, ◌++◌, List, ℕ}
use Rattle.x12_write.specs.Outbound.{front_text}
use Rattle.x12_write.proofs.Ends.{ends-text}
use Rattle.x12_write.proofs.outbound.OutboundHeader.new.Goals as goal

pub returns : goal.returns
returns c =
    let e = c.args.envelope.now in
    record {
      moment = c.append_front.ensures.moment;
      text = ends-text e c.args.at.now c.append_front.new.out.items c.back_of.result
          (c.in_ok-append_front.ensures.text ∙ ap (λ (t : List ℕ). t ++ front_text e c.args.at.now) c.in_ok-front.ensures.items)
          c.back_of.ensures;
    }
