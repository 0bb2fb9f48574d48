use Rattle.std.proofs.Common.{◌+◌, ◌∙◌, ℕ, length}
use Rattle.std.proofs.lemmas.Result.{on_ok_weaker}
use Rattle.mailbox.specs.Deliveries.{inner_in}
use Rattle.mailbox.specs.Mailbox.{set_trailer_text}
use Rattle.mailbox.proofs.Writing.{three_parts}
use Rattle.mailbox.proofs.render.append_set_of.Goals as goal

pub returns-clause-text : goal.returns-clause-text
returns-clause-text c = on_ok_weaker c.append_set_trailer.result (λ is. three_parts c.args.out.now.items c.append_header_of.new.out.items
    c.append_inner_of.new.out.items c.append_set_trailer.new.out.items _ _ (λ (n : ℕ). set_trailer_text c.args.to.now (n + 2) c.args.number)
    c.from.result (length (inner_in c.args.placed.now)) c.in_ok-append_header_of.ensures.text c.in_ok-inner.ensures.text is
    (c.from.ensures ∙ c.in_ok-inner.ensures.count)) c.append_set_trailer.ensures.text
