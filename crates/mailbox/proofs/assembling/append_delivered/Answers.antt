use Rattle.std.proofs.Common.{ℕ, List, ◌++◌, ◌∙◌, ap, length}
use Rattle.x12_write.specs.Trailer.{trailer_text}
use Rattle.mailbox.specs.Rendered.{groups_of}
use Rattle.mailbox.proofs.Weaving.{between}
use Rattle.mailbox.proofs.assembling.append_delivered.Goals as goal

pub returns-clause-text : goal.returns-clause-text
returns-clause-text c = between c.args.out.now.items c.append.new.out.items c.append_groups.new.out.items
    c.append_trailer.new.out.items _ _ (trailer_text c.args.partner.now.delims (length (groups_of c.args.sets.now)) c.args.number)
    c.args.cuts.now.items c.append_groups.new.cuts.items c.args.sets.now
    (c.in_ok-append.ensures.text ∙ ap (λ (t : List ℕ). c.args.out.now.items ++ t) (c.requires.header.text c.args.number))
    c.in_ok-groups.ensures.text
    (c.in_ok-append_trailer.ensures.text ∙ ap (λ (n : ℕ). c.append_groups.new.out.items
    ++ trailer_text c.args.partner.now.delims n c.args.number) c.in_ok-groups.ensures.count)
