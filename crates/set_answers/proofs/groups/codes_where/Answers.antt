use Rattle.std.proofs.Common.{◌≡◌, ℕ, List, IfOk, Option, ap, subst, ◌∙◌}
use Rattle.std.specs.Prelude.{option_map}
use Rattle.std.specs.Option.{option_copied}
use Rattle.hub_kinds.specs.declared.set_codes.GroupCode.{GroupCode}
use Rattle.x12_segs.specs.Words.{element_of}
use Rattle.ack_999.specs.Group.{group_codes_of}
use Rattle.ack_999.specs.declared.support.GroupSupport.{GroupSupport}
use Rattle.ack_999.specs.declared.trailer.GroupTrailer.{GroupTrailer}
use Rattle.env_index.specs.declared.header_elements.GroupElements.{GroupElements}
use Rattle.set_answers.specs.declared.ends.GroupEnds.{GroupEnds}
use Rattle.set_answers.specs.Answers.{support_of, trailer_of}
use Rattle.set_answers.proofs.groups.codes_where.Goals as goal

pub returns : goal.returns
returns c =
    let sent = c.args.sent.now in
    let group = c.args.group.now in
    let support = support_of sent.setup sent.sender group.header in
    let control = element_of group.header 6 in
    let trailer = option_map trailer_of group.trailer in
    let header = ap (λ (e : GroupEnds). e.header) c.requires in
    let same = ap (λ (s : GroupSupport). group_codes_of s c.bytes.result.now
    (option_copied c.as_ref.result) c.set_count.result c.args.earlier)
    (c.support_of.ensures group.header header)
    ∙ ap (λ (t : List ℕ). group_codes_of support t (option_copied c.as_ref.result) c.set_count.result c.args.earlier)
    (c.bytes.ensures ∙ ap (λ (h : GroupElements). h.control) header)
    ∙ ap (λ (t : Option GroupTrailer). group_codes_of support control t c.set_count.result c.args.earlier)
    (c.as_ref.ensures.value ∙ ap (λ (e : GroupEnds). e.trailer) c.requires)
    ∙ ap (λ (n : ℕ). group_codes_of support control trailer n c.args.earlier) c.set_count.ensures in
    subst (λ (cs : List GroupCode). IfOk c.group_codes.result (λ codes. codes ≡ cs)) same c.group_codes.ensures
