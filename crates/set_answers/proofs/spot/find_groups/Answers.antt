use Rattle.std.proofs.Common.{◌≡◌, ℕ, ◌∷◌, [], List, Option, take, sym, ap, subst, ◌∙◌, arith}
use Rattle.std.proofs.lemmas.List.{take_all}
use Rattle.std.specs.List.{All, list_any}
use Rattle.ack_999.specs.Group.{are_same_number}
use Rattle.x12_segs.specs.Words.{IsSetSpan}
use Rattle.env_index.specs.Words.{span_of, GroupEntry}
use Rattle.env_index.specs.declared.entry.SetEnvelope.{SetEnvelope}
use Rattle.set_answers.specs.Answers.{group_number}
use Rattle.set_answers.specs.Asked.{group_asked, groups_asked, sets_asked}
use Rattle.set_answers.specs.Known.{HasNumbersOf}
use Rattle.set_answers.proofs.AlsoFound.{both_found, same_found}
use Rattle.set_answers.proofs.Asking.{groups_up_to}
use Rattle.set_answers.proofs.Growing.{at_index, take_one_more}
use Rattle.set_answers.proofs.spot.find_groups.Goals as goal

pub find_group-requires : goal.find_group-requires
find_group-requires c =
    at_index
    (λ (g : GroupEntry). All (λ (s : SetEnvelope). IsSetSpan c.args.sent.now.text (span_of c.args.sent.now.delims s)) g.sets)
    c.args.interchange.now.content.groups c.loop-index.index c.group-group.result c.group-group.ensures c.requires

pub loop-index-preserved : goal.loop-index-preserved
loop-index-preserved c =
    let sent = c.args.sent.now in
    let groups : List GroupEntry = c.args.interchange.now.content.groups in
    let i : ℕ = c.loop-index.index in
    let group : GroupEntry = c.group-group.result in
    let earlier = c.in_ok-earlier.ensures.earlier (take i groups) c.loop-index.invariant.known
    ∙ ap (λ (n : Option ℕ). list_any (λ g. are_same_number n (group_number g)) (take i groups)) c.group_number.ensures in
    let here = c.in_ok-find_group.ensures (take i groups) earlier in
    let both = both_found (groups_asked sent [] (take i groups))
    (group_asked (take i groups) group ∷ sets_asked sent group.header [] group.sets) c.args.found.now.items c.loop-index.found.items
    c.find_group.new.found.items c.loop-index.invariant.found here in
    record {
      found = same_found _ _ c.args.found.now.items c.find_group.new.found.items (groups_up_to sent groups i group c.group-group.ensures)
          both;
      known = subst (λ (gs : List GroupEntry). HasNumbersOf c.add_number.new.numbers gs) (sym
          (take_one_more groups i group c.group-group.ensures))
          (c.in_ok-earlier.ensures.known (take i groups) group (sym c.group_number.ensures) c.loop-index.invariant.known);
    }

pub returns : goal.returns
returns c =
    let groups : List GroupEntry = c.args.interchange.now.content.groups in
    let all : take c.loop-index.index groups ≡ groups =
    take_all c.loop-index.index groups (omega (arith, c.loop-index-test.false, c.group_count-index-end.ensures)) in
    same_found _ _ c.args.found.now.items c.loop-index.found.items (ap (groups_asked c.args.sent.now []) all) c.loop-index.invariant.found
