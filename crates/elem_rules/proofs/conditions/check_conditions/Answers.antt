use Rattle.std.proofs.Common.{◌≡◌, ◌<◌, List, length, sym, ap, subst, ◌∙◌}
use Rattle.std.specs.List.{Contains}
use Rattle.hub_kinds.specs.declared.fault.ElemFault.{ElemFault}
use mathlib.Core.Logic.{◌⊎◌}
use Rattle.elem_rules.specs.Clean.{is_set, bits_to}
use Rattle.elem_rules.specs.Found.{read, is_present_in}
use Rattle.elem_rules.proofs.Looks.{found_by_bits, read_length}
use Rattle.elem_rules.proofs.Marks.{few_listed, joined, on_ok}
use Rattle.elem_rules.proofs.conditions.check_conditions.Goals as goal

pub broken_by-requires : goal.broken_by-requires
broken_by-requires c = few_listed (length c.args.of.now.rows.now) c.args.conditions.now c.requires.rows c.requires.positions

pub returns : goal.returns
returns c =
    let of = c.args.of.now in
    let texts = read of.texts.now in
    let bits = c.present_bits-present.result in
    let broken = c.in_ok-broken.broken in
    let few : length texts < 64 = rw (read_length of.texts.now) c.requires.texts in
    let are : bits ≡ bits_to (is_present_in of.delims texts) (length texts) =
    c.present_bits-present.ensures ∙ ap (bits_to (is_present_in of.delims texts)) (sym (read_length of.texts.now)) in
    let all = found_by_bits of.delims of.rows.now texts c.args.conditions.now bits few are in
    on_ok c.add_each-2.result (λ step f.
    subst (λ (l : List ElemFault). (Contains c.add_each-2.new.found f → Contains c.args.found.now f ⊎ Contains l f)
    × (Contains c.args.found.now f ⊎ Contains l f → Contains c.add_each-2.new.found f)) all
    (joined of.rows.now texts (is_set bits) c.args.conditions.now c.requires.positions c.args.found.now c.add_each.new.found
    c.add_each-2.new.found
    broken.missing broken.excluded c.in_ok-broken.ensures.missing c.in_ok-broken.ensures.excluded c.in_ok-add_each.ensures step f))
    c.add_each-2.ensures
