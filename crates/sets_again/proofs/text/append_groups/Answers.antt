use Rattle.std.proofs.Common.{◌≡◌, ◌≤◌, ◌∙◌, ◌+◌, ◌++◌, ℕ, Bool, List, [], ap, append-nil, arith, cond, drop, length, sym, take}
use Rattle.std.proofs.lemmas.List.{at_drop_all, length-take}
use Rattle.env_index.specs.Summary.{GroupEntry}
use Rattle.sets_again.specs.Text.{group_part, groups_count, groups_text, has_any}
use Rattle.sets_again.proofs.Steps.{group_counted, group_written, one_at_most}
use Rattle.sets_again.proofs.Walking.{written_more}
use Rattle.sets_again.proofs.text.append_groups.Goals as goal

pub append_group_part-requires : goal.append_group_part-requires
append_group_part-requires c =
    let n = c.set_count.result in
    let rest : List Bool = c.loop-i.rest.now in
    omega (
      arith,
      ap (λ (l : List Bool). length l) c.parted.ensures.first,
      length-take n rest,
      c.set_count.ensures,
    )

pub loop-i-preserved : goal.loop-i-preserved
loop-i-preserved c =
    let text : List ℕ = c.args.text.now in
    let d = c.args.delims in
    let groups = c.args.interchange.now.content.groups in
    let chosen : List Bool = c.args.chosen.now in
    let i = c.loop-i.i in
    let group = c.group-group.result in
    let rest : List Bool = c.loop-i.rest.now in
    let here : List Bool = c.parted.result.0.now in
    let after : List Bool = c.parted.result.1.now in
    let n = c.set_count.result in
    let counted = group_counted groups rest here after i n group c.group-group.ensures c.set_count.ensures c.parted.ensures.first
    c.parted.ensures.others in
    record {
      few = omega (arith, c.loop-i.invariant.few, c.in_ok-count.ensures.count, one_at_most (has_any here));
      counted = omega (arith, c.loop-i.invariant.counted, c.in_ok-count.ensures.count, counted);
      written = written_more c.loop-i.out.items c.append_group_part.new.out.items (c.args.out.now.items ++ groups_text text d groups chosen)
          (group_part text d group here) (groups_text text d (drop (i + 1) groups) after) (groups_text text d (drop i groups) rest)
          c.loop-i.invariant.written c.in_ok-count.ensures.text
          (group_written text d groups rest here after i n group c.group-group.ensures c.set_count.ensures c.parted.ensures.first
          c.parted.ensures.others);
    }

pub returns-clause-text : goal.returns-clause-text
returns-clause-text c =
    let text : List ℕ = c.args.text.now in
    let d = c.args.delims in
    let groups = c.args.interchange.now.content.groups in
    let i = c.loop-i.i in
    let out : List ℕ = c.loop-i.out.items in
    let rest : List Bool = c.loop-i.rest.now in
    let empty : groups_text text d (drop i groups) rest ≡ [] =
    at_drop_all (λ (gs : List GroupEntry). groups_text text d gs rest) groups i
    (omega (arith, c.loop-i-test.false, c.loop-i.auto.i-end, c.group_count-i-end.ensures)) in
    sym (append-nil out) ∙ ap (λ (t : List ℕ). out ++ t) (sym empty) ∙ c.loop-i.invariant.written

pub returns-clause-count : goal.returns-clause-count
returns-clause-count c =
    let groups = c.args.interchange.now.content.groups in
    let i = c.loop-i.i in
    let rest : List Bool = c.loop-i.rest.now in
    let none : groups_count (drop i groups) rest ≡ 0 =
    at_drop_all (λ (gs : List GroupEntry). groups_count gs rest) groups i
    (omega (arith, c.loop-i-test.false, c.loop-i.auto.i-end, c.group_count-i-end.ensures)) in
    omega (arith, c.loop-i.invariant.counted, none)
