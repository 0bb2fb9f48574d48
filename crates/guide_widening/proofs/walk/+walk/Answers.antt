use Rattle.std.proofs.Common.{List, ◌++◌, sym, ◌∙◌, ap, append_assoc}
use Rattle.std.specs.Prelude.{Option}
use Rattle.std.specs.Option.{option_map_or}
use Rattle.guide_tree.specs.Words.{Tree, Trees, nodes_view, view}
use Rattle.guide_widening.specs.declared.difference.Difference.{Difference}
use Rattle.guide_widening.specs.NodeDifferences.{gone_node, new_nodes, node_differences, first_nodes, before_same}
use Rattle.guide_widening.proofs.Walked.{all_left, none_left, same_none, rest_none, same_some, rest_some, first_there}
use Rattle.guide_widening.proofs.walk.+walk.Goals as goal

pub push_against-returns-in_ok-push_gone-in-None-clause-rest :
    goal.push_against-returns-in_ok-push_gone-in-None-clause-rest
push_against-returns-in_ok-push_gone-in-None-clause-rest t c =
    let k = c.before_same-before.result in
    sym (rest_none (view c.args.node.now) c.args.new.now k c.before_same-before.ensures.value
    (none_left k c.args.new.now c.in-None.ensures.cases))

pub push_against-returns-in_ok-push_gone-in-None-clause-found :
    goal.push_against-returns-in_ok-push_gone-in-None-clause-found
push_against-returns-in_ok-push_gone-in-None-clause-found t c =
    let k = c.before_same-before.result in
    let none = same_none (view c.args.node.now) c.args.new.now k c.before_same-before.ensures.value
    (none_left k c.args.new.now c.in-None.ensures.cases) in
    let old = view c.args.node.now in
    let new = nodes_view c.args.new.now in
    c.in_ok-push_gone-in-None.ensures
    ∙ sym (ap (λ (o : Option Tree). c.args.found.now.items ++ option_map_or (λ u. new_nodes (first_nodes (before_same old new) new)
    ++ node_differences old u) o (gone_node old)) none)

pub push_against-returns-in_ok-push_node-in-Some-clause-rest :
    goal.push_against-returns-in_ok-push_node-in-Some-clause-rest
push_against-returns-in_ok-push_node-in-Some-clause-rest t c =
    let k = c.before_same-before.result in
    sym (rest_some (view c.args.node.now) c.args.new.now k c.before_same-before.ensures.value c.in-Some.same.now c.in-Some.after.now
    (sym (all_left k c.args.new.now) ∙ c.in-Some.ensures.cases.0))

pub push_against-returns-in_ok-push_node-in-Some-clause-found :
    goal.push_against-returns-in_ok-push_node-in-Some-clause-found
push_against-returns-in_ok-push_node-in-Some-clause-found t c =
    let k = c.before_same-before.result in
    let old = view c.args.node.now in
    let new = nodes_view c.args.new.now in
    let there = same_some old c.args.new.now k c.before_same-before.ensures.value c.in-Some.same.now c.in-Some.after.now
    (sym (all_left k c.args.new.now) ∙ c.in-Some.ensures.cases.0) in
    let first = first_there old c.args.new.now k c.before_same-before.ensures.value in
    c.in_ok-push_node-in-Some.ensures
    ∙ ap (λ (l : List Difference). l ++ node_differences old (view c.in-Some.same.now)) c.in_ok-push_each_new-in-Some.ensures
    ∙ append_assoc c.args.found.now.items _ (node_differences old (view c.in-Some.same.now))
    ∙ ap (λ (us : Trees). c.args.found.now.items ++ (new_nodes us ++ node_differences old (view c.in-Some.same.now))) (sym first)
    ∙ sym (ap (λ (o : Option Tree). c.args.found.now.items ++ option_map_or (λ u. new_nodes (first_nodes (before_same old new) new)
    ++ node_differences old u) o (gone_node old)) there)
