use Rattle.std.proofs.Common.{sym, ap, ◌∙◌, arith, codes}
use Rattle.toml.specs.Data.{items_depth}
use Rattle.toml.specs.View.{table_view, view, items_view}
use Rattle.guide_toml.proofs.ForAbove.{depth_at, list_depth, member_depth}
use Rattle.key_errors.specs.NodeTables.{tables_in}
use Rattle.key_errors.proofs.NodeTables.{inner_is, list_at, no_list, that_list}
use Rattle.key_errors.proofs.node_tables.inner_of.Goals as goal

pub returns-in-None-clause-same : goal.returns-in-None-clause-same
returns-in-None-clause-same c = sym (inner_is (table_view c.args.table.now) ∙ ap list_at (sym c.in-None.ensures))

pub returns-in-None-as_array-clause-same : goal.returns-in-None-as_array-clause-same
returns-in-None-as_array-clause-same c =
    sym (inner_is (table_view c.args.table.now) ∙ ap list_at (sym c.in-Some.ensures)
    ∙ no_list (view c.in-Some.value.now) c.in-None-as_array.ensures)

pub returns-in-Some-as_array-clause-same : goal.returns-in-Some-as_array-clause-same
returns-in-Some-as_array-clause-same c =
    ap (λ vs. tables_in (items_view vs)) c.as_slice.ensures.value
    ∙ that_list (view c.in-Some.value.now) _ c.in-Some-as_array.ensures
    ∙ sym (inner_is (table_view c.args.table.now) ∙ ap list_at (sym c.in-Some.ensures))

pub returns-in-Some-as_array-clause-smaller : goal.returns-in-Some-as_array-clause-smaller
returns-in-Some-as_array-clause-smaller c =
    let a = ap (λ vs. items_depth (items_view vs)) c.as_slice.ensures.value in
    let b = list_depth (view c.in-Some.value.now) _ c.in-Some-as_array.ensures in
    let d = member_depth (codes "nodes") (table_view c.args.table.now) in
    let e = ap depth_at c.in-Some.ensures in
    omega arith
