use Rattle.std.proofs.Common.{◌+◌, drop, refl, arith}
use Rattle.toml.specs.View.{view, items_view}
use Rattle.guide_toml.specs.Answers.{meaning_of}
use Rattle.guide_toml.specs.Guides.{dependency_in, dependencies_in}
use Rattle.toml_keys.proofs.ForAbove.{row_added, row_fails, next_row}
use Rattle.guide_toml.proofs.read.dependencies_in.Goals as goal

pub returns-in-Err : goal.returns-in-Err
returns-in-Err c =
    let v = c.value-item.result in
    let vs = c.args.values.now in
    let i = c.loop-value.value-index in
    let all = dependencies_in (items_view vs) in
    row_fails c.loop-value.rows.items (meaning_of c.in-Err.fault) (dependency_in (view v))
    (dependencies_in (items_view (drop (i + 1) vs))) all c.in-Err.ensures
    (next_row dependency_in dependencies_in (λ d ds. refl) vs i v (omega arith) c.value-item.is c.loop-value.rows.items
    all c.loop-value.invariant)

pub loop-value-preserved : goal.loop-value-preserved
loop-value-preserved c =
    let v = c.value-item.result in
    let vs = c.args.values.now in
    let i = c.loop-value.value-index in
    let all = dependencies_in (items_view vs) in
    row_added c.loop-value.rows.items c.push_dependency.new.rows.items c.in-Ok.row (dependency_in (view v))
    (dependencies_in (items_view (drop (i + 1) vs))) all c.in_ok-push_dependency-in-Ok.ensures.ok c.in-Ok.ensures
    (next_row dependency_in dependencies_in (λ d ds. refl) vs i v (omega arith) c.value-item.is c.loop-value.rows.items
    all c.loop-value.invariant)
