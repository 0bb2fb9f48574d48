use Rattle.std.proofs.Common.{◌+◌, ◌++◌, List, ◌∷◌, drop, option_map, sym, ap, ◌∙◌, arith}
use Rattle.toml.specs.Data.{Items}
use Rattle.toml.specs.View.{view, items_view}
use Rattle.toml_keys.specs.Tables.{each_item}
use Rattle.toml_keys.proofs.ReadSteps.{adds, lacks_all}
use Rattle.toml_keys.proofs.RowSteps.{next_item}
use Rattle.toml_keys.proofs.lists.each_item.Goals as goal

pub returns-in-Err : goal.returns-in-Err
returns-in-Err g c =
    let v = c.value-item.result in
    let vs = c.args.values.now in
    let i = c.loop-value.value-index in
    let read = g.R.Reading.reading c.args.reading.now in
    let rest = items_view (drop (i + 1) vs) in
    lacks_all c.in-Err.fault (read (view v)) (λ x. option_map (λ xs. x ∷ xs) (each_item read rest))
    (λ xs. c.loop-value.items.items ++ xs) (each_item read (items_view vs)) c.in-Err.ensures
    (ap (λ (ds : Items). option_map (λ xs. c.loop-value.items.items ++ xs) (each_item read ds))
    (sym (next_item vs i v (omega arith) c.value-item.is)) ∙ c.loop-value.invariant)

pub loop-value-preserved : goal.loop-value-preserved
loop-value-preserved g c =
    let v = c.value-item.result in
    let vs = c.args.values.now in
    let i = c.loop-value.value-index in
    let read = g.R.Reading.reading c.args.reading.now in
    let rest = items_view (drop (i + 1) vs) in
    ap (λ (done : List _). option_map (λ xs. done ++ xs) (each_item read rest)) c.in_ok-push-in-Ok.ensures.items
    ∙ adds c.loop-value.items.items c.in-Ok.item (read (view v)) (each_item read rest) (each_item read (items_view vs))
    c.in-Ok.ensures
    (ap (λ (ds : Items). option_map (λ xs. c.loop-value.items.items ++ xs) (each_item read ds))
    (sym (next_item vs i v (omega arith) c.value-item.is)) ∙ c.loop-value.invariant)
