use Rattle.std.proofs.Common.{◌+◌, ◌<◌, ◌++◌, List, length, drop, option_map, Some, sym, ap, ◌∙◌, arith}
use Rattle.guide_tree.specs.declared.element.Component.{Component}
use Rattle.guide_toml.specs.Tokens.{token_groups}
use Rattle.guide_toml.specs.ElementTexts.{components_of_tokens}
use Rattle.guide_toml.proofs.ComponentSteps.{fails_here, ends_here, goes_on}
use Rattle.guide_toml.proofs.element_text.components_of.Goals as goal

pub returns-in-Err : goal.returns-in-Err
returns-in-Err c =
    fails_here c.loop-component.components.items c.args.tokens.now c.loop-component.from c.first_semicolon-end.result
    c.split_at.result.1.now c.split_at-in-loop-component.result.0.now c.in-Err.fault
    (record {
      rest_is = c.split_at.ensures.back;
      end_is = c.first_semicolon-end.ensures.at;
      group_is =
          c.split_at-in-loop-component.ensures.front;
      so_far = c.loop-component.invariant.rest;
    })
    c.in-Err.ensures

pub returns-then-end-rest : goal.returns-then-end-rest
returns-then-end-rest c =
    ends_here c.loop-component.components.items c.args.tokens.now c.loop-component.from c.first_semicolon-end.result
    c.split_at.result.1.now c.split_at-in-loop-component.result.0.now c.in-Ok.component
    (record {
      rest_is = c.split_at.ensures.back;
      end_is = c.first_semicolon-end.ensures.at;
      group_is =
          c.split_at-in-loop-component.ensures.front;
      so_far = c.loop-component.invariant.rest;
    })
    c.in-Ok.ensures (omega arith)
    ∙ ap Some (sym c.in_ok-push-in-Ok.ensures.items ∙ sym c.from_vec.ensures)

pub loop-component-preserved : goal.loop-component-preserved
loop-component-preserved c =
    let within = c.first_semicolon-end.ensures.within in
    let below : c.first_semicolon-end.result < length c.split_at.result.1.now = omega arith in
    let size = c.split_at.ensures.back_len in
    record {
      within = omega arith;
      rest =
          ap (λ (done : List Component). option_map (λ cs. done ++ cs)
          (components_of_tokens (token_groups (drop (c.loop-component.from + (c.first_semicolon-end.result + 1))
          c.args.tokens.now)))) c.in_ok-push-in-Ok.ensures.items
          ∙ goes_on c.loop-component.components.items c.args.tokens.now c.loop-component.from
          c.first_semicolon-end.result c.split_at.result.1.now c.split_at-in-loop-component.result.0.now
          c.in-Ok.component
          (record {
            rest_is = c.split_at.ensures.back;
            end_is = c.first_semicolon-end.ensures.at;
            group_is =
                c.split_at-in-loop-component.ensures.front;
            so_far = c.loop-component.invariant.rest;
          })
          c.in-Ok.ensures below;
    }
