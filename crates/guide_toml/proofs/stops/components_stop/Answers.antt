use Rattle.std.proofs.Common.{◌<◌, length, ◌∙◌, arith}
use Rattle.guide_toml.proofs.ComponentSteps.{first_group, next_group, only_group}
use Rattle.guide_toml.proofs.StopSteps.{stops_here, stops_later, stops_nowhere}
use Rattle.guide_toml.proofs.stops.components_stop.Goals as goal

pub returns-in-Err : goal.returns-in-Err
returns-in-Err c =
    c.stop_in.ensures
    ∙ stops_here c.loop-halt.component c.split_at-in-loop-halt.result.0.now _ _ c.in-Err.halt _ c.in-Err.ensures
    (first_group c.args.tokens.now c.loop-halt.from c.first_semicolon-end.result c.split_at.result.1.now
    c.split_at-in-loop-halt.result.0.now c.split_at.ensures.back c.first_semicolon-end.ensures.at c.split_at-in-loop-halt.ensures.front)
    c.loop-halt.invariant.rest

pub returns-then-end-rest : goal.returns-then-end-rest
returns-then-end-rest c =
    stops_nowhere c.loop-halt.component c.split_at-in-loop-halt.result.0.now c.in-Ok.field-0.now _ _ c.in-Ok.ensures
    (only_group c.args.tokens.now c.loop-halt.from c.first_semicolon-end.result c.split_at.result.1.now
    c.split_at-in-loop-halt.result.0.now c.split_at.ensures.back c.first_semicolon-end.ensures.at c.split_at-in-loop-halt.ensures.front
    (omega arith))
    c.loop-halt.invariant.rest

pub loop-halt-preserved : goal.loop-halt-preserved
loop-halt-preserved c =
    let within = c.first_semicolon-end.ensures.within in
    let size = c.split_at.ensures.back_len in
    let below : c.first_semicolon-end.result < length c.split_at.result.1.now = omega arith in
    record {
      within = omega arith;
      counted = omega arith;
      rest =
          stops_later c.loop-halt.component c.split_at-in-loop-halt.result.0.now c.in-Ok.field-0.now _ _ _ c.in-Ok.ensures
          (next_group c.args.tokens.now c.loop-halt.from c.first_semicolon-end.result c.split_at.result.1.now
          c.split_at-in-loop-halt.result.0.now c.split_at.ensures.back c.first_semicolon-end.ensures.at
          c.split_at-in-loop-halt.ensures.front below)
          c.loop-halt.invariant.rest;
    }
