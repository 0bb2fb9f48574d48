use Rattle.std.proofs.Common.{◌+◌, ◌<◌, ◌++◌, length, drop, ap, ◌∙◌, arith}
use Rattle.guide_toml.specs.Tokens.{is_space, tokens_of}
use Rattle.guide_toml.proofs.Cuts.{go_on, end_of}
use Rattle.guide_toml.proofs.tokens.tokens_of.Goals as goal

pub returns-then-end-rest : goal.returns-then-end-rest
returns-then-end-rest c =
    c.in_ok-push.ensures.items
    ∙ end_of is_space c.loop-tokens.tokens.items c.args.text.now _ c.loop-tokens.from c.first_space-end.result
    c.split_at.result.1.now c.new.result c.split_at.ensures.back c.first_space-end.ensures.at (omega arith)
    c.new.ensures c.loop-tokens.invariant.rest

pub loop-tokens-preserved : goal.loop-tokens-preserved
loop-tokens-preserved c =
    let size = c.split_at.ensures.back_len in
    let within = c.first_space-end.ensures.within in
    let below : c.first_space-end.result < length c.split_at.result.1.now = omega arith in
    let inside = c.loop-tokens.invariant.within in
    let all = ap length c.split_at.ensures.back in
    record {
      within = omega arith;
      rest =
          ap (λ ts. ts ++ tokens_of (drop (c.loop-tokens.from + (c.first_space-end.result + 1)) c.args.text.now))
          c.in_ok-push-2.ensures.items
          ∙ go_on is_space c.loop-tokens.tokens.items c.args.text.now _ c.loop-tokens.from c.first_space-end.result
          c.split_at.result.1.now c.new-in-loop-tokens.result 0 c.split_at.ensures.back
          c.first_space-end.ensures.at below (c.new-in-loop-tokens.ensures
          ∙ c.split_at-in-loop-tokens.ensures.front) c.loop-tokens.invariant.rest;
    }
