use Rattle.std.proofs.Common.{◌≡◌, ◌+◌, ◌-◌, ◌≤◌, ◌++◌, ℕ, List, length, drop, ◌∙◌, ap, sym, arith, subst}
use Rattle.std.specs.Prelude.{slice_range}
use Rattle.std.proofs.lemmas.List.{length-take, length-take-le, length-drop}
use Rattle.memchr.specs.Find.{Nowhere, Passes, is_byte}
use Rattle.isa_scan.specs.Heads.{heads_in}
use Rattle.isa_scan.specs.declared.heads.HeadAt.{HeadAt}
use Rattle.isa_scan.proofs.HeadLemmas.{no_head_ahead, heads_at, goes_on}
use Rattle.isa_scan.proofs.scan.scan_piece.Goals as goal

pub loop-ahead-preserved : goal.loop-ahead-preserved
loop-ahead-preserved c =
    let text : List ℕ = c.args.text.now in
    let at : ℕ = c.loop-ahead.at in
    let to : ℕ = c.args.piece.to in
    let first = rw c.in-Some.is at c.memchr.ensures in
    let short = length-take (to - at) (drop at text) in
    let high = first.0.high in
    let low = c.loop-ahead.invariant.low in
    let fits : at + c.in-Some.ahead ≤ to = omega (arith, short, high) in
    let below : at + (c.in-Some.ahead + 1) ≤ to = omega (arith, short, high) in
    let next : at + c.in-Some.ahead + 1 ≡ at + (c.in-Some.ahead + 1) = omega arith in
    record {
      low = omega (arith, low);
      high = below;
      found = c.in_ok-add_head.ensures
          ∙ ap (λ (l : List HeadAt). l ++ heads_in text (at + c.in-Some.ahead) (at + c.in-Some.ahead + 1)) c.loop-ahead.invariant.found
          ∙ sym (heads_at text c.args.piece.from at (at + c.in-Some.ahead) low (omega arith)
          (λ q from under. no_head_ahead text at to c.in-Some.ahead q first.0.before fits from under))
          ∙ ap (heads_in text c.args.piece.from) next;
    }

pub returns : goal.returns
returns c =
    let text : List ℕ = c.args.text.now in
    let at : ℕ = c.loop-ahead.at in
    let to : ℕ = c.args.piece.to in
    let nowhere = rw c.in_default.is at c.memchr.ensures in
    let room : length (drop at text) ≡ length text - at = length-drop at text in
    let long : length (slice_range text at to) ≡ to - at = length-take-le (to - at) (drop at text) (omega arith) in
    let none : Nowhere (Passes (is_byte 73) (slice_range text at to)) 0 (to - at)
    = subst (Nowhere (Passes (is_byte 73) (slice_range text at to)) 0) long nowhere in
    c.new.ensures ∙ c.loop-ahead.invariant.found
    ∙ sym (goes_on text c.args.piece.from at to c.loop-ahead.invariant.low c.loop-ahead.invariant.high
    (λ q from under. no_head_ahead text at to (to - at) q none (omega arith) from (omega arith)))
