use Rattle.std.proofs.Common.{◌≡◌, get_or, sym, arith}
use Rattle.std.proofs.lemmas.Bool.{false_from_ne_true}
use Rattle.x12_bytes.specs.HeaderTest.{is_head}
use Rattle.env_index.proofs.Surround.{head_letter, no_head_past}
use Rattle.env_index.proofs.walk.begins_at_header.Goals as goal

pub returns-then-start-text : goal.returns-then-start-text
returns-then-start-text c = sym (no_head_past c.args.text.now c.args.start (omega arith))

pub returns-then-text-start-ne73 : goal.returns-then-text-start-ne73
returns-then-text-start-ne73 c =
    sym (false_from_ne_true (is_head c.args.text.now c.args.start) (λ is.
    let letter : get_or c.args.text.now c.args.start 0 ≡ 73 = head_letter c.args.text.now c.args.start is in
    omega (arith, letter)))
