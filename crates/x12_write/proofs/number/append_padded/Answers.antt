use Rattle.std.proofs.Common.{ℕ, append_assoc, arith, length, ◌-◌}
use Rattle.std.specs.Prelude.{replicate}
use Rattle.std.proofs.lemmas.List.{take-replicate}
use Rattle.x12_write.proofs.number.append_padded.Goals as goal

pub returns-clause-text : goal.returns-clause-text
returns-clause-text c =
    let filled = take-replicate {X = ℕ} (c.args.least - length c.args.text.now) 15 32 (omega (arith, c.requires)) in
    rw (c.in_ok-extend_from_slice-2.ensures.items, c.in_ok-extend_from_slice.ensures.items, c.saturating_sub-spaces.ensures, filled)
    (append_assoc c.args.out.now.items c.args.text.now (replicate (c.args.least - length c.args.text.now) 32))
