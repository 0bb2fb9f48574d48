use Rattle.std.proofs.Common.{◌≡◌}
use Rattle.elem_rules.specs.Clean.{bits_to}
use Rattle.elem_rules.specs.Found.{read, is_present_in}
use Rattle.elem_rules.proofs.presence.present_bits.Given as goal

abbrev pub invariant-loop-k : goal.invariant-loop-k
invariant-loop-k l = l.present ≡ bits_to (is_present_in l.delims (read l.texts)) l.k
