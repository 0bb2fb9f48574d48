use Rattle.std.proofs.Common.{◌≡◌, ◌&&◌, drop, not}
use Rattle.mailbox.specs.Gapless.{is_gapless}
use Rattle.mailbox.proofs.gapless.is_gapless.Given as goal

-- what the bytes that are left say is what all say
abbrev pub invariant-loop-byte : goal.invariant-loop-byte
invariant-loop-byte l =
    (not l.gap && is_gapless l.terminator l.before (drop l.byte-index l.text)) ≡ is_gapless l.terminator l.terminator l.text
