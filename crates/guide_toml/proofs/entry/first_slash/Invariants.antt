use Rattle.std.proofs.Common.{◌≡◌, ◌+◌, drop}
use Rattle.std.specs.List.{position_or_len}
use Rattle.guide_toml.specs.Entries.{is_slash}
use Rattle.guide_toml.proofs.entry.first_slash.Given as goal

abbrev pub invariant-loop-i : goal.invariant-loop-i
invariant-loop-i l = l.i + position_or_len is_slash (drop l.i l.text) ≡ position_or_len is_slash l.text
