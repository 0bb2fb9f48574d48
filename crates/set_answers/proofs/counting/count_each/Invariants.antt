use Rattle.std.proofs.Common.{◌≡◌, ◌+◌, drop, take}
use Rattle.partner_setup.specs.Setup.{SetupValue}
use Rattle.set_answers.specs.Counted.{AreCountedAfter, CanCountEach, asked_count_of}
use Rattle.set_answers.proofs.counting.count_each.Given as goal

abbrev pub invariant-loop-i : goal.invariant-loop-i
invariant-loop-i l =
    (setup : SetupValue) → CanCountEach setup l.senders l.entries l.initial.sent
    → (l.findings + asked_count_of setup (drop l.i l.entries) ≡ asked_count_of setup l.entries)
    × AreCountedAfter setup (take l.i l.entries) l.initial.sent l.sent
