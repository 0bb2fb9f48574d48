-- Private. A partner's counters and cap, as they are in a setup.
use Rattle.std.specs.Prelude.{◌≤◌}
use Rattle.partner_setup.specs.declared.partner.Partner.{Partner}

-- its next numbers are control numbers
abbrev pub HasCounters : Partner → Type 0
HasCounters p =
    (1 ≤ p.counters.interchange) × (p.counters.interchange ≤ 999999999)
    × (1 ≤ p.counters.group) × (p.counters.group ≤ 999999999)
    × (1 ≤ p.counters.set) × (p.counters.set ≤ 999999999)

-- how many sets an interchange to it holds at most
abbrev pub HasCap : Partner → Type 0
HasCap p = (1 ≤ p.cap) × (p.cap ≤ 99999)
