-- X12.5, interchange control number (ISA13), and X12.6, group control number (GS06) and transaction set control number (ST02): under
-- which numbers a delivered set is in its receiver's mailbox (own).
use Rattle.std.specs.Prelude.{ℕ, ◌+◌, ◌-◌, ◌/◌, ◌==◌, Bool, false, ◌&&◌, List, [], ◌∷◌, ◌++◌, Option, Some, None, length}
use Rattle.std.specs.List.{count_by}
use Rattle.count_numbers.specs.Num.{num}
use Rattle.partner_setup.specs.declared.partner.Partner.{Partner}
use Rattle.answered_sets.specs.Judged.{PlacedValue}
use Rattle.mailbox.specs.Mailbox.{group_total}
use Rattle.track_table.specs.declared.notes.Notes.{Notes}
use Rattle.track_table.specs.declared.mailed.Mailed.{Mailed}

abbrev pub is_to : (place : ℕ) → Option ℕ → Bool
is_to place None = false
is_to place (Some recipient) = recipient == place

-- how many interchanges are acknowledged to a partner, and how many of these by 999s, which are in one group
abbrev pub acknowledgments_to : (place : ℕ) → List Notes → ℕ
acknowledgments_to place xs = count_by (λ x. is_to place x.recipient) xs

abbrev pub groups_to : (place : ℕ) → List Notes → ℕ
groups_to place xs = count_by (λ x. is_to place x.recipient && x.has_reports) xs

-- a set that is delivered to a partner after these sets, after this many acknowledgments with this many groups: its interchange holds as
-- many sets as the cap says, its group is the last of the mailbox that ends with it
abbrev pub mailed_behind : Partner → (acknowledgments groups : ℕ) → (before : List PlacedValue) → PlacedValue → Mailed
mailed_behind partner acknowledgments groups before p = record {
  interchange = num partner.counters.interchange (acknowledgments + length before / partner.cap);
  group = num partner.counters.group (groups + (group_total partner.cap (before ++ p ∷ []) - 1));
  set = num partner.counters.set (length before);
}
