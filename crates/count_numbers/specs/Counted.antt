-- X12.5, interchange control number (ISA13), and X12.6, group control number (GS06) and transaction set control number (ST02): a
-- partner's numbers by how much happens for it (own).
use Rattle.std.specs.Prelude.{◌≡◌, ℕ, ◌+◌, ◌<◌, ◌≤◌, ◌^◌, List, [], ◌∷◌, length}
use Rattle.hub_kinds.specs.declared.counters.Counters.{Counters}
use Rattle.count_numbers.specs.declared.entry.Entry.{Entry}
use Rattle.count_numbers.specs.declared.entry.Entry.TheVariants.{Acknowledged, Delivered}
use Rattle.count_numbers.specs.declared.numbering.PartnerNumbers.{PartnerNumbers}
use Rattle.count_numbers.specs.declared.run.RunKey.{RunKey}
use Rattle.count_numbers.specs.Layout.{delivered_groups, interchange_count}
use Rattle.count_numbers.specs.Num.{num}
use Rattle.count_numbers.specs.Numbers.{numbers_of}
use Rattle.count_numbers.specs.Tally.{groups_in_one, keys_of, tally_of}

-- how many acknowledgments there are
abbrev pub acknowledgments_in : List Entry → ℕ
acknowledgments_in [] = 0
acknowledgments_in (Acknowledged has_group ∷ es) = 1 + acknowledgments_in es
acknowledgments_in (Delivered key ∷ es) = acknowledgments_in es

-- how many of them have a group
abbrev pub groups_in : List Entry → ℕ
groups_in [] = 0
groups_in (Acknowledged has_group ∷ es) = groups_in_one has_group + groups_in es
groups_in (Delivered key ∷ es) = groups_in es

-- a partner's numbers where that many acknowledgments are its, that many of them with a group, and the delivered sets with these keys
abbrev pub numbers_behind : Counters → (cap acknowledgments groups : ℕ) → List RunKey → PartnerNumbers
numbers_behind counters cap acknowledgments groups keys = record {
  first_acknowledgment = counters.interchange;
  first_delivered = num counters.interchange acknowledgments;
  first_group = counters.group;
  first_delivered_group = num counters.group groups;
  first_set = counters.set;
  delivered = interchange_count cap (length keys);
  groups = delivered_groups cap keys;
  sets = length keys;
  next = record {
    interchange = num counters.interchange (acknowledgments + interchange_count cap (length keys));
    group = num counters.group (groups + delivered_groups cap keys);
    set = num counters.set (length keys);
  };
}

-- the numbers that a tally gives are those of what it is of, where that is fewer than 2^64
abbrev pub NumbersAreCounted : Type 0
NumbersAreCounted =
    (es : List Entry) → length es < 2 ^ 64 → (counters : Counters) (cap : ℕ) → 1 ≤ cap
    → numbers_of (tally_of es) counters cap ≡ numbers_behind counters cap (acknowledgments_in es) (groups_in es) (keys_of es)
