-- X12.5, interchange control number (ISA13), and X12.6, group control number (GS06) and transaction set control number (ST02): a
-- partner's first numbers and its next counters (own).
use Rattle.std.specs.Prelude.{ℕ, ◌+◌, ◌≤◌, List, [], ◌∷◌}
use Rattle.hub_kinds.specs.declared.counters.Counters.{Counters}
use Rattle.count_numbers.specs.declared.numbering.PartnerNumbers.{PartnerNumbers}
use Rattle.count_numbers.specs.Layout.{group_count, interchange_count, set_count}
use Rattle.count_numbers.specs.Num.{num}
use Rattle.count_numbers.specs.Tally.{PartnerTally}

-- how many delivered interchanges hold a tally's sets, that many of them each
abbrev pub delivered_in : (cap : ℕ) → PartnerTally → ℕ
delivered_in cap t = interchange_count cap (set_count t.runs)

-- its acknowledgments come first, then its delivered interchanges, and their groups in the same order; the counters continue after
-- both, and after the delivered sets
abbrev pub numbers_of : PartnerTally → Counters → (cap : ℕ) → PartnerNumbers
numbers_of t counters cap = record {
  first_acknowledgment = counters.interchange;
  first_delivered = num counters.interchange t.acknowledgments;
  first_group = counters.group;
  first_delivered_group = num counters.group t.groups;
  first_set = counters.set;
  delivered = delivered_in cap t;
  groups = group_count cap t.runs;
  sets = set_count t.runs;
  next = record {
    interchange = num counters.interchange (t.acknowledgments + delivered_in cap t);
    group = num counters.group (t.groups + group_count cap t.runs);
    set = num counters.set (set_count t.runs);
  };
}

-- partner by partner, each with its tally, its counters and its cap
abbrev pub all_numbers : List PartnerTally → List Counters → (caps : List ℕ) → List PartnerNumbers
all_numbers [] counters caps = []
all_numbers (t ∷ ts) [] caps = []
all_numbers (t ∷ ts) (c ∷ counters) [] = []
all_numbers (t ∷ ts) (c ∷ counters) (cap ∷ caps) = numbers_of t c cap ∷ all_numbers ts counters caps

-- counters from 1 to 999,999,999
abbrev pub AreInRange : Counters → Type 0
AreInRange c =
    (1 ≤ c.interchange) × (c.interchange ≤ 999999999) × (1 ≤ c.group) × (c.group ≤ 999999999) × (1 ≤ c.set) × (c.set ≤ 999999999)
