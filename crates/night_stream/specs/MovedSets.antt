-- X12.6, transaction set: a set of a batch, in the whole text.
use Rattle.std.specs.Prelude.{ℕ, List, ◌++◌, length}
use Rattle.set_check.specs.Checked.{Checked}
use Rattle.answered_sets.specs.Judged.{JudgedValue, PlacedValue}
use Rattle.whole_interchanges.specs.Moved.{moved_group, moved_interchange, moved_set, moved_span}

-- the same set where these bytes are before and after the batch
abbrev pub moved_checked : (before behind : List ℕ) → Checked → Checked
moved_checked before behind c = record {
  text = before ++ (c.text ++ behind);
  span = moved_span (length before) c.span;
  guide = c.guide;
  faults = c.faults;
  codes = c.codes;
}

abbrev pub moved_judged : (before behind : List ℕ) → JudgedValue → JudgedValue
moved_judged before behind x = record {
  text = before ++ (x.text ++ behind);
  interchange = moved_interchange (length before) x.interchange;
  sender = x.sender;
  fault = x.fault;
  standings = x.standings;
}

abbrev pub moved_placed : (before behind : List ℕ) → PlacedValue → PlacedValue
moved_placed before behind p = record {
  interchange = moved_judged before behind p.interchange;
  group = moved_group (length before) p.group;
  standing = p.standing;
  index = p.index;
  set = moved_set (length before) p.set;
}
