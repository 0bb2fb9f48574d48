-- The interchanges of which a night delivered a set (X12.5, ISA05 to ISA08 and ISA13), by the keys of these sets.
use Rattle.std.specs.Prelude.{ℕ, Bool, List, bytes_eq, map, slice_range, take}
use Rattle.std.specs.List.{dedup}
use Rattle.night_record.specs.declared.taken.TakenInterchange.{TakenInterchange}

-- a key begins with the five elements of the interchange's header, in their widths: 2, 15, 2, 15 and 9 bytes
abbrev pub interchange_in : (key : List ℕ) → TakenInterchange
interchange_in key = record {
  isa05 = slice_range key 0 2;
  isa06 = slice_range key 2 17;
  isa07 = slice_range key 17 19;
  isa08 = slice_range key 19 34;
  isa13 = slice_range key 34 43;
}

-- two keys begin with the same interchange
abbrev pub is_of_one : (key other : List ℕ) → Bool
is_of_one key other = bytes_eq (take 43 key) (take 43 other)

-- the interchanges of keys, without those that repeat the one before them
abbrev pub taken_of : (delivered : List (List ℕ)) → List TakenInterchange
taken_of delivered = map interchange_in (dedup is_of_one delivered)
