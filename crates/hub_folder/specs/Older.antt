-- The nights that a hub has (own), in their order, and what is kept of each.
use Rattle.std.specs.Prelude.{◌≡◌, ℕ, ◌-◌, List, [], Option, length, map, option_map, slice_get}
use Rattle.std.specs.List.{AllZip, filter_map}
use Rattle.night_folder.specs.Nights.{IsRead, bad_in, entry_in}
use Rattle.night_folder.specs.declared.night.NightRead.{NightRead}
use Rattle.night_marks.specs.Order.{in_order}
use Rattle.night_marks.specs.declared.mark.NightMark.{NightMark}
use Rattle.hub_folder.specs.Chain.{IsChain}
use Rattle.hub_folder.specs.declared.older.Older.{Older}
use denote.Ref.{Bor}

abbrev pub map_now : List (Bor NightMark) → List NightMark
map_now marks = map (λ (mark : Bor NightMark). mark.now) marks

abbrev pub last_mark : List (Bor NightMark) → Option NightMark
last_mark marks = option_map (λ (mark : Bor NightMark). mark.now) (slice_get marks (length marks - 1))

-- the nights of a folder in their order, what is kept of each, and what the next one takes over of the last
pub record IsOlder (nights : List ℕ) (marks : List NightMark) (older : Older) : Type 0 where
  pub order_is : map_now older.order ≡ in_order (length marks) [] marks
  pub reads : List NightRead
  pub read_by : AllZip (IsRead nights) (map_now older.order) reads
  pub entries_are : older.entries ≡ filter_map entry_in reads
  pub bad_are : older.bad ≡ filter_map bad_in reads
  pub chain_is : IsChain nights (last_mark older.order) older.chain
