use Rattle.std.proofs.Common.{◌≡◌, ◌∙◌, ◌&&◌, ◌++◌, ap, map, rules, sym, true}
use Rattle.std.specs.List.{list_all}
use Rattle.std.proofs.lemmas.List.{map-append}
use Rattle.night_record.specs.Tables.{address_of, can_count}
use Rattle.night_record.specs.Values.{are_rising}
use Rattle.kept_files.specs.Addressed.{AreNewest, entry_of}
use Rattle.kept_files.specs.Addresses.{next_of}
use Rattle.kept_files.proofs.Rows.{bad_row, in_order, next_of-append}
use Rattle.kept_files.proofs.addresses.next_addresses.Goals as goal

pub returns-then-can_each_count-clause-list : goal.returns-then-can_each_count-clause-list
returns-then-can_each_count-clause-list c =
    let older = c.args.older.now in
    let tonight = c.args.tonight.now in
    let list = c.in_ok-rows.rows.items in
    let entries = c.in_ok-push_each-2.ensures ∙ ap (λ l. l ++ map entry_of tonight)
    (c.in_ok-push_each.ensures ∙ ap (λ l. l ++ map entry_of older) c.new-entries.ensures.items) ∙ sym (map-append entry_of older tonight) in
    let newest : AreNewest (older ++ tonight) c.in_ok-newest.field-0.items = c.in_ok-newest.ensures (older ++ tonight) entries in
    let numbers : list_all can_count list ≡ true = search rules in
    record {
      table = ap (λ b. b && are_rising (map address_of list)) numbers
          ∙ ap (λ l. are_rising (map address_of l)) c.in_ok-rows.ensures
          ∙ in_order c.in_ok-newest.field-0.items newest.rising newest.own;
      each = λ address. ap (next_of address) c.in_ok-rows.ensures ∙ newest.each address ∙ next_of-append address older tonight;
    }

pub returns-else-can_each_count-clause-refused : goal.returns-else-can_each_count-clause-refused
returns-else-can_each_count-clause-refused c =
    let older = c.args.older.now in
    let tonight = c.args.tonight.now in
    let entries = c.in_ok-push_each-2.ensures ∙ ap (λ l. l ++ map entry_of tonight)
    (c.in_ok-push_each.ensures ∙ ap (λ l. l ++ map entry_of older) c.new-entries.ensures.items) ∙ sym (map-append entry_of older tonight) in
    let newest : AreNewest (older ++ tonight) c.in_ok-newest.field-0.items = c.in_ok-newest.ensures (older ++ tonight) entries in
    let bad = bad_row c.in_ok-newest.field-0.items newest.rising newest.own (search rules) in
    record {
      address = bad.address;
      row = bad.row;
      known = sym (newest.each bad.address ∙ next_of-append bad.address older tonight) ∙ bad.known;
      numbers = bad.numbers;
    }
