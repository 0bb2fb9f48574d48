use Rattle.std.proofs.Common.{◌∙◌, ◌≡◌, [], List, ap, length, subst, sym}
use Rattle.std.specs.Borrow.{Bor}
use Rattle.std.specs.List.{AllZip}
use Rattle.std.specs.Prelude.{Option}
use Rattle.night_folder.specs.Nights.{IsRead}
use Rattle.night_marks.specs.Order.{in_order}
use Rattle.night_marks.specs.declared.mark.NightMark.{NightMark}
use Rattle.hub_folder.specs.Chain.{IsChain}
use Rattle.hub_folder.specs.Older.{last_mark, map_now}
use Rattle.hub_folder.proofs.older.older_of.Goals as goal

pub returns-clause-older : goal.returns-clause-older
returns-clause-older g c =
    let nights = c.args.nights.now in
    let order : List (Bor NightMark) = c.in_ok-order.order.items in
    let is : c.from_vec.result ≡ order = c.from_vec.ensures in
    record {
      order_is = ap map_now is ∙ c.in_ok-order.ensures;
      reads = c.in_ok-reads.reads.items;
      read_by =
          subst (λ (l : List (Bor NightMark)). AllZip (IsRead nights) (map_now l) c.in_ok-reads.reads.items)
          (c.as_slice.ensures.value ∙ sym is) c.in_ok-reads.ensures;
      entries_are = c.from_vec-2.ensures ∙ c.in_ok-entries.ensures.entries;
      bad_are = c.from_vec-3.ensures ∙ c.in_ok-entries.ensures.bad;
      chain_is =
          subst (λ (l : Option NightMark). IsChain nights l c.in_ok-chain.chain)
          (c.last_of.ensures ∙ ap last_mark (c.as_slice-2.ensures.value ∙ sym is)) c.in_ok-chain.ensures.chain;
    }
