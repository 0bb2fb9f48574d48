use Rattle.std.proofs.Common.{◌≡◌, ◌++◌, take}
use Rattle.std.specs.List.{flat_map}
use Rattle.night_page.specs.Names.{texts_of}
use Rattle.night_page.specs.Page.{partner_among}
use Rattle.night_page.proofs.partners.append_all.Given as goal

abbrev pub invariant-loop-i : goal.invariant-loop-i
invariant-loop-i l =
    l.out.items ≡ l.fn.out.items ++ flat_map (partner_among (texts_of l.senders) (texts_of l.receivers)) (take l.i l.partners)
