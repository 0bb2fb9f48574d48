use Rattle.std.proofs.Common.{◌≡◌, ◌∙◌, ◌++◌, List, ℕ, ap}
use Rattle.std.proofs.lemmas.Result.{on_ok_weaker}
use Rattle.night_entries.specs.Named.{found_in}
use Rattle.record_chain.specs.Breaks.{file_named, found_breaks, listed_breaks}
use Rattle.record_chain.proofs.Filed.{filed}
use Rattle.record_chain.proofs.files.add_file_breaks.Goals as goal

pub returns : goal.returns
returns c =
    let night = c.args.night.now in
    let old = c.args.found.now.items in
    let one = c.add_listed_breaks.new.found.items in
    let two = c.add_listed_breaks-2.new.found.items in
    let there = found_in c.in_ok-there.there in
    let of = found_in c.in_ok-listed.listed in
    let there_is : (name : List ℕ) → there name ≡ file_named night.found name =
    λ name. c.in_ok-there.ensures name ∙ ap (λ l. file_named l name) c.as_slice.ensures in
    on_ok_weaker c.add_found_breaks.result (λ third. filed night old one two c.add_found_breaks.new.found.items there of there_is
    c.in_ok-listed.ensures (c.in_ok-add_listed_breaks.ensures ∙ ap (λ l. old ++ listed_breaks there night l) c.as_slice-2.ensures)
    (c.in_ok-add_listed_breaks-2.ensures ∙ ap (λ l. one ++ listed_breaks there night l) c.as_slice-3.ensures)
    (third ∙ ap (λ l. two ++ found_breaks of night l) c.as_slice-4.ensures)) c.add_found_breaks.ensures
