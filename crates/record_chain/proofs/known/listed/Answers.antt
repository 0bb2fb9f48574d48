use Rattle.std.proofs.Common.{◌≡◌, ◌∙◌, None, ap, sym}
use Rattle.std.specs.Option.{option_or}
use Rattle.night_entries.specs.Named.{found_in}
use Rattle.record_chain.specs.Breaks.{file_named}
use Rattle.record_chain.proofs.Naming.{named-append, or_none}
use Rattle.record_chain.proofs.known.listed.Goals as goal

pub returns : goal.returns
returns c = λ name.
    let made_of = c.args.night.now.made_of in
    let gave = c.args.night.now.gave in
    let first : found_in c.new-map.result name ≡ None = search (c.new-map.ensures.empty) in
    c.in_ok-add_files-2.ensures name ∙ ap (λ l. option_or (file_named l name) (found_in c.add_files.new.map name)) c.as_slice-2.ensures
    ∙ ap (option_or (file_named gave name)) (c.in_ok-add_files.ensures name
    ∙ ap (λ l. option_or (file_named l name) (found_in c.new-map.result name)) c.as_slice.ensures
    ∙ ap (option_or (file_named made_of name)) first ∙ or_none (file_named made_of name))
    ∙ sym (named-append made_of gave name)
