use Rattle.std.proofs.Common.{◌++◌, []}
use Rattle.std.specs.Prelude.{codes, decimal}
use Rattle.std.specs.List.{flat_map}
use Rattle.std.proofs.lemmas.Result.{on_ok_weaker}
use Rattle.guide_page.proofs.Growing.{two}
use Rattle.guide_page.specs.Named.{paragraph_part}
use Rattle.guide_names.specs.Names.{set_name, set_note}
use Rattle.guide_page.proofs.named.append_set_words.Goals as goal

pub returns : goal.returns
returns c =
    on_ok_weaker c.append_set_note.result (λ adds. (two c.args.out.now.items c.append_set_name.new.out.items
    c.append_set_note.new.out.items (paragraph_part (set_name c.args.names.now)) (paragraph_part (set_note c.args.names.now))
    c.in_ok-append_set_name.ensures adds))
    c.append_set_note.ensures
