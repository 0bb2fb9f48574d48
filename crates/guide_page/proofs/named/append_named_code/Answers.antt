use Rattle.std.proofs.Common.{◌++◌, []}
use Rattle.std.specs.Prelude.{codes, decimal}
use Rattle.std.specs.List.{flat_map}
use Rattle.std.proofs.lemmas.Result.{on_ok_weaker}
use Rattle.guide_page.proofs.Growing.{two}
use Rattle.guide_page.specs.Tags.{code_part}
use Rattle.guide_page.specs.Named.{code_name_part}
use Rattle.guide_names.specs.Names.{code_name}
use Rattle.guide_page.proofs.named.append_named_code.Goals as goal

pub returns : goal.returns
returns c =
    on_ok_weaker c.append_word_of.result (λ adds. (two c.args.out.now.items c.append_code.new.out.items c.append_word_of.new.out.items
    (code_part c.args.code.now) (code_name_part (code_name c.args.names.now c.args.reference.now c.args.code.now))
    c.in_ok-append_code.ensures adds))
    c.append_word_of.ensures
