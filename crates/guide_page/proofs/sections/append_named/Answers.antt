use Rattle.std.proofs.Common.{◌++◌, []}
use Rattle.std.specs.Prelude.{codes, decimal}
use Rattle.std.specs.List.{flat_map}
use Rattle.std.proofs.lemmas.Result.{on_ok_weaker}
use Rattle.guide_page.proofs.Growing.{two}
use Rattle.guide_page.specs.Tags.{code_part}
use Rattle.guide_page.specs.Named.{paragraph_part}
use Rattle.guide_names.specs.Names.{label_note}
use Rattle.guide_page.proofs.sections.append_named.Goals as goal

pub returns : goal.returns
returns c =
    on_ok_weaker c.append_label_note.result (λ adds. (two c.args.out.now.items c.append_fixed.new.out.items
    c.append_label_note.new.out.items (codes "<p>Named ") ((code_part c.args.label.now) ++ ((codes "in dependencies.</p>\n") ++
    (paragraph_part (label_note c.args.names.now c.args.label.now))))
    c.in_ok-append_fixed.ensures (two c.append_fixed.new.out.items c.append_code.new.out.items c.append_label_note.new.out.items
    (code_part c.args.label.now) ((codes "in dependencies.</p>\n") ++ (paragraph_part (label_note c.args.names.now c.args.label.now)))
    c.in_ok-append_code.ensures (two c.append_code.new.out.items c.append_fixed-2.new.out.items c.append_label_note.new.out.items (codes
    "in dependencies.</p>\n") (paragraph_part (label_note c.args.names.now c.args.label.now))
    c.in_ok-append_fixed-2.ensures adds))))
    c.append_label_note.ensures
