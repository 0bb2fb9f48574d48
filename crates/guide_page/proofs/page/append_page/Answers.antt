use Rattle.std.proofs.Common.{◌++◌, []}
use Rattle.std.specs.Prelude.{codes, decimal}
use Rattle.std.specs.List.{flat_map}
use Rattle.std.proofs.lemmas.Result.{on_ok_weaker}
use Rattle.guide_page.proofs.Growing.{two}
use Rattle.guide_page.specs.Nodes.{sections_part}
use Rattle.guide_page.specs.Page.{answers_part, foot_text, front_part, head_text, sample_part}
use Rattle.guide_tree.specs.Words.{guide_of, nodes_view}
use Rattle.guide_page.proofs.page.append_page.Goals as goal

pub returns : goal.returns
returns c =
    on_ok_weaker c.append_foot_text.result (λ adds. (two c.args.out.now.items c.append_head_text.new.out.items
    c.append_foot_text.new.out.items (head_text) ((front_part c.args.names.now (guide_of c.args.rows.now)) ++ ((sample_part
    c.args.sample.now) ++ ((sections_part c.args.names.now (nodes_view c.args.rows.now.nodes.items)) ++ ((answers_part
    c.args.answers.now) ++ (foot_text)))))
    c.in_ok-append_head_text.ensures (two c.append_head_text.new.out.items c.append_front.new.out.items c.append_foot_text.new.out.items
    (front_part c.args.names.now (guide_of c.args.rows.now)) ((sample_part c.args.sample.now) ++ ((sections_part c.args.names.now
    (nodes_view c.args.rows.now.nodes.items)) ++ ((answers_part c.args.answers.now) ++ (foot_text))))
    c.in_ok-append_front.ensures (two c.append_front.new.out.items c.append_sample.new.out.items c.append_foot_text.new.out.items
    (sample_part c.args.sample.now) ((sections_part c.args.names.now (nodes_view c.args.rows.now.nodes.items)) ++ ((answers_part
    c.args.answers.now) ++ (foot_text)))
    c.in_ok-append_sample.ensures (two c.append_sample.new.out.items c.append_all_sections.new.out.items c.append_foot_text.new.out.items
    (sections_part c.args.names.now (nodes_view c.args.rows.now.nodes.items)) ((answers_part c.args.answers.now) ++ (foot_text))
    c.in_ok-append_all_sections.ensures (two c.append_all_sections.new.out.items c.append_answers.new.out.items
    c.append_foot_text.new.out.items (answers_part c.args.answers.now) (foot_text)
    c.in_ok-append_answers.ensures adds))))))
    c.append_foot_text.ensures
