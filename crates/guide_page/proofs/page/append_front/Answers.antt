use Rattle.std.proofs.Common.{◌++◌, []}
use Rattle.std.specs.Prelude.{codes, decimal}
use Rattle.std.specs.List.{flat_map}
use Rattle.std.proofs.lemmas.Result.{on_ok_weaker}
use Rattle.guide_page.proofs.Growing.{two}
use Rattle.guide_page.specs.Named.{set_words}
use Rattle.guide_page.specs.Nodes.{order_part}
use Rattle.guide_page.specs.Page.{set_part}
use Rattle.guide_page.specs.Rules.{dictionary_part, head_part, title_part}
use Rattle.guide_tree.specs.Words.{guide_of, nodes_view}
use Rattle.guide_page.proofs.page.append_front.Goals as goal

pub returns : goal.returns
returns c =
    on_ok_weaker c.append_set.result (λ adds. (two c.args.out.now.items c.append_title.new.out.items c.append_set.new.out.items
    (title_part c.args.rows.now.head.name c.args.rows.now.head.set) ((set_words c.args.names.now) ++ ((head_part c.args.rows.now.head) ++
    ((dictionary_part c.args.rows.now.head.dictionary) ++ ((order_part c.args.names.now (nodes_view c.args.rows.now.nodes.items)) ++
    (set_part (guide_of c.args.rows.now))))))
    c.in_ok-append_title.ensures (two c.append_title.new.out.items c.append_set_words.new.out.items c.append_set.new.out.items (set_words
    c.args.names.now) ((head_part c.args.rows.now.head) ++ ((dictionary_part c.args.rows.now.head.dictionary) ++ ((order_part
    c.args.names.now (nodes_view c.args.rows.now.nodes.items)) ++ (set_part (guide_of c.args.rows.now)))))
    c.in_ok-append_set_words.ensures (two c.append_set_words.new.out.items c.append_head.new.out.items c.append_set.new.out.items
    (head_part c.args.rows.now.head) ((dictionary_part c.args.rows.now.head.dictionary) ++ ((order_part c.args.names.now (nodes_view
    c.args.rows.now.nodes.items)) ++ (set_part (guide_of c.args.rows.now))))
    c.in_ok-append_head.ensures (two c.append_head.new.out.items c.append_dictionary.new.out.items c.append_set.new.out.items
    (dictionary_part c.args.rows.now.head.dictionary) ((order_part c.args.names.now (nodes_view c.args.rows.now.nodes.items)) ++
    (set_part (guide_of c.args.rows.now)))
    c.in_ok-append_dictionary.ensures (two c.append_dictionary.new.out.items c.append_all_rows.new.out.items c.append_set.new.out.items
    (order_part c.args.names.now (nodes_view c.args.rows.now.nodes.items)) (set_part (guide_of c.args.rows.now))
    c.in_ok-append_all_rows.ensures adds))))))
    c.append_set.ensures
