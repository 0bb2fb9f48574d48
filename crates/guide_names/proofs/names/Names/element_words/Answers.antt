use Rattle.std.proofs.Common.{◌≡◌, ◌∙◌, sym, ap, ℕ, List}
use Rattle.std.specs.Prelude.{codes}
use Rattle.toml.specs.View.{table_view}
use Rattle.guide_names.specs.Names as names
use Rattle.guide_names.proofs.Tables.{entries_of_member}
use Rattle.guide_names.proofs.names.Names.element_words.Goals as goal

pub returns : goal.returns
returns c =
    ap names.texts_of (c.table_in-2.ensures ∙ ap (names.inside c.args.reference.now) c.table_in.ensures)
    ∙ sym (entries_of_member c.args.reference.now (names.inside (codes "element") (table_view c.self.inside.table)))
    ∙ ap (λ (w : names.Words). names.entries_at c.args.reference.now w.elements) c.self.view_is
