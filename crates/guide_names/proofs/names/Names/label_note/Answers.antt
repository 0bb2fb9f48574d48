use Rattle.std.proofs.Common.{◌≡◌, ◌∙◌, sym, ap, ℕ, List}
use Rattle.std.specs.Prelude.{codes}
use Rattle.toml.specs.View.{table_view}
use Rattle.guide_names.specs.Names as names
use Rattle.guide_names.proofs.Tables.{entries_of_member}
use Rattle.guide_names.proofs.names.Names.label_note.Goals as goal

pub returns : goal.returns
returns c =
    c.text_at.ensures
    ∙ ap (λ (ms : _). names.text_at (codes "note") (names.texts_of ms)) (c.table_in-2.ensures ∙ ap (names.inside c.args.label.now)
    c.table_in.ensures)
    ∙ ap (names.text_at (codes "note")) (sym (entries_of_member c.args.label.now (names.inside (codes "label") (table_view
    c.self.inside.table))))
    ∙ ap (λ (w : names.Words). names.label_note w c.args.label.now) c.self.view_is
