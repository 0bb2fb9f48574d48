use Rattle.std.proofs.Common.{◌≡◌, ◌∙◌, sym, ap, ℕ, List, Option, option_map}
use Rattle.std.specs.Prelude.{option_and_then}
use Rattle.toml.specs.Data.{Data, as_str}
use Rattle.toml.specs.View.{table_view}
use Rattle.guide_names.specs.Names as names
use Rattle.guide_names.proofs.Tables.{text_of_member}
use Rattle.guide_names.proofs.lookup.text_at.Goals as goal

pub returns-in-None-value_under : goal.returns-in-None-value_under
returns-in-None-value_under c =
    rw (c.in-Some.is) (ap (option_and_then as_str) c.in-None-value_under.ensures ∙ sym (text_of_member c.args.key.now (table_view
    c.in-Some.table.now)))

pub returns-in-Some-value_under : goal.returns-in-Some-value_under
returns-in-Some-value_under c =
    rw (c.in-Some.is) (c.text_in.ensures ∙ ap (option_and_then as_str) c.in-Some-value_under.ensures
    ∙ sym (text_of_member c.args.key.now (table_view c.in-Some.table.now)))
