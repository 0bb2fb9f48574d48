use Rattle.std.proofs.Common.{◌≡◌, []}
use Rattle.toml.specs.View.{members_view, table_view}
use Rattle.guide_names.specs.Refusals.{file_key, first_refused}
use Rattle.guide_names.proofs.refused.refused_in.Given as goal

abbrev pub invariant-loop-key : goal.invariant-loop-key
invariant-loop-key l = first_refused file_key [] (members_view l.key-iterator) ≡ first_refused file_key [] (table_view l.table)
