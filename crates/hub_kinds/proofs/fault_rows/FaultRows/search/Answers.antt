use Rattle.std.proofs.Common.{List, ℕ, subst, sym, ◌∙◌, length, map}
use Rattle.std.specs.List.Sorted.{IsBinarySearchResult}
use Rattle.std.specs.Ordering.{nat_cmp}
use Rattle.std.specs.Cmp.Lexicographic.{slice_cmp}
use Rattle.hub_kinds.specs.declared.fault.Fault.{Fault}
use Rattle.hub_kinds.specs.Fault.{key_of}
use Rattle.hub_kinds.specs.Rows.{fault_at, row_key}
use Rattle.hub_kinds.proofs.Rows.{searched_as}
use Rattle.hub_kinds.proofs.fault_rows.FaultRows.search.Goals as goal

pub returns-clause-position : goal.returns-clause-position
returns-clause-position c =
    searched_as c.self.inside.texts.pairs.items c.as_slice.result.now c.self.inside.whole.items c.as_slice-2.result.now
    c.self.inside.rows.items c.key.result (key_of c.args.fault.now) c.args.self.now c.search_rows.result
    c.as_slice.ensures.value c.as_slice-2.ensures.value c.key.ensures c.self.view_is
    c.search_rows.ensures.bound c.search_rows.ensures.position
