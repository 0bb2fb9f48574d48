use Rattle.std.proofs.Common.{List, ℕ, map, ap, subst, ◌∙◌, Vec}
use Rattle.std.specs.Prelude.{IfSome, slice_get}
use Rattle.std.specs.BTreeMap.{BTreeMap}
use Rattle.std.specs.declared.alloc.Global.{Global}
use Rattle.partner_setup.specs.Setup.{SetupValue, places_of}
use Rattle.partner_setup.specs.Tables.{KeepsPlaces}
use Rattle.set_findings.specs.Keys.{key_at}
use Rattle.set_findings.proofs.Tabled.{some_kept}
use Rattle.set_findings.proofs.guides.FastGuides.table_of.Goals as goal

pub returns : goal.returns
returns c =
    let k : ℕ = c.args.partner in
    subst (λ (s : SetupValue). IfSome c.table_at.result (λ t. KeepsPlaces t.now 0 (map (key_at s.guides) (places_of s k))))
    c.self.view_is
    (some_kept c.self.inside.setup.now c.self.inside.tables.items k c.table_at.result c.self.invariant.1
    (c.table_at.ensures ∙ ap (λ (ts : List (BTreeMap (Vec ℕ Global) ℕ)). slice_get ts k) c.as_slice.ensures.value))
