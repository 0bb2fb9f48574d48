-- The guide file (own): which keys a table may have.
use Rattle.std.specs.Prelude.{ℕ, List, [], ◌∷◌, codes}
use Rattle.guide_toml.specs.declared.keys.TableKind.{TableKind}
use Rattle.guide_toml.specs.declared.keys.TableKind.TheVariants as kind

-- the keys of each kind of table; a node that is neither segment nor loop, or both, may have those of either
abbrev pub keys_of : TableKind → List (List ℕ)
keys_of kind.Guide =
    codes "name" ∷ codes "group" ∷ codes "set" ∷ codes "version" ∷ codes "convention" ∷ codes "dictionary"
    ∷ codes "tolerate_segment" ∷ codes "tolerate_element" ∷ codes "hl" ∷ codes "depends" ∷ codes "nodes" ∷ []
keys_of kind.Hierarchy = codes "pairs" ∷ codes "sequential" ∷ []
keys_of kind.Dependency = codes "kind" ∷ codes "slot" ∷ codes "at" ∷ codes "codes" ∷ codes "target" ∷ codes "element" ∷ []
keys_of kind.Segment = codes "seg" ∷ codes "min" ∷ codes "max" ∷ codes "label" ∷ codes "pick" ∷ codes "elements" ∷ codes "conditions" ∷ []
keys_of kind.Loop = codes "loop" ∷ codes "min" ∷ codes "max" ∷ codes "nodes" ∷ []
keys_of kind.Unclear =
    codes "seg" ∷ codes "loop" ∷ codes "min" ∷ codes "max" ∷ codes "label"
    ∷ codes "pick" ∷ codes "elements" ∷ codes "conditions" ∷ codes "nodes" ∷ []
