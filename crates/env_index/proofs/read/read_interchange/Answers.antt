use Rattle.std.proofs.Common.{◌≡◌, ℕ, List, Option, true, sym, ap, subst, ◌∙◌, rules}
use Rattle.std.specs.Prelude.{is_some}
use Rattle.x12_bytes.specs.HeaderTest.{is_head}
use Rattle.x12_segs.specs.Words.{kind_of, SegValue}
use Rattle.env_index.specs.Envelope.{Body, DerivesInterchange}
use Rattle.env_index.specs.Extents.{reach_at}
use Rattle.env_index.specs.Interchange.{interchange_of}
use Rattle.env_index.specs.Spans.{HasSpans}
use Rattle.env_index.proofs.Spanned.{interchange_has_spans}
use Rattle.env_index.proofs.Trees.{a_tree}
use Rattle.env_index.proofs.Walking.{only_last}
use Rattle.env_index.proofs.read.read_interchange.Goals as goal

pub returns-clause-tree : goal.returns-clause-tree
returns-clause-tree c =
    let only : (tree : Body SegValue) → DerivesInterchange kind_of (reach_at c.args.text.now c.args.start).segs tree
    → c.new.result ≡ interchange_of c.args.text.now c.args.start tree = search rules in
    let tree = a_tree kind_of (reach_at c.args.text.now c.args.start).segs (only_last c.args.text.now _ _) in
    (tree.0, tree.1, only tree.0 tree.1)

pub returns-clause-spans : goal.returns-clause-spans
returns-clause-spans c =
    let text : List ℕ = c.args.text.now in
    let only : (tree : Body SegValue) → DerivesInterchange kind_of (reach_at text c.args.start).segs tree
    → c.new.result ≡ interchange_of text c.args.start tree = search rules in
    let tree = a_tree kind_of (reach_at text c.args.start).segs (only_last text _ _) in
    let head : is_head text c.args.start ≡ true = sym c.read_header.ensures.test
    ∙ ap (λ (o : Option (List ℕ)). is_some o) c.in-Some.is in
    subst (HasSpans text) (sym (only tree.0 tree.1)) (interchange_has_spans text c.args.start tree.0 head tree.1)
