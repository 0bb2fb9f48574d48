use Rattle.std.proofs.Common.{◌≡◌, ℕ, List, true, sym, ap, subst, rules}
use Rattle.x12_bytes.specs.HeaderTest.{is_head}
use Rattle.x12_segs.specs.Words.{kind_of, SegValue}
use Rattle.env_index.specs.Envelope.{Body, DerivesInterchange}
use Rattle.env_index.specs.Extents.{reach_at}
use Rattle.env_index.specs.Interchange.{InterchangeEntry, interchange_of}
use Rattle.env_index.specs.Spans.{HasSpans}
use Rattle.env_index.proofs.Spanned.{interchange_has_spans}
use Rattle.env_index.proofs.Trees.{a_tree}
use Rattle.env_index.proofs.Walking.{only_last}
use Rattle.env_index.proofs.by_marks.read_marked.Goals as goal

pub returns-clause-read : goal.returns-clause-read
returns-clause-read c =
    let text : List ℕ = c.args.text.now in
    let start : ℕ = c.args.start in
    let only : (tree : Body SegValue) → DerivesInterchange kind_of (reach_at text start).segs tree
    → c.new.result ≡ interchange_of text start tree = search rules in
    let tree = a_tree kind_of (reach_at text start).segs (only_last text _ _) in
    let is : c.new.result ≡ interchange_of text start tree.0 = only tree.0 tree.1 in
    let head : is_head text start ≡ true = c.requires.head in
    let at : c.new.result.start ≡ start = ap (λ (e : InterchangeEntry). e.start) is in
    record {
      tree = tree.0;
      derived = subst (λ (s : ℕ). DerivesInterchange kind_of (reach_at text s).segs tree.0) (sym at) tree.1;
      read = subst (λ (s : ℕ). c.new.result ≡ interchange_of text s tree.0) (sym at) is;
      spans = subst (HasSpans text) (sym is) (interchange_has_spans text start tree.0 head tree.1);
    }
