use Rattle.std.proofs.Common.{◌≡◌, ◌∙◌, ◌+◌, ◌++◌, [], ℕ, List, ap, append-nil, drop, drop_of_length-le, subst, sym}
use Rattle.env_index.specs.Index.{IndexEntry, extents_of}
use Rattle.env_index.specs.Extents.{ChainFrom}
use Rattle.inner_headers.specs.Inner.{lines_from}
use Rattle.inner_headers.proofs.Walking.{drop_one, there, written_more}
use Rattle.inner_headers.proofs.inner.inner_lines.Goals as goal

pub loop-i-init : goal.loop-i-init
loop-i-init c = ap (λ (l : List (List ℕ)). l ++ lines_from c.args.text.now 1 c.interchanges-entries.result.now) c.new-lines.ensures.items

pub push_line-requires-clause-head : goal.push_line-requires-clause-head
push_line-requires-clause-head c =
    let entries : List IndexEntry = c.interchanges-entries.result.now in
    let chain : ChainFrom c.args.text.now 0 (extents_of entries) =
    subst (λ (l : List IndexEntry). ChainFrom c.args.text.now 0 (extents_of l)) (sym c.interchanges-entries.ensures.value)
    c.in_ok-index.ensures.chain in
    (there c.args.text.now 0 entries c.loop-i.i c.index-entries-i.result (drop (c.loop-i.i + 1) entries) chain
    (drop_one entries c.loop-i.i c.index-entries-i.result c.loop-i-test.true c.index-entries-i.is)).head

pub loop-i-preserved : goal.loop-i-preserved
loop-i-preserved c =
    let entries : List IndexEntry = c.interchanges-entries.result.now in
    written_more c.args.text.now (c.loop-i.i + 1) c.loop-i.i entries c.index-entries-i.result c.loop-i.lines.items
    c.push_line.new.lines.items
    (lines_from c.args.text.now 1 entries) (drop_one entries c.loop-i.i c.index-entries-i.result c.loop-i-test.true c.index-entries-i.is)
    c.loop-i.invariant c.in_ok-push_line.ensures

pub returns : goal.returns
returns c =
    let text : List ℕ = c.args.text.now in
    let entries : List IndexEntry = c.interchanges-entries.result.now in
    let lines : List (List ℕ) = c.loop-i.lines.items in
    let none : drop c.loop-i.i entries ≡ [] = drop_of_length-le entries c.loop-i-test.false in
    record {
      index = c.in_ok-index.index;
      index_is = c.in_ok-index.ensures;
      lines_are = sym (append-nil lines) ∙ ap (λ (l : List IndexEntry). lines ++ lines_from text (c.loop-i.i + 1) l) (sym none)
          ∙ c.loop-i.invariant ∙ ap (λ (l : List IndexEntry). lines_from text 1 l) c.interchanges-entries.ensures.value;
    }
