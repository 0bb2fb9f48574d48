use Rattle.std.proofs.Common.{◌≡◌, ◌+◌, ◌≤◌, ℕ, not, List, [], ◌∷◌, length, arith, refl, sym, ap, subst, ◌∙◌}
use Rattle.std.specs.List.{All}
use Rattle.std.proofs.lemmas.List.{length-append}
use Rattle.std.proofs.lemmas.List.Elements.{All-push}
use Rattle.std.specs.Prelude.{count_by, slice_range}
use Rattle.env_index.specs.Extents.{is_filler}
use Rattle.env_index.specs.Index.{IndexEntry, IsEntryOf, IsNextIn}
use Rattle.env_index.specs.Interchange.{InterchangeEntry}
use Rattle.env_index.proofs.Indexing.{chain_ends, chain_more, count_ends, counted_more, entry_of, few_more}
use Rattle.env_index.proofs.Few.{are_few}
use Rattle.env_index.proofs.plain.index_plain.Goals as goal

abbrev others_from : List ℕ → (from to : ℕ) → ℕ
others_from text from to = count_by (λ b. not (is_filler b)) (slice_range text from to)

pub loop-interchanges-preserved : goal.loop-interchanges-preserved
loop-interchanges-preserved c =
    let text : List ℕ = c.args.text.now in
    let x : InterchangeEntry = c.in-Some.interchange in
    let e : IndexEntry = c.judged.result in
    let next : IsNextIn text c.loop-interchanges.at x = rw c.in-Some.is at c.in_ok-interchange.ensures.next in
    let same : e.interchange ≡ x = c.judged.ensures.interchange in
    let end : c.end-at.result ≡ e.interchange.end = c.end-at.ensures ∙ ap (λ (y : InterchangeEntry). y.end) (sym same) in
    let all = c.in_ok-push.ensures.items in
    record {
      inside = subst (λ (n : ℕ). n ≤ length text) (sym c.end-at.ensures) (rw c.in-Some.is at c.in_ok-interchange.ensures.within);
      few = subst (λ (n : ℕ). c.loop-interchanges.outside + c.count_others-outside.result ≤ n) (sym c.end-at.ensures)
          (few_more text c.loop-interchanges.at x.start x.end c.loop-interchanges.outside c.count_others-outside.result
          c.loop-interchanges.invariant.few next.next.behind (rw c.in-Some.is at c.in_ok-interchange.ensures.behind)
          (c.count_others-outside.ensures ∙ ap (others_from text c.loop-interchanges.at) c.start.ensures));
      many = omega (
        arith,
        ap (λ (es : List IndexEntry). length es) all,
        length-append c.loop-interchanges.interchanges.items (e ∷ []),
        c.loop-interchanges.invariant.many,
        next.next.behind,
        rw c.in-Some.is at c.in_ok-interchange.ensures.behind,
        c.end-at.ensures,
      );
      entries = subst (All (IsEntryOf text)) (sym all)
          (All-push (IsEntryOf text) c.loop-interchanges.interchanges.items e c.loop-interchanges.invariant.entries
          (entry_of text c.loop-interchanges.at x e same c.judged.ensures.fault next));
      chain = chain_more text _ _ e c.loop-interchanges.at c.end-at.result all
          (subst (IsNextIn text c.loop-interchanges.at) (sym same) next) end c.loop-interchanges.invariant.chain;
      counted = counted_more text _ _ e c.loop-interchanges.at c.end-at.result c.loop-interchanges.outside
          c.count_others-outside.result all end
          (c.count_others-outside.ensures ∙ ap (others_from text c.loop-interchanges.at)
          (c.start.ensures ∙ ap (λ (y : InterchangeEntry). y.start) (sym same))) c.loop-interchanges.invariant.counted;
    }

pub returns : goal.returns
returns c =
    let text : List ℕ = c.args.text.now in
    record {
      same = refl;
      chain = chain_ends text _ c.loop-interchanges.at (rw c.in_default.is at c.in_ok-interchange.ensures.none)
          c.loop-interchanges.invariant.chain;
      entries = c.loop-interchanges.invariant.entries;
      outside = count_ends text _ c.loop-interchanges.at c.loop-interchanges.outside _ c.count_others-outside-2.ensures
          c.loop-interchanges.invariant.counted;
    }

pub judged-requires : goal.judged-requires
judged-requires c =
    let next : IsNextIn c.args.text.now c.loop-interchanges.at c.in-Some.interchange
    = rw c.in-Some.is at c.in_ok-interchange.ensures.next in
    are_few c.args.text.now c.in-Some.interchange next.read next.next.head c.requires
