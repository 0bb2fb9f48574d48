use Rattle.std.proofs.Common.{◌≡◌, ◌∙◌, [], ◌∷◌, ap, arith, refl, subst, sym}
use Rattle.x12_bytes.specs.Header.{header_delims}
use Rattle.x12_bytes.specs.declared.delims.Delims.{Delims}
use Rattle.env_index.specs.Words.{InterchangeEntry, span_of}
use Rattle.x12_segs.specs.declared.set_span.SetSpan.{SetSpan}
use Rattle.guide_samples.specs.Alone.{IsOnlySpan}
use Rattle.guide_samples.proofs.OneSet.{first_alone, only_item, only_span}
use Rattle.guide_samples.proofs.judge.only_span.Goals as goal

pub returns : goal.returns
returns c =
    let e = c.indexed-item.result in
    let x : InterchangeEntry = c.interchange-interchange.result.now in
    let same : x ≡ e.interchange = c.interchange-interchange.ensures.value in
    let g = c.group-group.result in
    let s = c.set.result in
    let groups : e.interchange.content.groups ≡ g ∷ [] =
    ap (λ (i : InterchangeEntry). i.content.groups) (sym same)
    ∙ only_item x.content.groups g (c.if-not-has_one_group.ensures refl) c.group-group.ensures in
    let sets : g.sets ≡ s ∷ [] = only_item g.sets s (c.if-not-has_one_set.ensures refl) c.set.ensures in
    let found : IsOnlySpan c.args.text.now (span_of (header_delims e.interchange.header) s) =
    only_span c.texts_are_indexes.ensures c.interchanges_are_kept.ensures c.sets_are_parts.ensures c.args.text.now c.in_ok-index.index
    c.in_ok-index.ensures e
    (sym c.interchanges.ensures.value
    ∙ first_alone c.interchanges.result.now e (omega (arith, c.in-len1.len_at_least, c.in-len1.len_below)) c.indexed-item.is) g groups s
    sets in
    let delims : c.delims.result ≡ header_delims e.interchange.header =
    c.delims.ensures.value ∙ ap header_delims (c.header.ensures ∙ ap (λ (i : InterchangeEntry). i.header) same) in
    subst (λ (span : SetSpan). IsOnlySpan c.args.text.now span) (sym (c.span.ensures ∙ ap (λ (d : Delims). span_of d s) delims)) found
