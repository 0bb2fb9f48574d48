use Rattle.std.proofs.Common.{◌≡◌, ◌∙◌, ℕ, List, ◌∷◌, ◌++◌, [], ap, length, map, refl, rules, subst, sym}
use Rattle.std.specs.List.{All}
use Rattle.count_numbers.specs.Num.{num}
use Rattle.x12_segs.specs.Words.{SegValue, element_of}
use Rattle.env_index.specs.Words.{GroupEntry}
use Rattle.mailbox.specs.Kept.{StandsIn, kept_in}
use Rattle.mailbox.specs.Mailbox.{set_text}
use Rattle.mailbox.specs.Rendered.{RenderedValue, rendered}
use Rattle.mailbox.specs.declared.kept.Kept.{Kept}
use Rattle.mailbox.proofs.Rows.{row_stands, row_view}
use Rattle.mailbox.proofs.rendered_sets.Row.with.Goals as goal

pub invariant_of-result : goal.invariant_of-result
invariant_of-result c =
    let old : List ℕ = c.self.inside.text.items in
    let new : List ℕ = c.append_written.new.out.items in
    let ks : List Kept = c.self.inside.sets.items in
    let id : List ℕ = c.element-id.result.now in
    let version : List ℕ = c.element-version.result.now in
    let number : ℕ = num c.args.partner.now.counters.set c.args.k in
    let piece : List ℕ = (id ++ version) ++ set_text c.args.partner.now.delims c.args.placed.now number in
    let header : c.header-header.result ≡ c.args.placed.now.group.header =
    c.header-header.ensures ∙ ap (λ (g : GroupEntry). g.header) c.group.ensures in
    let bytes : new ≡ old ++ piece = c.in_ok-append_written.ensures in
    let from : c.len-from.result ≡ length old = search rules in
    let to : c.len.result ≡ length new = search rules in
    let k : Kept = record {
      from = c.len-from.result;
      to = c.len.result;
      id_len = length id;
      version_len = length version;
      sender = c.sender_in.result;
    } in
    subst (λ (b : List ℕ). All (StandsIn b) c.push.new.self.items) (sym bytes)
    (subst (All (StandsIn (old ++ piece))) (sym c.in_ok-push.ensures.items)
    (row_stands old piece c.args.partner.now c.args.k c.args.placed.now id version k refl
    (c.element-id.ensures.value ∙ ap (λ (seg : SegValue). element_of seg 1) header)
    (c.element-version.ensures.value ∙ ap (λ (seg : SegValue). element_of seg 8) header)
    c.sender_in.ensures refl refl from (to ∙ ap (λ (b : List ℕ). length b) bytes) ks c.self.invariant))

pub returns : goal.returns
returns c =
    let old : List ℕ = c.self.inside.text.items in
    let new : List ℕ = c.append_written.new.out.items in
    let ks : List Kept = c.self.inside.sets.items in
    let id : List ℕ = c.element-id.result.now in
    let version : List ℕ = c.element-version.result.now in
    let number : ℕ = num c.args.partner.now.counters.set c.args.k in
    let piece : List ℕ = (id ++ version) ++ set_text c.args.partner.now.delims c.args.placed.now number in
    let header : c.header-header.result ≡ c.args.placed.now.group.header =
    c.header-header.ensures ∙ ap (λ (g : GroupEntry). g.header) c.group.ensures in
    let bytes : new ≡ old ++ piece = c.in_ok-append_written.ensures in
    let from : c.len-from.result ≡ length old = search rules in
    let to : c.len.result ≡ length new = search rules in
    let k : Kept = record {
      from = c.len-from.result;
      to = c.len.result;
      id_len = length id;
      version_len = length version;
      sender = c.sender_in.result;
    } in
    ap (λ (b : List ℕ). map (kept_in b) c.push.new.self.items) bytes
    ∙ ap (map (kept_in (old ++ piece))) c.in_ok-push.ensures.items
    ∙ row_view old piece c.args.partner.now c.args.k c.args.placed.now id version k refl
    (c.element-id.ensures.value ∙ ap (λ (seg : SegValue). element_of seg 1) header)
    (c.element-version.ensures.value ∙ ap (λ (seg : SegValue). element_of seg 8) header)
    c.sender_in.ensures refl refl from (to ∙ ap (λ (b : List ℕ). length b) bytes) ks c.self.invariant
    ∙ ap (λ (vs : List RenderedValue). vs ++ rendered c.args.partner.now c.args.k c.args.placed.now ∷ []) c.self.view_is
