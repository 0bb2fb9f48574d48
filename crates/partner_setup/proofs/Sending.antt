-- The envelope to a partner of a setup can be sent.
use Rattle.std.proofs.Common.{◌≡◌, ◌≢◌, ℕ, ◌≤◌, Bool, true, false, not, ◌&&◌, ◌||◌, ◌==◌, nat_le, List, [], ◌∷◌, length}
use Rattle.std.proofs.Common.{Option, Some, None, cond, slice_index, ◌-◌, refl, sym, ap, subst, ◌∙◌, arith}
use Rattle.std.specs.List.{list_all}
use Rattle.std.specs.Char.{is_ascii_alphanumeric}
use Rattle.std.specs.Option.{option_map_or}
use Rattle.std.proofs.lemmas.Bool.{and_from, and_parts, eqb-false, false≢true, leb-true, ne_eqb, not_from_false, or_from}
use Rattle.std.proofs.lemmas.List.Elements.{All-nil, All-cons}
use Rattle.hub_kinds.specs.Words.{is_word}
use Rattle.x12_bytes.specs.Bytes.{may_separate}
use Rattle.x12_bytes.specs.declared.delims.Delims.{Delims}
use Rattle.x12_write.specs.Sendable.{IsSendable}
use Rattle.x12_write.specs.Undivided.{IsUndivided}
use Rattle.partner_setup.specs.Envelopes.{envelope_between, repetition_byte, usage_byte}
use Rattle.partner_setup.specs.SetupFaults.{are_delimiters, are_ids, is_id, is_inner, is_outer, may_end}
use Rattle.partner_setup.specs.Sound.{IsSoundPartner}
use Rattle.partner_setup.specs.declared.partner.Partner.{Partner}
use Rattle.partner_setup.specs.declared.rows.HubRow.{HubRow}
use Rattle.partner_setup.specs.declared.rows.Usage.{Usage}
use Rattle.partner_setup.specs.declared.rows.Usage.TheVariants as usage
use Rattle.partner_setup.proofs.Marks.{Four, ends, four, separates, terminates, undivided, word_inside}

-- a qualifier and an id, as a header takes them
record AreWritten (d : Delims) (qualifier id : List ℕ) : Type 0 where
  qualifier_len : length qualifier ≡ 2
  qualifier_text : IsUndivided d qualifier
  id_len : length id ≤ 15
  id_text : IsUndivided d id

written : (d : Delims) → may_end d.element ≡ true → may_end d.terminator ≡ true → (qualifier id code : List ℕ)
    → are_ids qualifier id code ≡ true → AreWritten d qualifier id
written d pe pt qualifier id code h =
    let both = (and_parts (is_word 2 2 qualifier && is_id 1 15 id) (is_id 2 15 code) h).0 in
    let each = and_parts (is_word 2 2 qualifier) (is_id 1 15 id) both in
    let word = and_parts (nat_le 2 (length qualifier) && nat_le (length qualifier) 2) (list_all is_ascii_alphanumeric qualifier) each.0 in
    let two = and_parts (nat_le 2 (length qualifier)) (nat_le (length qualifier) 2) word.0 in
    let least = leb-true 2 (length qualifier) two.0 in
    let most = leb-true (length qualifier) 2 two.1 in
    let last = and_parts (nat_le 1 (length id) && nat_le (length id) 15 && list_all is_inner id && is_outer (slice_index id 0))
    (is_outer (slice_index id (length id - 1))) each.1 in
    let first = and_parts (nat_le 1 (length id) && nat_le (length id) 15 && list_all is_inner id) (is_outer (slice_index id 0)) last.0 in
    let inner = and_parts (nat_le 1 (length id) && nat_le (length id) 15) (list_all is_inner id) first.0 in
    record {
      qualifier_len = omega (arith, least, most);
      qualifier_text = undivided d.element d.terminator pe pt qualifier (word_inside qualifier word.1);
      id_len = leb-true (length id) 15 (and_parts (nat_le 1 (length id)) (nat_le (length id) 15) inner.0).1;
      id_text = undivided d.element d.terminator pe pt id inner.1;
    }

usage_inside : (u : Usage) → list_all is_inner (usage_byte u ∷ []) ≡ true
usage_inside usage.Production = refl
usage_inside usage.Test = refl

differ : (a b : ℕ) → (a == b) ≡ false → a ≢ b
differ a b h = eqb-false a b h

turned : (a b : ℕ) → (a == b) ≡ false → (b == a) ≡ false
turned a b h = ne_eqb b a (λ same. differ a b h (sym same))

-- a byte as ISA11 shows it
abbrev shown : Delims → ℕ → Option ℕ
shown d r = cond (may_separate r && not (r == d.element || r == d.component || r == d.terminator)) (Some r) None

is_shown : (d : Delims) (r : ℕ) → Four d.element d.component r d.terminator → shown d r ≡ Some r
is_shown d r marks =
    let other = or_from (r == d.element || r == d.component) (r == d.terminator)
    (or_from (r == d.element) (r == d.component)
    (turned d.element r marks.element_repetition) (turned d.component r marks.component_repetition)) marks.repetition_terminator in
    let test = and_from (may_separate r) (not (r == d.element || r == d.component || r == d.terminator))
    (separates r marks.repetition) (not_from_false (r == d.element || r == d.component || r == d.terminator) other) in
    ap (λ (b : Bool). cond b (Some r) None) test

by_delims : (hub : HubRow) (p : Partner) → are_ids hub.qualifier hub.id hub.code ≡ true → are_ids p.qualifier p.id p.code ≡ true
    → (r : ℕ) → p.delims.repetition ≡ Some r → are_delimiters p.delims.element p.delims.component r p.delims.terminator ≡ true
    → IsSendable (envelope_between hub p)
by_delims hub p hub_ids ids r is h =
    let d = p.delims in
    let marks = four d.element d.component r d.terminator h in
    let pe = ends d.element marks.element in
    let ours = written d pe marks.terminator hub.qualifier hub.id hub.code hub_ids in
    let theirs = written d pe marks.terminator p.qualifier p.id p.code ids in
    let byte : repetition_byte d ≡ r = ap (λ (o : Option ℕ). option_map_or (λ (x : ℕ). x) o 85) is in
    let alone : IsUndivided d (r ∷ []) = All-cons (λ b. (b ≢ d.element) × (b ≢ d.terminator)) r []
    (differ r d.element (turned d.element r marks.element_repetition), differ r d.terminator marks.repetition_terminator)
    (All-nil (λ b. (b ≢ d.element) × (b ≢ d.terminator))) in
    record {
      element_allowed = separates d.element marks.element;
      component_allowed = separates d.component marks.component;
      terminator_allowed = terminates d.terminator marks.terminator;
      element_not_component = differ d.element d.component marks.element_component;
      element_not_terminator = differ d.element d.terminator marks.element_terminator;
      component_not_terminator = differ d.component d.terminator marks.component_terminator;
      hub_qualifier_len = ours.qualifier_len;
      hub_qualifier = ours.qualifier_text;
      hub_id_len = ours.id_len;
      hub_id = ours.id_text;
      partner_qualifier_len = theirs.qualifier_len;
      partner_qualifier = theirs.qualifier_text;
      partner_id_len = theirs.id_len;
      partner_id = theirs.id_text;
      usage = undivided d.element d.terminator pe marks.terminator (usage_byte hub.usage ∷ []) (usage_inside hub.usage);
      repetition = subst (λ (x : ℕ). IsUndivided d (x ∷ [])) (sym byte) alone;
      repetition_separates = is ∙ sym (ap (shown d) byte ∙ is_shown d r marks);
    }

by_repetition : (hub : HubRow) (p : Partner) → are_ids hub.qualifier hub.id hub.code ≡ true → are_ids p.qualifier p.id p.code ≡ true
    → (o : Option ℕ) → p.delims.repetition ≡ o
    → option_map_or (λ (r : ℕ). are_delimiters p.delims.element p.delims.component r p.delims.terminator) o false ≡ true
    → IsSendable (envelope_between hub p)
by_repetition hub p hub_ids ids None is h = absurd (false≢true h)
by_repetition hub p hub_ids ids (Some r) is h = by_delims hub p hub_ids ids r is h

pub sendable : (count : ℕ) (hub : HubRow) (p : Partner) → are_ids hub.qualifier hub.id hub.code ≡ true → IsSoundPartner count p
    → IsSendable (envelope_between hub p)
sendable count hub p hub_ids sound = by_repetition hub p hub_ids sound.ids p.delims.repetition refl sound.delims
