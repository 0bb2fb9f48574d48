-- A written set is kept in one row of bytes.
use Rattle.std.proofs.Common.{◌≡◌, ℕ, ◌+◌, ◌≤◌, List, ◌++◌, take, drop, length, sym, ap, ◌∙◌, arith, append_assoc}
use Rattle.std.proofs.Math.Seq.{drop-append_seam, take-append_seam}
use Rattle.std.proofs.lemmas.List.{length-append}
use Rattle.count_numbers.specs.Num.{num}
use Rattle.partner_setup.specs.declared.partner.Partner.{Partner}
use Rattle.answered_sets.specs.Judged.{PlacedValue}
use Rattle.mailbox.specs.Kept.{kept_as}
use Rattle.mailbox.specs.Mailbox.{set_text}
use Rattle.mailbox.specs.Numbered.{group_key_of}
use Rattle.mailbox.specs.Rendered.{RenderedValue, rendered}

abbrev value : (sender : ℕ) (id version text : List ℕ) → RenderedValue
value sender id version text = record {
  key = record { sender = sender; functional_id = id; version = version };
  text = text;
}

kept_parts : (sender : ℕ) (id version text : List ℕ)
    → kept_as ((id ++ version) ++ text) sender (length id) (length version) ≡ value sender id version text
kept_parts sender id version text =
    let bytes : List ℕ = (id ++ version) ++ text in
    let whole : bytes ≡ id ++ (version ++ text) = append_assoc id version text in
    let front : take (length id) bytes ≡ id = ap (take (length id)) whole ∙ take-append_seam id (version ++ text) in
    let behind : drop (length id) bytes ≡ version ++ text = ap (drop (length id)) whole ∙ drop-append_seam id (version ++ text) in
    let middle : take (length version) (drop (length id) bytes) ≡ version =
    ap (take (length version)) behind ∙ take-append_seam version text in
    let last : drop (length id + length version) bytes ≡ text =
    ap (λ (n : ℕ). drop n bytes) (sym (length-append id version)) ∙ drop-append_seam (id ++ version) text in
    ap (λ (a : List ℕ). value sender a (take (length version) (drop (length id) bytes)) (drop (length id + length version) bytes)) front
    ∙ ap (λ (b : List ℕ). value sender id b (drop (length id + length version) bytes)) middle
    ∙ ap (value sender id version) last

pub kept_rendered : (partner : Partner) (k : ℕ) (p : PlacedValue) (bytes id version : List ℕ) (sender id_len version_len : ℕ)
    → bytes ≡ (id ++ version) ++ set_text partner.delims p (num partner.counters.set k)
    → id ≡ (group_key_of p).functional_id → version ≡ (group_key_of p).version → sender ≡ (group_key_of p).sender
    → id_len ≡ length id → version_len ≡ length version
    → kept_as bytes sender id_len version_len ≡ rendered partner k p
kept_rendered partner k p bytes id version sender id_len version_len eb ei ev es el em =
    let text : List ℕ = set_text partner.delims p (num partner.counters.set k) in
    ap (λ (b : List ℕ). kept_as b sender id_len version_len) eb
    ∙ ap (λ (n : ℕ). kept_as ((id ++ version) ++ text) sender n version_len) el
    ∙ ap (λ (n : ℕ). kept_as ((id ++ version) ++ text) sender (length id) n) em
    ∙ kept_parts sender id version text
    ∙ ap (λ (s : ℕ). value s id version text) es
    ∙ ap (λ (a : List ℕ). value (group_key_of p).sender a version text) ei
    ∙ ap (λ (b : List ℕ). value (group_key_of p).sender (group_key_of p).functional_id b text) ev

pub room_kept : (bytes id version text : List ℕ) (id_len version_len : ℕ) → bytes ≡ (id ++ version) ++ text → id_len ≡ length id
    → version_len ≡ length version → id_len + version_len ≤ length bytes
room_kept bytes id version text id_len version_len eb el em =
    let long : length bytes ≡ length (id ++ version) + length text = ap length eb ∙ length-append (id ++ version) text in
    let front : length (id ++ version) ≡ length id + length version = length-append id version in
    omega (arith, long, front)
