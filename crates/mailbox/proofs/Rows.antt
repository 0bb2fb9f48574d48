-- Written sets stand in a text.
use Rattle.std.proofs.Common.{◌≡◌, ℕ, ◌+◌, ◌-◌, ◌<◌, ◌≤◌, List, [], ◌∷◌, ◌++◌, take, drop, get_or, length, map, refl, sym, ap}
use Rattle.std.proofs.Common.{◌∙◌, append_assoc, arith}
use Rattle.std.proofs.Math.Seq.{drop-append_seam}
use Rattle.std.proofs.lemmas.List.{drop-append-le, length-append, length-drop, map-append}
use Rattle.std.proofs.lemmas.List.{get_or-map, length-map, take-append-le, take_all, take_more}
use Rattle.std.proofs.lemmas.List.Elements.{All-append, All-cons, All-head, All-nil, All-tail}
use Rattle.std.specs.List.{All}
use Rattle.std.specs.Prelude.{slice_range}
use Rattle.count_numbers.specs.Num.{num}
use Rattle.partner_setup.specs.declared.partner.Partner.{Partner}
use Rattle.answered_sets.specs.Judged.{PlacedValue}
use Rattle.mailbox.specs.Kept.{StandsIn, kept_as, kept_in}
use Rattle.mailbox.specs.Mailbox.{set_text}
use Rattle.mailbox.specs.Numbered.{group_key_of}
use Rattle.mailbox.specs.Rendered.{RenderedValue, rendered}
use Rattle.mailbox.specs.declared.kept.Kept.{Kept}
use Rattle.mailbox.proofs.Keeping.{kept_rendered}

pub slice_front : (old more : List ℕ) (a b : ℕ) → a ≤ b → b ≤ length old → slice_range (old ++ more) a b ≡ slice_range old a b
slice_front old more a b order within =
    let long : length (drop a old) ≡ length old - a = length-drop a old in
    ap (take (b - a)) (drop-append-le a old more (omega (arith, order, within)))
    ∙ take-append-le (b - a) (drop a old) more (omega (arith, long, order, within))

slice_last : (old piece : List ℕ) → slice_range (old ++ piece) (length old) (length (old ++ piece)) ≡ piece
slice_last old piece =
    let n : ℕ = length (old ++ piece) - length old in
    ap (take n) (drop-append_seam old piece) ∙ take_all n piece (omega (arith, length-append old piece))

-- a text that grows
module _ (old piece : List ℕ) where
  abbrev new : List ℕ
  new = old ++ piece

  same_set : (k : Kept) → StandsIn old k → kept_in new k ≡ kept_in old k
  same_set k is =
      ap (λ (b : List ℕ). kept_as b k.sender k.id_len k.version_len) (slice_front old piece k.from k.to is.order is.within)

  same_sets : (ks : List Kept) → All (StandsIn old) ks → map (kept_in new) ks ≡ map (kept_in old) ks
  same_sets [] all = refl
  same_sets (k ∷ ks) all =
      ap (λ (v : RenderedValue). v ∷ map (kept_in new) ks) (same_set k (All-head (StandsIn old) k ks all))
      ∙ ap (λ (vs : List RenderedValue). kept_in old k ∷ vs) (same_sets ks (All-tail (StandsIn old) k ks all))

  pub stand_still : (ks : List Kept) → All (StandsIn old) ks → All (StandsIn new) ks
  stand_still [] all = All-nil (StandsIn new)
  stand_still (k ∷ ks) all =
      let is : StandsIn old k = All-head (StandsIn old) k ks all in
      All-cons (StandsIn new) k ks (record {
        order = is.order;
        within = omega (arith, is.within, length-append old piece);
        parts = is.parts;
      }) (stand_still ks (All-tail (StandsIn old) k ks all))

  -- by a set
  module _ (partner : Partner) (n : ℕ) (p : PlacedValue) (id version : List ℕ) (k : Kept)
      (is : piece ≡ (id ++ version) ++ set_text partner.delims p (num partner.counters.set n))
      (id_is : id ≡ (group_key_of p).functional_id) (version_is : version ≡ (group_key_of p).version) (sender_is : k.sender ≡
      (group_key_of p).sender)
      (id_len : k.id_len ≡ length id) (version_len : k.version_len ≡ length version)
      (from : k.from ≡ length old) (to : k.to ≡ length new) where
    its_bytes : slice_range new k.from k.to ≡ piece
    its_bytes =
        ap (λ (a : ℕ). slice_range new a k.to) from ∙ ap (λ (b : ℕ). slice_range new (length old) b) to ∙ slice_last old piece

    added : kept_in new k ≡ rendered partner n p
    added =
        ap (λ (b : List ℕ). kept_as b k.sender k.id_len k.version_len) its_bytes
        ∙ kept_rendered partner n p piece id version k.sender k.id_len k.version_len is id_is version_is sender_is id_len version_len

    pub row_view : (ks : List Kept) → All (StandsIn old) ks
        → map (kept_in new) (ks ++ k ∷ []) ≡ map (kept_in old) ks ++ rendered partner n p ∷ []
    row_view ks all =
        map-append (kept_in new) ks (k ∷ [])
        ∙ ap (λ (vs : List RenderedValue). vs ++ kept_in new k ∷ []) (same_sets ks all)
        ∙ ap (λ (v : RenderedValue). map (kept_in old) ks ++ v ∷ []) added

    pub row_stands : (ks : List Kept) → All (StandsIn old) ks → All (StandsIn new) (ks ++ k ∷ [])
    row_stands ks all =
        let size : length new ≡ length old + length piece = length-append old piece in
        let whole : length piece ≡ length (id ++ version) + length (set_text partner.delims p (num partner.counters.set n)) =
        ap (λ (b : List ℕ). length b) is ∙ length-append (id ++ version) (set_text partner.delims p (num partner.counters.set n)) in
        All-append (StandsIn new) ks (k ∷ []) (stand_still ks all) (All-cons (StandsIn new) k [] (record {
          order = omega (arith, from, to, size);
          within = omega (arith, to);
          parts = omega (arith, from, to, size, whole, length-append id version, id_len, version_len);
        }) (All-nil (StandsIn new)))

-- one set more is lent
pub lent_more : (f : Kept → RenderedValue) (ks : List Kept) (before all done new : List RenderedValue) (i : ℕ) (k : Kept)
    (v : RenderedValue) → map f ks ≡ all → i < length ks → k ≡ get_or ks i k → done ≡ before ++ take i all → v ≡ f k
    → new ≡ done ++ v ∷ [] → new ≡ before ++ take (i + 1) all
lent_more f ks before all done new i k v is lt its so_far value added =
    let here : i < length (map f ks) = omega (arith, lt, length-map ks f) in
    added
    ∙ ap (λ (vs : List RenderedValue). vs ++ v ∷ []) (so_far ∙ ap (λ (vs : List RenderedValue). before ++ take i vs) (sym is))
    ∙ append_assoc before (take i (map f ks)) (v ∷ [])
    ∙ ap (λ (w : RenderedValue). before ++ (take i (map f ks) ++ w ∷ [])) (value ∙ ap f its ∙ sym (get_or-map f ks i k (f k) lt))
    ∙ ap (λ (vs : List RenderedValue). before ++ vs) (sym (take_more (map f ks) i (f k) here) ∙ ap (take (i + 1)) is)
