-- The written sets, with a set, and with the sets of a partner more.
use Rattle.std.proofs.Common.{◌≡◌, ◌≢◌, ◌<◌, ◌≤◌, ◌⊎◌, inl, inr, ℕ, suc, ◌+◌, List, [], ◌∷◌, ◌++◌, Some, length, refl, sym, ap}
use Rattle.std.proofs.Common.{◌∙◌, arith, append_assoc}
use Rattle.std.specs.Prelude.{slice_get, slice_set}
use Rattle.std.specs.List.{flat_map}
use Rattle.std.proofs.lemmas.Grind.{flat_map-append}
use Rattle.std.proofs.lemmas.List.{length-append}
use Rattle.std.proofs.lemmas.Bool.{cases_lt}
use Rattle.std.proofs.lemmas.Option.{slice_get_within}
use Rattle.partner_setup.specs.declared.partner.Partner.{Partner}
use Rattle.partner_setup.specs.Setup.{SetupValue}
use Rattle.answered_sets.specs.Judged.{JudgedValue, PlacedValue}
use Rattle.mailbox.specs.Deliveries.{AreDelivered, delivered_to}
use Rattle.mailbox.specs.Mailbox.{box_text, group_total}
use Rattle.mailbox.specs.Rendered.{HaveRendered, RenderedValue, box_of_rendered, groups_of_rendered, rendered, rendered_from}
use Rattle.mailbox.specs.Rendering.{AreWritten}
use Rattle.mailbox.proofs.Rendering.{boxes_rendered}
use Rattle.mailbox.proofs.Replacing.{length_set, set_here, set_there}
use Rattle.mailbox.proofs.Sharing.{same}

abbrev Boxes : Type 0
Boxes = List (List RenderedValue)

-- as many as were to be written
pub rendered_length : (partner : Partner) (k : ℕ) (ps : List PlacedValue) → length (rendered_from partner k ps) ≡ length ps
rendered_length partner k [] = refl
rendered_length partner k (p ∷ ps) = ap (λ (n : ℕ). suc n) (rendered_length partner (k + 1) ps)

-- one set more, which is number k of those that are delivered to the partner
pub one_added : (partner : Partner) (k : ℕ) (p : PlacedValue) (left rest : List PlacedValue) (old new all : List RenderedValue)
    → new ≡ old ++ rendered partner k p ∷ [] → left ≡ p ∷ rest
    → old ++ rendered_from partner k left ≡ all → new ++ rendered_from partner (k + 1) rest ≡ all
one_added partner k p left rest old new all is split was =
    let one : RenderedValue = rendered partner k p in
    ap (λ (ns : List RenderedValue). ns ++ rendered_from partner (k + 1) rest) is
    ∙ append_assoc old (one ∷ []) (rendered_from partner (k + 1) rest)
    ∙ sym (ap (λ (ps : List PlacedValue). old ++ rendered_from partner k ps) split)
    ∙ was

pub some_same : {A : Type 0} (a b : A) → Some a ≡ Some b → a ≡ b
some_same a b e = cc

-- the partner at a place
pub same_partner : (partners found : List Partner) (i : ℕ) (p q : Partner) → found ≡ partners → slice_get found i ≡ Some q
    → slice_get partners i ≡ Some p → q ≡ p
same_partner partners found i p q same at_q at_p =
    some_same q p (sym at_q ∙ ap (λ (ps : List Partner). slice_get ps i) same ∙ at_p)

pub none_written : (setup : SetupValue) (lists : List (List PlacedValue)) (boxes : Boxes) → AreWritten setup lists 0 boxes boxes
none_written setup lists boxes = record {
  count = refl;
  written = λ place partner ps sets within at_partner at_list at_old. absurd (omega (arith, within));
  left = λ place within. refl;
}

-- the sets of one partner more
module _ (setup : SetupValue) (lists : List (List PlacedValue)) (i : ℕ) (first a b : Boxes) (partner : Partner) (ps : List PlacedValue)
    (sets : List RenderedValue) (at_partner : slice_get setup.partners i ≡ Some partner) (at_list : slice_get lists i ≡ Some ps)
    (at_old : slice_get a i ≡ Some sets) (is : b ≡ slice_set a i (sets ++ rendered_from partner (length sets) ps))
    (was : AreWritten setup lists i first a) where
  abbrev box : List RenderedValue
  box = sets ++ rendered_from partner (length sets) ps

  here : slice_get b i ≡ Some box
  here = ap (λ (bs : Boxes). slice_get bs i) is ∙ set_here a i sets box at_old

  there : (place : ℕ) → i ≢ place → slice_get b place ≡ slice_get a place
  there place other = ap (λ (bs : Boxes). slice_get bs place) is ∙ set_there a i place box other

  written_here : (q : Partner) (qs : List PlacedValue) (ss : List RenderedValue) → slice_get setup.partners i ≡ Some q
      → slice_get lists i ≡ Some qs → slice_get first i ≡ Some ss → slice_get b i ≡ Some (ss ++ rendered_from q (length ss) qs)
  written_here q qs ss with_partner with_list with_old =
      let same_partner : partner ≡ q = some_same partner q (sym at_partner ∙ with_partner) in
      let same_list : ps ≡ qs = some_same ps qs (sym at_list ∙ with_list) in
      let same_sets : sets ≡ ss = some_same sets ss (sym at_old ∙ was.left i (omega arith) ∙ with_old) in
      here
      ∙ ap (λ (s : List RenderedValue). Some (s ++ rendered_from partner (length s) ps)) same_sets
      ∙ ap (λ (p : Partner). Some (ss ++ rendered_from p (length ss) ps)) same_partner
      ∙ ap (λ (l : List PlacedValue). Some (ss ++ rendered_from q (length ss) l)) same_list

  pub written_more : AreWritten setup lists (i + 1) first b
  written_more = record {
    count = ap (λ (bs : Boxes). length bs) is ∙ length_set a i box ∙ was.count;
    written = λ place q qs ss within with_partner with_list with_old.
        by place q qs ss within with_partner with_list with_old (cases_lt place i);
    left = λ place behind. there place (λ e. absurd (omega (arith, e, behind))) ∙ was.left place (omega (arith, behind));
  }
    where
      by : (place : ℕ) (q : Partner) (qs : List PlacedValue) (ss : List RenderedValue) → place < i + 1
          → slice_get setup.partners place ≡ Some q → slice_get lists place ≡ Some qs → slice_get first place ≡ Some ss
          → (place < i) ⊎ (i ≤ place) → slice_get b place ≡ Some (ss ++ rendered_from q (length ss) qs)
      by place q qs ss within with_partner with_list with_old (inl before) =
          there place (λ e. absurd (omega (arith, e, before)))
          ∙ was.written place q qs ss before with_partner with_list with_old
      by place q qs ss within with_partner with_list with_old (inr behind) =
          let e : place ≡ i = omega (arith, within, behind) in
          ap (λ (n : ℕ). slice_get b n) e
          ∙ written_here q qs ss (sym (ap (λ (n : ℕ). slice_get setup.partners n) e) ∙ with_partner)
          (sym (ap (λ (n : ℕ). slice_get lists n) e) ∙ with_list) (sym (ap (λ (n : ℕ). slice_get first n) e) ∙ with_old)

pub all_written : (setup : SetupValue) (xs : List JudgedValue) (lists : List (List PlacedValue)) (old new : Boxes)
    → AreDelivered setup xs lists → AreWritten setup lists (length lists) old new → HaveRendered setup xs old new
all_written setup xs lists old new delivered written = record {
  count = written.count;
  each = λ place partner sets at_partner at_old.
      let within : place < length setup.partners = slice_get_within setup.partners place partner at_partner in
      written.written place partner (delivered_to setup place xs) sets (omega (arith, within, delivered.count)) at_partner
      (delivered.each place within) at_old;
}

-- a mailbox of sets that were all written at once
made_of : (p q : Partner) (sets : List PlacedValue) (none written : List RenderedValue) → none ≡ []
    → written ≡ none ++ rendered_from q (length none) sets → q ≡ p → written ≡ rendered_from p 0 sets
made_of p q sets none written nothing is same =
    is ∙ ap (λ (ns : List RenderedValue). ns ++ rendered_from q (length ns) sets) nothing
    ∙ ap (λ (r : Partner). rendered_from r 0 sets) same

pub box_made : (setup : SetupValue) (p q : Partner) (at : List ℕ) (acknowledgments groups : ℕ) (sets : List PlacedValue)
    (none written : List RenderedValue) → none ≡ [] → written ≡ none ++ rendered_from q (length none) sets → q ≡ p
    → box_of_rendered setup p at acknowledgments groups written ≡ box_text setup p at acknowledgments groups sets
box_made setup p q at acknowledgments groups sets none written nothing is same =
    ap (box_of_rendered setup p at acknowledgments groups) (made_of p q sets none written nothing is same)
    ∙ sym (boxes_rendered setup p at acknowledgments groups sets).0

pub total_made : (setup : SetupValue) (p q : Partner) (at : List ℕ) (sets : List PlacedValue) (none written : List RenderedValue)
    → none ≡ [] → written ≡ none ++ rendered_from q (length none) sets → q ≡ p
    → groups_of_rendered p.cap written ≡ group_total p.cap sets
total_made setup p q at sets none written nothing is same =
    ap (groups_of_rendered p.cap) (made_of p q sets none written nothing is same) ∙ sym (boxes_rendered setup p at 0 0 sets).1

-- the rows of sets that were written, with those that were written after them
pub rows_counted : (rows written new : List (List RenderedValue)) (partner : Partner) (k : ℕ) (ps : List PlacedValue) (count all : ℕ)
    → count ≡ length (flat_map same rows) → all ≡ count + length ps → flat_map same written ≡ rendered_from partner k ps
    → new ≡ rows ++ written → all ≡ length (flat_map same new)
rows_counted rows written new partner k ps count all before sum its is =
    let joined : length (flat_map same new) ≡ length (flat_map same rows) + length (flat_map same written) =
    ap (λ (rs : List (List RenderedValue)). length (flat_map same rs)) is
    ∙ ap (λ (vs : List RenderedValue). length vs) (flat_map-append same rows written)
    ∙ length-append (flat_map same rows) (flat_map same written) in
    let more : length (flat_map same written) ≡ length ps =
    ap (λ (vs : List RenderedValue). length vs) its ∙ rendered_length partner k ps in
    omega (arith, before, sum, joined, more)
