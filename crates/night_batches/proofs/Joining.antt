-- What was written at each partner's place, closed, makes the night.
use Rattle.std.proofs.Common.{◌≡◌, ℕ, suc, ◌+◌, List, [], ◌∷◌, ◌++◌, Some, length, map, refl, sym, ap, subst, ◌∙◌}
use Rattle.std.specs.Prelude.{option_map, slice_get}
use Rattle.std.proofs.lemmas.List.{length-map}
use Rattle.std.proofs.lemmas.Option.{get_or_from_slice_get, slice_get-map}
use Rattle.partner_setup.specs.declared.partner.Partner.{Partner}
use Rattle.partner_setup.specs.Setup.{SetupValue}
use Rattle.mailbox.specs.Deliveries.{delivered_to}
use Rattle.mailbox.specs.Rendered.{RenderedValue, groups_of_rendered, rendered_from}
use Rattle.mailbox.proofs.ForAbove.{boxes_rendered}
use Rattle.answered_sets.specs.Judged.{JudgedValue, PlacedValue}
use Rattle.night_report.specs.Lines.{total_line}
use Rattle.night_report.specs.Report.{all_lines}
use Rattle.night_report.specs.declared.totals.Totals.{Totals}
use Rattle.set_answers.specs.CheckedText.{CheckedInterchange, AreAcknowledgments, SentValues, acknowledgments_to, nothing_sent}
use Rattle.night_batches.specs.declared.night.Night.{Night}
use Rattle.night_batches.specs.ByPlace.{box_behind, box_by, next_behind, next_by, sent_at, sets_at}
use Rattle.night_batches.specs.Night.{AreForPartners, IsNightOf, acks_of, box_of, counters_by, judgements, next_of}
use Rattle.night_batches.specs.Writing.{AreRendered, IsClosedBy, IsWrittenOf, WritingValue}

for_partners : {A : Type 0} (setup : SetupValue) (f g : ℕ → Partner → A) (xs : List A)
    → ((place : ℕ) (p : Partner) → slice_get setup.partners place ≡ Some p → f place p ≡ g place p)
    → AreForPartners setup f xs → AreForPartners setup g xs
for_partners setup f g xs same are = record {
  count = are.count;
  each = λ n p x at_p at_x. are.each n p x at_p at_x ∙ same n p at_p;
}

acks_are : (setup : SetupValue) (at : List ℕ) (known : List CheckedInterchange) (files : List SentValues)
    → AreAcknowledgments setup at known files → AreForPartners setup (acks_of setup at known) (map (λ (f : SentValues). f.text) files)
acks_are setup at known files are = record {
  count = length-map files (λ (f : SentValues). f.text) ∙ are.count;
  each = λ n p x at_p at_x. text n p x at_p at_x;
}
  where
    text : (n : ℕ) (p : Partner) (x : List ℕ) → slice_get setup.partners n ≡ Some p
        → slice_get (map (λ (f : SentValues). f.text) files) n ≡ Some x → x ≡ acks_of setup at known n p
    text n p x at_p at_x =
        let some : Some x ≡ Some (acks_of setup at known n p) = sym at_x ∙ slice_get-map (λ (f : SentValues). f.text) files n
        ∙ ap (option_map (λ (f : SentValues). f.text)) (are.each n p at_p) in
        cc

files_at : (setup : SetupValue) (at : List ℕ) (known : List CheckedInterchange) (files : List SentValues) (n : ℕ) (p : Partner)
    → AreAcknowledgments setup at known files → slice_get setup.partners n ≡ Some p
    → sent_at files n ≡ acknowledgments_to setup at known n p
files_at setup at known files n p are at_p =
    get_or_from_slice_get files n (acknowledgments_to setup at known n p) nothing_sent (are.each n p at_p)

boxes_at : (setup : SetupValue) (js : List JudgedValue) (boxes : List (List RenderedValue)) (n : ℕ) (p : Partner)
    → AreRendered setup js boxes → slice_get setup.partners n ≡ Some p → sets_at boxes n ≡ rendered_from p 0 (delivered_to setup n js)
boxes_at setup js boxes n p are at_p =
    get_or_from_slice_get boxes n (rendered_from p 0 (delivered_to setup n js)) [] (are.each n p at_p)

-- as many sets as were written
pub rendered_length : (partner : Partner) (k : ℕ) (xs : List PlacedValue) → length (rendered_from partner k xs) ≡ length xs
rendered_length partner k [] = refl
rendered_length partner k (x ∷ xs) = ap suc (rendered_length partner (k + 1) xs)

module _ (text : List ℕ) (setup : SetupValue) (at : List ℕ) (known : List CheckedInterchange) (w : WritingValue)
    (written : IsWrittenOf text setup at known w) where
  box_is : (n : ℕ) (p : Partner) → slice_get setup.partners n ≡ Some p
      → box_by setup at w.files w.boxes n p ≡ box_of text setup at known n p
  box_is n p at_p =
      let file : SentValues = acknowledgments_to setup at known n p in
      ap (λ (s : SentValues). box_behind setup at s (sets_at w.boxes n) p) (files_at setup at known w.files n p written.files at_p)
      ∙ ap (λ (sets : List RenderedValue). box_behind setup at file sets p)
      (boxes_at setup (judgements text known) w.boxes n p written.boxes at_p)
      ∙ sym (boxes_rendered setup p at file.count file.groups (delivered_to setup n (judgements text known))).0

  next_is : (n : ℕ) (p : Partner) → slice_get setup.partners n ≡ Some p → next_by w.files w.boxes n p ≡ next_of text setup known n p
  next_is n p at_p =
      let file : SentValues = acknowledgments_to setup at known n p in
      let sets : List PlacedValue = delivered_to setup n (judgements text known) in
      ap (λ (s : SentValues). next_behind s (sets_at w.boxes n) p) (files_at setup at known w.files n p written.files at_p)
      ∙ ap (λ (rs : List RenderedValue). next_behind file rs p)
      (boxes_at setup (judgements text known) w.boxes n p written.boxes at_p)
      ∙ ap (λ (k : ℕ). counters_by p.counters p.cap file.count file.groups k (groups_of_rendered p.cap (rendered_from p 0 sets)))
      (rendered_length p 0 sets)
      ∙ ap (counters_by p.counters p.cap file.count file.groups (length sets)) (sym (boxes_rendered setup p at 0 0 sets).1)

  pub night_of_written : (night : Night) → IsClosedBy setup at w night → IsNightOf text setup at known w.outside night
  night_of_written night by = record {
    acks = subst (λ (ts : List (List ℕ)). AreForPartners setup (acks_of setup at known) ts) (sym by.acks)
        (acks_are setup at known w.files written.files);
    boxes = for_partners setup (box_by setup at w.files w.boxes) (box_of text setup at known) night.boxes box_is by.boxes;
    report = by.report
        ∙ ap (λ (l : List ℕ). l ++ total_line w.told.totals w.outside) written.told.lines
        ∙ ap (λ (t : Totals). all_lines setup 0 1 (judgements text known) ++ total_line t w.outside) written.told.totals;
    next = for_partners setup (next_by w.files w.boxes) (next_of text setup known) night.next next_is by.next;
  }
