-- A mailbox by the texts and the keys of its sets.
use Rattle.std.proofs.Common.{◌≡◌, ℕ, zero, suc, ◌+◌, ◌*◌, Bool, true, false, cond, List, [], ◌∷◌, ◌++◌, length, map, take, drop}
use Rattle.std.proofs.Common.{refl, sym, ap, ◌∙◌}
use Rattle.std.proofs.lemmas.List.{length-map, take-map}
use Rattle.std.specs.List.{range_with_len}
use Rattle.count_numbers.specs.Layout.{in_interchange, interchange_count, interchanges_of}
use Rattle.count_numbers.specs.Num.{num}
use Rattle.partner_setup.specs.declared.partner.Partner.{Partner}
use Rattle.partner_setup.specs.Envelopes.{envelope_to}
use Rattle.partner_setup.specs.Setup.{SetupValue}
use Rattle.x12_write.specs.Group.{group_text}
use Rattle.x12_write.specs.Header.{header_text}
use Rattle.x12_write.specs.Trailer.{trailer_text}
use Rattle.answered_sets.specs.Judged.{PlacedValue}
use Rattle.mailbox.specs.Mailbox as box
use Rattle.mailbox.specs.Numbered as plain
use Rattle.mailbox.specs.Numbered.{NumberedValue, numbered_from, group_key_of}
use Rattle.mailbox.specs.Rendered.{RenderedValue, box_of_rendered, goes_with, group_of, groups_in, groups_of, groups_of_rendered}
use Rattle.mailbox.specs.Rendered.{groups_text, header_of, interchange_of, interchanges_text, onto_groups, rendered, rendered_from}
use Rattle.mailbox.specs.Rendered.{text_in, BoxesAreRendered}

module _ (setup : SetupValue) (partner : Partner) where
  abbrev write : NumberedValue → RenderedValue
  write x = rendered partner x.place x.set

  written : (k : ℕ) (ps : List PlacedValue) → map write (numbered_from k ps) ≡ rendered_from partner k ps
  written k [] = refl
  written k (p ∷ ps) = ap (λ (rs : List RenderedValue). rendered partner k p ∷ rs) (written (k + 1) ps)

  goes_same : (x : NumberedValue) (xs : List NumberedValue) → goes_with (write x) (map write xs) ≡ plain.goes_with x xs
  goes_same x [] = refl
  goes_same x (y ∷ ys) = refl

  onto_same : (x : NumberedValue) (gs : List (List NumberedValue))
      → onto_groups (write x) (map (map write) gs) ≡ map (map write) (plain.onto_groups x gs)
  onto_same x [] = refl
  onto_same x (g ∷ gs) =
      ap (λ (b : Bool). cond b ((write x ∷ map write g) ∷ map (map write) gs) ((write x ∷ []) ∷ map write g ∷ map (map write) gs))
      (goes_same x g)
      ∙ by_test (plain.goes_with x g)
    where
      by_test : (b : Bool)
          → cond b ((write x ∷ map write g) ∷ map (map write) gs) ((write x ∷ []) ∷ map write g ∷ map (map write) gs)
          ≡ map (map write) (cond b ((x ∷ g) ∷ gs) ((x ∷ []) ∷ g ∷ gs))
      by_test true = refl
      by_test false = refl

  groups_same : (xs : List NumberedValue) → groups_of (map write xs) ≡ map (map write) (plain.groups_of xs)
  groups_same [] = refl
  groups_same (x ∷ xs) = ap (onto_groups (write x)) (groups_same xs) ∙ onto_same x (plain.groups_of xs)

  count_same : (xs : List NumberedValue) → length (groups_of (map write xs)) ≡ length (plain.groups_of xs)
  count_same xs =
      ap (λ (gs : List (List RenderedValue)). length gs) (groups_same xs) ∙ length-map (plain.groups_of xs) (map write)

  texts_same : (xs : List NumberedValue) → map text_in (map write xs) ≡ map (box.numbered_text partner) xs
  texts_same [] = refl
  texts_same (x ∷ xs) = ap (λ (ts : List (List ℕ)). box.numbered_text partner x ∷ ts) (texts_same xs)

  group_same : (at : List ℕ) (g : ℕ) (xs : List NumberedValue)
      → group_of setup partner at g (map write xs) ≡ box.delivered_group_text setup partner at g xs
  group_same at g [] = refl
  group_same at g (x ∷ xs) = ap (group_text partner.delims at (header_of setup partner g (group_key_of x.set))) (texts_same (x ∷ xs))

  all_groups_same : (at : List ℕ) (g : ℕ) (gs : List (List NumberedValue))
      → groups_text setup partner at g (map (map write) gs) ≡ box.groups_text setup partner at g gs
  all_groups_same at g [] = refl
  all_groups_same at g (x ∷ xs) =
      ap (λ (t : List ℕ). t ++ groups_text setup partner at (g + 1) (map (map write) xs))
      (group_same at (num partner.counters.group g) x)
      ∙ ap (λ (t : List ℕ). box.delivered_group_text setup partner at (num partner.counters.group g) x ++ t) (all_groups_same at (g + 1) xs)

  interchange_same : (at : List ℕ) (number before : ℕ) (xs : List NumberedValue)
      → interchange_of setup partner at number before (map write xs) ≡ box.delivered_text setup partner at number before xs
  interchange_same at number before xs =
      ap (λ (gs : List (List RenderedValue)). header_text (envelope_to setup partner) at number
      ++ groups_text setup partner at before gs ++ trailer_text partner.delims (length gs) number) (groups_same xs)
      ∙ ap (λ (t : List ℕ). header_text (envelope_to setup partner) at number ++ t
      ++ trailer_text partner.delims (length (map (map write) (plain.groups_of xs))) number)
      (all_groups_same at before (plain.groups_of xs))
      ∙ ap (λ (n : ℕ). header_text (envelope_to setup partner) at number ++ box.groups_text setup partner at before (plain.groups_of xs)
      ++ trailer_text partner.delims n number) (length-map (plain.groups_of xs) (map write))

  interchanges_same : (at : List ℕ) (k before : ℕ) (xss : List (List NumberedValue))
      → interchanges_text setup partner at k before (map (map write) xss) ≡ box.delivered_texts setup partner at k before xss
  interchanges_same at k before [] = refl
  interchanges_same at k before (xs ∷ xss) =
      let number : ℕ = num partner.counters.interchange k in
      let one : List ℕ = box.delivered_text setup partner at number before xs in
      ap (λ (t : List ℕ). t
      ++ interchanges_text setup partner at (k + 1) (before + length (groups_of (map write xs))) (map (map write) xss))
      (interchange_same at number before xs)
      ∙ ap (λ (n : ℕ). one ++ interchanges_text setup partner at (k + 1) (before + n) (map (map write) xss)) (count_same xs)
      ∙ ap (λ (t : List ℕ). one ++ t) (interchanges_same at (k + 1) (before + length (plain.groups_of xs)) xss)

  counts_same : (xss : List (List NumberedValue)) → groups_in (map (map write) xss) ≡ box.groups_within xss
  counts_same [] = refl
  counts_same (xs ∷ xss) =
      ap (λ (n : ℕ). n + groups_in (map (map write) xss)) (count_same xs)
      ∙ ap (λ (n : ℕ). length (plain.groups_of xs) + n) (counts_same xss)

  drop-map : (n : ℕ) (xs : List NumberedValue) → drop n (map write xs) ≡ map write (drop n xs)
  drop-map zero xs = refl
  drop-map (suc n) [] = refl
  drop-map (suc n) (x ∷ xs) = drop-map n xs

  cut_same : (xs : List NumberedValue) (ms : List ℕ)
      → map (in_interchange partner.cap (map write xs)) ms ≡ map (map write) (map (in_interchange partner.cap xs) ms)
  cut_same xs [] = refl
  cut_same xs (m ∷ ms) =
      ap (λ (l : List RenderedValue). l ∷ map (in_interchange partner.cap (map write xs)) ms)
      (ap (take partner.cap) (drop-map (m * partner.cap) xs) ∙ take-map write partner.cap (drop (m * partner.cap) xs))
      ∙ ap (λ (ls : List (List RenderedValue)). map write (in_interchange partner.cap xs m) ∷ ls) (cut_same xs ms)

  -- the sets of each delivered interchange
  parts_same : (sets : List PlacedValue)
      → map (map write) (interchanges_of partner.cap (numbered_from 0 sets)) ≡ interchanges_of partner.cap (rendered_from partner 0 sets)
  parts_same sets =
      let xs : List NumberedValue = numbered_from 0 sets in
      sym (cut_same xs (range_with_len 0 (interchange_count partner.cap (length xs))))
      ∙ ap (λ (n : ℕ). map (in_interchange partner.cap (map write xs)) (range_with_len 0 (interchange_count partner.cap n)))
      (sym (length-map xs write))
      ∙ ap (interchanges_of partner.cap) (written 0 sets)

  box_same : (at : List ℕ) (acknowledgments groups : ℕ) (sets : List PlacedValue)
      → box.box_text setup partner at acknowledgments groups sets
      ≡ box_of_rendered setup partner at acknowledgments groups (rendered_from partner 0 sets)
  box_same at acknowledgments groups sets =
      sym (interchanges_same at acknowledgments groups (interchanges_of partner.cap (numbered_from 0 sets)))
      ∙ ap (interchanges_text setup partner at acknowledgments groups) (parts_same sets)

  total_same : (sets : List PlacedValue)
      → box.group_total partner.cap sets ≡ groups_of_rendered partner.cap (rendered_from partner 0 sets)
  total_same sets =
      sym (counts_same (interchanges_of partner.cap (numbered_from 0 sets))) ∙ ap groups_in (parts_same sets)

pub boxes_rendered : BoxesAreRendered
boxes_rendered setup partner at acknowledgments groups sets =
    (box_same setup partner at acknowledgments groups sets, total_same setup partner sets)
