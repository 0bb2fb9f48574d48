-- A mailbox.
use Rattle.std.proofs.Common.{◌≡◌, ℕ, zero, suc, ◌+◌, ◌*◌, List, [], ◌∷◌, ◌++◌, map, Bool, true, false, ◌&&◌, Option, Some, None, length}
use Rattle.std.proofs.Common.{refl, sym, ap, ◌∙◌, subst}
use Rattle.std.proofs.lemmas.Slice.Zip.{AllZip-long}
use Rattle.std.proofs.lemmas.List.Elements.{All-head, All-tail}
use Rattle.std.specs.Prelude.{◌==◌, if◌then◌else◌, codes, decimal, take, drop, flat_map, slice_get, bytes_eq, All}
use Rattle.std.specs.Option.{option_map_or}
use Rattle.std.specs.List.{AllZip, range_with_len}
use Rattle.x12_segs.specs.Words.{elements_of}
use Rattle.x12_write.specs.Group.{group_text}
use Rattle.x12_write.specs.Header.{header_text}
use Rattle.x12_write.specs.Trailer.{trailer_text}
use Rattle.count_numbers.specs.Layout as old_layout
use Rattle.count_numbers.specs.Num.{num}
use Rattle.count_numbers.specs.Runs.{same_key}
use Rattle.guide_tree.specs.Tree.{GuideTree}
use Rattle.partner_setup.specs.declared.partner.Partner.{Partner}
use Rattle.partner_setup.specs.Envelopes.{envelope_to}
use Rattle.partner_setup.specs.Setup.{SetupValue}
use Rattle.answered_sets.specs.Judged.{JudgedValue, PlacedValue}
use Rattle.mailbox.specs.Deliveries as old
use Rattle.mailbox.specs.Mailbox as old_box
use Rattle.mailbox.specs.Numbered as old_numbered
use Rattle.mailbox.specs.Numbered.{NumberedValue, group_key_of, sender_in}
use Rattle.night_definition.specs.Segments.{Elements, element}
use Rattle.night_definition.specs.Elements.{numbered}
use Rattle.night_definition.specs.Setup.{Setup}
use Rattle.night_definition.specs.Answers.{AnsweredGroup, Answered}
use Rattle.night_definition.specs.Acknowledgments.{acknowledged_to}
use Rattle.night_definition.specs.Written as room_written
use Rattle.night_definition.specs.Deliveries as room
use Rattle.night_definition.specs.Deliveries.{Sent}
use Rattle.night_definition.specs.Night as room_night
use Rattle.night_equal_writing.specs.Deliveries.{room_setup, IsSeen, IsSeenIn, IsPlain, all_sent, open_sets}
use Rattle.night_equal_writing.specs.Boxes.{BoxesAreOne, IsNumbered}
use Rattle.night_equal_writing.proofs.Texts.{group_is, segment_is}
use Rattle.night_equal_writing.proofs.Deliveries.{to_is}
use Rattle.night_equal_writing.proofs.DeliveredTexts.{text_is}

pub numbered_zip : (k : ℕ) (ps : List PlacedValue) (ss : List Sent) → AllZip IsSeen ps ss → All IsPlain ps
    → AllZip IsNumbered (old_numbered.numbered_from k ps) (numbered k ss)
numbered_zip k [] [] zip plain = zip
numbered_zip k (p ∷ ps) [] zip plain = absurd zip
numbered_zip k [] (s ∷ ss) zip plain = absurd zip
numbered_zip k (p ∷ ps) (s ∷ ss) zip plain = (
  record { place = refl; set = zip.0; plain = All-head IsPlain p ps plain },
  numbered_zip (k + 1) ps ss zip.1
      (All-tail IsPlain p ps plain),
)

take_zip : {A B : Type 0} (R : A → B → Type 0) (n : ℕ) (ls : List A) (ms : List B) → AllZip R ls ms → AllZip R (take n ls) (take n ms)
take_zip R zero ls ms zip = tt
take_zip R (suc n) [] [] zip = zip
take_zip R (suc n) (a ∷ ls) [] zip = absurd zip
take_zip R (suc n) [] (b ∷ ms) zip = absurd zip
take_zip R (suc n) (a ∷ ls) (b ∷ ms) zip = (zip.0, take_zip R n ls ms zip.1)

drop_zip : {A B : Type 0} (R : A → B → Type 0) (n : ℕ) (ls : List A) (ms : List B) → AllZip R ls ms → AllZip R (drop n ls) (drop n ms)
drop_zip R zero ls ms zip = zip
drop_zip R (suc n) [] [] zip = zip
drop_zip R (suc n) (a ∷ ls) [] zip = absurd zip
drop_zip R (suc n) [] (b ∷ ms) zip = absurd zip
drop_zip R (suc n) (a ∷ ls) (b ∷ ms) zip = drop_zip R n ls ms zip.1

map_zip : {A B : Type 0} (R : A → B → Type 0) (f : ℕ → List A) (g : ℕ → List B) → ((m : ℕ) → AllZip R (f m) (g m)) → (ms : List ℕ)
    → AllZip (AllZip R) (map f ms) (map g ms)
map_zip R f g each [] = tt
map_zip R f g each (m ∷ ms) = (each m, map_zip R f g each ms)

pub interchanges_zip : {A B : Type 0} (R : A → B → Type 0) (cap : ℕ) (ls : List A) (ms : List B) → AllZip R ls ms
    → AllZip (AllZip R) (old_layout.interchanges_of cap ls) (room.interchanges_of cap ms)
interchanges_zip R cap ls ms zip =
    subst (λ n. AllZip (AllZip R) (old_layout.interchanges_of cap ls)
    (map (λ m. take cap (drop (m * cap) ms)) (range_with_len 0 (room.interchange_count cap n)))) (sym (AllZip-long R ls ms zip))
    (map_zip R (old_layout.in_interchange cap ls) (λ m. take cap (drop (m * cap) ms))
    (λ m. take_zip R cap (drop (m * cap) ls) (drop (m * cap) ms) (drop_zip R (m * cap) ls ms zip))
    (range_with_len 0 (old_layout.interchange_count cap (length ls))))

-- the groups of numbered sets of which each is seen by the definition
module _ (R : NumberedValue → ℕ × Sent → Type 0) (seen : (v : NumberedValue) (x : ℕ × Sent) → R v x → IsSeen v.set x.1) where
  goes_is : (v w : NumberedValue) (x y : ℕ × Sent) → R v x → R w y
      → room.goes_with x.1 y.1 ≡ same_key (group_key_of v.set) (group_key_of w.set)
  goes_is v w x y a b =
      let first : IsSeen v.set x.1 = seen v x a in
      let second : IsSeen w.set y.1 = seen w y b in
      ap (λ n. n == y.1.sender && bytes_eq (element 1 x.1.gs) (element 1 y.1.gs)
      && bytes_eq (element 8 x.1.gs) (element 8 y.1.gs)) first.sender
      ∙ ap (λ n. sender_in v.set == n && bytes_eq (element 1 x.1.gs) (element 1 y.1.gs)
      && bytes_eq (element 8 x.1.gs) (element 8 y.1.gs)) second.sender
      ∙ ap (λ (gs : Elements). sender_in v.set == sender_in w.set && bytes_eq (element 1 gs) (element 1 y.1.gs)
      && bytes_eq (element 8 gs) (element 8 y.1.gs)) first.gs
      ∙ ap (λ (gs : Elements). sender_in v.set == sender_in w.set && bytes_eq (element 1 (elements_of v.set.group.header)) (element 1 gs)
      && bytes_eq (element 8 (elements_of v.set.group.header)) (element 8 gs)) second.gs

  put : (t : Bool) (v : NumberedValue) (x : ℕ × Sent) (g : List NumberedValue) (h : List (ℕ × Sent)) (gs : List (List NumberedValue))
      (hs : List (List (ℕ × Sent)))
      → R v x → AllZip R g h → AllZip (AllZip R) gs hs
      → AllZip (AllZip R) (if t then (v ∷ g) ∷ gs else (v ∷ []) ∷ g ∷ gs) (if t then (x ∷ h) ∷ hs else (x ∷ []) ∷ h ∷ hs)
  put true v x g h gs hs is first rest = ((is, first), rest)
  put false v x g h gs hs is first rest = ((is, tt), (first, rest))

  onto_zip : (v : NumberedValue) (x : ℕ × Sent) → R v x → (gs : List (List NumberedValue)) (hs : List (List (ℕ × Sent)))
      → AllZip (AllZip R) gs hs → AllZip (AllZip R) (old_numbered.onto_groups v gs) (room.onto_groups x hs)
  onto_zip v x is [] [] zip = ((is, tt), tt)
  onto_zip v x is (g ∷ gs) [] zip = absurd zip
  onto_zip v x is [] (h ∷ hs) zip = absurd zip
  onto_zip v x is ([] ∷ gs) ([] ∷ hs) zip = ((is, tt), (zip.0, zip.1))
  onto_zip v x is ((w ∷ g) ∷ gs) ([] ∷ hs) zip = absurd zip.0
  onto_zip v x is ([] ∷ gs) ((y ∷ h) ∷ hs) zip = absurd zip.0
  onto_zip v x is ((w ∷ g) ∷ gs) ((y ∷ h) ∷ hs) zip =
      subst (λ t. AllZip (AllZip R) (old_numbered.onto_groups v ((w ∷ g) ∷ gs))
      (if t then (x ∷ y ∷ h) ∷ hs else (x ∷ []) ∷ (y ∷ h) ∷ hs))
      (sym (goes_is v w x y is zip.0.0))
      (put (same_key (group_key_of v.set) (group_key_of w.set)) v x (w ∷ g) (y ∷ h) gs hs is zip.0 zip.1)

  pub groups_zip_by : (vs : List NumberedValue) (xs : List (ℕ × Sent)) → AllZip R vs xs
      → AllZip (AllZip R) (old_numbered.groups_of vs) (room.groups_of xs)
  groups_zip_by [] [] zip = zip
  groups_zip_by (v ∷ vs) [] zip = absurd zip
  groups_zip_by [] (x ∷ xs) zip = absurd zip
  groups_zip_by (v ∷ vs) (x ∷ xs) zip =
      onto_zip v x zip.0 (old_numbered.groups_of vs) (room.groups_of xs) (groups_zip_by vs xs zip.1)

pub groups_zip : (vs : List NumberedValue) (xs : List (ℕ × Sent)) → AllZip IsNumbered vs xs
    → AllZip (AllZip IsNumbered) (old_numbered.groups_of vs) (room.groups_of xs)
groups_zip vs xs zip = groups_zip_by IsNumbered (λ v x is. is.set) vs xs zip

module _ (setup : SetupValue) (guides : List GuideTree) (p : Partner) (at : List ℕ) where
  abbrev there : Setup
  there = room_setup setup guides

  code_is : (o : Option Partner) → option_map_or (λ (p : Partner). p.code) o [] ≡ old_box.code_by o
  code_is None = refl
  code_is (Some partner) = refl

  set_texts : (vs : List NumberedValue) (xs : List (ℕ × Sent)) → AllZip IsNumbered vs xs
      → map (λ (y : ℕ × Sent). room.set_text p.delims (num p.counters.set y.0) y.1) xs ≡ map (old_box.numbered_text p) vs
  set_texts [] [] zip = refl
  set_texts (v ∷ vs) [] zip = absurd zip
  set_texts [] (x ∷ xs) zip = absurd zip
  set_texts (v ∷ vs) (x ∷ xs) zip =
      ap (λ t. t ∷ map (λ (y : ℕ × Sent). room.set_text p.delims (num p.counters.set y.0) y.1) xs)
      (ap (λ n. room.set_text p.delims (num p.counters.set n) x.1) zip.0.place
      ∙ text_is p.delims (num p.counters.set v.place) v.set x.1 zip.0.set zip.0.plain)
      ∙ ap (λ r. old_box.numbered_text p v ∷ r) (set_texts vs xs zip.1)

  one_group : (control : ℕ) (vs : List NumberedValue) (xs : List (ℕ × Sent)) → AllZip IsNumbered vs xs
      → room.delivered_group there p at control xs ≡ old_box.delivered_group_text setup p at control vs
  one_group control [] [] zip = refl
  one_group control (v ∷ vs) [] zip = absurd zip
  one_group control [] (x ∷ xs) zip = absurd zip
  one_group control (v ∷ vs) (x ∷ xs) zip =
      let sets : List (List ℕ) = map (λ (y : ℕ × Sent). room.set_text p.delims (num p.counters.set y.0) y.1) (x ∷ xs) in
      ap (λ (gs : Elements). room_written.group_text p.delims at (element 1 gs) (room.code_of there x.1.sender) p.code control
      (element 8 gs) sets) zip.0.set.gs
      ∙ ap (λ code. room_written.group_text p.delims at (element 1 (elements_of v.set.group.header)) code p.code control
      (element 8 (elements_of v.set.group.header)) sets)
      (ap (room.code_of there) zip.0.set.sender ∙ code_is (slice_get setup.partners (sender_in v.set)))
      ∙ group_is p.delims at (old_box.group_header_of setup p control v.set) sets
      ∙ ap (group_text p.delims at (old_box.group_header_of setup p control v.set)) (set_texts (v ∷ vs) (x ∷ xs) zip)

  groups_are : (before : ℕ) (gs : List (List NumberedValue)) (hs : List (List (ℕ × Sent))) → AllZip (AllZip IsNumbered) gs hs
      → flat_map (λ (g : ℕ × List (ℕ × Sent)). room.delivered_group there p at (num p.counters.group g.0) g.1) (numbered before hs)
      ≡ old_box.groups_text setup p at before gs
  groups_are before [] [] zip = refl
  groups_are before (g ∷ gs) [] zip = absurd zip
  groups_are before [] (h ∷ hs) zip = absurd zip
  groups_are before (g ∷ gs) (h ∷ hs) zip =
      ap (λ t. t ++ flat_map (λ (g : ℕ × List (ℕ × Sent)). room.delivered_group there p at (num p.counters.group g.0) g.1)
      (numbered (before + 1) hs))
      (one_group (num p.counters.group before) g h zip.0)
      ∙ ap (λ r. old_box.delivered_group_text setup p at (num p.counters.group before) g ++ r) (groups_are (before + 1) gs hs zip.1)

  interchange_is : (number before : ℕ) (vs : List NumberedValue) (xs : List (ℕ × Sent)) → AllZip IsNumbered vs xs
      → room.delivered_interchange there p at number before xs ≡ old_box.delivered_text setup p at number before vs
  interchange_is number before vs xs zip =
      let gs : List (List NumberedValue) = old_numbered.groups_of vs in
      let hs : List (List (ℕ × Sent)) = room.groups_of xs in
      ap (λ t. header_text (envelope_to setup p) at number ++ t ++ room_written.iea_text p.delims (length hs) number)
      (groups_are before gs hs (groups_zip vs xs zip))
      ∙ ap (λ n. header_text (envelope_to setup p) at number ++ old_box.groups_text setup p at before gs
      ++ room_written.iea_text p.delims n number)
      (AllZip-long (AllZip IsNumbered) gs hs (groups_zip vs xs zip))
      ∙ ap (λ t. header_text (envelope_to setup p) at number ++ old_box.groups_text setup p at before gs ++ t)
      (segment_is p.delims (codes "IEA") (decimal (length gs) ∷ room_written.padded_number 9 number ∷ []))

  boxes_are : (k before : ℕ) (vs : List (List NumberedValue)) (xs : List (List (ℕ × Sent))) → AllZip (AllZip IsNumbered) vs xs
      → room.box_after there p at k before xs ≡ old_box.delivered_texts setup p at k before vs
  boxes_are k before [] [] zip = refl
  boxes_are k before (v ∷ vs) [] zip = absurd zip
  boxes_are k before [] (x ∷ xs) zip = absurd zip
  boxes_are k before (v ∷ vs) (x ∷ xs) zip =
      ap (λ t. t ++ room.box_after there p at (k + 1) (before + length (room.groups_of x)) xs)
      (interchange_is (num p.counters.interchange k) before v x zip.0)
      ∙ ap (λ n. old_box.delivered_text setup p at (num p.counters.interchange k) before v
      ++ room.box_after there p at (k + 1) (before + n) xs)
      (AllZip-long (AllZip IsNumbered) (old_numbered.groups_of v) (room.groups_of x) (groups_zip v x zip.0))
      ∙ ap (λ t. old_box.delivered_text setup p at (num p.counters.interchange k) before v ++ t)
      (boxes_are (k + 1) (before + length (old_numbered.groups_of v)) vs xs zip.1)

pub box_is : (setup : SetupValue) (guides : List GuideTree) (place : ℕ) (p : Partner) (at : List ℕ) (js : List JudgedValue)
    (xs : List Answered)
    → AllZip (λ p (x : AnsweredGroup × Sent). IsSeenIn p x.0 x.1) (open_sets js) (all_sent xs)
    → All IsPlain (old.delivered_to setup place js)
    → room_night.box_of (room_setup setup guides) at xs place p
    ≡ old_box.box_text setup p at (length (acknowledged_to place xs)) (room_night.groups_in (acknowledged_to place xs))
    (old.delivered_to setup place js)
box_is setup guides place p at js xs zip plain =
    let ps : List PlacedValue = old.delivered_to setup place js in
    let ss : List Sent = room.delivered_to (room_setup setup guides) place xs in
    boxes_are setup guides p at (length (acknowledged_to place xs)) (room_night.groups_in (acknowledged_to place xs))
    (old_layout.interchanges_of p.cap (old_numbered.numbered_from 0 ps)) (room.interchanges_of p.cap (numbered 0 ss))
    (interchanges_zip IsNumbered p.cap (old_numbered.numbered_from 0 ps) (numbered 0 ss)
    (numbered_zip 0 ps ss (to_is setup guides place js xs zip) plain))

pub boxes_are_one : BoxesAreOne
boxes_are_one = record {
  count = λ cap sets. refl;
  interchanges = λ cap vs. refl;
  groups = groups_zip;
  box = box_is;
}
