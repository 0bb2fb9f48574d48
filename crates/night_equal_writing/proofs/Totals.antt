-- What a report counts, and how many interchanges and groups a mailbox has.
use Rattle.std.proofs.Common.{◌≡◌, ℕ, suc, ◌+◌, List, [], ◌∷◌, ◌++◌, map, Bool, true, false, not, Option, Some, None, length, refl, sym}
use Rattle.std.proofs.Common.{ap, ◌∙◌, arith}
use Rattle.std.proofs.Math.Path.{fun_ext}
use Rattle.std.proofs.lemmas.Slice.Zip.{AllZip-long}
use Rattle.std.proofs.lemmas.List.Sums.{sum_by-cons}
use Rattle.std.proofs.lemmas.List.{length-map}
use Rattle.std.proofs.lemmas.List.FromFn.{length-map-range_with_len}
use Rattle.std.specs.Prelude.{◌*◌, if◌then◌else◌, take, drop, flat_map, filter, is_some, is_none, sum_by, count_by, All}
use Rattle.std.specs.List.{AllZip}
use Rattle.hub_kinds.specs.declared.interchange.InterchangeFault.{InterchangeFault}
use Rattle.guide_tree.specs.Tree.{GuideTree}
use Rattle.partner_setup.specs.declared.partner.Partner.{Partner}
use Rattle.partner_setup.specs.Setup.{SetupValue}
use Rattle.answered_sets.specs.Judged.{JudgedValue, PlacedValue, all_sets, is_fa, is_refused}
use Rattle.count_numbers.specs.Layout as old_layout
use Rattle.mailbox.specs.declared.outcome.Outcome as layer
use Rattle.mailbox.specs.Deliveries as old
use Rattle.mailbox.specs.Mailbox as old_box
use Rattle.mailbox.specs.Numbered as old_numbered
use Rattle.mailbox.specs.Numbered.{NumberedValue}
use Rattle.night_report.specs.declared.totals.Totals.{Totals}
use Rattle.night_report.specs.Lines.{total_line}
use Rattle.night_report.specs.Report as old_report
use Rattle.night_report.specs.Report.{ShownGroup}
use Rattle.night_definition.specs.Elements.{numbered}
use Rattle.night_definition.specs.Setup.{Setup}
use Rattle.night_definition.specs.Answers.{Answer, AnsweredGroup, Answered, accepted_sets}
use Rattle.night_definition.specs.Deliveries as room
use Rattle.night_definition.specs.Deliveries.{Sent, sent, delivered, held_for_delimiter, held_for_route}
use Rattle.night_definition.specs.Night as room_night
use Rattle.night_definition.specs.Report as room_report
use Rattle.night_equal_writing.specs.Deliveries.{room_setup, now, IsSeen, IsSeenIn, IsPlain, all_sent, open_sets}
use Rattle.night_equal_writing.specs.Boxes.{IsNumbered}
use Rattle.night_equal_writing.specs.Report.{IsShown, IsTold}
use Rattle.night_equal_writing.specs.Totals.{TotalsAreOne}
use Rattle.night_equal_writing.proofs.Answers.{filtered}
use Rattle.night_equal_writing.proofs.Deliveries.{outcomes_are, refused_none, to_is}
use Rattle.night_equal_writing.proofs.Boxes.{groups_zip_by, interchanges_zip, numbered_zip}
use Rattle.night_equal_writing.proofs.Report.{all_are}

sum_zip : {A B : Type 0} (R : A → B → Type 0) (f : A → ℕ) (h : B → ℕ) → ((a : A) (b : B) → R a b → f a ≡ h b)
    → (ls : List A) (ms : List B) → AllZip R ls ms → sum_by f ls ≡ sum_by h ms
sum_zip R f h same [] [] zip = refl
sum_zip R f h same (a ∷ ls) [] zip = absurd zip
sum_zip R f h same [] (b ∷ ms) zip = absurd zip
sum_zip R f h same (a ∷ ls) (b ∷ ms) zip =
    sum_by-cons f a ls ∙ ap (λ n. n + sum_by f ls) (same a b zip.0)
    ∙ ap (λ n. h b + n) (sum_zip R f h same ls ms zip.1) ∙ sym (sum_by-cons h b ms)

sum_append : {A : Type 0} (f : A → ℕ) (xs ys : List A) → sum_by f (xs ++ ys) ≡ sum_by f xs + sum_by f ys
sum_append f [] ys = omega arith
sum_append f (x ∷ xs) ys = omega (arith, sum_by-cons f x (xs ++ ys), sum_by-cons f x xs, sum_append f xs ys)

sum_flat : {A B : Type 0} (f : B → ℕ) (g : A → List B) (xs : List A) → sum_by f (flat_map g xs) ≡ sum_by (λ x. sum_by f (g x)) xs
sum_flat f g [] = refl
sum_flat f g (x ∷ xs) =
    sum_append f (g x) (flat_map g xs) ∙ ap (λ n. sum_by f (g x) + n) (sum_flat f g xs) ∙ sym (sum_by-cons (λ x. sum_by f (g x)) x xs)

sum_map : {A B : Type 0} (f : B → ℕ) (g : A → B) (xs : List A) → sum_by f (map g xs) ≡ sum_by (λ x. f (g x)) xs
sum_map f g [] = refl
sum_map f g (x ∷ xs) =
    sum_by-cons f (g x) (map g xs) ∙ ap (λ n. f (g x) + n) (sum_map f g xs) ∙ sym (sum_by-cons (λ x. f (g x)) x xs)

append_zip : {A B : Type 0} (R : A → B → Type 0) (ls ns : List A) (ms os : List B) → AllZip R ls ms → AllZip R ns os
    → AllZip R (ls ++ ns) (ms ++ os)
append_zip R [] ns [] os zip more = more
append_zip R (a ∷ ls) ns [] os zip more = absurd zip
append_zip R [] ns (b ∷ ms) os zip more = absurd zip
append_zip R (a ∷ ls) ns (b ∷ ms) os zip more = (zip.0, append_zip R ls ns ms os zip.1 more)

-- a group that is counted
record IsCounted (s : ShownGroup) (g : AnsweredGroup) : Type 0 where
  fa : is_fa s.group ≡ g.is_fa
  count : length s.group.sets ≡ length g.answers
  accepted : g.is_fa ≡ false → s.standing.accepted ≡ accepted_sets g

shown_counted : (x : Answered) (ss : List ShownGroup) (gs : List AnsweredGroup) → AllZip (IsShown x) ss gs → AllZip IsCounted ss gs
shown_counted x [] [] zip = zip
shown_counted x (s ∷ ss) [] zip = absurd zip
shown_counted x [] (g ∷ gs) zip = absurd zip
shown_counted x (s ∷ ss) (g ∷ gs) zip =
    (record { fa = zip.0.fa; count = zip.0.count; accepted = zip.0.accepted }, shown_counted x ss gs zip.1)

groups_counted : (js : List JudgedValue) (xs : List Answered) → AllZip IsTold js xs
    → AllZip IsCounted (flat_map old_report.groups_shown js) (flat_map (λ (x : Answered). x.groups) xs)
groups_counted [] [] zip = zip
groups_counted (j ∷ js) [] zip = absurd zip
groups_counted [] (x ∷ xs) zip = absurd zip
groups_counted (j ∷ js) (x ∷ xs) zip =
    append_zip IsCounted (old_report.groups_shown j) (flat_map old_report.groups_shown js) x.groups
    (flat_map (λ (x : Answered). x.groups) xs)
    (shown_counted x (old_report.groups_shown j) x.groups zip.0.groups) (groups_counted js xs zip.1)

abbrev counts : AnsweredGroup → Bool
counts g = not g.is_fa

counts_is : (s : ShownGroup) (g : AnsweredGroup) → IsCounted s g → old_report.is_counted s ≡ counts g
counts_is s g is = ap not is.fa

-- those that are counted, with a fact that holds of them alone
record IsKept (s : ShownGroup) (g : AnsweredGroup) : Type 0 where
  count : length s.group.sets ≡ length g.answers
  accepted : s.standing.accepted ≡ accepted_sets g

kept_are : (ss : List ShownGroup) (gs : List AnsweredGroup) → AllZip IsCounted ss gs
    → AllZip IsKept (filter old_report.is_counted ss) (filter counts gs)
kept_are [] [] zip = zip
kept_are (s ∷ ss) [] zip = absurd zip
kept_are [] (g ∷ gs) zip = absurd zip
kept_are (s ∷ ss) (g ∷ gs) zip = by (is_fa s.group) g.is_fa refl refl (kept_are ss gs zip.1)
  where
    by : (t u : Bool) → is_fa s.group ≡ t → g.is_fa ≡ u → AllZip IsKept (filter old_report.is_counted ss) (filter counts gs)
        → AllZip IsKept (if not t then s ∷ filter old_report.is_counted ss else filter old_report.is_counted ss)
        (if not u then g ∷ filter counts gs else filter counts gs)
    by true true e f more = more
    by false false e f more = (record { count = zip.0.count; accepted = zip.0.accepted f }, more)
    by true false e f more = cc
    by false true e f more = cc

abbrev one_if : Bool → ℕ
one_if t = if t then 1 else 0

refused_is : (o : Option InterchangeFault) → one_if (not (is_none o)) ≡ one_if (is_some o)
refused_is None = refl
refused_is (Some f) = refl

-- how often a set is held
held_kind : (o : room.Outcome) → old.is_held (now o) ≡ room_report.is_held o
held_kind (delivered to) = refl
held_kind (held_for_delimiter to) = refl
held_kind held_for_route = refl

abbrev held_at : SetupValue → List GuideTree → AnsweredGroup × Sent → ℕ
held_at setup guides x = count_by room_report.is_held (room.outcomes (room_setup setup guides) x.0 x.1)

held_is : (setup : SetupValue) (guides : List GuideTree) (p : PlacedValue) (x : AnsweredGroup × Sent) → IsSeenIn p x.0 x.1
    → old_report.held_count setup p ≡ held_at setup guides x
held_is setup guides p x is =
    let os : List room.Outcome = room.outcomes (room_setup setup guides) x.0 x.1 in
    sym (ap (count_by old.is_held) (outcomes_are setup guides p x.0 x.1 is))
    ∙ sum_map (λ o. if old.is_held o then 1 else 0) now os
    ∙ ap (λ (h : room.Outcome → ℕ). sum_by h os) (fun_ext (λ o. ap (λ t. if t then 1 else 0) (held_kind o)))

open_held : (setup : SetupValue) (ps : List PlacedValue)
    → sum_by (old_report.held_count setup) ps ≡ sum_by (old_report.held_count setup)
    (filter (λ (p : PlacedValue). not (is_refused p.interchange)) ps)
open_held setup [] = refl
open_held setup (p ∷ ps) = sum_by-cons f p ps ∙ by (is_refused p.interchange) refl (open_held setup ps)
  where
    f : PlacedValue → ℕ
    f = old_report.held_count setup

    by : (t : Bool) → is_refused p.interchange ≡ t
        → sum_by (old_report.held_count setup) ps ≡ sum_by (old_report.held_count setup)
        (filter (λ (p : PlacedValue). not (is_refused p.interchange)) ps)
        → old_report.held_count setup p + sum_by (old_report.held_count setup) ps
        ≡ sum_by (old_report.held_count setup) (if not t then p ∷ filter (λ (p : PlacedValue). not (is_refused p.interchange)) ps
        else filter (λ (p : PlacedValue). not (is_refused p.interchange)) ps)
    by true e more = ap (λ n. n + sum_by (old_report.held_count setup) ps) (ap (count_by old.is_held) (refused_none setup p e))
        ∙ omega (arith, more)
    by false e more =
        ap (λ n. old_report.held_count setup p + n) more
        ∙ sym (sum_by-cons (old_report.held_count setup) p (filter (λ (p : PlacedValue). not (is_refused p.interchange)) ps))

held_sum : (setup : SetupValue) (guides : List GuideTree) (xs : List Answered)
    → sum_by (held_at setup guides) (all_sent xs)
    ≡ sum_by (λ (x : Answered). sum_by (room_report.held_in (room_setup setup guides) x) x.groups) xs
held_sum setup guides xs =
    sum_flat (held_at setup guides) (λ (x : Answered). flat_map
    (λ (g : AnsweredGroup). map (λ (a : Answer). (g, sent x g a)) g.answers) x.groups) xs
    ∙ ap (λ (h : Answered → ℕ). sum_by h xs) (fun_ext (λ (x : Answered).
    sum_flat (held_at setup guides) (λ (g : AnsweredGroup). map (λ (a : Answer). (g, sent x g a)) g.answers) x.groups
    ∙ ap (λ (h : AnsweredGroup → ℕ). sum_by h x.groups) (fun_ext (λ (g : AnsweredGroup).
    sum_map (held_at setup guides) (λ (a : Answer). (g, sent x g a)) g.answers))))

abbrev totals_by : (interchanges refused groups sets accepted held : ℕ) → Totals
totals_by interchanges refused groups sets accepted held = record {
  interchanges = interchanges;
  refused = refused;
  groups = groups;
  sets = sets;
  accepted = accepted;
  held = held;
}

totals_are : (a b c d e f a' b' c' d' e' f' : ℕ) → a ≡ a' → b ≡ b' → c ≡ c' → d ≡ d' → e ≡ e' → f ≡ f'
    → totals_by a b c d e f ≡ totals_by a' b' c' d' e' f'
totals_are a b c d e f a' b' c' d' e' f' p q r s t u =
    ap (λ n. totals_by n b c d e f) p ∙ ap (λ n. totals_by a' n c d e f) q ∙ ap (λ n. totals_by a' b' n d e f) r
    ∙ ap (λ n. totals_by a' b' c' n e f) s ∙ ap (λ n. totals_by a' b' c' d' n f) t ∙ ap (λ n. totals_by a' b' c' d' e' n) u

pub report_is : (setup : SetupValue) (guides : List GuideTree) (js : List JudgedValue) (xs : List Answered) (outside : ℕ)
    → AllZip IsTold js xs
    → AllZip (λ p (x : AnsweredGroup × Sent). IsSeenIn p x.0 x.1) (open_sets js) (all_sent xs)
    → room_report.report_of (room_setup setup guides) xs outside ≡ old_report.report_text setup js outside
report_is setup guides js xs outside told seen =
    let Seen : PlacedValue → AnsweredGroup × Sent → Type 0 = λ p (x : AnsweredGroup × Sent). IsSeenIn p x.0 x.1 in
    let ss : List ShownGroup = old_report.counted_groups js in
    let gs : List AnsweredGroup = filter counts (flat_map (λ (x : Answered). x.groups) xs) in
    let kept : AllZip IsKept ss gs = kept_are (flat_map old_report.groups_shown js) (flat_map (λ (x : Answered). x.groups) xs)
    (groups_counted js xs told) in
    ap (λ t. t ++ room_report.total_line (room_setup setup guides) xs outside) (all_are setup guides 1 js xs told)
    ∙ ap (λ (t : Totals). old_report.all_lines setup 0 1 js ++ total_line t outside)
    (totals_are (length xs) (count_by (λ (x : Answered). is_some x.judged.fault) xs) (length gs)
    (sum_by (λ (g : AnsweredGroup). length g.answers) gs)
    (sum_by accepted_sets gs) (sum_by (λ (x : Answered). sum_by (room_report.held_in (room_setup setup guides) x) x.groups) xs)
    (length js) (count_by is_refused js) (length ss) (sum_by old_report.set_count ss) (sum_by old_report.accepted_count ss)
    (sum_by (old_report.held_count setup) (all_sets js))
    (AllZip-long IsTold js xs told)
    (sym (sum_zip IsTold (λ j. if is_refused j then 1 else 0) (λ (x : Answered). if is_some x.judged.fault then 1 else 0)
    (λ j x is. ap (λ (o : Option InterchangeFault). one_if (not (is_none o))) is.fault ∙ refused_is x.judged.fault) js xs told))
    (AllZip-long IsKept ss gs kept)
    (sym (sum_zip IsKept old_report.set_count (λ (g : AnsweredGroup). length g.answers) (λ s g is. is.count) ss gs kept))
    (sym (sum_zip IsKept old_report.accepted_count accepted_sets (λ s g is. is.accepted) ss gs kept))
    (sym (open_held setup (all_sets js)
    ∙ sum_zip Seen (old_report.held_count setup) (held_at setup guides) (held_is setup guides) (open_sets js) (all_sent xs) seen
    ∙ held_sum setup guides xs)))

length_numbered : (n : ℕ) (ss : List Sent) → length (numbered n ss) ≡ length ss
length_numbered n [] = refl
length_numbered n (s ∷ ss) = ap suc (length_numbered (n + 1) ss)

pub interchanges_are : (setup : SetupValue) (guides : List GuideTree) (place : ℕ) (p : Partner) (js : List JudgedValue)
    (xs : List Answered)
    → AllZip (λ p (x : AnsweredGroup × Sent). IsSeenIn p x.0 x.1) (open_sets js) (all_sent xs)
    → length (room_night.sets_to (room_setup setup guides) place p xs)
    ≡ old_layout.interchange_count p.cap (length (old.delivered_to setup place js))
interchanges_are setup guides place p js xs zip =
    let ss : List Sent = room.delivered_to (room_setup setup guides) place xs in
    length-map-range_with_len (λ m. take p.cap (drop (m * p.cap) (numbered 0 ss))) 0
    (room.interchange_count p.cap (length (numbered 0 ss)))
    ∙ ap (room.interchange_count p.cap) (length_numbered 0 ss
    ∙ AllZip-long IsSeen (old.delivered_to setup place js) ss (to_is setup guides place js xs zip))

pub groups_within_are : (R : NumberedValue → ℕ × Sent → Type 0) → ((v : NumberedValue) (x : ℕ × Sent) → R v x → IsSeen v.set x.1)
    → (vs : List (List NumberedValue)) (xs : List (List (ℕ × Sent))) → AllZip (AllZip R) vs xs
    → sum_by (λ sets. length (room.groups_of sets)) xs ≡ old_box.groups_within vs
groups_within_are R seen [] [] zip = refl
groups_within_are R seen (v ∷ vs) [] zip = absurd zip
groups_within_are R seen [] (x ∷ xs) zip = absurd zip
groups_within_are R seen (v ∷ vs) (x ∷ xs) zip =
    sum_by-cons (λ (sets : List (ℕ × Sent)). length (room.groups_of sets)) x xs
    ∙ ap (λ n. n + sum_by (λ (sets : List (ℕ × Sent)). length (room.groups_of sets)) xs)
    (AllZip-long (AllZip R) (old_numbered.groups_of v) (room.groups_of x) (groups_zip_by R seen v x zip.0))
    ∙ ap (λ n. length (old_numbered.groups_of v) + n) (groups_within_are R seen vs xs zip.1)

pub groups_are : (setup : SetupValue) (guides : List GuideTree) (place : ℕ) (p : Partner) (js : List JudgedValue) (xs : List Answered)
    → AllZip (λ p (x : AnsweredGroup × Sent). IsSeenIn p x.0 x.1) (open_sets js) (all_sent xs)
    → All IsPlain (old.delivered_to setup place js)
    → sum_by (λ sets. length (room.groups_of sets)) (room_night.sets_to (room_setup setup guides) place p xs)
    ≡ old_box.group_total p.cap (old.delivered_to setup place js)
groups_are setup guides place p js xs zip plain =
    let ps : List PlacedValue = old.delivered_to setup place js in
    let ss : List Sent = room.delivered_to (room_setup setup guides) place xs in
    groups_within_are IsNumbered (λ v x is. is.set) (old_layout.interchanges_of p.cap (old_numbered.numbered_from 0 ps))
    (room.interchanges_of p.cap (numbered 0 ss))
    (interchanges_zip IsNumbered p.cap (old_numbered.numbered_from 0 ps) (numbered 0 ss)
    (numbered_zip 0 ps ss (to_is setup guides place js xs zip) plain))

pub totals_are_one : TotalsAreOne
totals_are_one = record { report = report_is; interchanges = interchanges_are; groups = groups_are }
