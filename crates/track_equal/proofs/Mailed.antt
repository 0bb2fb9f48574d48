-- The numbers of a delivered set in its receiver's mailbox are the same.
use Rattle.std.proofs.Common.{◌≡◌, ℕ, suc, ◌+◌, ◌-◌, ◌/◌, List, [], ◌∷◌, ◌++◌, map, Bool, true, false, ◌&&◌, ◌||◌, not, Option, Some, None}
use Rattle.std.proofs.Common.{length, refl, sym, ap, ◌∙◌, subst, arith}
use Rattle.std.proofs.Math.Path.{fun_ext}
use Rattle.std.proofs.lemmas.Slice.Zip.{AllZip-long}
use Rattle.std.proofs.lemmas.List.Sums.{sum_by-cons}
use Rattle.std.specs.Prelude.{if◌then◌else◌, filter, count_by, is_some, sum_by}
use Rattle.std.specs.List.{AllZip, list_any}
use Rattle.partner_setup.specs.declared.partner.Partner.{Partner}
use Rattle.partner_setup.specs.Setup.{SetupValue}
use Rattle.guide_tree.specs.View.{guide_of}
use Rattle.guide_tree.specs.Tree.{GuideTree}
use Rattle.answered_sets.specs.Judged.{PlacedValue, is_refused}
use Rattle.mailbox.specs.Deliveries as old_deliveries
use Rattle.mailbox.specs.Mailbox.{group_total}
use Rattle.mailbox.specs.Numbered.{NumberedValue, numbered_from}
use Rattle.count_numbers.specs.Layout as layout
use Rattle.set_answers.specs.Acknowledgments.{acknowledgment_group_count, has_reports, is_there}
use Rattle.set_answers.specs.CheckedText.{CheckedInterchange, acknowledged_to, acknowledgment_of, groups_to, is_partner, recipient_by}
use Rattle.set_answers.specs.CheckedText.{recipient_of}
use Rattle.track_table.specs.Noted.{notes_of}
use Rattle.track_table.specs.declared.notes.Notes.{Notes}
use Rattle.track_table.specs.Mailed as old
use Rattle.track_table.specs.Rows as old_rows
use Rattle.night_definition.specs.Elements.{numbered}
use Rattle.night_definition.specs.Setup.{Setup}
use Rattle.night_definition.specs.Answers.{AnsweredGroup, Answered}
use Rattle.night_definition.specs.Acknowledgments as room_acks
use Rattle.night_definition.specs.Deliveries.{Sent, groups_of, interchanges_of, is_delivered_to, outcomes}
use Rattle.night_definition.specs.Night.{groups_in}
use Rattle.night_equal_text.specs.LookedUp.{seen_setup}
use Rattle.night_equal_writing.specs.Answers.{AnswersAreOne, IsAnswered}
use Rattle.night_equal_writing.specs.Deliveries.{IsSeen, IsSeenIn}
use Rattle.night_equal_writing.proofs.ForAbove.{alone_seen, filtered, goes, goes_is, groups_within_are, interchanges_zip, refused_none}
use Rattle.track_definition.specs.Cells.{group_count}
use Rattle.track_definition.specs.Rows.{Placed, delivered_of}

-- an interchange is counted by its notes as it is by its answers
to_is : (place : ℕ) (o : Option ℕ) → old.is_to place o ≡ is_partner place o
to_is place None = refl
to_is place (Some recipient) = refl

acknowledged_count : (place : ℕ) (cs : List CheckedInterchange)
    → old.acknowledgments_to place (map notes_of cs) ≡ length (acknowledged_to place cs)
acknowledged_count place [] = refl
acknowledged_count place (c ∷ cs) =
    sum_by-cons (λ (x : Notes). if old.is_to place x.recipient then 1 else 0) (notes_of c) (map notes_of cs)
    ∙ by (old.is_to place (recipient_of c)) (is_partner place (recipient_of c)) (to_is place (recipient_of c))
    (acknowledged_count place cs)
  where
    rest : ℕ
    rest = old.acknowledgments_to place (map notes_of cs)

    by : (t u : Bool) → t ≡ u → rest ≡ length (acknowledged_to place cs)
        → (if t then 1 else 0) + rest ≡ length (if u then c ∷ acknowledged_to place cs else acknowledged_to place cs)
    by true true e more = omega (arith, more)
    by false false e more = omega (arith, more)
    by true false e more = cc
    by false true e more = cc

groups_count : (place : ℕ) (cs : List CheckedInterchange)
    → old.groups_to place (map notes_of cs) ≡ groups_to (acknowledged_to place cs)
groups_count place [] = refl
groups_count place (c ∷ cs) =
    sum_by-cons (λ (x : Notes). if old.is_to place x.recipient && x.has_reports then 1 else 0) (notes_of c) (map notes_of cs)
    ∙ by (old.is_to place (recipient_of c)) (is_partner place (recipient_of c)) (to_is place (recipient_of c))
    (has_reports (acknowledgment_of c)) refl (groups_count place cs)
  where
    rest : ℕ
    rest = old.groups_to place (map notes_of cs)

    by : (t u : Bool) → t ≡ u → (r : Bool) → has_reports (acknowledgment_of c) ≡ r → rest ≡ groups_to (acknowledged_to place cs)
        → (if t && r then 1 else 0) + rest
        ≡ groups_to (if u then c ∷ acknowledged_to place cs else acknowledged_to place cs)
    by true true e true r more =
        ap (λ n. 1 + n) more ∙ sym (ap (λ b. (if b then 1 else 0) + groups_to (acknowledged_to place cs)) r)
    by true true e false r more =
        ap (λ n. 0 + n) more ∙ sym (ap (λ b. (if b then 1 else 0) + groups_to (acknowledged_to place cs)) r)
    by false false e r is more = omega (arith, more)
    by true false e r is more = cc
    by false true e r is more = cc

module _ (laws : AnswersAreOne) (setup : SetupValue) (cs : List CheckedInterchange) (xs : List Answered) (zip : AllZip IsAnswered cs xs)
    (place : ℕ) (p : Partner) where
  pub acks_are : old.acknowledgments_to place (map notes_of cs) ≡ length (room_acks.acknowledged_to place xs)
  acks_are =
      acknowledged_count place cs ∙ sym (laws.all (seen_setup setup) setup place p [] cs xs refl zip).1

  pub ack_groups_are : old.groups_to place (map notes_of cs) ≡ groups_in (room_acks.acknowledged_to place xs)
  ack_groups_are = groups_count place cs ∙ sym (laws.all (seen_setup setup) setup place p [] cs xs refl zip).2

-- the sets that a partner gets, of the first sets of a night
abbrev pub is_open : PlacedValue → Bool
is_open p = not (is_refused p.interchange)

abbrev pub Seen : PlacedValue → Placed → Type 0
Seen p x = IsSeenIn p x.0 x.1

twice : {A : Type 0} (d r : A → Bool) → ((x : A) → r x ≡ true → d x ≡ false) → (xs : List A)
    → filter d (filter (λ x. not (r x)) xs) ≡ filter d xs
twice d r none [] = refl
twice {A} d r none (x ∷ xs) = by (r x) refl (twice d r none xs)
  where
    by : (t : Bool) → r x ≡ t → filter d (filter (λ x. not (r x)) xs) ≡ filter d xs
        → filter d (if not t then x ∷ filter (λ x. not (r x)) xs else filter (λ x. not (r x)) xs)
        ≡ (if d x then x ∷ filter d xs else filter d xs)
    by true e more = more ∙ sym (ap (λ t. if t then x ∷ filter d xs else filter d xs) (none x e))
    by false e more = ap (λ (r : List A). if d x then x ∷ r else r) more

module _ (setup : SetupValue) where
  abbrev guides : List GuideTree
  guides = map guide_of setup.guides

  pub delivered_are : (place : ℕ) (before : List PlacedValue) (placed : List Placed) → AllZip Seen (filter is_open before) placed
      → AllZip IsSeen (old_rows.delivered_of setup place before) (delivered_of (seen_setup setup) place placed)
  delivered_are place before placed zip =
      let goes_to : PlacedValue → Bool = old_deliveries.is_delivered_to setup place in
      let goes_there : Placed → Bool = λ x. goes setup guides place x.0 x.1 in
      subst (λ (ps : List PlacedValue). AllZip IsSeen ps (delivered_of (seen_setup setup) place placed))
      (twice goes_to (λ (p : PlacedValue). is_refused p.interchange)
      (λ p refused. ap (list_any (old_deliveries.is_delivery_to place)) (refused_none setup p refused)) before)
      (alone_seen (filter goes_to (filter is_open before)) (filter goes_there placed)
      (filtered Seen goes_to goes_there (goes_is setup guides place) (filter is_open before) placed zip))

-- how many groups sets make
abbrev IsAt : NumberedValue → ℕ × Sent → Type 0
IsAt v x = IsSeen v.set x.1

numbered_seen : (k : ℕ) (ps : List PlacedValue) (ss : List Sent) → AllZip IsSeen ps ss → AllZip IsAt (numbered_from k ps) (numbered k ss)
numbered_seen k [] [] zip = tt
numbered_seen k (p ∷ ps) [] zip = absurd zip
numbered_seen k [] (s ∷ ss) zip = absurd zip
numbered_seen k (p ∷ ps) (s ∷ ss) zip = (zip.0, numbered_seen (k + 1) ps ss zip.1)

pub groups_are : (cap : ℕ) (ps : List PlacedValue) (ss : List Sent) → AllZip IsSeen ps ss → group_total cap ps ≡ group_count cap ss
groups_are cap ps ss zip =
    sym (groups_within_are IsAt (λ v x is. is) (layout.interchanges_of cap (numbered_from 0 ps)) (interchanges_of cap (numbered 0 ss))
    (interchanges_zip IsAt cap (numbered_from 0 ps) (numbered 0 ss) (numbered_seen 0 ps ss zip)))
