-- The outcome of a set is shown alike for each receiver.
use Rattle.std.proofs.Common.{◌≡◌, ℕ, suc, ◌+◌, ◌-◌, ◌/◌, List, [], ◌∷◌, ◌++◌, map, Bool, true, false, not, Option, Some, None}
use Rattle.std.proofs.Common.{length, refl, sym, ap, ◌∙◌, subst, arith}
use Rattle.std.proofs.Math.Path.{fun_ext}
use Rattle.std.proofs.lemmas.Slice.Zip.{AllZip-long}
use Rattle.std.specs.Prelude.{if◌then◌else◌, codes, decimal, filter, slice_get}
use Rattle.std.specs.Option.{option_map_or}
use Rattle.std.specs.List.{AllZip}
use Rattle.guide_tree.specs.View.{guide_of}
use Rattle.guide_tree.specs.Tree.{GuideTree}
use Rattle.hub_kinds.specs.declared.set_codes.Verdict.{Verdict}
use Rattle.partner_setup.specs.declared.partner.Partner.{Partner}
use Rattle.partner_setup.specs.Setup.{SetupValue}
use Rattle.count_numbers.specs.Num as old_num
use Rattle.x12_write.specs.Number as old_number
use Rattle.answered_sets.specs.Judged.{PlacedValue, is_fa}
use Rattle.mailbox.specs.Deliveries as old_deliveries
use Rattle.mailbox.specs.Mailbox.{group_total}
use Rattle.set_answers.specs.CheckedText.{CheckedInterchange}
use Rattle.set_documents.specs.Documents.{DocumentValue}
use Rattle.track_table.specs.Noted.{notes_of}
use Rattle.track_table.specs.Track.{tracked_by}
use Rattle.track_table.specs.Cells as old_cells
use Rattle.track_table.specs.Mailed as old_mailed
use Rattle.track_table.specs.Rows as old
use Rattle.track_table.specs.Hindrance as old_hindrance
use Rattle.night_definition.specs.Setup.{Setup}
use Rattle.night_definition.specs.Answers.{AnsweredGroup, Answered}
use Rattle.night_definition.specs.Acknowledgments as room_acks
use Rattle.night_definition.specs.Written as room_written
use Rattle.night_definition.specs.Deliveries as room_deliveries
use Rattle.night_definition.specs.Deliveries.{Sent, delivered, held_for_delimiter, held_for_route}
use Rattle.night_definition.specs.Night.{groups_in}
use Rattle.night_equal_text.specs.LookedUp.{seen_setup}
use Rattle.night_equal_writing.specs.Answers.{AnswersAreOne, IsAnswered}
use Rattle.night_equal_writing.specs.Deliveries.{DeliveriesAreOne, IsSeen, IsSeenIn, now}
use Rattle.night_equal_writing.specs.Texts.{TextsAreOne}
use Rattle.night_equal_writing.proofs.ForAbove.{deliverable_is}
use Rattle.track_definition.specs.Columns.{plain_end}
use Rattle.track_definition.specs.Cells as room_cells
use Rattle.track_definition.specs.Hindrance as room_hindrance
use Rattle.track_definition.specs.Rows as room
use Rattle.track_definition.specs.Rows.{Placed}
use Rattle.track_equal.proofs.Hindrances.{cells_are, hindrance_is, seen}
use Rattle.track_equal.proofs.Mailed.{Seen, ack_groups_are, acks_are, delivered_are, groups_are, is_open}

map_map : {A B C : Type 0} (f : B → C) (g : A → B) (xs : List A) → map f (map g xs) ≡ map (λ x. f (g x)) xs
map_map f g [] = refl
map_map f g (x ∷ xs) = ap (λ ys. f (g x) ∷ ys) (map_map f g xs)

pub append_zip : {A B : Type 0} (R : A → B → Type 0) (ls ns : List A) (ms os : List B) → AllZip R ls ms → AllZip R ns os
    → AllZip R (ls ++ ns) (ms ++ os)
append_zip R [] ns [] os zip more = more
append_zip R [] ns (b ∷ ms) os zip more = absurd zip
append_zip R (a ∷ ls) ns [] os zip more = absurd zip
append_zip R (a ∷ ls) ns (b ∷ ms) os zip more = (zip.0, append_zip R ls ns ms os zip.1 more)

-- what is known of a night: its answers, by the layers and by the definition
pub record IsKnownNight (setup : SetupValue) (cs : List CheckedInterchange) (xs : List Answered) : Type 0 where
  pub writes : AnswersAreOne
  pub delivers : DeliveriesAreOne
  pub texts : TextsAreOne
  pub answered : AllZip IsAnswered cs xs

module _ (setup : SetupValue) (documents : List DocumentValue) (cs : List CheckedInterchange) (xs : List Answered)
    (known : IsKnownNight setup cs xs) where
  abbrev by : old.TrackedBy
  by = tracked_by setup documents cs

  abbrev there : Setup
  there = seen_setup setup

  -- of a set that is seen after these
  module _ (before : List PlacedValue) (placed : List Placed) (zip : AllZip Seen (filter is_open before) placed)
      (p : PlacedValue) (g : AnsweredGroup) (s : Sent) (is : IsSeenIn p g s) where
    -- delivered to the partner at a place
    module _ (place : ℕ) (partner : Partner) where
      abbrev earlier : List PlacedValue
      earlier = old.delivered_of setup place before

      abbrev earlier_sent : List Sent
      earlier_sent = room.delivered_of there place placed

      earlier_seen : AllZip IsSeen earlier earlier_sent
      earlier_seen = delivered_are setup place before placed zip

      abbrev acks : ℕ
      acks = old_mailed.acknowledgments_to place (map notes_of cs)

      abbrev groups : ℕ
      groups = old_mailed.groups_to place (map notes_of cs)

      abbrev room_acks_to : List Answered
      room_acks_to = room_acks.acknowledged_to place xs

      count : length earlier ≡ length earlier_sent
      count = sym (AllZip-long IsSeen earlier earlier_sent earlier_seen)

      interchange_is : old_num.num partner.counters.interchange (acks + length earlier / partner.cap)
          ≡ room_acks.num partner.counters.interchange (length room_acks_to + length earlier_sent / partner.cap)
      interchange_is =
          ap (λ n. old_num.num partner.counters.interchange (n + length earlier / partner.cap))
          (acks_are known.writes setup cs xs known.answered place partner)
          ∙ ap (λ n. old_num.num partner.counters.interchange (length room_acks_to + n / partner.cap)) count
          ∙ sym (known.texts.num partner.counters.interchange (length room_acks_to + length earlier_sent / partner.cap))

      group_is : old_num.num partner.counters.group (groups + (group_total partner.cap (earlier ++ p ∷ []) - 1))
          ≡ room_acks.num partner.counters.group
          (groups_in room_acks_to + (room_cells.group_count partner.cap (earlier_sent ++ s ∷ []) - 1))
      group_is =
          let made : group_total partner.cap (earlier ++ p ∷ [])
          ≡ room_cells.group_count partner.cap (earlier_sent ++ s ∷ []) =
          groups_are partner.cap (earlier ++ p ∷ []) (earlier_sent ++ s ∷ [])
          (append_zip IsSeen earlier (p ∷ []) earlier_sent (s ∷ []) earlier_seen (is.set, tt)) in
          ap (λ n. old_num.num partner.counters.group (n + (group_total partner.cap (earlier ++ p ∷ []) - 1)))
          (ack_groups_are known.writes setup cs xs known.answered place partner)
          ∙ ap (λ n. old_num.num partner.counters.group (groups_in room_acks_to + (n - 1))) made
          ∙ sym (known.texts.num partner.counters.group
          (groups_in room_acks_to + (room_cells.group_count partner.cap (earlier_sent ++ s ∷ []) - 1)))

      set_is : old_num.num partner.counters.set (length earlier) ≡ room_acks.num partner.counters.set (length earlier_sent)
      set_is =
          ap (old_num.num partner.counters.set) count ∙ sym (known.texts.num partner.counters.set (length earlier_sent))

      abbrev first : ℕ
      first = room_acks.num partner.counters.interchange (length room_acks_to + length earlier_sent / partner.cap)

      abbrev second : ℕ
      second = room_acks.num partner.counters.group
          (groups_in room_acks_to + (room_cells.group_count partner.cap (earlier_sent ++ s ∷ []) - 1))

      abbrev third : ℕ
      third = room_acks.num partner.counters.set (length earlier_sent)

      abbrev old_second : ℕ
      old_second = old_num.num partner.counters.group (groups + (group_total partner.cap (earlier ++ p ∷ []) - 1))

      abbrev old_third : ℕ
      old_third = old_num.num partner.counters.set (length earlier)

      abbrev fields : (interchange set : List ℕ) → (group : ℕ) → List (List ℕ)
      fields interchange set group =
          codes "delivered" ∷ [] ∷ [] ∷ partner.name ∷ interchange ∷ decimal group ∷ set ∷ []

      pub delivered_is : old.delivered_cells by before p place (Some partner)
          ≡ room_cells.delivered_cells xs place partner earlier_sent s
      delivered_is =
          ap (λ n. fields (old_number.padded_number 9 n) (old_number.set_number old_third) old_second) interchange_is
          ∙ ap (λ n. fields (old_number.padded_number 9 first) (old_number.set_number old_third) n) group_is
          ∙ ap (λ n. fields (old_number.padded_number 9 first) (old_number.set_number n) second) set_is
          ∙ ap (λ t. fields t (old_number.set_number third) second) (sym (known.texts.number 9 first))
          ∙ ap (λ t. fields (room_written.padded_number 9 first) t second) (sym (known.texts.number 4 third))

    outcome_is : (o : room_deliveries.Outcome) → old.outcome_cells by before p (now o) ≡ room.outcome_cells there documents xs placed s o
    outcome_is (delivered to) = at_place (slice_get setup.partners to)
      where
        at_place : (o : Option Partner) → old.delivered_cells by before p to o
            ≡ option_map_or (λ (q : Partner). room_cells.delivered_cells xs to q (room.delivered_of there to placed) s) o (plain_end [])
        at_place None = refl
        at_place (Some partner) = delivered_is to partner
    outcome_is (held_for_delimiter to) = at_place (slice_get setup.partners to)
      where
        at_place : (o : Option Partner) → old.held_cells setup p to o
            ≡ option_map_or (λ (q : Partner). room_cells.held_cells q.name (room_hindrance.hindrance_to q.delims s)) o (plain_end [])
        at_place None = refl
        at_place (Some partner) =
            ap (λ (fields : List (List ℕ)). codes "held delimiter" ∷ (fields ++ partner.name ∷ [] ∷ [] ∷ [] ∷ []))
            (cells_are (old_hindrance.hindrance_to partner.delims p))
            ∙ ap (room_cells.held_cells partner.name) (hindrance_is partner.delims p s is.set)
    outcome_is held_for_route = refl

    outcomes_are : map (old.outcome_cells by before p) (old_deliveries.outcomes setup p)
        ≡ map (room.outcome_cells there documents xs placed s) (room_deliveries.outcomes there g s)
    outcomes_are =
        let os : List room_deliveries.Outcome = room_deliveries.outcomes there g s in
        ap (map (old.outcome_cells by before p)) (sym (known.delivers.outcomes setup (map guide_of setup.guides) p g s is))
        ∙ map_map (old.outcome_cells by before p) now os
        ∙ ap (λ (h : room_deliveries.Outcome → List (List ℕ)). map h os) (fun_ext outcome_is)

    other_is : old.other_end p ≡ plain_end (if g.is_fa then codes "listed" else codes "rejected")
    other_is = by_kind (is_fa p.group) g.is_fa is.fa
      where
        by_kind : (t u : Bool) → u ≡ t
            → (if t then plain_end (codes "listed") else plain_end (codes "rejected"))
            ≡ plain_end (if u then codes "listed" else codes "rejected")
        by_kind true true e = refl
        by_kind false false e = refl
        by_kind true false e = cc
        by_kind false true e = cc

    pub ends_are : old.ends_of by before p ≡ room.ends_of there documents xs placed g s
    ends_are =
        ap (λ (t : Bool). if t then map (old.outcome_cells by before p) (old_deliveries.outcomes setup p) else old.other_end p ∷ [])
        (sym (deliverable_is p g s is))
        ∙ ap (λ (ends : List (List (List ℕ))). if room_deliveries.is_deliverable g s.answer then ends else old.other_end p ∷ [])
        outcomes_are
        ∙ ap (λ (end : List (List ℕ)). if room_deliveries.is_deliverable g s.answer
        then map (room.outcome_cells there documents xs placed s) (room_deliveries.outcomes there g s) else end ∷ []) other_is
