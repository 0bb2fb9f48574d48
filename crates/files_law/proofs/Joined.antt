-- The rows of a night name what each partner finds in its mailbox.
use Rattle.std.proofs.Common.{◌≡◌, ◌≤◌, ℕ, ◌+◌, Bool, true, false, cond, ◌&&◌, List, [], ◌∷◌, ◌++◌, Option, Some, None}
use Rattle.std.proofs.Common.{length, map, refl, sym, ap, ◌∙◌, arith}
use Rattle.std.specs.Prelude.{count_by, slice_get}
use Rattle.std.proofs.Math.Nat.{zero-mul}
use Rattle.std.proofs.lemmas.List.Sums.{sum_by-cons}
use Rattle.moment.specs.Moment.{IsMoment}
use Rattle.count_numbers.specs.Layout.{interchanges_of}
use Rattle.count_numbers.proofs.ForAbove.{no_interchange}
use Rattle.partner_setup.specs.declared.partner.Partner.{Partner}
use Rattle.partner_setup.specs.Setup.{SetupValue}
use Rattle.partner_setup.specs.Sound.{IsSoundPartner, IsSoundSetup}
use Rattle.answered_sets.specs.Judged.{PlacedValue, all_sets}
use Rattle.mailbox.specs.Mailbox.{group_total, groups_within}
use Rattle.mailbox.specs.Numbered.{NumberedValue, numbered_from}
use Rattle.set_answers.specs.CheckedText.{CheckedInterchange, acknowledged_to, is_acknowledged_to, is_partner}
use Rattle.set_answers.specs.CheckedText.{acknowledgment_of, recipient_of}
use Rattle.set_answers.specs.CheckedText as checked
use Rattle.set_answers.specs.Acknowledgments.{has_reports}
use Rattle.night_batches.specs.declared.night.Night.{Night}
use Rattle.night_batches.specs.Night.{IsNight, box_of, judgements, sets_to}
use Rattle.night_law.proofs.ForAbove.{at_index, chunks_all, known_once, numbered_all, pairs_weaker_at}
use Rattle.files_law.proofs.Placed.{IsSent, sets_sent, sources_known}
use Rattle.set_documents.specs.Documents.{DocumentValue}
use Rattle.track_table.specs.declared.notes.Notes.{Notes}
use Rattle.track_table.specs.Noted.{notes_of}
use Rattle.track_table.specs.Mailed.{acknowledgments_to, groups_to, is_to, mailed_behind}
use Rattle.track_table.specs.Rows.{TrackedBy, rows_from, track_text}
use Rattle.track_table.specs.Track.{IsTrack, tracked_by}
use Rattle.track_table.specs.declared.track.Track.{Track}
use Rattle.files_law.specs.Entries.{Row, entries_from}
use Rattle.files_law.specs.Found.{found_in, numbers_of}
use Rattle.files_law.specs.Named.{Delivery, IsNamedBy, NamesWhatIsFound, deliveries_to}
use Rattle.files_law.proofs.Deliveries.{delivered_alone, of_all, sets_told, told_from}
use Rattle.files_law.proofs.BoxNumbers.{box_found}
use Rattle.files_law.proofs.LaidOut.{in_interchanges, laid_out, numbers_from}
use Rattle.files_law.proofs.TableRows.{all_are, noted_length}
use Rattle.files_law.proofs.Told.{numbers_told}

-- who is acknowledged to
same_place : (place : ℕ) (recipient : Option ℕ) → is_to place recipient ≡ is_partner place recipient
same_place place None = refl
same_place place (Some r) = refl

count_more : {A : Type 0} (p : A → Bool) (x : A) (xs : List A) → count_by p (x ∷ xs) ≡ cond (p x) 1 0 + count_by p xs
count_more {A} p x xs = sum_by-cons (λ (y : A). cond (p y) 1 0) x xs

acknowledged : (place : ℕ) (known : List CheckedInterchange)
    → acknowledgments_to place (map notes_of known) ≡ length (acknowledged_to place known)
acknowledged place [] = refl
acknowledged place (x ∷ xs) =
    count_more (λ (n : Notes). is_to place n.recipient) (notes_of x) (map notes_of xs)
    ∙ ap (λ (n : ℕ). cond (is_to place (recipient_of x)) 1 0 + n) (acknowledged place xs)
    ∙ ap (λ (b : Bool). cond b 1 0 + length (acknowledged_to place xs)) (same_place place (recipient_of x))
    ∙ by (is_acknowledged_to place x)
  where
    by : (b : Bool) → cond b 1 0 + length (acknowledged_to place xs)
        ≡ length (cond b (x ∷ acknowledged_to place xs) (acknowledged_to place xs))
    by true = omega arith
    by false = omega arith

grouped : (place : ℕ) (known : List CheckedInterchange)
    → groups_to place (map notes_of known) ≡ checked.groups_to (acknowledged_to place known)
grouped place [] = refl
grouped place (x ∷ xs) =
    count_more (λ (n : Notes). is_to place n.recipient && n.has_reports) (notes_of x) (map notes_of xs)
    ∙ ap (λ (n : ℕ). cond (is_to place (recipient_of x) && has_reports (acknowledgment_of x)) 1 0 + n) (grouped place xs)
    ∙ ap (λ (b : Bool). cond (b && has_reports (acknowledgment_of x)) 1 0 + checked.groups_to (acknowledged_to place xs))
    (same_place place (recipient_of x))
    ∙ by (is_acknowledged_to place x) (has_reports (acknowledgment_of x)) refl
  where
    by : (b c : Bool) → has_reports (acknowledgment_of x) ≡ c
        → cond (b && c) 1 0 + checked.groups_to (acknowledged_to place xs)
        ≡ checked.groups_to (cond b (x ∷ acknowledged_to place xs) (acknowledged_to place xs))
    by true c is = ap (λ (d : Bool). cond d 1 0 + checked.groups_to (acknowledged_to place xs)) (sym is)
    by false c is = omega arith

module _ (by : TrackedBy) (sound : IsSoundSetup by.setup) (place : ℕ) (partner : Partner)
    (at_place : slice_get by.setup.partners place ≡ Some partner) where
  told_numbers : (done ps : List PlacedValue)
      → map (λ (d : Delivery). d.numbers) (told_from by sound place partner at_place done ps)
      ≡ numbers_from partner (acknowledgments_to place by.night) (groups_to place by.night) done ps
  told_numbers done [] = refl
  told_numbers done (p ∷ ps) =
      ap (λ (ns : List (List (List ℕ))).
      numbers_told (mailed_behind partner (acknowledgments_to place by.night) (groups_to place by.night) done p) ∷ ns)
      (told_numbers (done ++ p ∷ []) ps)

  -- as its interchanges and groups have them
  told_laid_out : 1 ≤ partner.cap → (ps : List PlacedValue)
      → numbers_from partner (acknowledgments_to place by.night) (groups_to place by.night) [] ps
      ≡ in_interchanges partner (acknowledgments_to place by.night) (groups_to place by.night) (acknowledgments_to place by.night)
      (groups_to place by.night) (interchanges_of partner.cap (numbered_from 0 ps))
  told_laid_out least ps =
      let a : ℕ = acknowledgments_to place by.night in
      let g : ℕ = groups_to place by.night in
      let chunks = interchanges_of partner.cap (numbered_from 0 ps) in
      let none : group_total partner.cap [] ≡ 0 = ap groups_within (no_interchange partner.cap [] refl) in
      let first : a + 0 ≡ a = omega arith in
      let last : g + group_total partner.cap [] ≡ g = ap (λ (n : ℕ). g + n) none ∙ omega arith in
      sym (ap (λ (n : ℕ). in_interchanges partner a g n g chunks) (sym first)
      ∙ ap (λ (n : ℕ). in_interchanges partner a g (a + 0) n chunks) (sym last)
      ∙ laid_out partner a g least (length ps) 0 [] ps (omega arith) (sym (zero-mul partner.cap)))

pub named_by_night : (text : List ℕ) (setup : SetupValue) (at : List ℕ) (documents : List DocumentValue) (track : Track) (night : Night)
    → IsSoundSetup setup → IsMoment at → IsNight text setup at night → IsTrack text setup documents track
    → NamesWhatIsFound text setup track night.boxes
named_by_night text setup at documents track night sound moment is was =
    let sources = sources_known text setup is.known is.outside is.is_known in
    let same = known_once text setup is.known was.known is.outside was.outside is.is_known was.is_known in
    let by : TrackedBy = tracked_by setup documents is.known in
    let xs = judgements text is.known in
    let rows : List Row = rows_from by 1 [] xs by.night in
    let so_many = noted_length text is.known in
    record {
      known = is.known;
      outside = is.outside;
      is_known = is.is_known;
      rows = rows;
      table = was.table
          ∙ ap (λ (k : List CheckedInterchange). track_text (tracked_by setup documents k) (judgements text k)) (sym same.0);
      are = all_are by sound 1 [] xs by.night so_many;
      each = pairs_weaker_at (λ place partner box. box ≡ box_of text setup at is.known place partner)
          (λ place partner box. IsNamedBy rows (entries_from setup 1 xs) place partner (sets_to text setup is.known place) box)
          setup.partners night.boxes (λ place partner box at_place same_box.
          let own = at_index (IsSoundPartner (length setup.guides)) setup.partners place partner at_place sound.partners in
          let sets : List PlacedValue = sets_to text setup is.known place in
          let sent = sets_sent text setup is.known sound sources place partner at_place in
          let chunked = chunks_all (λ (x : NumberedValue). IsSent partner.delims setup x.set) partner.cap (numbered_from 0 sets)
          (numbered_all (IsSent partner.delims setup) 0 sets sent) in
          let a : ℕ = length (acknowledged_to place is.known) in
          let g : ℕ = checked.groups_to (acknowledged_to place is.known) in
          let told : deliveries_to place rows (entries_from setup 1 xs) ≡ told_from by sound place partner at_place [] sets =
          of_all by sound place partner at_place 1 [] xs by.night so_many
          ∙ delivered_alone by sound place partner at_place [] (all_sets xs) in
          let chunks = interchanges_of partner.cap (numbered_from 0 sets) in
          record {
            sets = ap (map (λ (d : Delivery). d.set)) told ∙ sets_told by sound place partner at_place [] sets;
            numbers = ap (map (λ (d : Delivery). d.numbers)) told ∙ told_numbers by sound place partner at_place [] sets
                ∙ told_laid_out by sound place partner at_place own.cap_least sets
                ∙ ap (λ (n : ℕ). in_interchanges partner n (groups_to place by.night) n (groups_to place by.night) chunks)
                (acknowledged place is.known)
                ∙ ap (λ (n : ℕ). in_interchanges partner a n a n chunks) (grouped place is.known)
                ∙ sym (ap (λ (b : List ℕ). map numbers_of (found_in partner.delims b)) same_box
                ∙ box_found setup partner (length setup.guides) sound.hub own at moment a g sets chunked);
          }) is.is.boxes;
    }
