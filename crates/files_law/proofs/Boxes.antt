-- X12.5, interchange: what each partner reads in its mailbox of a night.
use Rattle.std.proofs.Common.{◌≡◌, ℕ, ◌+◌, List, [], ◌∷◌, ◌++◌, length, refl, sym, ap, subst, ◌∙◌}
use Rattle.x12_write.specs.Group.{texts_in_row}
use Rattle.moment.specs.Moment.{IsMoment}
use Rattle.count_numbers.specs.Layout.{interchanges_of}
use Rattle.count_numbers.specs.Num.{num}
use Rattle.partner_setup.specs.declared.partner.Partner.{Partner}
use Rattle.partner_setup.specs.Setup.{SetupValue}
use Rattle.partner_setup.specs.Sound.{IsSoundPartner, IsSoundSetup}
use Rattle.answered_sets.specs.Judged.{PlacedValue}
use Rattle.mailbox.specs.Mailbox.{delivered_text, delivered_texts}
use Rattle.mailbox.specs.Numbered.{NumberedValue, groups_of, numbered_from}
use Rattle.set_answers.specs.CheckedText.{acknowledged_to, groups_to}
use Rattle.night_batches.specs.declared.night.Night.{Night}
use Rattle.night_batches.specs.Night.{IsNight, box_of, sets_to}
use Rattle.night_law.proofs.ForAbove.{at_index, pairs_weaker_at}
use Rattle.files_law.specs.Files.{HasInterchanges}
use Rattle.files_law.specs.Written.{NoInnerHeads, texts_of}
use Rattle.files_law.proofs.Interchanges.{interchanges_read}
use Rattle.files_law.proofs.Within.{within_clear}
use Rattle.files_law.specs.Mailboxes.{AreMailboxesRead, mailbox_texts, texts_for}
use Rattle.files_law.proofs.Mailboxes.{box_delivered}
use Rattle.files_law.proofs.Placed.{sets_sent, sources_known}

in_a_row : (setup : SetupValue) (partner : Partner) (at : List ℕ) (k before : ℕ) (chunks : List (List NumberedValue))
    → delivered_texts setup partner at k before chunks ≡ texts_in_row (mailbox_texts setup partner at k before chunks)
in_a_row setup partner at k before [] = refl
in_a_row setup partner at k before (sets ∷ more) =
    ap (λ (t : List ℕ). delivered_text setup partner at (num partner.counters.interchange k) before sets ++ t)
    (in_a_row setup partner at (k + 1) (before + length (groups_of sets)) more)

pub boxes_by_night : (text : List ℕ) (setup : SetupValue) (at : List ℕ) (night : Night) → IsSoundSetup setup → IsMoment at
    → IsNight text setup at night → AreMailboxesRead text setup at night.boxes
boxes_by_night text setup at night sound moment is =
    let sources = sources_known text setup is.known is.outside is.is_known in
    record {
      known = is.known;
      outside = is.outside;
      is_known = is.is_known;
      each = pairs_weaker_at (λ place partner box. box ≡ box_of text setup at is.known place partner)
          (λ place partner box. NoInnerHeads partner.delims box 0 (texts_for text setup at is.known place partner)
          → HasInterchanges (texts_for text setup at is.known place partner) box) setup.partners night.boxes
          (λ place partner box at_place same clear.
          let own = at_index (IsSoundPartner (length setup.guides)) setup.partners place partner at_place sound.partners in
          let sets : List PlacedValue = sets_to text setup is.known place in
          let texts : List (List ℕ) = texts_for text setup at is.known place partner in
          let all = box_delivered setup partner (length setup.guides) sound.hub own at moment (length (acknowledged_to place is.known))
          (groups_to (acknowledged_to place is.known)) sets
          (sets_sent text setup is.known sound sources place partner at_place) in
          let row : box ≡ texts_in_row texts =
          same ∙ in_a_row setup partner at (length (acknowledged_to place is.known)) (groups_to (acknowledged_to place is.known))
          (interchanges_of partner.cap (numbered_from 0 sets)) in
          let texts_same : texts_of all.ws ≡ texts = all.is in
          let file_same : texts_in_row (texts_of all.ws) ≡ box = ap texts_in_row texts_same ∙ sym row in
          let clear_here : NoInnerHeads partner.delims (texts_in_row (texts_of all.ws)) 0 (texts_of all.ws) =
          subst (λ (f : List ℕ). NoInnerHeads partner.delims f 0 (texts_of all.ws)) (sym file_same)
          (subst (NoInnerHeads partner.delims box 0) (sym texts_same) clear) in
          subst (λ (f : List ℕ). HasInterchanges texts f) file_same
          (subst (λ (ts : List (List ℕ)). HasInterchanges ts (texts_in_row (texts_of all.ws))) texts_same
          (interchanges_read all.ws all.written (within_clear partner.delims all.ws all.written all.same clear_here)))) is.is.boxes;
    }
