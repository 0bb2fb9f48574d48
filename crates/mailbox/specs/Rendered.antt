-- X12.5, interchange control, and X12.6, functional group: a partner's mailbox by the sets that were written for it, each kept as its
-- text and its key (own).
use Rattle.std.specs.Prelude.{◌≡◌, ℕ, ◌+◌, Bool, false, List, [], ◌∷◌, ◌++◌, Some, length, map, slice_get, if◌then◌else◌}
use Rattle.count_numbers.specs.Layout.{interchanges_of}
use Rattle.count_numbers.specs.Num.{num}
use Rattle.count_numbers.specs.Runs.{same_key}
use Rattle.count_numbers.specs.declared.run.RunKey.{RunKey}
use Rattle.partner_setup.specs.declared.partner.Partner.{Partner}
use Rattle.partner_setup.specs.Setup.{SetupValue}
use Rattle.partner_setup.specs.Envelopes.{envelope_to}
use Rattle.x12_write.specs.declared.group.GroupHeader.{GroupHeader}
use Rattle.x12_write.specs.Group.{group_text}
use Rattle.x12_write.specs.Header.{header_text}
use Rattle.x12_write.specs.Trailer.{trailer_text}
use Rattle.answered_sets.specs.Judged.{JudgedValue, PlacedValue}
use Rattle.mailbox.specs.Deliveries.{delivered_to}
use Rattle.mailbox.specs.Mailbox.{box_text, code_by, group_total, set_text}
use Rattle.mailbox.specs.Numbered.{group_key_of}

-- a delivered set as it was written, with its ST02, and what it has in common with the sets of its group
pub record RenderedValue : Type 0 where
  pub key : RunKey
  pub text : List ℕ

-- set number k of those that are delivered to a partner
abbrev pub rendered : Partner → (k : ℕ) → PlacedValue → RenderedValue
rendered partner k p = record { key = group_key_of p; text = set_text partner.delims p (num partner.counters.set k) }

abbrev pub rendered_from : Partner → (k : ℕ) → List PlacedValue → List RenderedValue
rendered_from partner k [] = []
rendered_from partner k (p ∷ ps) = rendered partner k p ∷ rendered_from partner (k + 1) ps

-- the groups of a delivered interchange: its maximal runs of sets with one key
abbrev pub goes_with : RenderedValue → List RenderedValue → Bool
goes_with x [] = false
goes_with x (y ∷ ys) = same_key x.key y.key

abbrev pub onto_groups : RenderedValue → List (List RenderedValue) → List (List RenderedValue)
onto_groups x [] = (x ∷ []) ∷ []
onto_groups x (group ∷ groups) = if goes_with x group then (x ∷ group) ∷ groups else (x ∷ []) ∷ group ∷ groups

abbrev pub groups_of : List RenderedValue → List (List RenderedValue)
groups_of [] = []
groups_of (x ∷ xs) = onto_groups x (groups_of xs)

-- GS by the key of a group
abbrev pub header_of : SetupValue → Partner → (g : ℕ) → RunKey → GroupHeader
header_of setup partner g key = record {
  functional_id = key.functional_id;
  sender = code_by (slice_get setup.partners key.sender);
  receiver = partner.code;
  control = g;
  version = key.version;
}

abbrev pub text_in : RenderedValue → List ℕ
text_in x = x.text

-- a group: GS by its first set, its sets, GE
abbrev pub group_of : SetupValue → Partner → (at : List ℕ) → (g : ℕ) → List RenderedValue → List ℕ
group_of setup partner at g [] = []
group_of setup partner at g (x ∷ xs) = group_text partner.delims at (header_of setup partner g x.key) (map text_in (x ∷ xs))

-- groups, the first of them as number g of those that the partner is sent
abbrev pub groups_text : SetupValue → Partner → (at : List ℕ) → (g : ℕ) → List (List RenderedValue) → List ℕ
groups_text setup partner at g [] = []
groups_text setup partner at g (group ∷ groups) =
    group_of setup partner at (num partner.counters.group g) group ++ groups_text setup partner at (g + 1) groups

-- a delivered interchange, before which the partner is sent this many groups
abbrev pub interchange_of : SetupValue → Partner → (at : List ℕ) → (number before : ℕ) → List RenderedValue → List ℕ
interchange_of setup partner at number before sets =
    header_text (envelope_to setup partner) at number
    ++ groups_text setup partner at before (groups_of sets)
    ++ trailer_text partner.delims (length (groups_of sets)) number

-- delivered interchanges, the first of them as number k of those that the partner is sent, and its groups after this many before
abbrev pub interchanges_text : SetupValue → Partner → (at : List ℕ) → (k before : ℕ) → List (List RenderedValue) → List ℕ
interchanges_text setup partner at k before [] = []
interchanges_text setup partner at k before (sets ∷ more) =
    interchange_of setup partner at (num partner.counters.interchange k) before sets
    ++ interchanges_text setup partner at (k + 1) (before + length (groups_of sets)) more

-- a partner's mailbox, after this many acknowledgments, this many of them with a group
abbrev pub box_of_rendered : SetupValue → Partner → (at : List ℕ) → (acknowledgments groups : ℕ) → List RenderedValue → List ℕ
box_of_rendered setup partner at acknowledgments groups sets =
    interchanges_text setup partner at acknowledgments groups (interchanges_of partner.cap sets)

-- how many groups it has
abbrev pub groups_in : List (List RenderedValue) → ℕ
groups_in [] = 0
groups_in (sets ∷ more) = length (groups_of sets) + groups_in more

abbrev pub groups_of_rendered : (cap : ℕ) → List RenderedValue → ℕ
groups_of_rendered cap sets = groups_in (interchanges_of cap sets)

-- a mailbox by the sets that were written for it is the mailbox of these sets, with as many groups
abbrev pub BoxesAreRendered : Type 0
BoxesAreRendered =
    (setup : SetupValue) (partner : Partner) (at : List ℕ) (acknowledgments groups : ℕ) (sets : List PlacedValue)
    → (box_text setup partner at acknowledgments groups sets
    ≡ box_of_rendered setup partner at acknowledgments groups (rendered_from partner 0 sets))
    × (group_total partner.cap sets ≡ groups_of_rendered partner.cap (rendered_from partner 0 sets))

-- for each partner the sets that are delivered to it were written after the others, and numbered on
pub record HaveRendered (setup : SetupValue) (xs : List JudgedValue) (old new : List (List RenderedValue)) : Type 0 where
  pub count : length new ≡ length old
  pub each : (place : ℕ) (partner : Partner) (sets : List RenderedValue) → slice_get setup.partners place ≡ Some partner
      → slice_get old place ≡ Some sets
      → slice_get new place ≡ Some (sets ++ rendered_from partner (length sets) (delivered_to setup place xs))
