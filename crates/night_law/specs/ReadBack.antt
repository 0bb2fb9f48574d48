-- 999 guide (005010X231), AK2 and IK5: what a partner reads in the acknowledgments of a night is, set by set, whether it meets its guide.
use Rattle.std.specs.Prelude.{◌≡◌, ◌↔◌, ℕ, List, [], ◌∷◌, ◌++◌, codes, filter}
use Rattle.std.specs.List.{flat_map}
use Rattle.x12_segs.specs.Words.{SegValue, element_of}
use Rattle.env_index.specs.Words.{IndexEntry, IndexValue, IsIndex, GroupEntry}
use Rattle.env_index.specs.declared.entry.SetEnvelope.{SetEnvelope}
use Rattle.partner_setup.specs.declared.partner.Partner.{Partner}
use Rattle.partner_setup.specs.Setup.{SetupValue}
use Rattle.answered_sets.specs.Judged.{responded_groups}
use Rattle.set_answers.specs.Answers.{SentValue}
use Rattle.set_answers.specs.CheckedText.{sent_by}
use Rattle.set_answers.specs.Pairs.{AreAllPairs}
use Rattle.set_answers.specs.Settled.{settled_entries}
use Rattle.night_law.specs.Meets.{Meets}
use Rattle.night_law.specs.Quotable.{AreQuotable}
use Rattle.night_law.specs.Responses.{Response, responses_in}
use Rattle.night_law.specs.Told.{groups_told, is_told_to, told_sets}

-- a set that was sent, with the GS of its group and the sets before it there
pub record SentSet : Type 0 where
  pub sent : SentValue
  pub gs : SegValue
  pub before : List SetEnvelope
  pub set : SetEnvelope

-- the sets of a group after these
abbrev pub sets_with_earlier : SentValue → (gs : SegValue) → (before : List SetEnvelope) → List SetEnvelope → List SentSet
sets_with_earlier sent gs before [] = []
sets_with_earlier sent gs before (set ∷ sets) =
    record { sent = sent; gs = gs; before = before; set = set } ∷ sets_with_earlier sent gs (before ++ set ∷ []) sets

-- the sets that are reported to a partner: of its interchanges that are acknowledged and not refused, in their order, the sets of the
-- groups that it has a guide for
abbrev pub sets_in_group : SentValue → GroupEntry → List SentSet
sets_in_group sent group = sets_with_earlier sent group.header [] (told_sets sent group)

abbrev pub answered_sets_in : SentValue → List GroupEntry → List SentSet
answered_sets_in sent groups = flat_map (sets_in_group sent) (responded_groups groups)

abbrev pub sets_told_to : (text : List ℕ) → SetupValue → (place : ℕ) → List IndexEntry → List SentSet
sets_told_to text setup place entries =
    flat_map (λ e. answered_sets_in (sent_by text setup place e) (groups_told e)) (filter (is_told_to setup place) entries)

-- a response to a set: its ST01 and ST02, and A exactly where it meets its guide
pub record IsResponseTo (s : SentSet) (response : Response) : Type 0 where
  pub identifier : response.identifier ≡ element_of s.set.header 1
  pub control : response.control ≡ element_of s.set.header 2
  pub accepted : response.code ≡ codes "A" ↔ Meets s.sent s.gs s.before s.set

-- a partner's acknowledgments, read by its delimiters, have a response to each of these sets in their order, and no other
abbrev pub IsRead : (text : List ℕ) → SetupValue → List IndexEntry → (place : ℕ) → Partner → (acknowledgments : List ℕ) → Type 0
IsRead text setup entries place partner acknowledgments =
    AreAllPairs (λ n s response. IsResponseTo s response) (sets_told_to text setup place entries)
    (responses_in partner.delims acknowledgments)

-- so it is where the reference numbers of its guides can be quoted
abbrev pub IsReadBack : (text : List ℕ) → SetupValue → List IndexEntry → (place : ℕ) → Partner → (acknowledgments : List ℕ) → Type 0
IsReadBack text setup entries place partner acknowledgments =
    AreQuotable text setup place partner entries → IsRead text setup entries place partner acknowledgments

-- each partner reads its own so
pub record AreReadBack (text : List ℕ) (setup : SetupValue) (acknowledgments : List (List ℕ)) : Type 0 where
  pub index : IndexValue
  pub read : IsIndex text index
  pub each : AreAllPairs
      (λ place partner told. IsReadBack text setup (settled_entries setup index.entries) place partner told)
      setup.partners acknowledgments
