-- The files that a night gives.
use Rattle.std.proofs.Common.{◌≡◌, ◌++◌, ◌∷◌, ◌∙◌, [], List, ℕ, ap, append_assoc, codes, map, sym}
use Rattle.std.proofs.lemmas.List.{map-append}
use Rattle.hub_kinds.specs.declared.counters.Counters.{Counters}
use Rattle.night_definition.specs.SetupFile.{night_files, partner_files}
use Rattle.night_equal_read.specs.Read.{seen_night}
use Rattle.night_equal_setup.specs.Laws.{CountersTextsAreOne}
use Rattle.night_equal_text.specs.LookedUp.{seen_setup}
use Rattle.night_shelf.specs.declared.night.NightFile.{NightFile}
use Rattle.night_batches.specs.declared.night.Night.{Night}
use Rattle.partner_setup.specs.CountersText.{counters_text}
use Rattle.partner_setup.specs.Setup.{SetupValue}
use Rattle.partner_setup.specs.declared.partner.Partner.{Partner}
use Rattle.hub_tonight.specs.Files.{out_file}

pub two_more : (had one both : List NightFile) (a b : NightFile) → one ≡ had ++ a ∷ [] → both ≡ one ++ b ∷ [] → both ≡ had ++ a ∷ b ∷ []
two_more had one both a b first second =
    second ∙ ap (λ (fs : List NightFile). fs ++ b ∷ []) first ∙ append_assoc had (a ∷ []) (b ∷ [])

-- the report and the counters
abbrev last : (report counters : List ℕ) → List NightFile
last report counters = out_file (codes "report.txt", report) ∷ out_file (codes "counters.toml", counters) ∷ []

pub all_files : CountersTextsAreOne → (setup : SetupValue) (night : Night) (none some all : List NightFile) (ps : List Partner)
    (acks boxes : List (List ℕ)) (next : List Counters) (counters : List ℕ)
    → none ≡ [] → some ≡ none ++ map out_file (partner_files ps acks boxes) → all ≡ some ++ last night.report counters
    → ps ≡ setup.partners → acks ≡ night.acks → boxes ≡ night.boxes → counters ≡ counters_text setup next → next ≡ night.next
    → all ≡ map out_file (night_files (seen_setup setup) (seen_night night))
all_files texts setup night none some all ps acks boxes next counters none_is some_is all_is ps_is acks_is boxes_is counters_is next_is =
    all_is
    ∙ ap (λ (fs : List NightFile). fs ++ last night.report counters)
    (some_is ∙ ap (λ (fs : List NightFile). fs ++ map out_file (partner_files ps acks boxes)) none_is)
    ∙ ap (λ (xs : List Partner). map out_file (partner_files xs acks boxes) ++ last night.report counters) ps_is
    ∙ ap (λ (xs : List (List ℕ)). map out_file (partner_files setup.partners xs boxes) ++ last night.report counters) acks_is
    ∙ ap (λ (xs : List (List ℕ)). map out_file (partner_files setup.partners night.acks xs) ++ last night.report counters) boxes_is
    ∙ ap (λ (text : List ℕ). map out_file (partner_files setup.partners night.acks night.boxes) ++ last night.report text)
    (counters_is ∙ ap (counters_text setup) next_is ∙ sym (texts setup night.next))
    ∙ sym (map-append out_file (partner_files setup.partners night.acks night.boxes) _)
