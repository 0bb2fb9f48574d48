-- The night of the definition is the hub's.
use Rattle.std.proofs.Common.{◌≡◌, ◌≤◌, ◌+◌, ◌∙◌, ℕ, cond, List, [], ◌∷◌, map, Some, ap, length, refl, suc, sym}
use Rattle.std.proofs.lemmas.List.{length-map}
use Rattle.std.specs.List.{AllZip}
use Rattle.guide_toml.specs.FileBytes.{IsGuideOf}
use Rattle.guide_tree.specs.declared.rows.GuideRows.{GuideRows}
use Rattle.hub_kinds.specs.declared.limits.TheConstants.{LONGEST_TEXT}
use Rattle.hub_ledger.specs.declared.entry.NightEntry.{NightEntry}
use Rattle.night_command.specs.Outcome.{last_line}
use Rattle.night_definition.specs.Elements.{numbered}
use Rattle.night_definition.specs.Night as room
use Rattle.night_definition.specs.ReadBack as defined
use Rattle.night_definition.specs.SetupFile.{night_files}
use Rattle.night_equal_read.specs.Read.{seen_night}
use Rattle.night_equal_setup.specs.Laws.{SetupBytesAreOne}
use Rattle.night_equal_text.specs.LookedUp.{seen_setup}
use Rattle.night_equal_writing.proofs.ForAbove.{clean_is}
use Rattle.night_record.specs.declared.addresses.AddressNext.{AddressNext}
use Rattle.night_report.specs.Clean.{is_clean}
use Rattle.night_shelf.specs.declared.night.NightFile.{NightFile}
use Rattle.night_batches.specs.declared.night.Night.{Night}
use Rattle.partner_setup.specs.Setup.{SetupValue}
use Rattle.set_documents.specs.Given.{usual}
use Rattle.track_definition.specs.Rows.{table_of}
use Rattle.hub_tonight.specs.Begun.{begun_row}
use Rattle.hub_tonight.specs.Files.{AreGuides, bytes_of, next_rows, out_file}
use Rattle.hub_tonight.specs.Made.{AreForPartners, IsMade}
use Rattle.hub_tonight.specs.Tonight.{IsTonight}
use Rattle.hub_tonight.specs.declared.call.HubFiles.{HubFiles}
use Rattle.hub_tonight.specs.declared.made.Made.{Made}

numbered_long : {A : Type 0} (n : ℕ) (xs : List A) → length (numbered n xs) ≡ length xs
numbered_long n [] = refl
numbered_long n (x ∷ xs) = ap suc (numbered_long (n + 1) xs)

-- a night by the definition has its texts and counters for each partner of the setup
pub for_partners : (setup : SetupValue) (night : Night) (text at : List ℕ)
    → defined.IsNight text (seen_setup setup) at (seen_night night) → AreForPartners setup.partners night
for_partners setup night text at is = record {
  acks = ap (λ (n : room.Night). length n.acks) is.is ∙ length-map (numbered 0 setup.partners) _ ∙ numbered_long 0 setup.partners;
  boxes = ap (λ (n : room.Night). length n.boxes) is.is ∙ length-map (numbered 0 setup.partners) _ ∙ numbered_long 0 setup.partners;
  next = ap (λ (n : room.Night). length n.next) is.is ∙ length-map (numbered 0 setup.partners) _ ∙ numbered_long 0 setup.partners;
}

guides_have : (files : List NightFile) (guides : List GuideRows) → AreGuides files guides
    → AllZip (λ bytes guide. IsGuideOf (Some bytes) guide) (map bytes_of files) guides
guides_have [] [] are = tt
guides_have [] (g ∷ gs) are = absurd are
guides_have (f ∷ fs) [] are = absurd are
guides_have (f ∷ fs) (g ∷ gs) are = (are.0, guides_have fs gs are.1)

pub tonight_is : SetupBytesAreOne → (files : HubFiles) (older : List NightEntry) (first input at : List ℕ) (made : Made) (night : Night)
    → IsMade files older first made → length input ≤ LONGEST_TEXT
    → defined.IsNight input (seen_setup made.setup) at (seen_night night) → (out : List NightFile) (total track : List ℕ) (status : ℕ)
    (left : List AddressNext) → out ≡ map out_file (night_files (seen_setup made.setup) (seen_night night))
    → total ≡ last_line night.report → track ≡ table_of input (seen_setup made.setup) usual
    → status ≡ cond (is_clean night.report) 0 1 → left ≡ next_rows made.setup.partners night.next
    → IsTonight files older first input at
    (record { counters = made.counters; out = out; total = total; track = track; status = status; left = left })
tonight_is one files older first input at made night is_made few is out total track status left out_is total_is track_is status_is left_is =
    record {
      rows = is_made.rows;
      setup_is = is_made.setup_is;
      first_rows = is_made.first_rows;
      first_is = is_made.first_is;
      guides = is_made.guides;
      guides_are = is_made.guides_are;
      accepted = is_made.built.setup_by.accepted;
      begun = is_made.built.counters_are;
      given = night_files (seen_setup made.setup) (seen_night night);
      run = record {
        setup = seen_setup made.setup;
        made =
            one files.setup.now made.counters (map bytes_of files.guides.now) is_made.rows
            (map (begun_row older is_made.first_rows) is_made.rows.partners) is_made.guides
            (guides_have files.guides.now is_made.guides is_made.guides_are) is_made.setup_is is_made.built.counters_are
            is_made.built.setup_by.accepted
            ∙ ap (λ (s : SetupValue). Some (seen_setup s)) (sym is_made.built.setup_by.setup_is);
        few = few;
        night = seen_night night;
        is = is;
        written = refl;
        told = status_is ∙ ap (λ clean. cond clean 0 1) (sym (clean_is night.report));
      };
      out_is = out_is;
      total_is = total_is;
      track_is = track_is;
      left_is = left_is;
    }
