use Rattle.std.proofs.Common.{ℕ, List, ◌++◌, ◌∙◌, map, ap}
use Rattle.partner_setup.specs.declared.partner.Partner.{Partner}
use Rattle.night_command.specs.Outbox.{File, file_of}
use Rattle.night_command.specs.NightFiles.{last_files, partner_files}
use Rattle.night_command.proofs.Files.{ending}
use Rattle.night_command.proofs.night_files.night_files.Goals as goal

pub returns : goal.returns
returns c =
    let partners : List Partner = c.partners.result.now in
    let acks : List (List ℕ) = c.as_slice.result.now in
    let boxes : List (List ℕ) = c.as_slice-2.result.now in
    let counters : List ℕ = c.args.counters.now in
    let end : List File = last_files c.as_slice-3.result.now counters in
    let none = ap (map file_of) c.new-files.ensures.items in
    let first = c.in_ok-append_partners.ensures in
    ending (map file_of c.new-files.result.items) (map file_of c.append_partners.new.files.items)
    (map file_of c.append_file.new.files.items) _ (partner_files partners acks boxes) _ _ none first
    c.in_ok-append_file.ensures c.in_ok-append_file-2.ensures
    ∙ ap (λ (x : List Partner). partner_files x acks boxes ++ end) c.partners.ensures.partners
    ∙ ap (λ (x : List (List ℕ)). partner_files c.args.setup.now.partners x boxes ++ end) c.as_slice.ensures
    ∙ ap (λ (x : List (List ℕ)). partner_files c.args.setup.now.partners c.args.night.now.acks x ++ end)
    c.as_slice-2.ensures
    ∙ ap (λ (x : List ℕ). partner_files c.args.setup.now.partners c.args.night.now.acks c.args.night.now.boxes ++ last_files x counters)
    c.as_slice-3.ensures
