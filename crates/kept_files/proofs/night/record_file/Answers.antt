use Rattle.std.proofs.Common.{◌≡◌, ◌∙◌, List, ap, codes, map}
use Rattle.night_shelf.specs.declared.night.NightFile.{NightFile}
use Rattle.kept_files.specs.Files.{IsRecordFault, file}
use Rattle.kept_files.specs.Sums.{sum_of}
use Rattle.kept_files.proofs.Drafts.{fault_of, handed_on, record_of}
use Rattle.kept_files.proofs.night.record_file.Goals as goal

pub returns-in_err-text-clause-refused : goal.returns-in_err-text-clause-refused
returns-in_err-text-clause-refused c =
    let heading = c.args.heading.now in
    let night = c.in_ok-night.night in
    let e = c.in_err-text.field-0.0 in
    handed_on c.from_residual-in_err-text.result e (λ fault. (made given : List NightFile) → c.args.made.items ≡ map sum_of made
    → c.args.gave.items ≡ map sum_of given → IsRecordFault heading made given fault) c.from_residual-in_err-text.ensures.1
    (λ made given made_are given_are. fault_of heading made given night (c.in_ok-night.ensures made given made_are given_are) e
    c.in_err-text.ensures.refused)

pub returns-clause-file : goal.returns-clause-file
returns-clause-file c = λ made given made_are given_are.
    let night = c.in_ok-night.night in
    let is = c.in_ok-text.ensures.text_is in
    record {
      night = night;
      record_is = record_of c.args.heading.now made given night (c.in_ok-night.ensures made given made_are given_are) is.can_be;
      file_is = c.in_ok-file_of.ensures ∙ ap (file (codes "night.toml")) is.text;
    }
