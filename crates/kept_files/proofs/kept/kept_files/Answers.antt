use Rattle.std.proofs.Common.{◌∙◌, ◌++◌, ap, map, sym}
use Rattle.std.proofs.lemmas.List.{map-append}
use Rattle.kept_files.specs.Files.{IsRecordFault, end_files, input_of, mark_files}
use Rattle.kept_files.specs.Sums.{sum_of}
use Rattle.kept_files.proofs.Drafts.{handed_on}
use Rattle.kept_files.proofs.Joined.{joined}
use Rattle.kept_files.proofs.kept.kept_files.Goals as goal

pub returns-in_err-night-clause-refused : goal.returns-in_err-night-clause-refused
returns-in_err-night-clause-refused c =
    let made = c.args.made.items in
    let out = c.args.out.items in
    let tables = c.args.tables.items in
    let made_are = c.in_ok-made_sums.ensures ∙ ap (map sum_of) c.as_slice.ensures.value in
    let out_are = c.in_ok-gave_sums.ensures ∙ ap (map sum_of) c.as_slice-2.ensures.value in
    let tables_are = c.in_ok-table_sums.ensures ∙ ap (map sum_of) c.as_slice-6.ensures.value in
    let given_are = c.in_ok-append.ensures.items ∙ ap (λ l. l ++ c.in_ok-table_sums.table_sums.items) out_are
    ∙ ap (λ l. map sum_of out ++ l) tables_are ∙ sym (map-append sum_of out tables) in
    handed_on c.from_residual-in_err-night.result c.in_err-night.field-0.0 (IsRecordFault c.args.heading.now made (out ++ tables))
    c.from_residual-in_err-night.ensures.1 (c.in_err-night.ensures.refused made (out ++ tables) made_are given_are)

pub returns-clause-files : goal.returns-clause-files
returns-clause-files c =
    let heading = c.args.heading.now in
    let made = c.args.made.items in
    let out = c.args.out.items in
    let tables = c.args.tables.items in
    let made_are = c.in_ok-made_sums.ensures ∙ ap (map sum_of) c.as_slice.ensures.value in
    let out_are = c.in_ok-gave_sums.ensures ∙ ap (map sum_of) c.as_slice-2.ensures.value in
    let tables_are = c.in_ok-table_sums.ensures ∙ ap (map sum_of) c.as_slice-6.ensures.value in
    let given_are = c.in_ok-append.ensures.items ∙ ap (λ l. l ++ c.in_ok-table_sums.table_sums.items) out_are
    ∙ ap (λ l. map sum_of out ++ l) tables_are ∙ sym (map-append sum_of out tables) in
    let sum_is = c.in_ok-input.ensures made (c.as_slice-3.ensures.value ∙ made_are) in
    let marks_are = c.in_ok-marks.ensures (input_of made) (c.as_slice-4.ensures ∙ sum_is) in
    let ends_are = c.in_ok-ends.ensures out (c.as_slice-5.ensures.value ∙ out_are) in
    record {
      last = c.in_ok-night.night;
      last_is = c.in_ok-night.ensures.file made (out ++ tables) made_are given_are;
      files_are = joined made (mark_files heading (input_of made)) out tables (end_files heading out) c.in_ok-night.night
          c.append-2.new.self.items c.append-3.new.self.items c.append-4.new.self.items c.append-5.new.self.items c.push.new.self.items
          (c.in_ok-append-2.ensures.items ∙ ap (λ l. made ++ l) marks_are) c.in_ok-append-3.ensures.items c.in_ok-append-4.ensures.items
          (c.in_ok-append-5.ensures.items ∙ ap (λ l. c.append-4.new.self.items ++ l) ends_are) c.in_ok-push.ensures.items;
    }
