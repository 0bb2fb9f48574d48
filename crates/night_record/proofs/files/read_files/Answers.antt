use Rattle.std.proofs.Common.{◌≡◌, ◌∙◌, List, ap, map, refl, sym, true}
use Rattle.std.specs.List.{list_all}
use Rattle.std.proofs.lemmas.Bool.{and_parts}
use Rattle.night_record.specs.Record.{is_file}
use Rattle.night_record.specs.Values.{are_rising}
use Rattle.night_record.specs.declared.record.SummedFile.{SummedFile}
use Rattle.night_record.proofs.Listed.{files_once}
use Rattle.night_record.proofs.files.read_files.Goals as goal

pub returns-else-are_rising-clause-refused : goal.returns-else-are_rising-clause-refused
returns-else-are_rising-clause-refused c = (
  refl,
  λ files are. (
      let read : List SummedFile = c.in-Some.files.items in
      let some = rw c.in-Some.is at c.in_ok-files.ensures.files in
      let parts = and_parts (list_all is_file files) _ are.can_be in
      let one : read ≡ files = files_once read files some.1 parts.0 (sym some.0 ∙ are.lines_are) in
      let rise : are_rising (map (λ (file : SummedFile). file.name) read) ≡ true =
      ap (λ (l : List SummedFile). are_rising (map (λ (file : SummedFile). file.name) l)) one ∙ parts.1 in
      let no = c.if-are_rising.false in
      let is = c.are_rising.ensures in
      let lent = c.as_slice.ensures.value in
      cc
      ),
)
