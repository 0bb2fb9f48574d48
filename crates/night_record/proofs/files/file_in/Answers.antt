use Rattle.std.proofs.Common.{◌≡◌, ◌∙◌, ap, codes, sym, true}
use Rattle.std.proofs.lemmas.List.{append_cancel_right}
use Rattle.night_record.specs.Values.{is_name, is_sum}
use Rattle.night_record.proofs.Between.{both_is, both_of, both_quoted, cut_both, file_parts}
use Rattle.night_record.proofs.files.file_in.Goals as goal
use Rattle.night_record.proofs.files.file_in.Goals.{else-is_name-via-then-is_name+else-is_sum, else-is_name-via-else-is_name}

pub returns-in_default : goal.returns-in_default
returns-in_default c = record { file = λ file can same. c.in_default.ensures (both_of file) (same ∙ both_quoted file) }

pub returns-in_default-rest_before : goal.returns-in_default-rest_before
returns-in_default-rest_before c = record {
  file = λ file can same. (
      let both = both_is file c.args.line.now c.in-Some.both.now c.in-Some.ensures same in
      let cut = cut_both file c.in-Some.both.now can both in
      c.in_default-rest_before.ensures file.name (c.split_at.ensures.front ∙ cut.0)
      );
}

pub returns-else-is_name : goal.returns-else-is_name
returns-else-is_name c = record {
  file = λ file can same. (
      let both = both_is file c.args.line.now c.in-Some.both.now c.in-Some.ensures same in
      let cut = cut_both file c.in-Some.both.now can both in
      let parts = file_parts file can in
      let name : c.in-Some-rest_before.name.now ≡ file.name =
      append_cancel_right c.in-Some-rest_before.name.now file.name (codes "\" = \"")
      (sym c.in-Some-rest_before.ensures ∙ c.split_at.ensures.front ∙ cut.0) in
      let named : is_name c.in-Some-rest_before.name.now ≡ true = ap is_name name ∙ parts.0 in
      let summed : is_sum c.split_at.result.1.now ≡ true = ap is_sum (c.split_at.ensures.back ∙ cut.1) ∙ parts.1 in
      elim c.else-is_name.branch [
        | else-is_name-via-then-is_name+else-is_sum w ↦ (let no = w.if-is_sum.false in let is = w.is_sum.ensures in cc)
        | else-is_name-via-else-is_name w ↦ (let no = w.if-is_name.false in cc)
      ]
      );
}
