use Rattle.std.proofs.Common.{◌∙◌, ap, sym}
use Rattle.night_record.specs.Record.{are_files}
use Rattle.night_record.specs.Values.{is_moment, is_name}
use Rattle.night_record.proofs.write.bad_part.Goals as goal

pub returns : goal.returns
returns c = record {
  number = sym c.is_count.ensures ∙ c.if-not-is_count.false;
  name = ap is_name (sym c.as_slice.ensures) ∙ sym c.is_name.ensures ∙ c.if-not-is_name.false;
  moment = ap is_moment (sym c.as_slice-2.ensures) ∙ sym c.is_moment.ensures ∙ c.if-not-is_moment.false;
  before = sym c.is_before.ensures ∙ c.if-not-is_before.false;
  status = sym c.is_status.ensures ∙ c.if-not-is_status.false;
  release = ap is_name (sym c.as_slice-3.ensures) ∙ sym c.is_name-2.ensures ∙ c.if-not-is_name-2.false;
  clock = ap is_moment (sym c.as_slice-4.ensures) ∙ sym c.is_moment-2.ensures ∙ c.if-not-is_moment-2.false;
  made_of = ap are_files (sym c.as_slice-5.ensures) ∙ sym c.are_files.ensures ∙ c.if-not-are_files.false;
  gave = ap are_files (sym c.as_slice-6.ensures) ∙ sym c.are_files-2.ensures ∙ c.if-not-are_files-2.false;
}
