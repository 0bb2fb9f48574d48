-- Two guides of which the differences, the text and the test of the differences are known.
use Rattle.std.proofs.Common.{◌≡◌, ◌∙◌, ℕ, List, Bool, ap, sym, true}
use Rattle.std.specs.Prelude.{◌↔◌}
use Rattle.std.specs.List.{list_all}
use Rattle.guide_tree.specs.declared.rows.GuideRows.{GuideRows}
use Rattle.guide_tree.specs.Words.{IsAccepted, guide_of}
use Rattle.guide_widening.specs.Changes.{is_widening}
use Rattle.guide_widening.specs.Differences.{differences}
use Rattle.guide_widening.specs.Wider.{is_wider}
use Rattle.guide_widening.specs.declared.difference.Difference.{Difference}
use Rattle.widening_law.specs.Law.{WiderGuidesTakeEachSet}
use Rattle.diff_lines.specs.Lines.{diff_text}
use Rattle.diff_report.specs.Compared.{IsCompared}

pub compared_by : (old new : GuideRows) (found : List Difference) (text : List ℕ) (status : ℕ) (widened : Bool)
    → WiderGuidesTakeEachSet → IsAccepted old → IsAccepted new → found ≡ differences (guide_of old) (guide_of new)
    → list_all is_widening found ≡ is_wider (guide_of old) (guide_of new)
    → widened ≡ list_all is_widening found → ((status ≡ 0) ↔ (widened ≡ true)) → text ≡ diff_text (guide_of old) (guide_of new)
    → IsCompared old new text status
compared_by old new found text status widened law is_old is_new are wide test zero lines = record {
  lines = lines;
  widened = (
    λ z. ap (list_all is_widening) (sym are) ∙ sym test ∙ zero.0 z,
    λ h. zero.1 (test ∙ ap (list_all is_widening) are ∙ h),
  );
  takes_more = λ z d set. law old new d set is_old is_new (sym wide ∙ sym test ∙ zero.0 z);
}
