use Rattle.std.proofs.Common.{◌∙◌, List, ap, decimal, map}
use Rattle.std.specs.List.{count_by}
use Rattle.std.proofs.lemmas.Result.{IfOk-weaker}
use Rattle.csv.specs.Records.{fields_of}
use Rattle.night_page.specs.Rows.{Row}
use Rattle.night_page.specs.Totals.{is_accepted, is_counted}
use Rattle.night_page.proofs.FirstRows.{same_line}
use Rattle.night_page.proofs.totals.total_text.Goals as goal

pub returns : goal.returns
returns c =
    IfOk-weaker c.words_of.result _ _ (λ text is. is ∙ same_line _ _ _ _ _ _ _ _ _ _ _ _ _ _ c.word.ensures
    (c.as_slice-3.ensures.value ∙ c.in_ok-refused.ensures) c.word-2.ensures
    (c.as_slice-4.ensures.value ∙ c.in_ok-counted.ensures
    ∙ ap (λ (rows : List Row). decimal (count_by is_counted rows))
    (ap (map (λ row. fields_of row.now)) c.as_slice.ensures.value ∙ c.in_ok-firsts.ensures))
    (c.as_slice-5.ensures.value ∙ c.in_ok-accepted.ensures
    ∙ ap (λ (rows : List Row). decimal (count_by is_accepted rows))
    (ap (map (λ row. fields_of row.now)) c.as_slice-2.ensures.value ∙ c.in_ok-firsts.ensures))
    (c.as_slice-6.ensures.value ∙ c.in_ok-held.ensures) c.word-3.ensures) c.words_of.ensures
