use Rattle.record_review.proofs.Reviewing.{both_ok}
use Rattle.record_review.proofs.review.review_records.Goals as goal

pub returns-clause-reviewed : goal.returns-clause-reviewed
returns-clause-reviewed g c =
    both_ok c.reviewed.result _ _ _
    (λ report text clean. record {
      first = c.in_ok-first.first.items;
      first_by = c.in_ok-first.ensures;
      reads = c.in_ok-reads.reads.items;
      read_by = c.in_ok-reads.ensures;
      text_is = text;
      clean = clean;
    })
    c.reviewed.ensures.text c.reviewed.ensures.clean
