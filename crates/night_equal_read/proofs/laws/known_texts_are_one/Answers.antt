use Rattle.night_equal_night.proofs.ForAbove.{known_answers, known_plain, known_seen, TextLaws}
use Rattle.night_equal_read.proofs.laws.known_texts_are_one.Goals as goal

pub returns : goal.returns
returns c text setup known outside is =
    let laws : TextLaws = record {
      keeps = c.interchanges_are_kept.ensures;
      settle = c.nights_are_settled.ensures;
      parts = c.sets_are_parts.ensures;
      follow = c.answers_follow.ensures;
      checks = c.checks_are_one.ensures;
      answers = c.answers_are_one.ensures;
    } in
    record {
      answers = known_answers laws text setup known outside is;
      sets = known_seen laws text setup known outside is;
      plain = known_plain text setup known outside is;
    }
