use Rattle.track_follows.proofs.Tracks.{tracks}
use Rattle.track_follows.proofs.laws.tables_are_tracks.Goals as goal

pub returns : goal.returns
returns c =
    tracks (record {
      known = record {
        keeps = c.interchanges_are_kept.ensures;
        settle = c.nights_are_settled.ensures;
        parts = c.sets_are_parts.ensures;
        follow = c.answers_follow.ensures;
        checks = c.checks_are_one.ensures;
        answers = c.answers_are_one.ensures;
      };
      indexes = c.texts_are_indexes.ensures;
      texts = c.texts_are_one.ensures;
      writ = c.codes_are_one.ensures;
      answers = c.answers_are_one.ensures;
      deliveries = c.deliveries_are_one.ensures;
      totals = c.totals_are_one.ensures;
    }) c.each_text_has_a_night.ensures
