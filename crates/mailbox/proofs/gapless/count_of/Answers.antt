use Rattle.std.proofs.Common.{ap, length, ◌∙◌}
use Rattle.memchr.proofs.lemmas.CallerLemmas.{length-places}
use Rattle.memchr.specs.Find.{is_byte}
use Rattle.mailbox.proofs.gapless.count_of.Goals as goal

pub returns : goal.returns
returns c = c.count.ensures ∙ ap length c.memchr_iter.ensures.value ∙ length-places (is_byte c.args.terminator) c.args.text.now
