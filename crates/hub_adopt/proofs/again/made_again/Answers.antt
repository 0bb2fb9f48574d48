use Rattle.hub_adopt.proofs.again.made_again.Goals as goal

pub returns : goal.returns
returns g c = record {
  marks = c.args.marks.now;
  marks_are = c.requires.nights;
  older = c.in_ok-older.older;
  older_is = c.in_ok-older.ensures.older;
  count_is = c.in_ok-older.ensures.count;
  made_is = c.in_ok-made.ensures;
  gives = c.in_ok-check_made.ensures;
}
