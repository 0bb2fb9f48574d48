use Rattle.night_folder.proofs.files.read_made_of.Goals as goal

pub returns : goal.returns
returns g c =
    record {
      setup = c.in_ok-read_paper.ensures;
      counters = c.in_ok-read_paper-2.ensures;
      input = c.in_ok-read_paper-3.ensures;
      input_sum = c.in_ok-read_paper-4.ensures;
      again = c.in_ok-read_paper-5.ensures;
    }
