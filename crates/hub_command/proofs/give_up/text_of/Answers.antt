use Rattle.std.specs.Prelude.{codes}
use Rattle.file_names.specs.Shown.{shown}
use Rattle.hub_command.specs.Lines.{ended, worded}
use Rattle.hub_command.proofs.Lists.{three}
use Rattle.hub_command.proofs.give_up.text_of.Goals as goal

pub returns : goal.returns
returns c =
    three c.new-text.result.items c.append_words.new.out.items c.append_hub.new.out.items c.append_ended.new.out.items
    (worded (codes "night ") c.args.name.now) (worded (codes " is given up: ") (shown c.args.hub.now))
    (ended (codes "/given-up/") c.args.name.now) c.new-text.ensures.items c.in_ok-append_words.ensures c.in_ok-append_hub.ensures
    c.in_ok-append_ended.ensures
