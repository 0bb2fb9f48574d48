use Rattle.check_command.proofs.Counting.{few}
use Rattle.check_command.proofs.judge.size_of.Goals as goal

pub node_count-requires : goal.node_count-requires
node_count-requires c =
    few c.args.guide.now c.rows.result.now c.deref.result.now c.rows.ensures.same c.rows.ensures.accepted c.deref.ensures.value
