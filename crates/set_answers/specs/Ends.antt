-- X12.6, functional group header and trailer: what is asked of both ends of a group. Private.
use Rattle.std.specs.Prelude.{option_map}
use Rattle.env_index.specs.Words.{GroupEntry, group_elements}
use Rattle.set_answers.specs.declared.ends.GroupEnds.{GroupEnds}
use Rattle.set_answers.specs.Answers.{trailer_of}

abbrev pub ends_of : GroupEntry → GroupEnds
ends_of group = record { header = group_elements group.header; trailer = option_map trailer_of group.trailer }
