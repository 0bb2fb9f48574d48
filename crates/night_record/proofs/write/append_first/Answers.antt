use Rattle.std.proofs.Common.{[], ◌∷◌, ◌++◌, codes, rules}
use Rattle.night_record.specs.Record.{number_line, text_line}
use Rattle.night_record.proofs.Appended.{four}
use Rattle.night_record.proofs.write.append_first.Goals as goal

pub returns : goal.returns
returns c =
    let night = c.args.night.now in
    four c.args.out.now.items c.extend_from_slice.new.self.items c.append_number.new.out.items c.append_text.new.out.items
    c.append_text-2.new.out.items (codes "version = 1\n") (number_line (codes "number") night.number ++ 10 ∷ [])
    (text_line (codes "name") night.name ++ 10 ∷ []) (text_line (codes "moment") night.moment ++ 10 ∷ [])
    c.in_ok-extend_from_slice.ensures.items (search rules) (search rules) (search rules)
