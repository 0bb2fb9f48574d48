use Rattle.std.proofs.Common.{[], ◌∷◌, ◌++◌, codes, rules}
use Rattle.night_record.specs.Record.{before_text, number_line, text_line}
use Rattle.night_record.proofs.Appended.{four}
use Rattle.night_record.proofs.write.append_next.Goals as goal

pub returns : goal.returns
returns c =
    let night = c.args.night.now in
    four c.args.out.now.items c.append_before.new.out.items c.append_number.new.out.items c.append_text.new.out.items
    c.append_text-2.new.out.items (text_line (codes "before") (before_text night.before) ++ 10 ∷ [])
    (number_line (codes "status") night.status ++ 10 ∷ []) (text_line (codes "release") night.release ++ 10 ∷ [])
    (text_line (codes "clock") night.clock ++ 10 ∷ []) (search rules) (search rules) (search rules) (search rules)
