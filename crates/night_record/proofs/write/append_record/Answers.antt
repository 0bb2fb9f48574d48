use Rattle.std.proofs.Common.{List, ℕ, ◌∙◌, ◌++◌, ap, codes, drop, rules, take}
use Rattle.night_record.specs.Lines.{lines_text}
use Rattle.night_record.specs.Record.{files_lines, head_lines}
use Rattle.night_record.proofs.Appended.{four}
use Rattle.night_record.proofs.Whole.{in_pieces}
use Rattle.night_record.proofs.write.append_record.Goals as goal

pub returns : goal.returns
returns c =
    let night = c.args.night.now in
    let old : List ℕ = c.args.out.now.items in
    four old c.append_first.new.out.items c.append_next.new.out.items c.append_files.new.out.items c.append_files-2.new.out.items
    (lines_text (take 4 (head_lines night))) (lines_text (drop 4 (head_lines night)))
    (lines_text (files_lines (codes "[made_of]") night.made_of)) (lines_text (files_lines (codes "[gave]") night.gave))
    (search rules) (search rules) (search rules) (search rules)
    ∙ ap (λ (t : List ℕ). old ++ t) (in_pieces night)
