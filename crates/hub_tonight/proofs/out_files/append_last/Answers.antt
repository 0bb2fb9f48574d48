use Rattle.std.proofs.Common.{◌++◌, ◌∷◌, ◌∙◌, [], List, ℕ, ap, codes}
use Rattle.hub_tonight.specs.Files.{out_file}
use Rattle.hub_tonight.proofs.Giving.{two_more}
use Rattle.hub_tonight.proofs.out_files.append_last.Goals as goal

pub returns : goal.returns
returns c =
    let had = c.args.files.now.items in
    let counters = out_file (codes "counters.toml", c.args.counters) in
    two_more had c.append_file.new.files.items c.append_file-2.new.files.items _ _ c.in_ok-append_file.ensures
    c.in_ok-append_file-2.ensures
    ∙ ap (λ (text : List ℕ). had ++ out_file (codes "report.txt", text) ∷ counters ∷ []) (c.in_ok-copy_text.ensures ∙ c.as_slice.ensures)
