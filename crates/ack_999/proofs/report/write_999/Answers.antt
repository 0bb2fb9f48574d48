use Rattle.std.proofs.Common.{◌++◌, List, ℕ, ap, ◌∙◌}
use Rattle.x12_segs.specs.Words.{views, elements_of}
use Rattle.std.specs.Prelude.{map}
use Rattle.ack_999.specs.Report.{segments_999, text_999}
use Rattle.ack_999.proofs.ReadBack.{segments_text-reads_back}
use Rattle.ack_999.proofs.Readable.{readable-999}
use Rattle.ack_999.proofs.report.write_999.Goals as goal

pub returns-clause-read_back : goal.returns-clause-read_back
returns-clause-read_back c = λ can quotable.
    let d = c.args.delims.now in
    let g = c.args.group.now in
    let sets = c.args.sets.now in
    let whole = c.in_ok-append_999.ensures.text ∙ ap (λ (s : List ℕ). s ++ text_999 d g sets c.args.n) c.new-out.ensures.items in
    ap (λ (text : List ℕ). map elements_of (views text d)) whole
    ∙ segments_text-reads_back d (segments_999 d g sets c.args.n) can.apart (readable-999 d g sets c.args.n can quotable)
