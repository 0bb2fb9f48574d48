use Rattle.std.proofs.Common.{◌≡◌, List, length, sym, ap, subst, ◌∙◌}
use Rattle.std.proofs.lemmas.Bool.{eqb-true}
use Rattle.env_index.specs.Words.{IndexEntry}
use Rattle.night_batches.proofs.Empty.{empty_written}
use Rattle.night_batches.specs.Writing.{IsBatchWritten, WritingValue, with_outside}
use Rattle.night_batches.proofs.writing.Writing.add_answered.Goals as goal

pub returns-then-is_empty : goal.returns-then-is_empty
returns-then-is_empty g c =
    let none : length c.args.index.now.entries ≡ 0 =
    ap (λ (es : List IndexEntry). length es) (sym c.interchanges.ensures.value)
    ∙ eqb-true (length c.interchanges.result.now) 0 (sym c.is_empty.ensures ∙ c.if-is_empty.true) in
    let is : c.with_outside.result ≡ with_outside c.args.self c.args.index.now.outside =
    c.with_outside.ensures ∙ ap (with_outside c.args.self) c.outside.ensures in
    subst (λ (w : WritingValue). IsBatchWritten c.args.index.now.text c.args.setup.now c.args.at.now c.args.base c.args.index.now.entries
    c.args.index.now.outside c.args.self w) (sym is)
    (empty_written c.args.index.now.text c.args.setup.now c.args.at.now c.args.base c.args.index.now.entries c.args.index.now.outside
    c.args.self none)
