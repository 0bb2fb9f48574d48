use Rattle.std.proofs.Common.{[], ap, sym, subst, ◌∙◌}
use Rattle.env_index.specs.Words.{IndexValue, settled}
use Rattle.set_answers.specs.FoundRows.{AreFoundRows}
use Rattle.set_answers.proofs.ForAbove.{by_numbers}
use Rattle.set_findings.proofs.found.find_out.Goals as goal

pub returns : goal.returns
returns g c =
    let text = c.args.text.now in
    let setup = c.args.setup.now in
    let behind = c.in_ok-found.ensures in
    record {
      plain = behind.plain;
      read = behind.read;
      index = c.without_numbers.ensures.index ∙ behind.index [] c.new-seen.ensures
          ∙ ap (settled behind.plain) (sym (by_numbers setup [] behind.plain.entries));
      rows =
          subst (AreFoundRows text setup c.without_numbers.result.index.entries) (sym c.without_numbers.ensures.rows)
          (subst (λ (i : IndexValue). AreFoundRows text setup i.entries c.in_ok-found.found.rows) (sym c.without_numbers.ensures.index)
          behind.rows);
    }
