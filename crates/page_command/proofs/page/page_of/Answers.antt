use Rattle.std.proofs.Common.{◌∙◌, ◌++◌, ℕ, List, ap}
use Rattle.guide_page.specs.Page.{page_text}
use Rattle.guide_page.specs.declared.page.Answer.{Answer}
use Rattle.guide_tree.specs.Words.{guide_of}
use Rattle.guide_tree.specs.declared.rows.GuideRows.{GuideRows}
use Rattle.page_command.proofs.page.page_of.Goals as goal

pub returns : goal.returns
returns c =
    let sample : List ℕ = c.args.sample.now in
    let listed : List Answer = c.as_slice.result.now in
    record {
      sample = sample;
      answers = c.in_ok-answers.answers.items;
      sample_is = c.requires;
      answers_are = c.in_ok-answers.ensures;
      text_is = c.in_ok-append_page.ensures
          ∙ ap (λ (t : List ℕ). t ++ page_text c.args.names.now (guide_of c.rows.result.now) sample listed) c.new-text.ensures.items
          ∙ ap (λ (r : GuideRows). page_text c.args.names.now (guide_of r) sample listed) c.rows.ensures.same
          ∙ ap (λ (a : List Answer). page_text c.args.names.now (guide_of c.args.guide.now) sample a) c.as_slice.ensures.value;
    }
