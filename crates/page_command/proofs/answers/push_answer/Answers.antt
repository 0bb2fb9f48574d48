use Rattle.std.proofs.Common.{◌≡◌, ◌∙◌, ℕ, List, ap}
use Rattle.guide_tree.specs.Words.{guide_of}
use Rattle.sample_folder.specs.Names.{file_name}
use Rattle.page_command.specs.Samples.{words_said}
use Rattle.page_command.proofs.Answering.{answer_made, one_answer}
use Rattle.page_command.proofs.answers.push_answer.Goals as goal

pub returns-in_ok-push-in-Some : goal.returns-in_ok-push-in-Some
returns-in_ok-push-in-Some c =
    let names = c.args.names.now in
    let broken = c.in-Some.broken in
    let name = file_name c.args.number in
    let named : c.from_vec.result ≡ name = c.from_vec.ensures ∙ c.in_ok-name-in-Some.ensures in
    let worded : c.from_vec-in-Some.result ≡ words_said names broken.text broken.lines =
    c.from_vec-in-Some.ensures ∙ c.in_ok-words-in-Some.ensures
    ∙ ap (λ (text : List ℕ). words_said names text c.as_slice-in-Some.result.now) c.as_slice.ensures
    ∙ ap (words_said names broken.text) c.as_slice-in-Some.ensures in
    one_answer names (guide_of c.args.rules.now.guide) c.args.rules.now.rules c.args.number broken.text broken.lines
    c.args.answers.now.items c.push.new.self.items _ (rw c.in-Some.is at c.in_ok-broken.ensures)
    (ap (λ (k : List ℕ). answer_made broken.lines k c.from_vec-in-Some.result) named ∙ ap (answer_made broken.lines name) worded)
    c.in_ok-push-in-Some.ensures.items
