use Rattle.std.proofs.Common.{List, ℕ, subst}
use Rattle.hub_folder.specs.Papers.{ArePapersAt}
use Rattle.hub_adopt.specs.Again.{IsDayAgain}
use Rattle.hub_adopt.proofs.again.made_from.Goals as goal

pub returns : goal.returns
returns g c = record {
  papers = c.in_ok-papers.papers;
  papers_are = subst (λ (f : List ℕ). ArePapersAt f c.in_ok-papers.papers) c.as_bytes.ensures.value c.in_ok-papers.ensures.papers;
  day = c.in_ok-day.day;
  day_is = subst (λ (f : List ℕ). IsDayAgain f c.in_ok-day.day) c.as_bytes-2.ensures.value c.in_ok-day.ensures;
  setting = c.in-Some.setting;
  setting_is = c.in-Some.ensures;
  made_is = c.in_ok-made_of.ensures.made;
}
