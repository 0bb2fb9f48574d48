use Rattle.std.proofs.Common.{◌∙◌, arith, inl, inr, map, sym, subst, ℕ, List, Option}
use Rattle.page_command.specs.Outcome.{IsPage, IsRefusedFile}
use Rattle.page_command.proofs.CommandLine.{paths_named, text_asked}
use Rattle.page_command.proofs.run.page_main.Goals as goal

pub returns-in-Ok-Page-clause-printed : goal.returns-in-Ok-Page-clause-printed
returns-in-Ok-Page-clause-printed g c done =
    let words = map g.S.AsStr.text c.args.words.now in
    let named = paths_named words c.in-Ok-Page.field-0 c.in-Ok-Page.paths c.in-Ok-Page.field-0-is c.in-Ok-Page.ensures.asked in
    inl (
      c.in-Ok-Page.paths.guide.now,
      named.0,
      subst
          (λ (n : Option (List ℕ)). IsPage c.in-Ok-Page.paths.guide.now n (g.O.Write.contents c.args.out.now)
          (g.O.Write.contents c.print_page.new.out)) (sym named.1) (c.print_page.ensures.printed done),
    )

pub returns-in-Ok-Page-clause-refused : goal.returns-in-Ok-Page-clause-refused
returns-in-Ok-Page-clause-refused g c three =
    let words = map g.S.AsStr.text c.args.words.now in
    let named = paths_named words c.in-Ok-Page.field-0 c.in-Ok-Page.paths c.in-Ok-Page.field-0-is c.in-Ok-Page.ensures.asked in (
      c.in-Ok-Page.paths.guide.now,
      named.0,
      subst (IsRefusedFile c.in-Ok-Page.paths.guide.now) (sym named.1) (c.print_page.ensures.refused three),
    )

pub returns-in-Ok-Page-clause-quiet : goal.returns-in-Ok-Page-clause-quiet
returns-in-Ok-Page-clause-quiet g c done none =
    let words = map g.S.AsStr.text c.args.words.now in
    let named = paths_named words c.in-Ok-Page.field-0 c.in-Ok-Page.paths c.in-Ok-Page.field-0-is c.in-Ok-Page.ensures.asked in
    c.print_page.ensures.quiet done (sym named.1 ∙ none)

pub returns-in-Ok-Show-clause-printed : goal.returns-in-Ok-Show-clause-printed
returns-in-Ok-Show-clause-printed g c done =
    inr (record {
      asked =
          text_asked (map g.S.AsStr.text c.args.words.now) c.in-Ok-Show.field-0 c.in-Ok-Show.text c.in-Ok-Show.field-0-is
          c.in-Ok-Show.ensures.asked;
      text = c.as_bytes.result.now;
      printed = c.print_out.ensures.printed (omega (arith, done));
    })
