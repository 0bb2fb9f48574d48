use Rattle.std.proofs.Common.{arith, inl, inr, map}
use Rattle.day_command.specs.CommandLine.{again, check, export, find, page}
use Rattle.day_command.proofs.CommandLine.{again_asked, check_asked, export_asked, find_asked, page_asked, text_asked}
use Rattle.day_command.proofs.run.day_main.Goals as goal

pub returns-in-Ok-Check-clause-printed : goal.returns-in-Ok-Check-clause-printed
returns-in-Ok-Check-clause-printed g c done =
    inl (
      check c.in-Ok-Check.nights.now,
      check_asked (map g.S.AsStr.text c.args.words.now) c.in-Ok-Check.field-0 c.in-Ok-Check.nights c.in-Ok-Check.field-0-is
          c.in-Ok-Check.ensures.asked,
      c.check_nights.ensures.printed done,
    )

pub returns-in-Ok-Find-clause-printed : goal.returns-in-Ok-Find-clause-printed
returns-in-Ok-Find-clause-printed g c done =
    inl (
      find c.in-Ok-Find.nights.now c.in-Ok-Find.text.now,
      find_asked (map g.S.AsStr.text c.args.words.now) c.in-Ok-Find.field-0 c.in-Ok-Find.nights c.in-Ok-Find.text c.in-Ok-Find.field-0-is
          c.in-Ok-Find.ensures.asked,
      c.print_found.ensures.printed done,
    )

pub returns-in-Ok-Export-clause-printed : goal.returns-in-Ok-Export-clause-printed
returns-in-Ok-Export-clause-printed g c done =
    inl (
      export c.in-Ok-Export.nights.now c.in-Ok-Export.form,
      export_asked (map g.S.AsStr.text c.args.words.now) c.in-Ok-Export.field-0 c.in-Ok-Export.nights c.in-Ok-Export.form
          c.in-Ok-Export.field-0-is c.in-Ok-Export.ensures.asked,
      c.print_exported.ensures.printed done,
    )

pub returns-in-Ok-Export-clause-quiet : goal.returns-in-Ok-Export-clause-quiet
returns-in-Ok-Export-clause-quiet g c done =
    inr (inl (
      c.in-Ok-Export.nights.now,
      c.in-Ok-Export.form,
      export_asked (map g.S.AsStr.text c.args.words.now) c.in-Ok-Export.field-0 c.in-Ok-Export.nights c.in-Ok-Export.form
          c.in-Ok-Export.field-0-is c.in-Ok-Export.ensures.asked,
    ))

pub returns-in-Ok-Again-clause-quiet : goal.returns-in-Ok-Again-clause-quiet
returns-in-Ok-Again-clause-quiet g c done =
    inr (inr (
      c.in-Ok-Again.nights.now,
      c.in-Ok-Again.night.now,
      c.in-Ok-Again.wanted,
      again_asked (map g.S.AsStr.text c.args.words.now) c.in-Ok-Again.field-0 c.in-Ok-Again.nights c.in-Ok-Again.night
          c.in-Ok-Again.wanted c.in-Ok-Again.field-0-is c.in-Ok-Again.ensures.asked,
    ))

pub returns-in-Ok-Again-clause-printed : goal.returns-in-Ok-Again-clause-printed
returns-in-Ok-Again-clause-printed g c done =
    inl (
      again c.in-Ok-Again.nights.now c.in-Ok-Again.night.now c.in-Ok-Again.wanted,
      again_asked (map g.S.AsStr.text c.args.words.now) c.in-Ok-Again.field-0 c.in-Ok-Again.nights c.in-Ok-Again.night
          c.in-Ok-Again.wanted c.in-Ok-Again.field-0-is c.in-Ok-Again.ensures.asked,
      c.print_again.ensures.printed done,
    )

pub returns-in-Ok-Page-clause-printed : goal.returns-in-Ok-Page-clause-printed
returns-in-Ok-Page-clause-printed g c done =
    inl (
      page c.in-Ok-Page.nights.now c.in-Ok-Page.night.now,
      page_asked (map g.S.AsStr.text c.args.words.now) c.in-Ok-Page.field-0 c.in-Ok-Page.nights c.in-Ok-Page.night c.in-Ok-Page.field-0-is
          c.in-Ok-Page.ensures.asked,
      c.print_page.ensures.printed done,
    )

pub returns-in-Ok-Show-clause-printed : goal.returns-in-Ok-Show-clause-printed
returns-in-Ok-Show-clause-printed g c done =
    inr (record {
      asked =
          text_asked (map g.S.AsStr.text c.args.words.now) c.in-Ok-Show.field-0 c.in-Ok-Show.text c.in-Ok-Show.field-0-is
          c.in-Ok-Show.ensures.asked;
      text = c.as_bytes.result.now;
      printed = c.print_out.ensures.printed (omega (arith, done));
      own_status = elim c.print_out.ensures.status [
        | inl zero ↦ zero
        | inr five ↦ absurd (omega (arith, done, five))
      ];
    })
