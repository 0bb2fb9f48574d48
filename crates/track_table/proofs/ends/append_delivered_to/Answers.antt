use Rattle.std.proofs.Common.{◌≡◌, ℕ, List, ◌++◌, Option, Some, refl, sym, ap, ◌∙◌}
use Rattle.std.specs.Prelude.{option_copied, slice_get, slice_set}
use Rattle.std.proofs.lemmas.Option.{slice_get_read}
use Rattle.std.proofs.lemmas.Result.{on_ok_weaker}
use Rattle.partner_setup.specs.declared.partner.Partner.{Partner}
use Rattle.partner_setup.specs.Setup.{SetupValue}
use Rattle.csv_fields.specs.Csv.{fields_text}
use Rattle.track_table.specs.Cells.{delivered_end}
use Rattle.track_table.specs.Rows.{TrackedBy, delivered_cells}
use Rattle.track_table.specs.Walking.{CursorValue, advanced, mailed_next}
use Rattle.track_table.specs.declared.mailed.Mailed.{Mailed}
use Rattle.track_table.proofs.Targets.{amid_delivered, mailed_here}
use Rattle.track_table.proofs.ends.append_delivered_to.Goals as goal

pub returns-in_ok-mailed-in-Some-clause-row : goal.returns-in_ok-mailed-in-Some-clause-row
returns-in_ok-mailed-in-Some-clause-row c =
    let by = c.args.by.now in
    let p = c.args.placed.now in
    let to : ℕ = c.args.to in
    let cs = c.args.cursors.now in
    let out = c.args.out.now.items in
    let partner : Partner = c.in-Some.partner.now in
    let cursor : CursorValue = c.index-cursors-to.result in
    let mailed : Mailed = c.in_ok-mailed-in-Some.mailed in
    let at_t : slice_get by.setup.partners to ≡ Some partner =
    ap (λ (s : SetupValue). slice_get s.partners to) (sym (ap (λ (b : TrackedBy). b.setup) c.by.view_is))
    ∙ sym c.partner_at.ensures ∙ ap option_copied c.in-Some.is in
    let at_c : slice_get cs to ≡ Some cursor = slice_get_read cs _ to cursor refl c.requires c.index-cursors-to.is in
    on_ok_weaker c.append_delivered.result
    (λ text before targets outcome none amid.
    let numbers = mailed_here by before p targets to partner cursor cs mailed none at_t at_c
    (c.in_ok-mailed-in-Some.ensures.mailed ∙ ap (λ (d : CursorValue). mailed_next d c.key_of.result) (sym c.index-cursors-to.is)
    ∙ ap (mailed_next cursor) c.key_of.ensures) amid in (
      text ∙ ap (λ (n : List ℕ). out ++ fields_text (delivered_end n mailed)) c.as_slice.ensures
          ∙ ap (λ (m : Mailed). out ++ fields_text (delivered_end partner.name m)) numbers
          ∙ ap (λ (o : Option Partner). out ++ fields_text (delivered_cells by before p to o)) (sym at_t),
      amid_delivered by before p targets to to partner cursor cs _ none outcome at_t at_c
          (ap (slice_set cs to) (c.in_ok-mailed-in-Some.ensures.advanced
          ∙ ap (λ (d : CursorValue). advanced d c.key_of.result) (sym c.index-cursors-to.is)
          ∙ ap (advanced cursor) c.key_of.ensures)) amid,
    ))
    c.append_delivered.ensures
