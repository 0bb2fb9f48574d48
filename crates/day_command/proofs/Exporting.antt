-- An export with one table more.
use Rattle.std.proofs.Common.{◌≡◌, ◌∙◌, ℕ, Bool, true, false, ◌&&◌, List, [], ◌∷◌, ◌++◌, ap, append_assoc, refl, sym}
use Rattle.std.specs.List.{flat_map, list_all}
use Rattle.std.proofs.lemmas.Grind.{flat_map-append}
use Rattle.std.proofs.lemmas.List.{append-nil}
use Rattle.std.proofs.lemmas.List.Folds.{list_all-append}
use Rattle.night_search.specs.Lines.{unread_line}
use Rattle.track_read.specs.Export.{export_columns}
use Rattle.track_read.specs.Night.{is_read}
use Rattle.track_read.specs.declared.export.Form.{Form}
use Rattle.track_read.specs.declared.night.NightTable.{NightTable}
use Rattle.day_command.specs.Export.{IsExport, table_rows}
use Rattle.day_command.specs.declared.export.Export.{Export}

flat_more : {X : Type 0} (text : X → List ℕ) (xs : List X) (x : X) → flat_map text (xs ++ x ∷ []) ≡ flat_map text xs ++ text x
flat_more text xs x =
    flat_map-append text xs (x ∷ []) ∙ ap (λ (t : List ℕ). flat_map text xs ++ t) (append-nil (text x))

and_true : (b : Bool) → (b && true) ≡ b
and_true true = refl
and_true false = refl

pub exported_more : (form : Form) (old new : Export) (table : NightTable) (read : Bool)
    → new.text.items ≡ old.text.items ++ table_rows form table
    → new.unread.items ≡ old.unread.items ++ unread_line table.night table.state → read ≡ is_read table.state
    → new.all_read ≡ (old.all_read && read)
    → (tables : List NightTable) → IsExport form tables old → IsExport form (tables ++ table ∷ []) new
exported_more form old new table read text unread read_is all_read tables is = record {
  text =
      text ∙ ap (λ (t : List ℕ). t ++ table_rows form table) is.text
      ∙ append_assoc export_columns (flat_map (table_rows form) tables) (table_rows form table)
      ∙ ap (λ (t : List ℕ). export_columns ++ t) (sym (flat_more (table_rows form) tables table));
  unread =
      unread ∙ ap (λ (t : List ℕ). t ++ unread_line table.night table.state) is.unread
      ∙ sym (flat_more (λ (t : NightTable). unread_line t.night t.state) tables table);
  read =
      all_read ∙ ap (λ (b : Bool). b && read) is.read
      ∙ ap (λ (b : Bool). list_all (λ (t : NightTable). is_read t.state) tables && b) read_is
      ∙ ap (λ (b : Bool). list_all (λ (t : NightTable). is_read t.state) tables && b) (sym (and_true (is_read table.state)))
      ∙ sym (list_all-append (λ (t : NightTable). is_read t.state) tables (table ∷ []));
}
