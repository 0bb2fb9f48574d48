use Rattle.std.proofs.Common.{ℕ, List, [], ◌∙◌, ◌++◌, ◌∷◌, ap, ap₂, map}
use Rattle.std.specs.Prelude.{codes}
use Rattle.std.specs.List.{flat_map}
use Rattle.std.proofs.lemmas.Result.{on_ok_weaker}
use Rattle.csv.specs.Records.{fields_of}
use Rattle.night_page.specs.Names.{texts_of}
use Rattle.night_page.specs.Page.{partner_among, partner_row}
use Rattle.night_page.specs.Tags.{table_head}
use Rattle.night_page.specs.declared.name.Name.{Name}
use Rattle.night_page.proofs.Among.{among_rows}
use Rattle.night_page.proofs.Growing.{two}
use Rattle.night_page.proofs.partners.append_partners.Goals as goal

pub returns : goal.returns
returns c =
    let rows = map fields_of c.args.rows.now in
    let partners = c.args.partners.now in
    let columns : List (List ℕ) = codes "Partner" ∷ codes "Sent" ∷ codes "Received" ∷ codes "Files" ∷ [] in
    let shown : List ℕ = flat_map (partner_row rows) partners in
    let end : List ℕ = codes "</tbody>\n</table>\n" in
    let is = ap₂ (λ (s r : List Name). flat_map (partner_among (texts_of s) (texts_of r)) partners) c.as_slice.ensures.value
    c.as_slice-2.ensures.value
    ∙ among_rows rows c.in_ok-senders.senders.items c.in_ok-receivers.receivers.items partners c.in_ok-senders.ensures
    c.in_ok-receivers.ensures in
    on_ok_weaker c.append_fixed-2.result (λ adds. two c.args.out.now.items c.append_fixed.new.out.items c.append_fixed-2.new.out.items
    (codes "<h2>Partners</h2>\n<table>\n") (table_head columns ++ (shown ++ end)) c.in_ok-append_fixed.ensures
    (two c.append_fixed.new.out.items c.append_table_head.new.out.items c.append_fixed-2.new.out.items (table_head columns) (shown ++ end)
    c.in_ok-append_table_head.ensures
    (two c.append_table_head.new.out.items c.append_all.new.out.items c.append_fixed-2.new.out.items shown end
    (c.in_ok-append_all.ensures ∙ ap (λ (t : List ℕ). c.append_table_head.new.out.items ++ t) is) adds)))
    c.append_fixed-2.ensures
