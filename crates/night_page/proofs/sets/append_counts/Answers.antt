use Rattle.std.proofs.Common.{◌++◌, map}
use Rattle.std.specs.Prelude.{codes}
use Rattle.csv.specs.Records.{fields_of}
use Rattle.std.specs.List.{count_by}
use Rattle.night_page.specs.Page.{is_held, is_rejected}
use Rattle.night_page.specs.Rows.{is_delivered, is_refused}
use Rattle.night_page.specs.Tags.{count_box}
use Rattle.std.proofs.lemmas.Result.{on_ok_weaker}
use Rattle.night_page.proofs.Growing.{two}
use Rattle.night_page.proofs.sets.append_counts.Goals as goal

pub returns : goal.returns
returns c =
    let rows = map fields_of c.args.rows.now in
    on_ok_weaker c.append_fixed-2.result (λ adds. two c.args.out.now.items c.append_fixed.new.out.items c.append_fixed-2.new.out.items
    (codes "<dl>\n") ((count_box (codes "Delivered") (count_by is_delivered rows)) ++ ((count_box (codes "Held") (count_by is_held
    rows)) ++ ((count_box (codes "Rejected") (count_by is_rejected rows)) ++ ((count_box (codes "Interchanges refused") (count_by
    is_refused rows)) ++ (codes "</dl>\n")))))
    c.in_ok-append_fixed.ensures (two c.append_fixed.new.out.items c.append_delivered.new.out.items c.append_fixed-2.new.out.items
    (count_box (codes "Delivered") (count_by is_delivered rows)) ((count_box (codes "Held") (count_by is_held rows)) ++ ((count_box
    (codes "Rejected") (count_by is_rejected rows)) ++ ((count_box (codes "Interchanges refused") (count_by is_refused rows)) ++ (codes
    "</dl>\n"))))
    c.in_ok-append_delivered.ensures (two c.append_delivered.new.out.items c.append_held.new.out.items c.append_fixed-2.new.out.items
    (count_box (codes "Held") (count_by is_held rows)) ((count_box (codes "Rejected") (count_by is_rejected rows)) ++ ((count_box (codes
    "Interchanges refused") (count_by is_refused rows)) ++ (codes "</dl>\n")))
    c.in_ok-append_held.ensures (two c.append_held.new.out.items c.append_rejected.new.out.items c.append_fixed-2.new.out.items
    (count_box (codes "Rejected") (count_by is_rejected rows)) ((count_box (codes "Interchanges refused") (count_by is_refused rows)) ++
    (codes "</dl>\n"))
    c.in_ok-append_rejected.ensures (two c.append_rejected.new.out.items c.append_refused.new.out.items c.append_fixed-2.new.out.items
    (count_box (codes "Interchanges refused") (count_by is_refused rows)) (codes "</dl>\n")
    c.in_ok-append_refused.ensures adds)))))
    c.append_fixed-2.ensures
