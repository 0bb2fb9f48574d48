use Rattle.std.proofs.Common.{◌++◌, List, []}
use Rattle.std.specs.Prelude.{ℕ, codes}
use Rattle.night_page.specs.Record.{moment_words}
use Rattle.night_page.specs.Tags.{tagged}
use Rattle.std.proofs.lemmas.Result.{on_ok_weaker}
use Rattle.night_page.proofs.Growing.{two}
use Rattle.night_page.proofs.title.append_title.Goals as goal

pub returns : goal.returns
returns c =
    let night : List ℕ = c.args.night.now.night.now in
    let moment : List ℕ = moment_words c.args.night.now.moment.now in
    let total : List ℕ = c.args.night.now.total.now in
    on_ok_weaker c.append_tagged-3.result (λ adds. two c.args.out.now.items c.append_tagged.new.out.items
    c.append_tagged-3.new.out.items (tagged (codes "<title>Night ") night (codes "</title>\n</head>\n<body>\n<h1>Night ")) ((tagged []
    night (codes "</h1>\n<p>")) ++ ((tagged [] moment (codes "; ")) ++ (tagged [] total (codes "</p>\n"))))
    c.in_ok-append_tagged.ensures (two c.append_tagged.new.out.items c.append_tagged-2.new.out.items c.append_tagged-3.new.out.items
    (tagged [] night (codes "</h1>\n<p>")) ((tagged [] moment (codes "; ")) ++ (tagged [] total (codes "</p>\n")))
    c.in_ok-append_tagged-2.ensures (two c.append_tagged-2.new.out.items c.append_moment.new.out.items c.append_tagged-3.new.out.items
    (tagged [] moment (codes "; ")) (tagged [] total (codes "</p>\n"))
    c.in_ok-append_moment.ensures adds)))
    c.append_tagged-3.ensures
