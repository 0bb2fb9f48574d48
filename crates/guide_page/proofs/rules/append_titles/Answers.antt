use Rattle.std.proofs.Common.{◌++◌, []}
use Rattle.std.specs.Prelude.{codes}
use Rattle.std.proofs.lemmas.Result.{on_ok_weaker}
use Rattle.guide_page.proofs.Growing.{two}
use Rattle.guide_page.specs.Tags.{tagged}
use Rattle.guide_page.proofs.rules.append_titles.Goals as goal

pub returns : goal.returns
returns c =
    on_ok_weaker c.append_tagged-3.result (λ adds. two c.args.out.now.items c.append_tagged.new.out.items c.append_tagged-3.new.out.items
    (tagged (codes "<title>") c.args.name.now (codes "</title>\n</head>\n<body>\n<h1>")) ((tagged [] c.args.name.now (codes
    ": transaction set ")) ++ (tagged [] c.args.set.now (codes "</h1>\n")))
    c.in_ok-append_tagged.ensures (two c.append_tagged.new.out.items c.append_tagged-2.new.out.items c.append_tagged-3.new.out.items
    (tagged [] c.args.name.now (codes ": transaction set ")) (tagged [] c.args.set.now (codes "</h1>\n"))
    c.in_ok-append_tagged-2.ensures adds))
    c.append_tagged-3.ensures
