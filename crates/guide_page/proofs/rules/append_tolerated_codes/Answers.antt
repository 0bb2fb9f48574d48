use Rattle.std.proofs.Common.{◌++◌}
use Rattle.std.specs.Prelude.{codes}
use Rattle.std.proofs.lemmas.Result.{on_ok_weaker}
use Rattle.guide_page.proofs.Growing.{two}
use Rattle.guide_page.specs.Rules.{element_words, segment_words}
use Rattle.guide_page.proofs.rules.append_tolerated_codes.Goals as goal

pub returns : goal.returns
returns c =
    on_ok_weaker c.append_fixed-3.result (λ adds. two c.args.out.now.items c.append_fixed.new.out.items c.append_fixed-3.new.out.items
    (codes
    "<h2>Tolerated</h2>\n<p>A set with an error is rejected, unless each of its errors has one of these codes. In a segment (IK304): ")
    ((segment_words c.args.segments.now) ++ ((codes "In an element (IK403): ") ++ ((element_words c.args.elements.now) ++ (codes
    "</p>\n"))))
    c.in_ok-append_fixed.ensures (two c.append_fixed.new.out.items c.append_segment_words.new.out.items c.append_fixed-3.new.out.items
    (segment_words c.args.segments.now) ((codes "In an element (IK403): ") ++ ((element_words c.args.elements.now) ++ (codes "</p>\n")))
    c.in_ok-append_segment_words.ensures (two c.append_segment_words.new.out.items c.append_fixed-2.new.out.items
    c.append_fixed-3.new.out.items (codes "In an element (IK403): ") ((element_words c.args.elements.now) ++ (codes "</p>\n"))
    c.in_ok-append_fixed-2.ensures (two c.append_fixed-2.new.out.items c.append_element_words.new.out.items
    c.append_fixed-3.new.out.items (element_words c.args.elements.now) (codes "</p>\n")
    c.in_ok-append_element_words.ensures adds))))
    c.append_fixed-3.ensures
