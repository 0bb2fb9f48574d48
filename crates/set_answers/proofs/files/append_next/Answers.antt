use Rattle.std.proofs.Common.{◌≡◌, ◌++◌, ℕ, Some, sym, ap, ◌∙◌}
use Rattle.std.specs.Prelude.{option_map}
use Rattle.std.proofs.lemmas.Result.{on_ok_weaker}
use Rattle.x12_write.specs.declared.envelope.Envelope.{Envelope}
use Rattle.count_numbers.specs.Num.{num}
use Rattle.partner_setup.specs.Envelopes.{envelope_to}
use Rattle.set_answers.specs.Acknowledgments.{acknowledgment_text}
use Rattle.set_answers.proofs.files.append_next.Goals as goal

pub returns : goal.returns
returns g c =
    let old = c.args.out.now.items in
    let a = c.args.acknowledgment.now in
    on_ok_weaker c.append_acknowledgment.result
    (λ text p there. text
    ∙ ap (λ (e : Envelope). old
    ++ acknowledgment_text e c.args.at.now c.number_at-number.result c.control_at-control.result a)
    (let some : Some c.envelope_to-envelope.result ≡ Some (envelope_to c.args.setup.now p) =
    sym c.envelope_to-envelope.ensures.envelope ∙ ap (option_map (envelope_to c.args.setup.now)) there in
    let e : c.envelope_to-envelope.result ≡ envelope_to c.args.setup.now p = cc in e)
    ∙ ap (λ (n : ℕ). old ++ acknowledgment_text (envelope_to c.args.setup.now p) c.args.at.now n c.control_at-control.result a)
    (c.number_at-number.ensures p there)
    ∙ ap (λ (n : ℕ). old
    ++ acknowledgment_text (envelope_to c.args.setup.now p) c.args.at.now (num p.counters.interchange c.args.count) n a)
    (c.control_at-control.ensures p there))
    c.append_acknowledgment.ensures.text
