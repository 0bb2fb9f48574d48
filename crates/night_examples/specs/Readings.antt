-- What partners read in the files of small nights.
use Rattle.std.specs.Prelude.{◌≡◌, ℕ, List, [], ◌∷◌, slice_index_or, codes}
use Rattle.night_definition.specs.Setup.{Setup}
use Rattle.night_definition.specs.Night.{night_of, answered_text}
use Rattle.night_definition.specs.ReadBack.{AreResponses, AreTa1s, IsBoxRead, responses_after, segments_in}
use Rattle.night_examples.specs.NightOneOrder as one_order
use Rattle.night_examples.specs.NightAcknowledgmentAskedFor as asked_for

abbrev at : List ℕ
at = codes "202603011530"

abbrev ack : (text : List ℕ) → Setup → List ℕ
ack text setup = slice_index_or (night_of text setup at).acks 0 []

-- the sender reads that its order is accepted, and the receiver reads the order
pub record OneOrder : Type 0 where
  pub responses : responses_after [] (segments_in one_order.partner_1.delims (ack one_order.text one_order.setup))
      ≡ (codes "850", codes "0001", codes "A") ∷ []
  pub answered : AreResponses 0 one_order.partner_1 (answered_text one_order.text one_order.setup) (ack one_order.text one_order.setup)
  pub ta1s : AreTa1s 0 one_order.partner_1 (answered_text one_order.text one_order.setup) (ack one_order.text one_order.setup)
  pub box : IsBoxRead one_order.setup 1 one_order.partner_2 (answered_text one_order.text one_order.setup)
      (slice_index_or (night_of one_order.text one_order.setup at).boxes 1 [])

-- the sender reads the TA1 that it asked for
abbrev pub AskedFor : Type 0
AskedFor = AreTa1s 0 asked_for.partner_1 (answered_text asked_for.text asked_for.setup) (ack asked_for.text asked_for.setup)
