-- Reports of whole nights, on examples: what is delivered, what is held and why, what is refused, and what is counted.
use Rattle.std.specs.Prelude.{ℕ, ◌≡◌, ◌++◌, List, [], ◌∷◌, Option, Some, None, true, false, codes, refl}
use Rattle.std.specs.Fmt.{digits}
use Rattle.x12_bytes.specs.declared.delims.Delims.{Delims}
use Rattle.x12_segs.specs.Words.{SegValue}
use Rattle.hub_kinds.specs.declared.interchange.InterchangeFault.{InterchangeFault}
use Rattle.hub_kinds.specs.declared.interchange.InterchangeFault.TheVariants as fault
use Rattle.hub_kinds.specs.declared.set_codes.GroupVerdict.TheVariants as group
use Rattle.hub_kinds.specs.declared.set_codes.Verdict.TheVariants as verdict
use Rattle.env_index.specs.declared.entry.SetEnvelope.{SetEnvelope}
use Rattle.partner_setup.specs.declared.partner.Partner.{Partner}
use Rattle.partner_setup.specs.declared.rows.Usage.TheVariants.{Production}
use Rattle.partner_setup.specs.Setup.{SetupValue}
use Rattle.answered_sets.specs.Judged.{JudgedValue}
use Rattle.night_report.specs.Report.{report_text}

abbrev stars : Delims
stars = record { element = 42; component = 62; repetition = Some 94; terminator = 126 }

abbrev bars : Delims
bars = record { element = 124; component = 58; repetition = Some 94; terminator = 33 }

abbrev partner : List ℕ → Delims → Partner
partner name delims = record {
  name = name;
  qualifier = codes "01";
  id = name;
  code = name;
  delims = delims;
  cap = 2;
  counters = record { interchange = 1; group = 1; set = 1 };
  guides = [];
}

abbrev setup : SetupValue
setup = record {
  hub = record { qualifier = codes "ZZ"; id = codes "HUB"; code = codes "HUB"; usage = Production };
  partners = partner (codes "ACME") stars ∷ partner (codes "BOLT") bars ∷ [];
  routes = record { code = codes "ACME"; to = 0 ∷ [] } ∷ record { code = codes "BOLT"; to = 1 ∷ [] } ∷ [];
  guides = [];
}

abbrev header : List ℕ
header = codes "ISA*00*          *00*          *01*ACME           *ZZ*HUB            *260228*0900*^*00501*000000007*0*P*>~"

abbrev seg : ℕ → List ℕ → SegValue
seg start bytes = record { start = start; bytes = bytes; delims = stars }

-- a set of four segments
abbrev closed_set : ℕ → List ℕ → ℕ → List ℕ → ℕ → SetEnvelope
closed_set start first last trailer end =
    record { header = seg start first; segments = 4; trailer = Some (seg last trailer); end = end }

abbrev order-text : List ℕ
order-text =
    header
    ++ codes "GS*PO*ACME*BOLT*20260228*0900*12*X*005010~"
    ++ codes "ST*850*0001~"
    ++ codes "BEG*00*SA*P1**20260228~"
    ++ codes "PO1*1*5*EA~"
    ++ codes "SE*4*0001~"
    ++ codes "GE*1*12~"
    ++ codes "IEA*1*000000007~"

abbrev order : JudgedValue
order = record {
  text = order-text;
  interchange = record {
    header = header;
    start = 0;
    end = 228;
    content = record {
      groups = record {
        header = seg 106 (codes "GS*PO*ACME*BOLT*20260228*0900*12*X*005010");
        sets = closed_set 148 (codes "ST*850*0001") 194 (codes "SE*4*0001") 204 ∷ [];
        trailer = Some (seg 204 (codes "GE*1*12"));
      } ∷ [];
      ta1s = 0;
      misplaced = false;
      trailer = Some (seg 212 (codes "IEA*1*000000007"));
    };
  };
  sender = Some 0;
  fault = None;
  standings = record { clear = true; verdict = group.Accepted; accepted = 1; verdicts = verdict.Accepted ∷ [] } ∷ [];
}

abbrev with_a_bar-text : List ℕ
with_a_bar-text =
    header
    ++ codes "GS*PO*ACME*BOLT*20260228*0900*12*X*005010~"
    ++ codes "ST*850*0001~"
    ++ codes "BEG*00*SA*P|1**20260228~"
    ++ codes "PO1*1*5*EA~"
    ++ codes "SE*4*0001~"
    ++ codes "GE*1*12~"
    ++ codes "IEA*1*000000007~"

abbrev with_a_bar : JudgedValue
with_a_bar = record {
  text = with_a_bar-text;
  interchange = record {
    header = header;
    start = 0;
    end = 229;
    content = record {
      groups = record {
        header = seg 106 (codes "GS*PO*ACME*BOLT*20260228*0900*12*X*005010");
        sets = closed_set 148 (codes "ST*850*0001") 195 (codes "SE*4*0001") 205 ∷ [];
        trailer = Some (seg 205 (codes "GE*1*12"));
      } ∷ [];
      ta1s = 0;
      misplaced = false;
      trailer = Some (seg 213 (codes "IEA*1*000000007"));
    };
  };
  sender = Some 0;
  fault = None;
  standings = record { clear = true; verdict = group.Accepted; accepted = 1; verdicts = verdict.Accepted ∷ [] } ∷ [];
}

abbrev to_nobody-text : List ℕ
to_nobody-text =
    header
    ++ codes "GS*PO*ACME*NOBODY*20260228*0900*12*X*005010~"
    ++ codes "ST*850*0001~"
    ++ codes "BEG*00*SA*P1**20260228~"
    ++ codes "PO1*1*5*EA~"
    ++ codes "SE*4*0001~"
    ++ codes "GE*1*12~"
    ++ codes "IEA*1*000000007~"

abbrev to_nobody : JudgedValue
to_nobody = record {
  text = to_nobody-text;
  interchange = record {
    header = header;
    start = 0;
    end = 230;
    content = record {
      groups = record {
        header = seg 106 (codes "GS*PO*ACME*NOBODY*20260228*0900*12*X*005010");
        sets = closed_set 150 (codes "ST*850*0001") 196 (codes "SE*4*0001") 206 ∷ [];
        trailer = Some (seg 206 (codes "GE*1*12"));
      } ∷ [];
      ta1s = 0;
      misplaced = false;
      trailer = Some (seg 214 (codes "IEA*1*000000007"));
    };
  };
  sender = Some 0;
  fault = None;
  standings = record { clear = true; verdict = group.Accepted; accepted = 1; verdicts = verdict.Accepted ∷ [] } ∷ [];
}

abbrev refused : Option ℕ → InterchangeFault → JudgedValue
refused sender because = record {
  text = order-text;
  interchange = order.interchange;
  sender = sender;
  fault = Some because;
  standings = order.standings;
}

-- the order, whose ISA14 asks for a TA1
abbrev asking : JudgedValue
asking = record {
  text = order-text;
  interchange = record {
    header = codes "ISA*00*          *00*          *01*ACME           *ZZ*HUB            *260228*0900*^*00501*000000007*1*P*>~";
    start = order.interchange.start;
    end = order.interchange.end;
    content = order.interchange.content;
  };
  sender = order.sender;
  fault = order.fault;
  standings = order.standings;
}

-- a group of acknowledgments, and one that no guide serves, after a TA1
abbrev mixed : JudgedValue
mixed = record {
  text = [];
  interchange = record {
    header = header;
    start = 5;
    end = 400;
    content = record {
      groups =
          record {
            header = seg 140 (codes "GS*FA*ACME*HUB*20260228*0900*5*X*005010X231");
            sets = record { header = seg 184 (codes "ST*999*0001"); segments = 2; trailer = None; end = 206 } ∷ [];
            trailer = None;
          }
          ∷ record {
            header = seg 220 (codes "GS*IN*ACME*BOLT*20260228*0900*6*X*005010");
            sets = record { header = seg 262 (codes "ST*810*0001"); segments = 2; trailer = None; end = 300 } ∷ [];
            trailer = None;
          }
          ∷ [];
      ta1s = 1;
      misplaced = false;
      trailer = None;
    };
  };
  sender = Some 1;
  fault = None;
  standings =
      record { clear = true; verdict = group.Accepted; accepted = 1; verdicts = verdict.Accepted ∷ [] }
      ∷ record { clear = false; verdict = group.Rejected; accepted = 0; verdicts = verdict.Rejected ∷ [] }
      ∷ [];
}

empty_night :
    report_text setup ([]) 0
    ≡ codes "total interchanges 0 refused 0 groups 0 sets 0 accepted 0 held 0 outside 0\n"
unfolding digits
empty_night = refl

one_order :
    report_text setup (order ∷ []) 0
    ≡ codes "interchange 1 at 0 from ACME control 000000007 accepted\n"
    ++ codes "group PO 12 A sets 1 accepted 1\n"
    ++ codes "total interchanges 1 refused 0 groups 1 sets 1 accepted 1 held 0 outside 0\n"
unfolding digits
one_order = refl

-- a byte that the receiver reads as a delimiter
held_for_a_delimiter :
    report_text setup (with_a_bar ∷ []) 0
    ≡ codes "interchange 1 at 0 from ACME control 000000007 accepted\n"
    ++ codes "group PO 12 A sets 1 accepted 1\n"
    ++ codes "held set 1 delimiter BOLT\n"
    ++ codes "total interchanges 1 refused 0 groups 1 sets 1 accepted 1 held 1 outside 0\n"
unfolding digits
held_for_a_delimiter = refl

held_for_want_of_a_route :
    report_text setup (to_nobody ∷ []) 0
    ≡ codes "interchange 1 at 0 from ACME control 000000007 accepted\n"
    ++ codes "group PO 12 A sets 1 accepted 1\n"
    ++ codes "held set 1 route\n"
    ++ codes "total interchanges 1 refused 0 groups 1 sets 1 accepted 1 held 1 outside 0\n"
unfolding digits
held_for_want_of_a_route = refl

-- of what is refused nothing more is reported, and nothing is counted
truncated_and_copied :
    report_text setup (refused None fault.TrailerMissing ∷ order ∷ refused (Some 0) fault.Duplicate ∷ []) 0
    ≡ codes "interchange 1 at 0 from ? control 000000007 refused 1\n"
    ++ codes "interchange 2 at 0 from ACME control 000000007 accepted\n"
    ++ codes "group PO 12 A sets 1 accepted 1\n"
    ++ codes "interchange 3 at 0 from ACME control 000000007 refused 9\n"
    ++ codes "ta1 sent R 025\n"
    ++ codes "total interchanges 3 refused 2 groups 1 sets 1 accepted 1 held 0 outside 0\n"
unfolding digits
truncated_and_copied = refl

-- one that asks for it is answered
asked :
    report_text setup (asking ∷ []) 0
    ≡ codes "interchange 1 at 0 from ACME control 000000007 accepted\n"
    ++ codes "ta1 sent A 000\n"
    ++ codes "group PO 12 A sets 1 accepted 1\n"
    ++ codes "total interchanges 1 refused 0 groups 1 sets 1 accepted 1 held 0 outside 0\n"
unfolding digits
asked = refl

-- groups of acknowledgments are listed, and not counted
acknowledgments_listed :
    report_text setup (mixed ∷ []) 5
    ≡ codes "interchange 1 at 5 from BOLT control 000000007 accepted\n"
    ++ codes "ta1 1\n"
    ++ codes "group FA 5 listed sets 1\n"
    ++ codes "group IN 6 R sets 1 accepted 0\n"
    ++ codes "total interchanges 1 refused 0 groups 1 sets 1 accepted 0 held 0 outside 5\n"
unfolding digits
acknowledgments_listed = refl
