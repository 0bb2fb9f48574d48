-- Own: the names of rows, and how one is looked up.
use Rattle.std.specs.Prelude.{ℕ, ◌+◌, ◌&&◌, List, drop, Option}
use Rattle.std.specs.List.{position_from}
use Rattle.std.specs.Str.{bytes_eq}
use Rattle.partner_setup.specs.declared.rows.CounterRow.{CounterRow}
use Rattle.partner_setup.specs.declared.rows.PartnerRow.{PartnerRow}
use Rattle.partner_setup.specs.declared.rows.RouteRow.{RouteRow}

abbrev pub partner_name : PartnerRow → List ℕ
partner_name p = p.name

abbrev pub route_name : RouteRow → List ℕ
route_name r = r.code

abbrev pub counter_name : CounterRow → List ℕ
counter_name c = c.partner

-- the number, from 1 on, of the first row after this place that has the name
abbrev pub next_named : {A : Type 0} → (A → List ℕ) → List A → (place : ℕ) → (text : List ℕ) → Option ℕ
next_named name rows place text = position_from (λ r. bytes_eq (name r) text) (place + 2) (drop (place + 1) rows)

-- X12.5: the number of the first partner after this place that has the qualifier and the id
abbrev pub next_sender : List PartnerRow → (place : ℕ) → (qualifier id : List ℕ) → Option ℕ
next_sender rows place qualifier id =
    position_from (λ p. bytes_eq p.qualifier qualifier && bytes_eq p.id id) (place + 2) (drop (place + 1) rows)
