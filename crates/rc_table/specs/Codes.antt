-- Codes, by which a proof tells rows apart: what a model whose value is a map of rows has to give.
use Rattle.std.specs.Prelude.{ℕ, List, refl}
use Rattle.std.specs.Coded.{Coded, code_by, coded×, coded_ℕ}
use Rattle.std.specs.FinMap as map
use Rattle.rc_tree.specs.declared.props.Props.{Props}
use Rattle.rc_tree.specs.Codes.{coded_props, coded_text}
use Rattle.rc_table.specs.declared.row.Row.{Row}
use Rattle.rc_table.specs.Rows.{RowMap, Rows}

abbrev pub coded_row : Coded Row
coded_row =
    code_by (Props × (ℕ × List ℕ)) (coded× coded_props (coded× coded_ℕ coded_text))
    (λ r. (r.props, (r.size, r.digest)))
    (λ p. record { props = p.0; size = p.1.0; digest = p.1.1 })
    (λ _. refl)

abbrev pub coded_row_map : Coded RowMap
coded_row_map = map.code coded_text coded_row

abbrev pub coded_rows : Coded Rows
coded_rows =
    code_by (RowMap × RowMap) (coded× coded_row_map coded_row_map)
    (λ r. (r.source, r.target))
    (λ p. record { source = p.0; target = p.1 })
    (λ _. refl)
