-- What was touched of a file since the last sync of the target.
use Rattle.std.specs.Prelude.{ℕ, List, [], ◌++◌, Option, refl}
use Rattle.std.specs.Coded.{Coded, code_by, coded×, coded_ℕ, coded_list, coded_option}
use Rattle.rc_tree.specs.Tree.{Node}
use Rattle.rc_tree.specs.Codes.{coded_node}

-- what stood there, beside what stands there now, and the ranges that were put
pub record Touched : Type 0 where
  pub had : List (Option Node)
  pub puts : List (ℕ × ℕ)

abbrev pub coded_touched : Coded Touched
coded_touched =
    code_by (List (Option Node) × List (ℕ × ℕ)) (coded× (coded_list (coded_option coded_node)) (coded_list (coded× coded_ℕ coded_ℕ)))
    (λ t. (t.had, t.puts)) (λ p. record { had = p.0; puts = p.1 }) (λ _. refl)

abbrev pub untouched : Touched
untouched = record { had = []; puts = [] }

abbrev pub more_touched : List (Option Node) → List (ℕ × ℕ) → Touched → Touched
more_touched had puts before = record { had = before.had ++ had; puts = before.puts ++ puts }
