-- Decisions of rows from the last one up: the loops over them.
use Rattle.std.proofs.Common.{◌≡◌, ℕ, not, List, [], ◌∷◌, ◌++◌, Option, None, Some, refl, sym, ap, ◌∙◌, append_assoc}
use Rattle.std.proofs.lemmas.List.{append-nil}
use Rattle.std.specs.List.{cons_option, filter_map, zip}
use Rattle.std.specs.Option.{option_to_list}
use Rattle.rc_class.specs.declared.item.Item.{Item}
use Rattle.rc_job.specs.declared.job.Job.{Job}
use Rattle.rc_plan.specs.declared.decisions.Decision.{Decision}
use Rattle.rc_plan.specs.declared.rows.Row.{Row}
use Rattle.rc_plan.specs.Deciding.{row_decision}
use Rattle.rc_plan.specs.Pair.{pair_path}
use Rattle.rc_plan.specs.Settled.{Settled, below_path, decisions_of, first_where, is_copied, leads_to, next_where, settled_from, settled_item, stays_in_source, stays_on_target}

abbrev Path : Type 0
Path = List (List ℕ)

-- what is left of the rows, what is decided of those behind it, and the first of those that are copied and that stay
pub record Settles (job : Job) (moment : ℕ) (rows left : List Row) (decisions : List (Option Decision)) (copied on_target in_source : Option Path) : Type 0 where
  pub behind : List Row
  pub whole : rows ≡ left ++ behind
  pub decided : decisions ≡ decisions_of (settled_from job moment behind)
  pub copied_first : copied ≡ first_where (λ pair decision. is_copied decision) (settled_from job moment behind)
  pub target_first : on_target ≡ first_where stays_on_target (settled_from job moment behind)
  pub source_first : in_source ≡ first_where stays_in_source (settled_from job moment behind)

pub Settles-start : (job : Job) (moment : ℕ) (rows left : List Row) (decisions : List (Option Decision)) (copied on_target in_source : Option Path) → left ≡ rows → decisions ≡ [] → copied ≡ None → on_target ≡ None → in_source ≡ None → Settles job moment rows left decisions copied on_target in_source
Settles-start job moment rows left decisions copied on_target in_source same none no_copy no_target no_source = record {
  behind = [];
  whole = sym same ∙ sym (append-nil left);
  decided = none;
  copied_first = no_copy;
  target_first = no_target;
  source_first = no_source;
}

module _ (job : Job) (moment : ℕ) (rows left rest : List Row) (row : Row) (decision : Option Decision) (decisions more : List (Option Decision)) (copied on_target in_source next_copied next_target next_source : Option Path) where
  abbrev path : Path
  path = pair_path row.pair

  pub Settles-more :
      Settles job moment rows left decisions copied on_target in_source → left ≡ rest ++ row ∷ []
      → decision ≡ row_decision job moment (record { some_copied = leads_to path copied; all_purged = not (leads_to path on_target); all_moved = not (leads_to path in_source) }) row
      → more ≡ decision ∷ decisions
      → next_copied ≡ next_where (is_copied decision) path copied
      → next_target ≡ next_where (stays_on_target row.pair decision) path on_target
      → next_source ≡ next_where (stays_in_source row.pair decision) path in_source
      → Settles job moment rows rest more next_copied next_target next_source
  Settles-more settles is made pushed copies targets sources = record {
    behind = row ∷ settles.behind;
    whole = settles.whole ∙ ap (λ (front : List Row). front ++ settles.behind) is ∙ append_assoc rest (row ∷ []) settles.behind;
    decided = pushed ∙ ap (λ (all : List (Option Decision)). decision ∷ all) settles.decided ∙ ap (λ (d : Option Decision). d ∷ decisions_of later) settled;
    copied_first = copies ∙ ap (next_where (is_copied decision) path) settles.copied_first ∙ ap (λ (d : Option Decision). next_where (is_copied d) path (first_where (λ pair decision. is_copied decision) later)) settled;
    target_first = targets ∙ ap (next_where (stays_on_target row.pair decision) path) settles.target_first ∙ ap (λ (d : Option Decision). next_where (stays_on_target row.pair d) path (first_where stays_on_target later)) settled;
    source_first = sources ∙ ap (next_where (stays_in_source row.pair decision) path) settles.source_first ∙ ap (λ (d : Option Decision). next_where (stays_in_source row.pair d) path (first_where stays_in_source later)) settled;
  }
    where
      later : List Settled
      later = settled_from job moment settles.behind

      settled : decision ≡ row_decision job moment (below_path (pair_path row.pair) (settled_from job moment settles.behind)) row
      settled =
          made
          ∙ ap (λ (o : Option Path). row_decision job moment (record { some_copied = leads_to path o; all_purged = not (leads_to path on_target); all_moved = not (leads_to path in_source) }) row) settles.copied_first
          ∙ ap (λ (o : Option Path). row_decision job moment (record { some_copied = leads_to path (first_where (λ pair decision. is_copied decision) (settled_from job moment settles.behind)); all_purged = not (leads_to path o); all_moved = not (leads_to path in_source) }) row) settles.target_first
          ∙ ap (λ (o : Option Path). row_decision job moment (record { some_copied = leads_to path (first_where (λ pair decision. is_copied decision) (settled_from job moment settles.behind)); all_purged = not (leads_to path (first_where stays_on_target (settled_from job moment settles.behind))); all_moved = not (leads_to path o) }) row) settles.source_first

pub Settles-end : (job : Job) (moment : ℕ) (rows left : List Row) (decisions : List (Option Decision)) (copied on_target in_source : Option Path) → Settles job moment rows left decisions copied on_target in_source → left ≡ [] → decisions ≡ decisions_of (settled_from job moment rows)
Settles-end job moment rows left decisions copied on_target in_source settles none =
    settles.decided
    ∙ ap (λ (all : List Row). decisions_of (settled_from job moment all)) (sym (settles.whole ∙ ap (λ (front : List Row). front ++ settles.behind) none))

-- Items

-- rows beside their decisions
pub zip_settled : (job : Job) (moment : ℕ) (rows : List Row) → zip rows (decisions_of (settled_from job moment rows)) ≡ settled_from job moment rows
zip_settled job moment [] = refl
zip_settled job moment (row ∷ rows) =
    ap (λ (rest : List Settled). (row, row_decision job moment (below_path (pair_path row.pair) (settled_from job moment rows)) row) ∷ rest) (zip_settled job moment rows)

to_list : {A : Type 0} (o : Option A) (rest : List A) → option_to_list o ++ rest ≡ cons_option o rest
to_list None rest = refl
to_list (Some x) rest = refl

pub items_more : (job : Job) (rows left next : List Row) (decisions rest others : List (Option Decision)) (row : Row) (decision : Option Decision) (items more : List Item) → items ++ filter_map (settled_item job) (zip left rest) ≡ filter_map (settled_item job) (zip rows decisions) → left ≡ row ∷ next → rest ≡ decision ∷ others → more ≡ items ++ option_to_list (settled_item job (row, decision)) → more ++ filter_map (settled_item job) (zip next others) ≡ filter_map (settled_item job) (zip rows decisions)
items_more job rows left next decisions rest others row decision items more sofar is told pushed =
    ap (λ (all : List Item). all ++ filter_map (settled_item job) (zip next others)) pushed
    ∙ append_assoc items (option_to_list (settled_item job (row, decision))) (filter_map (settled_item job) (zip next others))
    ∙ ap (λ (all : List Item). items ++ all) (to_list (settled_item job (row, decision)) (filter_map (settled_item job) (zip next others)))
    ∙ ap (λ (all : List (Option Decision)). items ++ filter_map (settled_item job) (zip (row ∷ next) all)) (sym told)
    ∙ ap (λ (all : List Row). items ++ filter_map (settled_item job) (zip all rest)) (sym is)
    ∙ sofar

pub items_end : (job : Job) (rows left : List Row) (decisions rest : List (Option Decision)) (items : List Item) → items ++ filter_map (settled_item job) (zip left rest) ≡ filter_map (settled_item job) (zip rows decisions) → left ≡ [] → items ≡ filter_map (settled_item job) (zip rows decisions)
items_end job rows left decisions rest items sofar none =
    sym (append-nil items) ∙ ap (λ (all : List Row). items ++ filter_map (settled_item job) (zip all rest)) (sym none) ∙ sofar

none_beside : (left : List Row) → zip {K = Row} {X = Option Decision} left [] ≡ []
none_beside [] = refl
none_beside (row ∷ left) = refl

pub items_short : (job : Job) (rows left : List Row) (decisions rest : List (Option Decision)) (items : List Item) → items ++ filter_map (settled_item job) (zip left rest) ≡ filter_map (settled_item job) (zip rows decisions) → rest ≡ [] → items ≡ filter_map (settled_item job) (zip rows decisions)
items_short job rows left decisions rest items sofar none =
    sym (append-nil items)
    ∙ ap (λ (all : List Settled). items ++ filter_map (settled_item job) all) (sym (none_beside left))
    ∙ ap (λ (all : List (Option Decision)). items ++ filter_map (settled_item job) (zip left all)) (sym none)
    ∙ sofar

pub items_settled : (job : Job) (moment : ℕ) (rows given : List Row) (decisions : List (Option Decision)) (items : List Item) → given ≡ rows → decisions ≡ decisions_of (settled_from job moment given) → items ≡ filter_map (settled_item job) (zip rows decisions) → items ≡ filter_map (settled_item job) (settled_from job moment rows)
items_settled job moment rows given decisions items same settled made =
    made
    ∙ ap (λ (all : List (Option Decision)). filter_map (settled_item job) (zip rows all)) (settled ∙ ap (λ (all : List Row). decisions_of (settled_from job moment all)) same)
    ∙ ap (filter_map (settled_item job)) (zip_settled job moment rows)
