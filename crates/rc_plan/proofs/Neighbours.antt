-- Rows of two trees, decided from the last one up, have the items that the definitions decide of their keys.
use Rattle.std.proofs.Common.{◌≡◌, ◌≢◌, ℕ, Bool, true, false, cond, not, ◌&&◌, List, [], ◌∷◌, ◌++◌, Option, Some, None, map, refl, sym, ap, subst, ◌∙◌}
use Rattle.std.proofs.lemmas.Bool.{true≢false}
use Rattle.std.proofs.lemmas.List.{append-nil}
use Rattle.std.specs.Prelude.{◌↔◌, T, is_some, option_map}
use Rattle.std.specs.List.{filter_map}
use Rattle.std.specs.Option.{option_and_then}
use Rattle.std.specs.FinMap.{get}
use Rattle.std.specs.FinMap.Entries.{is_sorted, below_all}
use Rattle.std.specs.Ordering.{eq_by_cmp, is_lt}
use Rattle.std.specs.declared.cmp.Ordering.TheVariants.{Less}
use Rattle.rc_tree.specs.declared.attr.Kind.{Kind}
use Rattle.rc_tree.specs.Path.{key_cmp, key_of}
use Rattle.rc_tree.specs.Spelled.{spelled}
use Rattle.rc_tree.specs.Tree.{IsTree, Node, Tree, kind_at}
use Rattle.rc_tree.proofs.Fronts.{spelled-key}
use Rattle.rc_tree.proofs.Keys.{key_cmp-total, same_key}
use Rattle.rc_class.specs.declared.decision.Act.{Act}
use Rattle.rc_class.specs.declared.decision.Act.TheVariants as act
use Rattle.rc_class.specs.declared.decision.After.{After}
use Rattle.rc_class.specs.declared.decision.After.TheVariants as after
use Rattle.rc_class.specs.declared.item.Item.{Item}
use Rattle.rc_class.specs.Items.{are_rising, item_at}
use Rattle.rc_class.specs.Sides.{Acts}
use Rattle.rc_class.specs.Units.{is_copy}
use Rattle.rc_job.specs.declared.job.Job.{Job}
use Rattle.rc_filter.specs.Decided.{Around, all_moved, all_purged, around, copies, decided_at, is_copied as is_copied_at, is_purge, is_removal, item_of, some_copied}
use Rattle.rc_filter.specs.Releases.{IsRemoved}
use Rattle.rc_filter.specs.Scope.{decides, is_above_in_scope, is_decided}
use Rattle.rc_plan.specs.declared.decisions.Below.{Below}
use Rattle.rc_plan.specs.declared.decisions.Decision.{Decision}
use Rattle.rc_plan.specs.declared.pairs.Pair.{Pair}
use Rattle.rc_plan.specs.declared.pairs.Pair.TheVariants as paired
use Rattle.rc_plan.specs.declared.rows.Row.{Row}
use Rattle.rc_plan.specs.Deciding.{pair_decision, pair_item}
use Rattle.rc_plan.specs.Found.{kind_found, seen_at}
use Rattle.rc_plan.specs.Pair.{pair_key, pair_path, source_kind, target_kind}
use Rattle.rc_plan.specs.Rows.{AreRowsOf, are_rows_rising, pair_in, placed_row, row_at, row_in}
use Rattle.rc_plan.specs.Settled.{Settled, below_path, first_where, is_copied, is_moved, is_purged, leads_to, settle_row, settled_from, settled_item, stays_in_source, stays_on_target}
use Rattle.rc_plan.proofs.Decides.{copy_in, decided_copied, file_alone, items_same, near_of}
use Rattle.rc_plan.proofs.Keyed.{Key, above_root, at_first, at_key, behind_first, below_parts, first_part, given_at, holds, is_true, less, part_at, same_some, second_part, some_none, sorted_given, sorted_parts, under}
use Rattle.rc_plan.proofs.Leads.{home, leads_where, led, longer}
use Rattle.rc_plan.proofs.Scans.{kind_seen, none_parts, not_seen, pair_parts, root_empty}

-- Tests

both_ways : (a b : Bool) → (a ≡ true → b ≡ true) → (b ≡ true → a ≡ true) → a ≡ b
both_ways true b to from = sym (to refl)
both_ways false true to from = from refl
both_ways false false to from = refl

first_of : (a b : Bool) → a && b ≡ true → a ≡ true
first_of true b e = refl
first_of false b e = e

second_of : (a b : Bool) → a && b ≡ true → b ≡ true
second_of true b e = e
second_of false b e = absurd (true≢false (sym e))

both_of : (a b : Bool) → a ≡ true → b ≡ true → a && b ≡ true
both_of true b e f = f
both_of false b e f = e

clash : (b : Bool) → not b ≡ true → b ≡ true → ⊥
clash true e f = true≢false (sym e)
clash false e f = true≢false (sym f)

not_true : (b : Bool) → (b ≡ true → ⊥) → not b ≡ true
not_true true never = absurd (never refl)
not_true false never = refl

-- What an item says

abbrev purge_in : Option Item → Bool
purge_in None = false
purge_in (Some item) = is_purge item.act

abbrev removal_in : Option Item → Bool
removal_in None = false
removal_in (Some item) = is_removal item.after

is_the_purge : (does : Act) → is_purge does ≡ true → does ≡ act.Purge
is_the_purge act.Purge e = refl
is_the_purge act.Copy e = absurd (true≢false (sym e))
is_the_purge act.Make e = absurd (true≢false (sym e))
is_the_purge act.Touch e = absurd (true≢false (sym e))
is_the_purge act.Fix e = absurd (true≢false (sym e))
is_the_purge act.Extra e = absurd (true≢false (sym e))
is_the_purge act.Mismatch e = absurd (true≢false (sym e))
is_the_purge (act.Keep why) e = absurd (true≢false (sym e))

is_the_removal : (then : After) → is_removal then ≡ true → then ≡ after.RemoveSource
is_the_removal after.RemoveSource e = refl
is_the_removal after.Nothing e = absurd (true≢false (sym e))
is_the_removal after.ClearArchive e = absurd (true≢false (sym e))

purged_item : (found : Option Item) → (purge_in found ≡ true) ↔ Acts act.Purge found
purged_item None = (λ e. absurd (true≢false (sym e)), λ at. absurd at)
purged_item (Some item) = (is_the_purge item.act, λ at. ap is_purge at)

removed_item : (found : Option Item) → (removal_in found ≡ true) ↔ IsRemoved found
removed_item None = (λ e. absurd (true≢false (sym e)), λ at. absurd at)
removed_item (Some item) = (is_the_removal item.after, λ at. ap is_removal at)

module _ (job : Job) where
  item_act : (decision : Decision) (pair : Pair) → (pair_item job decision pair).act ≡ decision.act
  item_act decision (paired.Source source target) = refl
  item_act decision (paired.Extra target) = refl

  item_after : (decision : Decision) (pair : Pair) → (pair_item job decision pair).after ≡ decision.after
  item_after decision (paired.Source source target) = refl
  item_after decision (paired.Extra target) = refl

  copied_so : (one : Settled) → is_copied one.1 ≡ copy_in (settled_item job one)
  copied_so (row, None) = refl
  copied_so (row, Some decision) = ap is_copy (sym (item_act decision row.pair))

  purged_so : (one : Settled) → is_purged one.1 ≡ purge_in (settled_item job one)
  purged_so (row, None) = refl
  purged_so (row, Some decision) = ap is_purge (sym (item_act decision row.pair))

  moved_so : (one : Settled) → is_moved one.1 ≡ removal_in (settled_item job one)
  moved_so (row, None) = refl
  moved_so (row, Some decision) = ap is_removal (sym (item_after decision row.pair))

  -- an item stands at the key of its row
  item_home : (one : Settled) (item : Item) → settled_item job one ≡ Some item → key_of item.path ≡ home one
  item_home (row, None) item e = absurd (some_none item e)
  item_home (row, Some decision) item e = ap (λ (i : Item). key_of i.path) (sym (same_some _ item e)) ∙ path_of row.pair
    where
      path_of : (pair : Pair) → key_of (pair_item job decision pair).path ≡ pair_key pair
      path_of (paired.Source source target) = refl
      path_of (paired.Extra target) = refl

abbrev item_key : Item → Key
item_key item = key_of item.path

item_if : (job : Job) (row : Row) (b : Bool) (decision : Decision) → settled_item job (row, cond b (Some decision) None) ≡ cond b (Some (pair_item job decision row.pair)) None
item_if job row true decision = refl
item_if job row false decision = refl

-- Trees

shown_kind : (tree : Tree) (key : Key) → is_some (kind_at tree key) ≡ true → get tree key ≢ None
shown_kind tree key is none = true≢false (sym is ∙ ap (λ (found : Option Node). is_some (option_map (λ (node : Node). node.kind) found)) none)

kind_shown : (tree : Tree) (key : Key) → get tree key ≢ None → is_some (kind_at tree key) ≡ true
kind_shown tree key some = by (get tree key) refl
  where
    by : (found : Option Node) → get tree key ≡ found → is_some (option_map (λ (node : Node). node.kind) found) ≡ true
    by None e = absurd (some e)
    by (Some node) e = refl

-- Rows with their decisions

rows_back : (job : Job) (moment : ℕ) (rows : List Row) → map (λ (one : Settled). one.0) (settled_from job moment rows) ≡ rows
rows_back job moment [] = refl
rows_back job moment (row ∷ rows) = ap (λ (rest : List Row). row ∷ rest) (rows_back job moment rows)

abbrev row_home : Row → Key
row_home row = pair_key row.pair

settled_row : (job : Job) (moment : ℕ) (rows : List Row) (key : Key) → option_map (λ (one : Settled). one.0) (at_key home (settled_from job moment rows) key) ≡ row_at rows key
settled_row job moment rows key =
    part_at row_home (λ (one : Settled). one.0) (settled_from job moment rows) key
    ∙ ap (λ (all : List Row). row_at all key) (rows_back job moment rows)

settled_sorted : (job : Job) (moment : ℕ) (rows : List Row) → T (is_sorted key_cmp (map placed_row rows)) → T (is_sorted key_cmp (under home (settled_from job moment rows)))
settled_sorted job moment rows sorted =
    subst T
    (sym (sorted_parts row_home (λ (one : Settled). one.0) (settled_from job moment rows)
    ∙ ap (λ (all : List Row). is_sorted key_cmp (map placed_row all)) (rows_back job moment rows)))
    sorted

settled_above : (job : Job) (moment : ℕ) (key : Key) (rows : List Row) → T (below_all key_cmp key (map placed_row rows)) → T (below_all key_cmp key (under home (settled_from job moment rows)))
settled_above job moment key rows above =
    subst T
    (sym (below_parts row_home (λ (one : Settled). one.0) key (settled_from job moment rows)
    ∙ ap (λ (all : List Row). below_all key_cmp key (map placed_row all)) (rows_back job moment rows)))
    above

part_of : {A B : Type 0} (f : A → B) (o : Option A) (x : A) (found : Option B) → option_map f o ≡ found → o ≡ Some x → found ≡ Some (f x)
part_of f o x found is e = sym is ∙ ap (option_map f) e

no_part : {A B : Type 0} (f : A → B) (o : Option A) → option_map f o ≡ None → o ≡ None
no_part f None e = refl
no_part f (Some x) e = absurd (some_none (f x) (sym e))

-- a side has something at a pair that is not out
abbrev stays_by : (Pair → Option Kind) → (Option Decision → Bool) → Pair → Option Decision → Bool
stays_by kind out pair decision = is_some (kind pair) && not (out decision)

-- Laws

-- some file at or below a key is copied exactly where one is
abbrev pub CopiedLaw : Job → Tree → Tree → ℕ → Type 0
CopiedLaw job source target moment =
    (key : Key) → (some_copied job source target moment key ≡ true)
    ↔ ((names : Key) × (is_copied_at job source target moment (key ++ names) ≡ true))

-- all that a tree has below a key is out exactly where each is
abbrev pub OutLaw : Tree → (Key → Bool) → (Key → Type 0) → Type 0
OutLaw tree all Out =
    (key : Key) → (all key ≡ true)
    ↔ ((name : List ℕ) (names : Key) → get tree (key ++ name ∷ names) ≢ None → Out (key ++ name ∷ names))

module _ (job : Job) (source target : Tree) (moment : ℕ) (ours : IsTree source) (theirs : IsTree target) (copied : CopiedLaw job source target moment) (purged : OutLaw target (all_purged job source target) (λ key. Acts act.Purge (decided_at job source target moment key))) (moved : OutLaw source (all_moved job source target moment) (λ key. IsRemoved (decided_at job source target moment key))) where
  abbrev decided : Key → Option Item
  decided key = decided_at job source target moment key

  copied_there : (key : Key) → is_copied_at job source target moment key ≡ true → pair_in source target key ≡ None → ⊥
  copied_there key is none =
      true≢false (sym (first_of (copies job moment key (get source key) (get target key)) (is_decided job source target key) is)
      ∙ ap (λ (s : Option Node). copies job moment key s (get target key)) (not_seen source key (none_parts (seen_at source key) (seen_at target key) none).0))

  -- the row at a key
  abbrev row_there : Key → Option Row
  row_there key = option_map (row_in job source target key) (pair_in source target key)

  -- the rows are those of all keys behind one
  record Rest (before : Key) (rows : List Row) : Type 0 where
    sorted : T (is_sorted key_cmp (map placed_row rows))
    above : T (below_all key_cmp before (map placed_row rows))
    each : (key : Key) → key_cmp before key ≡ Less → row_at rows key ≡ row_there key

  -- what is settled at a key has the two sides' kinds there
  record Stands (key : Key) (row : Row) : Type 0 where
    pair : Pair
    there : pair_in source target key ≡ Some pair
    is : row ≡ row_in job source target key pair
    ours_is : source_kind row.pair ≡ kind_at source key
    theirs_is : target_kind row.pair ≡ kind_at target key

  stands_so : (key : Key) (row : Row) → row_there key ≡ Some row → Stands key row
  stands_so key row e = by (pair_in source target key) refl e
    where
      by : (o : Option Pair) → pair_in source target key ≡ o → option_map (row_in job source target key) o ≡ Some row → Stands key row
      by None _ e = absurd (some_none row e)
      by (Some pair) there e =
          let parts = pair_parts (seen_at source key) (seen_at target key) pair there in
          let is : row ≡ row_in job source target key pair = sym (same_some _ row e) in
          record {
            pair = pair;
            there = there;
            is = is;
            ours_is = ap (λ (r : Row). source_kind r.pair) is ∙ ap (option_map kind_found) parts.0 ∙ kind_seen source key;
            theirs_is = ap (λ (r : Row). target_kind r.pair) is ∙ ap (option_map kind_found) parts.1 ∙ kind_seen target key;
          }

  some_there : (key : Key) → (pair_in source target key ≡ None → ⊥) → (row : Row) × (row_there key ≡ Some row)
  some_there key some = by (pair_in source target key) refl
    where
      by : (o : Option Pair) → pair_in source target key ≡ o → (row : Row) × (option_map (row_in job source target key) o ≡ Some row)
      by None e = absurd (some e)
      by (Some pair) e = (row_in job source target key pair, refl)

  module _ (row : Row) (rows : List Row) (rest : Rest (pair_key row.pair) rows) (there : row_there (pair_key row.pair) ≡ Some row) (known : (key : Key) (one : Settled) → at_key home (settled_from job moment rows) key ≡ Some one → settled_item job one ≡ decided key) where
    abbrev later : List Settled
    later = settled_from job moment rows

    abbrev path : List (List ℕ)
    path = pair_path row.pair

    abbrev here : Key
    here = pair_key row.pair

    abbrev beneath : List ℕ → Key → Key
    beneath name names = pair_key row.pair ++ name ∷ names

    above : T (below_all key_cmp here (under home later))
    above = settled_above job moment here rows rest.above

    sorted : T (is_sorted key_cmp (under home later))
    sorted = settled_sorted job moment rows rest.sorted

    -- the one behind, where a side has something there
    found : (name : List ℕ) (names : Key) → (pair_in source target (beneath name names) ≡ None → ⊥) → (one : Settled) × (at_key home later (beneath name names) ≡ Some one)
    found name names some =
        let shown = some_there (beneath name names) some in
        by (at_key home later (beneath name names)) refl shown.0 (settled_row job moment rows (beneath name names) ∙ rest.each (beneath name names) (longer here name names) ∙ shown.1)
      where
        by : (o : Option Settled) → at_key home later (beneath name names) ≡ o → (shown : Row) → option_map (λ (one : Settled). one.0) (at_key home later (beneath name names)) ≡ Some shown → (one : Settled) × (at_key home later (beneath name names) ≡ Some one)
        by None e shown some = absurd (some_none shown (sym (ap (option_map (λ (one : Settled). one.0)) e) ∙ some))
        by (Some one) e shown some = (one, e)

    stands : (name : List ℕ) (names : Key) (one : Settled) → at_key home later (beneath name names) ≡ Some one → Stands (beneath name names) one.0
    stands name names one e =
        stands_so (beneath name names) one.0
        (sym (rest.each (beneath name names) (longer here name names))
        ∙ part_of (λ (one : Settled). one.0) (at_key home later (beneath name names)) one (row_at rows (beneath name names)) (settled_row job moment rows (beneath name names)) e)

    -- whether some file below is copied
    copied_known : (name : List ℕ) (names : Key) (one : Settled) → at_key home later (beneath name names) ≡ Some one → is_copied one.1 ≡ is_copied_at job source target moment (beneath name names)
    copied_known name names one e =
        copied_so job one ∙ ap copy_in (known (beneath name names) one e) ∙ decided_copied job source target moment (beneath name names)

    copied_flag : is_copied_at job source target moment here ≡ false → some_copied job source target moment here ≡ leads_to path (first_where (λ pair decision. is_copied decision) later)
    copied_flag other =
        both_ways (some_copied job source target moment here) (leads_to path (first_where (λ pair decision. is_copied decision) later)) to from
      where
        to : some_copied job source target moment here ≡ true → leads_to path (first_where (λ pair decision. is_copied decision) later) ≡ true
        to some = let at = (copied here).0 some in by at.0 at.1
          where
            by : (names : Key) → is_copied_at job source target moment (here ++ names) ≡ true → leads_to path (first_where (λ pair decision. is_copied decision) later) ≡ true
            by [] at = absurd (true≢false (sym at ∙ ap (is_copied_at job source target moment) (append-nil here) ∙ other))
            by (name ∷ names) at =
                let one = found name names (copied_there (beneath name names) at) in
                leads_where (λ pair decision. is_copied decision) path later above sorted name names one.0 one.1 (copied_known name names one.0 one.1 ∙ at)

        from : leads_to path (first_where (λ pair decision. is_copied decision) later) ≡ true → some_copied job source target moment here ≡ true
        from leads =
            let below = led (λ pair decision. is_copied decision) path later above sorted leads in
            (copied here).1 (below.name ∷ below.names, sym (copied_known below.name below.names below.one below.stands) ∙ below.passed)

    -- whether all that a side has below is out
    out_flag :
        (kind : Pair → Option Kind) (out : Option Decision → Bool) (tree : Tree) (all : Key → Bool) (Out : Key → Type 0)
        → OutLaw tree all Out
        → ((key : Key) → get tree key ≢ None → pair_in source target key ≡ None → ⊥)
        → ((key : Key) (row : Row) → Stands key row → kind row.pair ≡ kind_at tree key)
        → ((key : Key) (one : Settled) → at_key home later key ≡ Some one → (out one.1 ≡ true) ↔ Out key)
        → all here ≡ not (leads_to path (first_where (stays_by kind out) later))
    out_flag kind out tree all Out law shown kinds outs =
        both_ways (all here) (not (leads_to path (first_where (stays_by kind out) later))) to from
      where
        to : all here ≡ true → not (leads_to path (first_where (stays_by kind out) later)) ≡ true
        to whole =
            not_true (leads_to path (first_where (stays_by kind out) later))
            (λ leads.
            let below = led (stays_by kind out) path later above sorted leads in
            let at = stands below.name below.names below.one below.stands in
            let stays_there : is_some (kind below.one.0.pair) ≡ true = first_of (is_some (kind below.one.0.pair)) (not (out below.one.1)) below.passed in
            let some : get tree (beneath below.name below.names) ≢ None = shown_kind tree (beneath below.name below.names) (ap is_some (sym (kinds (beneath below.name below.names) below.one.0 at)) ∙ stays_there) in
            clash (out below.one.1) (second_of (is_some (kind below.one.0.pair)) (not (out below.one.1)) below.passed)
            ((outs (beneath below.name below.names) below.one below.stands).1 ((law here).0 whole below.name below.names some)))

        from : not (leads_to path (first_where (stays_by kind out) later)) ≡ true → all here ≡ true
        from never =
            (law here).1
            (λ name names some.
            let at = found name names (shown (beneath name names) some) in
            by name names some at.0 at.1 (out at.0.1) refl)
          where
            by : (name : List ℕ) (names : Key) → get tree (beneath name names) ≢ None → (one : Settled) → at_key home later (beneath name names) ≡ Some one → (b : Bool) → out one.1 ≡ b → Out (beneath name names)
            by name names some one e true is = (outs (beneath name names) one e).0 is
            by name names some one e false is =
                absurd (clash (leads_to path (first_where (stays_by kind out) later)) never
                (leads_where (stays_by kind out) path later above sorted name names one e
                (both_of (is_some (kind one.0.pair)) (not (out one.1))
                (ap is_some (kinds (beneath name names) one.0 (stands name names one e)) ∙ kind_shown tree (beneath name names) some)
                (ap not is))))

    purged_flag : all_purged job source target here ≡ not (leads_to path (first_where stays_on_target later))
    purged_flag =
        out_flag target_kind is_purged target (all_purged job source target) (λ key. Acts act.Purge (decided key)) purged
        (λ key some none. some (not_seen target key (none_parts (seen_at source key) (seen_at target key) none).1))
        (λ key row at. at.theirs_is)
        (λ key one e. (
          λ is. (purged_item (decided key)).0 (sym (purged_so job one ∙ ap purge_in (known key one e)) ∙ is),
          λ at. purged_so job one ∙ ap purge_in (known key one e) ∙ (purged_item (decided key)).1 at,
        ))

    moved_flag : all_moved job source target moment here ≡ not (leads_to path (first_where stays_in_source later))
    moved_flag =
        out_flag source_kind is_moved source (all_moved job source target moment) (λ key. IsRemoved (decided key)) moved
        (λ key some none. some (not_seen source key (none_parts (seen_at source key) (seen_at target key) none).0))
        (λ key row at. at.ours_is)
        (λ key one e. (
          λ is. (removed_item (decided key)).0 (sym (moved_so job one ∙ ap removal_in (known key one e)) ∙ is),
          λ at. moved_so job one ∙ ap removal_in (known key one e) ∙ (removed_item (decided key)).1 at,
        ))

    -- the item of the first row
    abbrev item_by : Around → Option Item
    item_by near = item_of job moment here (spelled source here) (spelled target here) near (get source here) (get target here)

    around_same : item_by (near_of (below_path path later)) ≡ item_by (around job source target moment here)
    around_same = by (is_copied_at job source target moment here) refl
      where
        by : (b : Bool) → is_copied_at job source target moment here ≡ b → item_by (near_of (below_path path later)) ≡ item_by (around job source target moment here)
        by true is =
            file_alone job moment here (spelled source here) (spelled target here) (near_of (below_path path later)) (around job source target moment here) (get source here) (get target here)
            (first_of (copies job moment here (get source here) (get target here)) (is_decided job source target here) is)
        by false is =
            ap (λ (b : Bool). item_by (record { some_copied = b; all_purged = not (leads_to path (first_where stays_on_target later)); all_moved = not (leads_to path (first_where stays_in_source later)) })) (sym (copied_flag is))
            ∙ ap (λ (b : Bool). item_by (record { some_copied = some_copied job source target moment here; all_purged = b; all_moved = not (leads_to path (first_where stays_in_source later)) })) (sym purged_flag)
            ∙ ap (λ (b : Bool). item_by (record { some_copied = some_copied job source target moment here; all_purged = all_purged job source target here; all_moved = b })) (sym moved_flag)

    head_decided : settled_item job (settle_row job moment row later) ≡ decided here
    head_decided =
        let at = stands_so here row there in
        let below : Below = below_path path later in
        item_if job row (decides job here (source_kind row.pair) (target_kind row.pair) && row.inside) (pair_decision job moment below row.pair)
        ∙ ap (λ (k : Option Kind). cond (decides job here k (target_kind row.pair) && row.inside) (Some (pair_item job (pair_decision job moment below row.pair) row.pair)) None) at.ours_is
        ∙ ap (λ (k : Option Kind). cond (decides job here (kind_at source here) k && row.inside) (Some (pair_item job (pair_decision job moment below row.pair) row.pair)) None) at.theirs_is
        ∙ ap (λ (r : Row). cond (decides job here (kind_at source here) (kind_at target here) && r.inside) (Some (pair_item job (pair_decision job moment below row.pair) row.pair)) None) at.is
        ∙ ap (λ (o : Option Item). cond (is_decided job source target here) o None)
        (items_same job moment here (spelled source here) (spelled target here) below (get source here) (get target here) row.pair
        (spelled-key source here ours) (spelled-key target here theirs)
        (at.there ∙ ap (λ (r : Row). Some r.pair) (sym at.is))
        ∙ around_same)

  -- what is settled is what is decided
  settled_known : (before : Key) (rows : List Row) → Rest before rows → (key : Key) (one : Settled) → at_key home (settled_from job moment rows) key ≡ Some one → settled_item job one ≡ decided key
  settled_known before [] rest key one e = absurd (some_none one e)
  settled_known before (row ∷ rows) rest key one e =
      by (settled_known (pair_key row.pair) rows next) (eq_by_cmp key_cmp key (pair_key row.pair)) refl e
    where
      later : key_cmp before (pair_key row.pair) ≡ Less
      later = less (key_cmp before (pair_key row.pair)) (first_part (is_lt (key_cmp before (pair_key row.pair))) (below_all key_cmp before (map placed_row rows)) rest.above)

      next : Rest (pair_key row.pair) rows
      next = record {
        sorted = second_part (below_all key_cmp (pair_key row.pair) (map placed_row rows)) (is_sorted key_cmp (map placed_row rows)) rest.sorted;
        above = first_part (below_all key_cmp (pair_key row.pair) (map placed_row rows)) (is_sorted key_cmp (map placed_row rows)) rest.sorted;
        each = λ q up. sym (behind_first row_home row rows q up) ∙ rest.each q (key_cmp-total.trans before (pair_key row.pair) q later up);
      }

      there : row_there (pair_key row.pair) ≡ Some row
      there = sym (rest.each (pair_key row.pair) later) ∙ at_first row_home row rows

      by : ((q : Key) (other : Settled) → at_key home (settled_from job moment rows) q ≡ Some other → settled_item job other ≡ decided q) → (b : Bool) → eq_by_cmp key_cmp key (pair_key row.pair) ≡ b → cond b (Some (settle_row job moment row (settled_from job moment rows))) (at_key home (settled_from job moment rows) key) ≡ Some one → settled_item job one ≡ decided key
      by known true is at =
          ap (settled_item job) (sym (same_some _ one at))
          ∙ head_decided row rows next there known
          ∙ ap decided (sym (same_key key (pair_key row.pair) is))
      by known false is at = known key one at

  rest_all : (rows : List Row) → are_rows_rising rows ≡ true → AreRowsOf job source target rows → Rest [] rows
  rest_all rows rising all = record {
    sorted = holds _ rising;
    above = above_root row_home rows (all [] ∙ ap (option_map (row_in job source target [])) (root_empty source target ours theirs));
    each = λ key _. all key;
  }

  -- where neither tree has an entry, nothing is decided
  none_decided : (key : Key) → pair_in source target key ≡ None → decided key ≡ None
  none_decided key none =
      let parts = none_parts (seen_at source key) (seen_at target key) none in
      ap (λ (s : Option Node). cond (decides job key (option_map (λ (node : Node). node.kind) s) (kind_at target key) && is_above_in_scope job source target key) (item_of job moment key (spelled source key) (spelled target key) (around job source target moment key) s (get target key)) None) (not_seen source key parts.0)
      ∙ ap (λ (t : Option Node). cond (decides job key None (option_map (λ (node : Node). node.kind) t) && is_above_in_scope job source target key) (item_of job moment key (spelled source key) (spelled target key) (around job source target moment key) None t) None) (not_seen target key parts.1)

  pub settled-decided : (rows : List Row) → are_rows_rising rows ≡ true → AreRowsOf job source target rows → (key : Key) → item_at (filter_map (settled_item job) (settled_from job moment rows)) key ≡ decided_at job source target moment key
  settled-decided rows rising all key =
      given_at home item_key (settled_item job) (item_home job) (settled_from job moment rows) (settled_sorted job moment rows (holds _ rising)) key
      ∙ by (at_key home (settled_from job moment rows) key) refl
    where
      by : (o : Option Settled) → at_key home (settled_from job moment rows) key ≡ o → option_and_then (settled_item job) o ≡ decided key
      by (Some one) e = settled_known [] rows (rest_all rows rising all) key one e
      by None e =
          sym (none_decided key
          (no_part (row_in job source target key) (pair_in source target key)
          (sym (all key) ∙ sym (settled_row job moment rows key) ∙ ap (option_map (λ (one : Settled). one.0)) e)))

-- The order of the items

pub settled-rising : (job : Job) (moment : ℕ) (rows : List Row) → are_rows_rising rows ≡ true → are_rising (filter_map (settled_item job) (settled_from job moment rows)) ≡ true
settled-rising job moment rows rising =
    is_true _ (sorted_given home item_key (settled_item job) (item_home job) (settled_from job moment rows) (settled_sorted job moment rows (holds _ rising)))

pub settled-root : (job : Job) (moment : ℕ) (rows : List Row) → are_rows_rising rows ≡ true → row_at rows [] ≡ None → item_at (filter_map (settled_item job) (settled_from job moment rows)) [] ≡ None
settled-root job moment rows rising none =
    given_at home item_key (settled_item job) (item_home job) (settled_from job moment rows) (settled_sorted job moment rows (holds _ rising)) []
    ∙ ap (option_and_then (settled_item job)) (no_part (λ (one : Settled). one.0) (at_key home (settled_from job moment rows) []) (settled_row job moment rows [] ∙ none))
