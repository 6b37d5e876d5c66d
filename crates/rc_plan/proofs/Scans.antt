-- The scope of pairs one behind another is that of their keys.
use Rattle.std.proofs.Common.{◌≡◌, ◌≢◌, ℕ, ◌+◌, ◌-◌, ◌<◌, ◌≤◌, Bool, true, false, cond, ◌&&◌, List, [], ◌∷◌, ◌++◌, Option, Some, None, map, length, take, drop, inl, inr, ⊎_elim, refl, sym, ap, subst, ◌∙◌, append_assoc, arith, length-append}
use Rattle.std.proofs.lemmas.Bool.{true≢false, le-leb, leb-true, leb-false, lt-leb}
use Rattle.std.proofs.lemmas.List.{append-nil, take_all, take-take, take-append-le}
use Rattle.std.specs.Prelude.{◌⊎◌, T, option_map, nat_le}
use Rattle.std.specs.Option.{option_map_or}
use Rattle.std.specs.Cmp.{tied_itself}
use Rattle.std.specs.FinMap.{get}
use Rattle.std.specs.FinMap.Entries.{is_sorted, below_all}
use Rattle.std.specs.Ordering.{eq_by_cmp, is_lt, ordering_then}
use Rattle.std.specs.declared.cmp.Ordering.{Ordering}
use Rattle.std.specs.declared.cmp.Ordering.TheVariants.{Less, Equal, Greater}
use Rattle.rc_tree.specs.declared.attr.Kind.{Kind}
use Rattle.rc_tree.specs.declared.attr.Kind.TheVariants.{File, Dir}
use Rattle.rc_tree.specs.declared.entry.Entry.{Entry}
use Rattle.rc_tree.specs.Path.{key_cmp, name_cmp}
use Rattle.rc_tree.specs.Spelled.{spelled}
use Rattle.rc_tree.specs.Tree.{IsTree, Tree, Node, kind_at}
use Rattle.rc_tree.proofs.Fronts.{by_last, parent-more}
use Rattle.rc_tree.proofs.Keys.{key_cmp-total, name_cmp-total, name_cmp-IsAntisymmetric, same_key}
use Rattle.rc_job.specs.declared.job.Job.{Job}
use Rattle.rc_filter.specs.Scope.{enters, is_above_in_scope, is_in_scope}
use Rattle.rc_volume.specs.Site.{entry_of}
use Rattle.rc_plan.specs.declared.entries.Found.{Found}
use Rattle.rc_plan.specs.declared.pairs.Pair.{Pair}
use Rattle.rc_plan.specs.declared.rows.Row.{Row}
use Rattle.rc_plan.specs.Found.{directory_of, found_of, kind_found, kind_from, seen_at}
use Rattle.rc_plan.specs.Pair.{are_pairs_rising, pair_at, pair_key, pair_of, placed_pair, source_kind, source_of, target_kind, target_of}
use Rattle.rc_plan.specs.Rows.{ArePairsOf, AreRowsOf, are_rows_rising, is_inside, next_open, pair_in, row_at, row_in, row_of, rows_from}
use Rattle.rc_plan.proofs.Floors.{level_then, none_below}
use Rattle.rc_plan.proofs.Keyed.{Key, absent, at_first, behind_first, below_less, both, first_part, found_above, holds, part_at, same_some, second_part, some_none, sorted_parts}

-- The pairs of rows

pairs_back : (job : Job) (depth : ℕ) (pairs : List Pair) → map (λ (row : Row). row.pair) (rows_from job depth pairs) ≡ pairs
pairs_back job depth [] = refl
pairs_back job depth (pair ∷ pairs) = ap (λ (rest : List Pair). pair ∷ rest) (pairs_back job (next_open job depth pair) pairs)

pub rows-rising : (job : Job) (depth : ℕ) (pairs : List Pair) → are_pairs_rising pairs ≡ true → are_rows_rising (rows_from job depth pairs) ≡ true
rows-rising job depth pairs rising =
    sorted_parts pair_key (λ (row : Row). row.pair) (rows_from job depth pairs)
    ∙ ap are_pairs_rising (pairs_back job depth pairs)
    ∙ rising

no_part : {A B : Type 0} (f : A → B) (o : Option A) → option_map f o ≡ None → o ≡ None
no_part f None e = refl
no_part f (Some x) e = absurd (some_none (f x) (sym e))

pub rows-root : (job : Job) (depth : ℕ) (pairs : List Pair) → pair_at pairs [] ≡ None → row_at (rows_from job depth pairs) [] ≡ None
rows-root job depth pairs none =
    no_part (λ (row : Row). row.pair) (row_at (rows_from job depth pairs) [])
    (part_at pair_key (λ (row : Row). row.pair) (rows_from job depth pairs) []
    ∙ ap (λ (all : List Pair). pair_at all []) (pairs_back job depth pairs)
    ∙ none)

-- What was found in a tree

pub kind_back : (k : Kind) (entry : Entry) → kind_from (directory_of k entry) ≡ k
kind_back File entry = refl
kind_back Dir entry = refl

pub kind_seen : (tree : Tree) (key : Key) → option_map kind_found (seen_at tree key) ≡ kind_at tree key
kind_seen tree key = by (get tree key)
  where
    by : (o : Option Node) → option_map kind_found (option_map (λ (node : Node). found_of (spelled tree key) (entry_of node)) o) ≡ option_map (λ (node : Node). node.kind) o
    by None = refl
    by (Some node) = ap (λ k. Some k) (kind_back node.kind (entry_of node))

-- Keys and their fronts

pub data Snoc : List (List ℕ) → Type 0 where
  root : Snoc []
  more : (above : List (List ℕ)) (name : List ℕ) → Snoc (above ++ name ∷ [])

snoc : (key : List (List ℕ)) → Snoc key
snoc key = by_last Snoc root (λ above name _. more above name) key

longer : (key : List (List ℕ)) (name : List ℕ) → key_cmp key (key ++ name ∷ []) ≡ Less
longer [] name = refl
longer (k ∷ key) name = ap (λ r. ordering_then r (key_cmp key (key ++ name ∷ []))) (tied_itself name_cmp-total k) ∙ longer key name

-- a key that is neither below another nor behind all that is below that has it as its front
pub record HasFront (front key : List (List ℕ)) : Type 0 where
  pub same : take (length front) key ≡ front
  pub long : length front ≤ length key

pub front_between : (front rest key : List (List ℕ)) → is_lt (key_cmp key front) ≡ false → key_cmp key (front ++ rest) ≡ Less → HasFront front key
front_between [] rest key from below = record { same = refl; long = omega arith }
front_between (f ∷ front) rest [] from below = absurd (true≢false from)
front_between (f ∷ front) rest (k ∷ key) from below =
    let level : name_cmp k f ≡ Equal = level_then (name_cmp k f) (key_cmp key front) (key_cmp key (front ++ rest)) from below in
    let later = front_between front rest key
    (ap (λ r. is_lt (ordering_then r (key_cmp key front))) (sym level) ∙ from)
    (ap (λ r. ordering_then r (key_cmp key (front ++ rest))) (sym level) ∙ below) in
    record {
      same = ap (λ (n : List ℕ). n ∷ take (length front) key) (name_cmp-IsAntisymmetric k f level) ∙ ap (λ (ns : List (List ℕ)). f ∷ ns) later.same;
      long = omega (arith, later.long);
    }

-- Numbers

low_opens : (i e : Bool) (n len depth : ℕ) → nat_le (len - 1) depth ≡ i → n ≤ len - 1 → nat_le n depth ≡ nat_le n (cond i (cond e len (len - 1)) depth)
low_opens true true n len depth is low =
    let high : len - 1 ≤ depth = leb-true (len - 1) depth is in
    le-leb n depth (omega arith) ∙ sym (le-leb n len (omega arith))
low_opens true false n len depth is low =
    let high : len - 1 ≤ depth = leb-true (len - 1) depth is in
    le-leb n depth (omega arith) ∙ sym (le-leb n (len - 1) low)
low_opens false e n len depth is low = refl

here_opens : (i e : Bool) (len depth : ℕ) → nat_le (len - 1) depth ≡ i → 1 ≤ len → (i && e) ≡ nat_le len (cond i (cond e len (len - 1)) depth)
here_opens true true len depth is some = sym (le-leb len len (omega arith))
here_opens true false len depth is some = sym (lt-leb len (len - 1) (omega arith))
here_opens false e len depth is some =
    let low : depth < len - 1 = leb-false (len - 1) depth is in
    sym (lt-leb len depth (omega arith))

-- Pairs of two trees

pub pair_parts : (s t : Option Found) (pair : Pair) → pair_of s t ≡ Some pair → (source_of pair ≡ s) × (target_of pair ≡ t)
pair_parts None None pair e = absurd (some_none pair e)
pair_parts None (Some t) pair e = (sym (ap source_of (same_some _ pair e)), sym (ap target_of (same_some _ pair e)))
pair_parts (Some s) t pair e = (sym (ap source_of (same_some _ pair e)), sym (ap target_of (same_some _ pair e)))

pub none_parts : (s t : Option Found) → pair_of s t ≡ None → (s ≡ None) × (t ≡ None)
none_parts None None e = (refl, refl)
none_parts None (Some t) e = absurd (some_none _ (sym e))
none_parts (Some s) t e = absurd (some_none _ (sym e))

pub unseen : (tree : Tree) (key : List (List ℕ)) → get tree key ≡ None → seen_at tree key ≡ None
unseen tree key none = ap (λ (found : Option Node). option_map (λ node. found_of (spelled tree key) (entry_of node)) found) none

pub not_seen : (tree : Tree) (key : List (List ℕ)) → seen_at tree key ≡ None → get tree key ≡ None
not_seen tree key none = by (get tree key) none
  where
    by : (o : Option Node) → option_map (λ (node : Node). found_of (spelled tree key) (entry_of node)) o ≡ None → o ≡ None
    by None e = refl
    by (Some node) e = absurd (some_none _ (sym e))

scope_above-more : (job : Job) (source target : Tree) (names : List (List ℕ)) (name : List ℕ) → is_above_in_scope job source target (names ++ name ∷ []) ≡ is_in_scope job source target names
scope_above-more job source target names name = ap (λ o. option_map_or (is_in_scope job source target) o false) (parent-more names name)

-- a directory is in scope where the one above it is and it is gone into
abbrev pub ScopeLaw : Job → Tree → Tree → Type 0
ScopeLaw job source target =
    (above : List (List ℕ)) (name : List ℕ) → is_in_scope job source target (above ++ name ∷ [])
    ≡ (is_in_scope job source target above && enters job (above ++ name ∷ []) (kind_at source (above ++ name ∷ [])) (kind_at target (above ++ name ∷ [])))

pub root_empty : (source target : Tree) → IsTree source → IsTree target → pair_in source target [] ≡ None
root_empty source target ours theirs =
    ap (λ (s : Option Found). pair_of s (seen_at target [])) (unseen source [] ours.0) ∙ ap (λ (t : Option Found). pair_of None t) (unseen target [] theirs.0)

module _ (job : Job) (source target : Tree) (ours : IsTree source) (theirs : IsTree target) (law : ScopeLaw job source target) where
  -- where no directory stands, nothing stands in it
  empty_below : (dir : List (List ℕ)) (m name : List ℕ) → pair_in source target (dir ++ m ∷ []) ≡ None → pair_in source target ((dir ++ m ∷ []) ++ name ∷ []) ≡ None
  empty_below dir m name none =
      let parts = none_parts (seen_at source (dir ++ m ∷ [])) (seen_at target (dir ++ m ∷ [])) none in
      ap (pair_in source target) (append_assoc dir (m ∷ []) (name ∷ []))
      ∙ ap (λ (s : Option Found). pair_of s (seen_at target (dir ++ m ∷ name ∷ []))) (unseen source (dir ++ m ∷ name ∷ []) (none_below source ours dir m (name ∷ []) (not_seen source (dir ++ m ∷ []) parts.0)))
      ∙ ap (λ (t : Option Found). pair_of None t) (unseen target (dir ++ m ∷ name ∷ []) (none_below target theirs dir m (name ∷ []) (not_seen target (dir ++ m ∷ []) parts.1)))

  -- the pairs are those of all keys behind one, of which so many names lead through directories that are gone into
  record Follows (before : List (List ℕ)) (depth : ℕ) (pairs : List Pair) : Type 0 where
    sorted : T (is_sorted key_cmp (map placed_pair pairs))
    later : (key : List (List ℕ)) (pair : Pair) → pair_at pairs key ≡ Some pair → key_cmp before key ≡ Less
    in_trees : (key : List (List ℕ)) (pair : Pair) → pair_at pairs key ≡ Some pair → pair_in source target key ≡ Some pair
    others : (key : List (List ℕ)) (pair : Pair) → pair_at pairs key ≡ None → pair_in source target key ≡ Some pair → key_cmp before key ≡ Less → ⊥
    opens : (n : ℕ) → n ≤ length before → is_in_scope job source target (take n before) ≡ nat_le n depth

  module _ (before : List (List ℕ)) (depth : ℕ) (pair : Pair) (pairs : List Pair) (follows : Follows before depth (pair ∷ pairs)) where
    at_head : pair_at (pair ∷ pairs) (pair_key pair) ≡ Some pair
    at_head = at_first pair_key pair pairs

    stands : pair_in source target (pair_key pair) ≡ Some pair
    stands = follows.in_trees (pair_key pair) pair at_head

    -- the directory above is at or above the key before
    front_of : (above : List (List ℕ)) (name : List ℕ) → pair_key pair ≡ above ++ name ∷ [] → HasFront above before
    front_of above name is = by (snoc above) is
      where
        by : {above : List (List ℕ)} → Snoc above → pair_key pair ≡ above ++ name ∷ [] → HasFront above before
        by root is = record { same = refl; long = omega arith }
        by (more dir m) is =
            front_between (dir ++ m ∷ []) (name ∷ []) before (not_less (key_cmp before (dir ++ m ∷ [])) refl)
            (ap (key_cmp before) (sym is) ∙ follows.later (pair_key pair) pair at_head)
          where
            above_less : key_cmp (dir ++ m ∷ []) (pair_key pair) ≡ Less
            above_less = ap (key_cmp (dir ++ m ∷ [])) is ∙ longer (dir ++ m ∷ []) name

            missing : pair_at (pair ∷ pairs) (dir ++ m ∷ []) ≡ None
            missing =
                absent pair_key (dir ++ m ∷ []) (pair ∷ pairs)
                (both _ _ (holds _ (ap is_lt above_less)) (below_less pair_key (dir ++ m ∷ []) (pair_key pair) pairs above_less (first_part _ _ follows.sorted)))

            not_less : (r : Ordering) → key_cmp before (dir ++ m ∷ []) ≡ r → is_lt r ≡ false
            not_less Less e = absurd (by_pair (pair_in source target (dir ++ m ∷ [])) refl)
              where
                by_pair : (o : Option Pair) → pair_in source target (dir ++ m ∷ []) ≡ o → ⊥
                by_pair None none = some_none pair (sym (empty_below dir m name none) ∙ ap (pair_in source target) (sym is) ∙ stands)
                by_pair (Some x) some = follows.others (dir ++ m ∷ []) x missing some e
            not_less Equal e = refl
            not_less Greater e = refl

    -- scope, as the number tells it
    inside_scope : (above : List (List ℕ)) (name : List ℕ) → pair_key pair ≡ above ++ name ∷ [] → is_inside depth (pair_key pair) ≡ is_in_scope job source target above
    inside_scope above name is =
        let front = front_of above name is in
        ap (λ (n : ℕ). nat_le n depth) (ap (λ (k : List (List ℕ)). length k - 1) is ∙ omega (arith, length-append above (name ∷ [])))
        ∙ sym (ap (is_in_scope job source target) (sym front.same) ∙ follows.opens (length above) front.long)

    kinds : (source_kind pair ≡ kind_at source (pair_key pair)) × (target_kind pair ≡ kind_at target (pair_key pair))
    kinds =
        let parts = pair_parts (seen_at source (pair_key pair)) (seen_at target (pair_key pair)) pair stands in
        (ap (option_map kind_found) parts.0 ∙ kind_seen source (pair_key pair), ap (option_map kind_found) parts.1 ∙ kind_seen target (pair_key pair))

    not_root : pair_key pair ≢ []
    not_root is = some_none pair (sym (root_empty source target ours theirs) ∙ ap (pair_in source target) (sym is) ∙ stands)

    -- the first row
    row_here : row_of depth pair ≡ row_in job source target (pair_key pair) pair
    row_here = by (snoc (pair_key pair)) refl
      where
        by : {k : Key} → Snoc k → pair_key pair ≡ k → row_of depth pair ≡ row_in job source target (pair_key pair) pair
        by root is = absurd (not_root is)
        by (more above name) is =
            ap (λ (b : Bool). record { pair = pair; inside = b })
            (inside_scope above name is ∙ sym (ap (is_above_in_scope job source target) is ∙ scope_above-more job source target above name))

    -- what follows it
    opens_next : (n : ℕ) → n ≤ length (pair_key pair) → is_in_scope job source target (take n (pair_key pair)) ≡ nat_le n (next_open job depth pair)
    opens_next n low = by (snoc (pair_key pair)) refl
      where
        entered : Bool
        entered = enters job (pair_key pair) (source_kind pair) (target_kind pair)

        by : {k : List (List ℕ)} → Snoc k → pair_key pair ≡ k → is_in_scope job source target (take n (pair_key pair)) ≡ nat_le n (next_open job depth pair)
        by root is = absurd (not_root is)
        by (more above name) is =
            ⊎_elim
            (λ (small : n ≤ length above).
            ap (λ (k : List (List ℕ)). is_in_scope job source target (take n k)) is
            ∙ ap (is_in_scope job source target)
            (take-append-le n above (name ∷ []) small
            ∙ ap (take n) (sym front.same)
            ∙ take-take n (length above) before small)
            ∙ follows.opens n (omega (arith, small, front.long))
            ∙ low_opens (is_inside depth (pair_key pair)) (enters job (pair_key pair) (source_kind pair) (target_kind pair)) n (length (pair_key pair)) depth refl (omega (arith, long, small)))
            (λ (all : n ≡ length above + 1).
            ap (is_in_scope job source target) (take_all n (pair_key pair) (omega (arith, long, all)))
            ∙ ap (is_in_scope job source target) is
            ∙ law above name
            ∙ ap (λ (b : Bool). b && enters job (above ++ name ∷ []) (kind_at source (above ++ name ∷ [])) (kind_at target (above ++ name ∷ []))) (sym (inside_scope above name is))
            ∙ ap (λ (k : List (List ℕ)). is_inside depth (pair_key pair) && enters job k (kind_at source k) (kind_at target k)) (sym is)
            ∙ ap (λ (k : Option Kind). is_inside depth (pair_key pair) && enters job (pair_key pair) k (kind_at target (pair_key pair))) (sym kinds.0)
            ∙ ap (λ (k : Option Kind). is_inside depth (pair_key pair) && enters job (pair_key pair) (source_kind pair) k) (sym kinds.1)
            ∙ here_opens (is_inside depth (pair_key pair)) (enters job (pair_key pair) (source_kind pair) (target_kind pair)) (length (pair_key pair)) depth refl (omega (arith, long))
            ∙ ap (λ (m : ℕ). nat_le m (next_open job depth pair)) (same_number all))
            (split n (length above) (omega (arith, low, long)))
          where
            front : HasFront above before
            front = front_of above name is

            long : length (pair_key pair) ≡ length above + 1
            long = ap length is ∙ length-append above (name ∷ [])

            same_number : n ≡ length above + 1 → length (pair_key pair) ≡ n
            same_number all = omega (arith, long, all)

            split : (n l : ℕ) → n ≤ l + 1 → (n ≤ l) ⊎ (n ≡ l + 1)
            split n l low = by_test (nat_le n l) refl
              where
                by_test : (b : Bool) → nat_le n l ≡ b → (n ≤ l) ⊎ (n ≡ l + 1)
                by_test true is = inl (leb-true n l is)
                by_test false is = inr (let high : l < n = leb-false n l is in omega arith)

    next : Follows (pair_key pair) (next_open job depth pair) pairs
    next = record {
      sorted = second_part (below_all key_cmp (pair_key pair) (map placed_pair pairs)) _ follows.sorted;
      later = λ key x at. found_above pair_key (pair_key pair) key pairs x (first_part _ _ follows.sorted) at;
      in_trees = λ key x at. follows.in_trees key x (behind_first pair_key pair pairs key (found_above pair_key (pair_key pair) key pairs x (first_part _ _ follows.sorted) at) ∙ at);
      others = λ key x none some above.
          follows.others key x (behind_first pair_key pair pairs key above ∙ none) some
          (key_cmp-total.trans before (pair_key pair) key (follows.later (pair_key pair) pair at_head) above);
      opens = opens_next;
    }

  -- at each key the scan has the pair there, and its scope
  scan_at : (pairs : List Pair) (before : Key) (depth : ℕ) → Follows before depth pairs → (key : Key) → row_at (rows_from job depth pairs) key ≡ option_map (row_in job source target key) (pair_at pairs key)
  scan_at [] before depth follows key = refl
  scan_at (pair ∷ pairs) before depth follows key =
      elim (eq_by_cmp key_cmp key (pair_key pair)) as (λ b. eq_by_cmp key_cmp key (pair_key pair) ≡ b → cond b (Some (row_of depth pair)) (row_at (rows_from job (next_open job depth pair) pairs) key) ≡ option_map (row_in job source target key) (cond b (Some pair) (pair_at pairs key))) [
        | true ↦ λ is.
            ap (λ (row : Row). Some row) (row_here before depth pair pairs follows)
            ∙ ap (λ (k : Key). Some (row_in job source target k pair)) (sym (same_key key (pair_key pair) is))
        | false ↦ λ _. scan_at pairs (pair_key pair) (next_open job depth pair) (next before depth pair pairs follows) key
      ] refl

  follows_root : (pairs : List Pair) → are_pairs_rising pairs ≡ true → ArePairsOf source target pairs → Follows [] 0 pairs
  follows_root pairs rising all = record {
    sorted = holds _ rising;
    later = λ key pair at. behind_root key pair (sym (all key) ∙ at);
    in_trees = λ key pair at. sym (all key) ∙ at;
    others = λ key pair none some _. some_none pair (sym none ∙ all key ∙ some);
    opens = λ n low. let none : 0 ≡ n = omega (arith, low) in subst (λ (m : ℕ). is_in_scope job source target (take m []) ≡ nat_le m 0) none refl;
  }
    where
      behind_root : (key : List (List ℕ)) (pair : Pair) → pair_in source target key ≡ Some pair → key_cmp [] key ≡ Less
      behind_root [] pair some = absurd (some_none pair (sym (root_empty source target ours theirs) ∙ some))
      behind_root (k ∷ key) pair some = refl

  pub rows-of : (pairs : List Pair) → are_pairs_rising pairs ≡ true → ArePairsOf source target pairs → AreRowsOf job source target (rows_from job 0 pairs)
  rows-of pairs rising all key =
      scan_at pairs [] 0 (follows_root pairs rising all) key
      ∙ ap (option_map (row_in job source target key)) (all key)

-- The loop

pub scan_end : (job : Job) (depth : ℕ) (pairs left : List Pair) (rows : List Row) → rows ++ rows_from job depth left ≡ rows_from job 0 pairs → left ≡ [] → rows ≡ rows_from job 0 pairs
scan_end job depth pairs left rows sofar none =
    sym (append-nil rows) ∙ ap (λ (all : List Pair). rows ++ rows_from job depth all) (sym none) ∙ sofar

-- what is its own rest has nothing
pub ended : {A : Type 0} (all : List A) → all ≡ drop 1 all → all ≡ []
ended [] e = refl
ended (first ∷ rest) e = absurd (let same : length (first ∷ rest) ≡ length rest = ap length e in omega arith)
