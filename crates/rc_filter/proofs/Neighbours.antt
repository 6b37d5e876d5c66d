-- How scope, and what is copied at or below a key, follow from what lies around it.
use Rattle.std.proofs.Common.{◌≡◌, ◌≢◌, ℕ, ◌<◌, Bool, true, false, not, ◌&&◌, ◌||◌, List, [], ◌∷◌, ◌++◌, Option, Some, None, length, take, drop, zero, suc, refl, sym, ap, subst, ◌∙◌, arith, append_assoc, length-append}
use Rattle.std.proofs.lemmas.Bool.{lt-ltb, ltb-true, true≢false}
use Rattle.std.specs.Prelude.{IfSome, is_some}
use Rattle.std.specs.List.{list_any}
use Rattle.std.specs.Option.{option_map_or}
use Rattle.std.specs.FinMap.{get, keys, contains_key-keys}
use Rattle.std.specs.Ordering.{eq_by_cmp}
use Rattle.rc_tree.specs.declared.attr.Kind.TheVariants.{Dir}
use Rattle.rc_tree.specs.Path.{key_cmp}
use Rattle.rc_tree.specs.Tree.{Node, Tree, IsDirectory, IsTree, kind_at}
use Rattle.rc_tree.proofs.Fronts.{above-more as entry_above, by_last, parent-more}
use Rattle.rc_tree.proofs.Keys.{key_itself, same_key}
use Rattle.rc_job.specs.declared.job.Job.{Job}
use Rattle.rc_filter.specs.Decided.{copies, is_at_or_below, is_below, is_copied, some_copied, some_stays}
use Rattle.rc_filter.specs.Scope.{each_front, enters, is_above_in_scope, is_in_scope}

abbrev Key : Type 0
Key = List (List ℕ)

-- Tests

pub first_of : (a b : Bool) → a && b ≡ true → a ≡ true
first_of true b e = refl
first_of false b e = e

pub second_of : (a b : Bool) → a && b ≡ true → b ≡ true
second_of true b e = e
second_of false b e = absurd (true≢false (sym e))

pub both_of : (a b : Bool) → a ≡ true → b ≡ true → a && b ≡ true
both_of true b e f = f
both_of false b e f = e

and-true : (b : Bool) → b && true ≡ b
and-true true = refl
and-true false = refl

pub and-false : (b : Bool) → b && false ≡ false
and-false true = refl
and-false false = refl

and-assoc : (a b c : Bool) → a && (b && c) ≡ (a && b) && c
and-assoc true b c = refl
and-assoc false b c = refl

-- Scope

each_front-more : (test : Key → Bool) (above names : Key) (name : List ℕ) → each_front test above (names ++ name ∷ []) ≡ (each_front test above names && test (above ++ (names ++ name ∷ [])))
each_front-more test above [] name = and-true (test (above ++ name ∷ []))
each_front-more test above (first ∷ names) name =
    ap (λ b. test (above ++ first ∷ []) && b) (each_front-more test (above ++ first ∷ []) names name)
    ∙ ap (λ key. test (above ++ first ∷ []) && (each_front test (above ++ first ∷ []) names && test key)) (append_assoc above (first ∷ []) (names ++ name ∷ []))
    ∙ and-assoc (test (above ++ first ∷ [])) (each_front test (above ++ first ∷ []) names) (test (above ++ (first ∷ (names ++ name ∷ []))))

-- a directory is in scope where the one above it is and it is gone into
pub scope-more : (job : Job) (source target : Tree) (names : Key) (name : List ℕ) → is_in_scope job source target (names ++ name ∷ []) ≡ (is_in_scope job source target names && enters job (names ++ name ∷ []) (kind_at source (names ++ name ∷ [])) (kind_at target (names ++ name ∷ [])))
scope-more job source target names name = each_front-more (λ front. enters job front (kind_at source front) (kind_at target front)) [] names name

pub above-more : (job : Job) (source target : Tree) (names : Key) (name : List ℕ) → is_above_in_scope job source target (names ++ name ∷ []) ≡ is_in_scope job source target names
above-more job source target names name = ap (λ o. option_map_or (is_in_scope job source target) o false) (parent-more names name)

-- what is in scope is gone into
pub entered : (job : Job) (source target : Tree) (key : Key) → is_in_scope job source target key ≡ true → enters job key (kind_at source key) (kind_at target key) ≡ true
entered job source target key =
    by_last (λ key. is_in_scope job source target key ≡ true → enters job key (kind_at source key) (kind_at target key) ≡ true)
    (λ _. refl)
    (λ names name _ is. second_of (is_in_scope job source target names) _ (sym (scope-more job source target names name) ∙ is))
    key

-- and below what is in scope
pub scope-above : (job : Job) (source target : Tree) (key : Key) → key ≢ [] → is_in_scope job source target key ≡ true → is_above_in_scope job source target key ≡ true
scope-above job source target key =
    by_last (λ key. key ≢ [] → is_in_scope job source target key ≡ true → is_above_in_scope job source target key ≡ true)
    (λ some _. absurd (some refl))
    (λ names name _ _ is. above-more job source target names name ∙ first_of (is_in_scope job source target names) _ (sym (scope-more job source target names name) ∙ is))
    key

-- Keys that pass a test

or_true : (a b : Bool) → b ≡ true → (a || b) ≡ true
or_true true b e = refl
or_true false b e = e

found : (test : Key → Bool) (all : List Key) → list_any test all ≡ true → (key : Key) × (test key ≡ true) × (list_any (eq_by_cmp key_cmp key) all ≡ true)
found test [] e = absurd (true≢false (sym e))
found test (key ∷ all) e =
    elim (test key) as (λ b. test key ≡ b → (b || list_any test all) ≡ true → (at : Key) × (test at ≡ true) × ((eq_by_cmp key_cmp at key || list_any (eq_by_cmp key_cmp at) all) ≡ true)) [
      | true ↦ λ is _. (key, is, ap (λ b. b || list_any (eq_by_cmp key_cmp key) all) (key_itself key))
      | false ↦ λ _ later. let at = found test all later in (at.0, at.1, or_true (eq_by_cmp key_cmp at.0 key) (list_any (eq_by_cmp key_cmp at.0) all) at.2)
    ] refl e

finds : (test : Key → Bool) (all : List Key) (key : Key) → list_any (eq_by_cmp key_cmp key) all ≡ true → test key ≡ true → list_any test all ≡ true
finds test [] key e is = absurd (true≢false (sym e))
finds test (other ∷ all) key e is =
    elim (eq_by_cmp key_cmp key other) as (λ b. eq_by_cmp key_cmp key other ≡ b → (b || list_any (eq_by_cmp key_cmp key) all) ≡ true → (test other || list_any test all) ≡ true) [
      | true ↦ λ same _. ap (λ b. b || list_any test all) (ap test (sym (same_key key other same)) ∙ is)
      | false ↦ λ _ later. or_true (test other) (list_any test all) (finds test all key later is)
    ] refl e

front : (key names : Key) → take (length key) (key ++ names) ≡ key
front [] names = refl
front (name ∷ key) names = ap (λ rest. name ∷ rest) (front key names)

whole : (n : ℕ) (key : Key) → take n key ++ drop n key ≡ key
whole zero key = refl
whole (suc n) [] = refl
whole (suc n) (name ∷ key) = ap (λ rest. name ∷ rest) (whole n key)

-- Files that are copied

stands : (job : Job) (moment : ℕ) (key : Key) (source target : Option Node) → copies job moment key source target ≡ true → is_some source ≡ true
stands job moment key None target e = e
stands job moment key (Some node) target e = refl

-- a file below a key that is copied is found from there
pub copied_below : (job : Job) (source target : Tree) (moment : ℕ) (key names : Key) → is_copied job source target moment (key ++ names) ≡ true → some_copied job source target moment key ≡ true
copied_below job source target moment key names is =
    let below : is_at_or_below key (key ++ names) ≡ true = ap (λ k. eq_by_cmp key_cmp k key) (front key names) ∙ key_itself key in
    let there : is_some (get source (key ++ names)) ≡ true = stands job moment (key ++ names) (get source (key ++ names)) (get target (key ++ names)) (first_of (copies job moment (key ++ names) (get source (key ++ names)) (get target (key ++ names))) _ is) in
    finds (λ below. is_at_or_below key below && is_copied job source target moment below) (keys source) (key ++ names)
    (sym (contains_key-keys source (key ++ names)) ∙ there)
    (both_of (is_at_or_below key (key ++ names)) _ below is)

-- and where one is found, there is such a file
pub below_copied : (job : Job) (source target : Tree) (moment : ℕ) (key : Key) → some_copied job source target moment key ≡ true → (names : Key) × (is_copied job source target moment (key ++ names) ≡ true)
below_copied job source target moment key is =
    let at = found (λ below. is_at_or_below key below && is_copied job source target moment below) (keys source) is in
    let same : take (length key) at.0 ≡ key = same_key (take (length key) at.0) key (first_of (is_at_or_below key at.0) _ at.1) in
    let split : key ++ drop (length key) at.0 ≡ at.0 = ap (λ k. k ++ drop (length key) at.0) (sym same) ∙ whole (length key) at.0 in
    (drop (length key) at.0, ap (λ k. is_copied job source target moment k) split ∙ second_of (is_at_or_below key at.0) _ at.1)

-- What stays below a key

longer : (key names : Key) (name : List ℕ) → length key < length (key ++ name ∷ names)
longer key names name = omega (arith, length-append key (name ∷ names))

not_longer : (key : Key) → length key < length (key ++ []) → ⊥
not_longer key more = omega (arith, length-append key [], more)

below_key : (key names : Key) (name : List ℕ) → is_below key (key ++ name ∷ names) ≡ true
below_key key names name =
    both_of _ _
    (ap (λ k. eq_by_cmp key_cmp k key) (front key (name ∷ names)) ∙ key_itself key)
    (lt-ltb (length key) (length (key ++ name ∷ names)) (longer key names name))

split_below : (above key : Key) → is_below above key ≡ true → (name : List ℕ) × (names : Key) × (key ≡ above ++ name ∷ names)
split_below above key is =
    let same : take (length above) key ≡ above = same_key (take (length above) key) above (first_of (is_at_or_below above key) _ is) in
    by (drop (length above) key)
    (sym (ap (λ k. k ++ drop (length above) key) (sym same) ∙ whole (length above) key))
    (ltb-true (length above) (length key) (second_of (is_at_or_below above key) _ is))
  where
    by : (rest : Key) → key ≡ above ++ rest → length above < length key → (name : List ℕ) × (names : Key) × (key ≡ above ++ name ∷ names)
    by [] e more = absurd (not_longer above (subst (λ k. length above < length k) e more))
    by (name ∷ names) e more = (name, names, e)

clash : (b : Bool) → not b ≡ true → b ≡ true → ⊥
clash true e f = true≢false (sym e)
clash false e f = true≢false (sym f)

is_there : (found : Option Node) → found ≢ None → is_some found ≡ true
is_there None some = absurd (some refl)
is_there (Some node) some = refl

not_none : (found : Option Node) → is_some found ≡ true → found ≢ None
not_none None is none = true≢false (sym is)
not_none (Some node) is none = cc

module _ (passes : Key → Bool) (tree : Tree) where
  -- where nothing stays, all below passes
  pub none_stays : (key : Key) → not (some_stays passes tree key) ≡ true → (name : List ℕ) (names : Key) → get tree (key ++ name ∷ names) ≢ None → passes (key ++ name ∷ names) ≡ true
  none_stays key none name names there =
      let below = key ++ name ∷ names in
      elim (passes below) as (λ b. passes below ≡ b → b ≡ true) [
        | true ↦ λ _. refl
        | false ↦ λ fails. absurd (clash (some_stays passes tree key) none
            (finds (λ k. is_below key k && not (passes k)) (keys tree) below
            (sym (contains_key-keys tree below) ∙ is_there (get tree below) there)
            (both_of (is_below key below) (not (passes below)) (below_key key names name) (ap not fails))))
      ] refl

  -- and where all below passes, nothing stays
  pub all_pass : (key : Key) → ((name : List ℕ) (names : Key) → get tree (key ++ name ∷ names) ≢ None → passes (key ++ name ∷ names) ≡ true) → not (some_stays passes tree key) ≡ true
  all_pass key each =
      elim (some_stays passes tree key) as (λ b. some_stays passes tree key ≡ b → not b ≡ true) [
        | false ↦ λ _. refl
        | true ↦ λ is.
            let at = found (λ k. is_below key k && not (passes k)) (keys tree) is in
            let split = split_below key at.0 (first_of (is_below key at.0) (not (passes at.0)) at.1) in
            let there : get tree at.0 ≢ None = not_none (get tree at.0) (contains_key-keys tree at.0 ∙ at.2) in
            absurd (clash (passes at.0) (second_of (is_below key at.0) (not (passes at.0)) at.1)
            (ap passes split.2 ∙ each split.0 split.1 (subst (λ k. get tree k ≢ None) split.2 there)))
      ] refl

  -- nothing stays below what is below
  pub none_lower : (key names : Key) (name : List ℕ) → not (some_stays passes tree key) ≡ true → not (some_stays passes tree (key ++ name ∷ names)) ≡ true
  none_lower key names name none =
      all_pass (key ++ name ∷ names)
      (λ next rest there.
      let same : (key ++ name ∷ names) ++ next ∷ rest ≡ key ++ (name ∷ (names ++ next ∷ rest)) = append_assoc key (name ∷ names) (next ∷ rest) in
      ap passes same ∙ none_stays key none name (names ++ next ∷ rest) (subst (λ k. get tree k ≢ None) same there))

-- What has something below it is a directory

standing : (tree : Tree) (key : Key) → IsDirectory tree key → key ≢ [] → get tree key ≢ None
standing tree [] is some = absurd (some refl)
standing tree (name ∷ names) is some = is.1

more : (key names : Key) (name : List ℕ) → key ++ name ∷ names ≢ []
more [] names name e = cc
more (first ∷ key) names name e = cc

directory_over : (tree : Tree) (key : Key) (name : List ℕ) → IsTree tree → (names : Key) → get tree (key ++ name ∷ names) ≢ None → IsDirectory tree key
directory_over tree key name is =
    by_last (λ names. get tree (key ++ name ∷ names) ≢ None → IsDirectory tree key)
    (entry_above tree key name is)
    (λ names last up there.
    let same : (key ++ name ∷ names) ++ last ∷ [] ≡ key ++ (name ∷ (names ++ last ∷ [])) = append_assoc key (name ∷ names) (last ∷ []) in
    let above : IsDirectory tree (key ++ name ∷ names) = entry_above tree (key ++ name ∷ names) last is (subst (λ k. get tree k ≢ None) (sym same) there) in
    up (standing tree (key ++ name ∷ names) above (more key names name)))

kind_over : (tree : Tree) (key : Key) (node : Node) → get tree [] ≡ None → get tree key ≡ Some node → IsDirectory tree key → node.kind ≡ Dir
kind_over tree [] node root here is = absurd (nowhere (sym root ∙ here))
  where
    nowhere : None ≡ Some node → ⊥
    nowhere e = cc
kind_over tree (name ∷ names) node root here is = subst (λ o. IfSome o (λ (n : Node). n.kind ≡ Dir)) here is.0

pub has_below : (tree : Tree) (key : Key) (node : Node) (name : List ℕ) (names : Key) → IsTree tree → get tree key ≡ Some node → get tree (key ++ name ∷ names) ≢ None → node.kind ≡ Dir
has_below tree key node name names is here there = kind_over tree key node is.0 here (directory_over tree key name is names there)
