-- The first row behind for which a test holds: a path leads to it exactly where the test holds of some row below.
use Rattle.std.proofs.Common.{◌≡◌, ℕ, Bool, true, false, cond, List, [], ◌∷◌, ◌++◌, Option, None, Some, length, take, drop, refl, sym, ap, subst, ◌∙◌}
use Rattle.std.proofs.lemmas.Bool.{true≢false}
use Rattle.std.proofs.lemmas.List.{append-nil, length-map, take-append-drop}
use Rattle.std.proofs.Math.Seq.{take-append_seam}
use Rattle.std.specs.Prelude.{T}
use Rattle.std.specs.Cmp.{tied_itself}
use Rattle.std.specs.FinMap.Entries.{is_sorted, below_all}
use Rattle.std.specs.Ordering.{eq_by_cmp, is_lt, ordering_reverse, ordering_then}
use Rattle.std.specs.declared.cmp.Ordering.TheVariants.{Less, Equal, Greater}
use Rattle.rc_tree.specs.Name.{folded}
use Rattle.rc_tree.specs.Path.{key_cmp, key_of}
use Rattle.rc_tree.proofs.Keys.{key_cmp-total, name_cmp-total, key_cmp-IsAntisymmetric, same_key, key_itself}
use Rattle.rc_plan.specs.declared.decisions.Decision.{Decision}
use Rattle.rc_plan.specs.declared.pairs.Pair.{Pair}
use Rattle.rc_plan.specs.Pair.{pair_key, pair_path}
use Rattle.rc_plan.specs.Settled.{Settled, first_where, leads_to}
use Rattle.rc_plan.proofs.Keyed.{Key, at_first, at_key, behind_first, first_part, found_above, same_some, second_part, some_none, under}
use Rattle.rc_plan.proofs.Scans.{front_between}

-- the key of a row with its decision
abbrev pub home : Settled → Key
home one = pair_key one.0.pair

pub longer : (key : Key) (name : List ℕ) (names : Key) → key_cmp key (key ++ name ∷ names) ≡ Less
longer [] name names = refl
longer (k ∷ key) name names = ap (λ r. ordering_then r (key_cmp key (key ++ name ∷ names))) (tied_itself name_cmp-total k) ∙ longer key name names

-- a key behind another, and not behind one below that, lies below it
front : (key names next : Key) → key_cmp key next ≡ Less → is_lt (key_cmp (key ++ names) next) ≡ false → take (length key) next ≡ key
front key names next above low =
    elim (key_cmp (key ++ names) next) as (λ r. key_cmp (key ++ names) next ≡ r → is_lt r ≡ false → take (length key) next ≡ key) [
      | Less ↦ λ _ not. absurd (true≢false not)
      | Equal ↦ λ same _. ap (take (length key)) (sym (key_cmp-IsAntisymmetric (key ++ names) next same)) ∙ take-append_seam key names
      | Greater ↦ λ high _.
          (front_between key names next
          (ap is_lt (key_cmp-total.antisymm next key ∙ ap ordering_reverse above))
          (key_cmp-total.antisymm next (key ++ names) ∙ ap ordering_reverse high)).same
    ] refl low

module _ (test : Pair → Option Decision → Bool) where
  abbrev passes : Settled → Bool
  passes one = test one.0.pair one.1

  -- the test holds at a key
  record IsAt (all : List Settled) (key : Key) : Type 0 where
    one : Settled
    stands : at_key home all key ≡ Some one
    passed : passes one ≡ true

  first_found : (all : List Settled) (path : List (List ℕ)) → T (is_sorted key_cmp (under home all)) → first_where test all ≡ Some path → IsAt all (key_of path)
  first_found [] path sorted e = absurd (some_none path e)
  first_found (one ∷ all) path sorted e =
      elim (passes one) as (λ b. passes one ≡ b → cond b (Some (pair_path one.0.pair)) (first_where test all) ≡ Some path → IsAt (one ∷ all) (key_of path)) [
        | true ↦ λ passed is. subst (λ (p : List (List ℕ)). IsAt (one ∷ all) (key_of p)) (same_some _ path is) (record { one = one; stands = at_first home one all; passed = passed })
        | false ↦ λ _ later.
            let rest = first_found all path (second_part (below_all key_cmp (home one) (under home all)) _ sorted) later in
            record {
              one = rest.one;
              stands = behind_first home one all (key_of path) (found_above home (home one) (key_of path) all rest.one (first_part _ _ sorted) rest.stands) ∙ rest.stands;
              passed = rest.passed;
            }
      ] refl e

  -- no row before a key passes but the first
  record IsFirstUpTo (all : List Settled) (key : Key) : Type 0 where
    path : List (List ℕ)
    first : first_where test all ≡ Some path
    low : is_lt (key_cmp key (key_of path)) ≡ false

  first_least : (all : List Settled) (key : Key) (one : Settled) → T (is_sorted key_cmp (under home all)) → at_key home all key ≡ Some one → passes one ≡ true → IsFirstUpTo all key
  first_least [] key one sorted e passed = absurd (some_none one e)
  first_least (head ∷ all) key one sorted e passed =
      by (passes head) refl
      (λ (at : at_key home all key ≡ Some one). first_least all key one (second_part (below_all key_cmp (home head) (under home all)) _ sorted) at passed)
    where
      not_below : at_key home (head ∷ all) key ≡ Some one → is_lt (key_cmp key (home head)) ≡ false
      not_below e =
          elim (eq_by_cmp key_cmp key (home head)) as (λ b. eq_by_cmp key_cmp key (home head) ≡ b → cond b (Some head) (at_key home all key) ≡ Some one → is_lt (key_cmp key (home head)) ≡ false) [
            | true ↦ λ is _. ap (λ (k : Key). is_lt (key_cmp k (home head))) (same_key key (home head) is) ∙ ap is_lt (tied_itself key_cmp-total (home head))
            | false ↦ λ _ later. ap is_lt (key_cmp-total.antisymm key (home head) ∙ ap ordering_reverse (found_above home (home head) key all one (first_part _ _ sorted) later))
          ] refl e

      in_rest : passes head ≡ false → at_key home all key ≡ Some one
      in_rest other =
          elim (eq_by_cmp key_cmp key (home head)) as (λ b. cond b (Some head) (at_key home all key) ≡ Some one → at_key home all key ≡ Some one) [
            | true ↦ λ is. absurd (true≢false (sym passed ∙ ap passes (sym (same_some head one is)) ∙ other))
            | false ↦ λ later. later
          ] e

      by : (b : Bool) → passes head ≡ b → (at_key home all key ≡ Some one → IsFirstUpTo all key) → IsFirstUpTo (head ∷ all) key
      by true is later = record { path = pair_path head.0.pair; first = ap (λ b. cond b (Some (pair_path head.0.pair)) (first_where test all)) is; low = not_below e }
      by false is later =
          let rest = later (in_rest is) in
          record { path = rest.path; first = ap (λ b. cond b (Some (pair_path head.0.pair)) (first_where test all)) is ∙ rest.first; low = rest.low }

  -- the test holds below a key
  pub record IsBelow (all : List Settled) (key : Key) : Type 0 where
    pub name : List ℕ
    pub names : Key
    pub one : Settled
    pub stands : at_key home all (key ++ name ∷ names) ≡ Some one
    pub passed : test one.0.pair one.1 ≡ true

  module _ (path : List (List ℕ)) (all : List Settled) (above : T (below_all key_cmp (key_of path) (under home all))) (sorted : T (is_sorted key_cmp (under home all))) where
    same_length : length path ≡ length (key_of path)
    same_length = sym (length-map path folded)

    pub led : leads_to path (first_where test all) ≡ true → IsBelow all (key_of path)
    led leads = by (first_where test all) refl leads
      where
        by : (o : Option (List (List ℕ))) → first_where test all ≡ o → leads_to path o ≡ true → IsBelow all (key_of path)
        by None e leads = absurd (true≢false (sym leads))
        by (Some next) e leads =
            let at = first_found all next sorted e in
            let same : take (length (key_of path)) (key_of next) ≡ key_of path = ap (λ (n : ℕ). take n (key_of next)) (sym same_length) ∙ same_key (take (length path) (key_of next)) (key_of path) leads in
            rest (drop (length (key_of path)) (key_of next))
            (sym (take-append-drop (length (key_of path)) (key_of next)) ∙ ap (λ (k : Key). k ++ drop (length (key_of path)) (key_of next)) same)
            at
            (found_above home (key_of path) (key_of next) all at.one above at.stands)
          where
            rest : (behind : Key) → key_of next ≡ key_of path ++ behind → (at : IsAt all (key_of next)) → key_cmp (key_of path) (key_of next) ≡ Less → IsBelow all (key_of path)
            rest [] is at later =
                absurd (true≢false (sym (ap is_lt (sym (ap (key_cmp (key_of path)) (is ∙ append-nil (key_of path))) ∙ later)) ∙ ap is_lt (tied_itself key_cmp-total (key_of path))))
            rest (name ∷ names) is at later = record {
              name = name;
              names = names;
              one = at.one;
              stands = ap (at_key home all) (sym is) ∙ at.stands;
              passed = at.passed;
            }

    pub leads_where : (name : List ℕ) (names : Key) (one : Settled) → at_key home all (key_of path ++ name ∷ names) ≡ Some one → test one.0.pair one.1 ≡ true → leads_to path (first_where test all) ≡ true
    leads_where name names one stands passed =
        let first = first_least all (key_of path ++ name ∷ names) one sorted stands passed in
        let found = first_found all first.path sorted first.first in
        ap (leads_to path) first.first
        ∙ ap (λ (n : ℕ). eq_by_cmp key_cmp (take n (key_of first.path)) (key_of path)) same_length
        ∙ ap (λ (k : Key). eq_by_cmp key_cmp k (key_of path)) (front (key_of path) (name ∷ names) (key_of first.path) (found_above home (key_of path) (key_of first.path) all found.one above found.stands) first.low)
        ∙ key_itself (key_of path)
