-- Items in the order of their keys: each copied one is found at its key, and no two have one key.
use Rattle.std.proofs.Common.{◌≡◌, ℕ, zero, suc, Bool, true, false, cond, List, [], ◌∷◌, map, refl, sym, ap, subst, ◌∙◌, true≢false}
use Rattle.std.specs.Prelude.{Some, filter, slice_get}
use Rattle.std.specs.FinMap.Entries.{below_all}
use Rattle.std.specs.Ordering.{eq_by_cmp, is_lt}
use Rattle.std.specs.declared.cmp.Ordering.{Ordering}
use Rattle.std.specs.declared.cmp.Ordering.TheVariants.{Less, Equal, Greater}
use Rattle.rc_tree.specs.Path.{key_cmp, key_of}
use Rattle.rc_tree.proofs.Keys.{below_apart, below_not_same, key_itself}
use Rattle.rc_class.specs.declared.item.Item.{Item}
use Rattle.rc_class.specs.Items.{are_rising, item_at, keyed}
use Rattle.rc_class.specs.Units.{is_copy}
use Rattle.rc_core.proofs.Found.{both_true}
use Rattle.rc_core.proofs.Lists.{same_some, some_none}

pub less : (r : Ordering) → is_lt r ≡ true → r ≡ Less
less Less e = refl
less Equal e = absurd (true≢false (sym e))
less Greater e = absurd (true≢false (sym e))

abbrev pub copied : List Item → List Item
copied items = filter (λ (item : Item). is_copy item.act) items

-- each lies above what all lie above
above : (key : List (List ℕ)) (items : List Item) (n : ℕ) (item : Item) → below_all key_cmp key (map keyed items) ≡ true → slice_get (copied items) n ≡ Some item → key_cmp key (key_of item.path) ≡ Less
above key [] n item below e = absurd (some_none item e)
above key (first ∷ items) n item below e =
    let tests = both_true (is_lt (key_cmp key (key_of first.path))) (below_all key_cmp key (map keyed items)) below in
    by (λ n e. above key items n item tests.1 e) (less (key_cmp key (key_of first.path)) tests.0) (is_copy first.act) n e
  where
    by : ((n : ℕ) → slice_get (copied items) n ≡ Some item → key_cmp key (key_of item.path) ≡ Less) → key_cmp key (key_of first.path) ≡ Less → (b : Bool) (n : ℕ) → slice_get (cond b (first ∷ copied items) (copied items)) n ≡ Some item → key_cmp key (key_of item.path) ≡ Less
    by later this true zero is = ap (λ (x : Item). key_cmp key (key_of x.path)) (sym (same_some first item is)) ∙ this
    by later this true (suc n) is = later n is
    by later this false n is = later n is

pub own_found : (items : List Item) (n : ℕ) (item : Item) → are_rising items ≡ true → slice_get (copied items) n ≡ Some item → item_at items (key_of item.path) ≡ Some item
own_found [] n item rising e = absurd (some_none item e)
own_found (first ∷ items) n item rising e =
    let tests = both_true (below_all key_cmp (key_of first.path) (map keyed items)) (are_rising items) rising in
    by (λ n e. own_found items n item tests.1 e) (λ n e. above (key_of first.path) items n item tests.0 e) (is_copy first.act) n e
  where
    at_first : first ≡ item → cond (eq_by_cmp key_cmp (key_of item.path) (key_of first.path)) (Some first) (item_at items (key_of item.path)) ≡ Some item
    at_first same = subst (λ (x : Item). cond (eq_by_cmp key_cmp (key_of x.path) (key_of first.path)) (Some first) (item_at items (key_of x.path)) ≡ Some x) same (ap (λ b. cond b (Some first) (item_at items (key_of first.path))) (key_itself (key_of first.path)))

    behind : key_cmp (key_of first.path) (key_of item.path) ≡ Less → item_at items (key_of item.path) ≡ Some item → cond (eq_by_cmp key_cmp (key_of item.path) (key_of first.path)) (Some first) (item_at items (key_of item.path)) ≡ Some item
    behind below found = ap (λ b. cond b (Some first) (item_at items (key_of item.path))) (below_apart (key_of first.path) (key_of item.path) below) ∙ found

    by : ((n : ℕ) → slice_get (copied items) n ≡ Some item → item_at items (key_of item.path) ≡ Some item) → ((n : ℕ) → slice_get (copied items) n ≡ Some item → key_cmp (key_of first.path) (key_of item.path) ≡ Less) → (b : Bool) (n : ℕ) → slice_get (cond b (first ∷ copied items) (copied items)) n ≡ Some item → cond (eq_by_cmp key_cmp (key_of item.path) (key_of first.path)) (Some first) (item_at items (key_of item.path)) ≡ Some item
    by later lies true zero is = at_first (same_some first item is)
    by later lies true (suc n) is = behind (lies n is) (later n is)
    by later lies false n is = behind (lies n is) (later n is)

pub one_number : (items : List Item) (n k : ℕ) (one other : Item) → are_rising items ≡ true → slice_get (copied items) n ≡ Some one → slice_get (copied items) k ≡ Some other → key_of one.path ≡ key_of other.path → n ≡ k
one_number [] n k one other rising p q same = absurd (some_none one p)
one_number (first ∷ items) n k one other rising p q same =
    let tests = both_true (below_all key_cmp (key_of first.path) (map keyed items)) (are_rising items) rising in
    by (λ n k p q. one_number items n k one other tests.1 p q same) (λ n item e. above (key_of first.path) items n item tests.0 e) (is_copy first.act) n k p q
  where
    by : ((n k : ℕ) → slice_get (copied items) n ≡ Some one → slice_get (copied items) k ≡ Some other → n ≡ k) → ((n : ℕ) (item : Item) → slice_get (copied items) n ≡ Some item → key_cmp (key_of first.path) (key_of item.path) ≡ Less) → (b : Bool) (n k : ℕ) → slice_get (cond b (first ∷ copied items) (copied items)) n ≡ Some one → slice_get (cond b (first ∷ copied items) (copied items)) k ≡ Some other → n ≡ k
    by later lies true zero zero x y = refl
    by later lies true zero (suc k) x y =
        absurd (below_not_same (key_of first.path) (key_of other.path) (lies k other y) (sym same ∙ ap (λ (i : Item). key_of i.path) (sym (same_some first one x))))
    by later lies true (suc n) zero x y =
        absurd (below_not_same (key_of first.path) (key_of one.path) (lies n one x) (same ∙ ap (λ (i : Item). key_of i.path) (sym (same_some first other y))))
    by later lies true (suc n) (suc k) x y = ap suc (later n k x y)
    by later lies false n k x y = later n k x y
