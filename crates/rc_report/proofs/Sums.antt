-- How the totals grow item by item.
use Rattle.std.proofs.Common.{◌≡◌, ℕ, zero, suc, ◌+◌, ◌<◌, ◌≤◌, Bool, true, false, List, [], ◌∷◌, length, map, take, get_or, sym, ap, ◌∙◌, arith}
use Rattle.std.specs.List.{enumerate_from, sum_by}
use Rattle.std.specs.Prelude.{if◌then◌else◌}
use Rattle.std.proofs.lemmas.List.{get_or-map, length-map}
use Rattle.std.proofs.lemmas.List.FromFn.{get_or-enumerate_from, length-enumerate_from}
use Rattle.std.proofs.lemmas.List.Sums.{sum_by_more}
use Rattle.rc_tree.specs.declared.attr.Kind.{Kind}
use Rattle.rc_class.specs.declared.item.Item.{Item}
use Rattle.rc_class.specs.declared.rules.GivenUp.{GivenUp}
use Rattle.rc_report.specs.declared.totals.Column.{Column}
use Rattle.rc_report.specs.Totals.{added, columns, is_given_up, is_in, reported, reported_at, share_of, sum_in, HasRoom, Reported}

-- Reported items

pub length-reported : (items : List Item) (failed : List GivenUp) → length (reported items failed) ≡ length items
length-reported items failed = length-map (enumerate_from 0 items) (reported_at failed) ∙ length-enumerate_from 0 items

-- the one at a place
pub reported_is : (items : List Item) (failed : List GivenUp) (place : ℕ) (x : Item) (g : Bool) (d : Reported) → place < length items → x ≡ get_or items place x → g ≡ is_given_up failed place x → get_or (reported items failed) place d ≡ record { item = x; given_up = g }
reported_is items failed place x g d l at given =
    let short : place < length (enumerate_from 0 items) = omega (arith, length-enumerate_from 0 items) in
    let start : 0 + place ≡ place = omega arith in
    get_or-map (reported_at failed) (enumerate_from 0 items) place (0, x) d short
    ∙ ap (reported_at failed) (get_or-enumerate_from 0 items place (0, x) l)
    ∙ ap (λ (n : ℕ). reported_at failed (n, get_or items place x)) start
    ∙ ap (λ (y : Item). reported_at failed (place, y)) (sym at)
    ∙ ap (λ (b : Bool). record { item = x; given_up = b }) (sym given)

-- Sums of columns

pub sum_more : (kind : Kind) (value : Reported → ℕ) (items : List Item) (failed : List GivenUp) (place : ℕ) (x : Item) (g : Bool) → place < length items → x ≡ get_or items place x → g ≡ is_given_up failed place x → (column : Column) → sum_in kind value (take (place + 1) (reported items failed)) column ≡ sum_in kind value (take place (reported items failed)) column + share_of kind (value (record { item = x; given_up = g })) (record { item = x; given_up = g }) column
sum_more kind value items failed place x g l at given column =
    let r : Reported = record { item = x; given_up = g } in
    let rs = reported items failed in
    let f = λ (y : Reported). share_of kind (value y) y column in
    let short : place < length rs = omega (arith, length-reported items failed) in
    sum_by_more f rs place r short ∙ ap (λ (y : Reported). sum_by f (take place rs) + f y) (reported_is items failed place x g r l at given)

share_in : (b : Bool) (value : ℕ) → (if b then value else 0) ≤ value
share_in true value = omega arith
share_in false value = omega arith

pub share_below : (kind : Kind) (value : ℕ) (r : Reported) (column : Column) → share_of kind value r column ≤ value
share_below kind value r column = share_in (is_in kind r column) value

-- Rows

mapped_below : {X : Type 0} (f : X → ℕ) (a : ℕ) (xs : List X) → ((x : X) → f x ≤ a) → (place : ℕ) → get_or (map f xs) place 0 ≤ a
mapped_below f a [] h place = omega arith
mapped_below f a (x ∷ xs) h zero = h x
mapped_below f a (x ∷ xs) h (suc place) = mapped_below f a xs h place

pub has_room : (bound a b : ℕ) (f g : Column → ℕ) (row shares : List ℕ) → row ≡ map f columns → shares ≡ map g columns → ((column : Column) → f column ≤ a) → ((column : Column) → g column ≤ b) → a + b < bound → HasRoom bound row shares
has_room bound a b f g row shares is own below small room place =
    let front : get_or row place 0 ≤ a = rw is (mapped_below f a columns below place) in
    let more : get_or shares place 0 ≤ b = rw own (mapped_below g b columns small place) in
    omega arith

pub row_more : (f g whole : Column → ℕ) (row shares new : List ℕ) → row ≡ map f columns → shares ≡ map g columns → new ≡ added row shares → ((column : Column) → whole column ≡ f column + g column) → new ≡ map whole columns
row_more f g whole row shares new is own more sums =
    more ∙ ap (λ (r : List ℕ). added r shares) is ∙ ap (added (map f columns)) own ∙ (λ i. map (λ (column : Column). sym (sums column) i) columns)
