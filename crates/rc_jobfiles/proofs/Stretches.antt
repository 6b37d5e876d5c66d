-- Settings in stretches, each of switches whose numbers are below those of the next one, and what is looked up in them.
use Rattle.std.proofs.Common.{◌≡◌, ℕ, ◌≤◌, ◌<◌, Bool, true, false, ◌&&◌, ◌==◌, nat_le, nat_lt, List, [], ◌∷◌, ◌++◌, map, Option, Some, None, refl, sym, ap, ◌∙◌, append-nil, if◌then◌else◌, arith}
use Rattle.std.specs.List.{filter_map, flat_map, list_all}
use Rattle.std.proofs.lemmas.Bool.{and_parts, leb-true, ltb-true, ltb-false, ne_eqb}
use Rattle.std.proofs.lemmas.List.Elements.{filter_map-append}
use Rattle.rc_words.specs.declared.setting.Placed.{Placed}
use Rattle.rc_words.specs.declared.setting.Setting.{Setting}
use Rattle.rc_jobfiles.specs.Merge.{given, number_of}

pub record Stretch : Type 0 where
  pub least : ℕ
  pub settings : List Setting

-- the first number behind what stands before these, where the last one ends at some number
abbrev pub start : ℕ → List Stretch → ℕ
start end [] = end
start end (t ∷ ts) = t.least

abbrev pub flat : List Stretch → List Setting
flat ts = flat_map (λ t. t.settings) ts

abbrev pub is_within : ℕ → ℕ → Setting → Bool
is_within k next s = nat_le k (number_of s) && nat_lt (number_of s) next

abbrev pub InOrder : ℕ → List Stretch → Type 0
InOrder end [] = Unit {0}
InOrder end (t ∷ ts) =
    (t.least ≤ start end ts) × (list_all (is_within t.least (start end ts)) t.settings ≡ true) × InOrder end ts

-- the stretch of a number
abbrev pub at : ℕ → List Stretch → List Setting
at n [] = []
at n (t ∷ ts) = if nat_lt n (start 72 ts) then t.settings else at n ts

-- The settings of one switch

abbrev only : ℕ → List Setting → List Setting
only n [] = []
only n (s ∷ ss) = if number_of s == n then s ∷ only n ss else only n ss

only_append : (n : ℕ) (xs ys : List Setting) → only n (xs ++ ys) ≡ only n xs ++ only n ys
only_append n [] ys = refl
only_append n (x ∷ xs) ys = by_first (number_of x == n) (only n (xs ++ ys)) (only n xs) (only n ys) (only_append n xs ys)
  where
    by_first : (is : Bool) (both one two : List Setting) → both ≡ one ++ two → (if is then x ∷ both else both) ≡ (if is then x ∷ one else one) ++ two
    by_first true both one two e = ap (λ (ss : List Setting). x ∷ ss) e
    by_first false both one two e = e

only_none : (n k next : ℕ) (ss : List Setting) → list_all (is_within k next) ss ≡ true → ((m : ℕ) → k ≤ m → m < next → m ≡ n → ⊥) → only n ss ≡ []
only_none n k next [] h out = refl
only_none n k next (s ∷ ss) h out =
    let parts = and_parts (is_within k next s) (list_all (is_within k next) ss) h in
    let bounds = and_parts (nat_le k (number_of s)) (nat_lt (number_of s) next) parts.0 in
    let other = ne_eqb (number_of s) n (out (number_of s) (leb-true k (number_of s) bounds.0) (ltb-true (number_of s) next bounds.1)) in
    ap (λ (is : Bool). if is then s ∷ only n ss else only n ss) other ∙ only_none n k next ss parts.1 out

only_before : (n end : ℕ) (ts : List Stretch) → InOrder end ts → n < start end ts → only n (flat ts) ≡ []
only_before n end [] are below = refl
only_before n end (t ∷ ts) are below =
    only_append n t.settings (flat ts)
    ∙ ap (λ (ss : List Setting). ss ++ only n (flat ts)) (only_none n t.least (start end ts) t.settings are.1 (λ m low high e. omega (arith, low, e, below)))
    ∙ only_before n end ts are.2 (omega (arith, below, are.0))

only_at : (n : ℕ) (ts : List Stretch) → InOrder 72 ts → only n (flat ts) ≡ only n (at n ts)
only_at n [] are = refl
only_at n (t ∷ ts) are =
    only_append n t.settings (flat ts) ∙ by_start (nat_lt n (start 72 ts)) refl (only_at n ts are.2)
  where
    by_start : (below : Bool) → nat_lt n (start 72 ts) ≡ below → only n (flat ts) ≡ only n (at n ts) → only n t.settings ++ only n (flat ts) ≡ only n (if below then t.settings else at n ts)
    by_start true e later =
        ap (λ (ss : List Setting). only n t.settings ++ ss) (only_before n 72 ts are.2 (ltb-true n (start 72 ts) e))
        ∙ append-nil (only n t.settings)
    by_start false e later =
        ap (λ (ss : List Setting). ss ++ only n (flat ts)) (only_none n t.least (start 72 ts) t.settings are.1 (λ m low high same. omega (arith, high, same, ltb-false n (start 72 ts) e)))
        ∙ later

-- Look-ups

abbrev pub given_in : ℕ → List Setting → Option Setting
given_in n [] = None
given_in n (s ∷ ss) = if number_of s == n then Some s else given_in n ss

given_only : (n : ℕ) (ss : List Setting) → given_in n (only n ss) ≡ given_in n ss
given_only n [] = refl
given_only n (s ∷ ss) = by_first (number_of s == n) refl (given_only n ss)
  where
    by_first : (is : Bool) → (number_of s == n) ≡ is → given_in n (only n ss) ≡ given_in n ss → given_in n (if is then s ∷ only n ss else only n ss) ≡ (if is then Some s else given_in n ss)
    by_first true e later = ap (λ (is : Bool). if is then Some s else given_in n (only n ss)) e
    by_first false e later = later

given_settings : (n : ℕ) (ps : List Placed) → given n ps ≡ given_in n (map (λ p. p.setting) ps)
given_settings n [] = refl
given_settings n (p ∷ ps) = ap (λ (o : Option Setting). if number_of p.setting == n then Some p.setting else o) (given_settings n ps)

-- what is given of a number is given by its stretch
pub given_at : (n : ℕ) (ps : List Placed) (ts : List Stretch) → InOrder 72 ts → map (λ p. p.setting) ps ≡ flat ts → given n ps ≡ given_in n (at n ts)
given_at n ps ts are e =
    given_settings n ps
    ∙ ap (λ (ss : List Setting). given_in n ss) e
    ∙ sym (given_only n (flat ts))
    ∙ ap (λ (ss : List Setting). given_in n ss) (only_at n ts are)
    ∙ given_only n (at n ts)

-- values that the settings of one switch alone give
module _ {A : Type 0} (value : Setting → Option A) (n : ℕ) (miss : (s : Setting) → (number_of s == n) ≡ false → value s ≡ None) where
  values_only : (ss : List Setting) → filter_map value (only n ss) ≡ filter_map value ss
  values_only [] = refl
  values_only (s ∷ ss) = by_first (number_of s == n) refl (values_only ss)
    where
      by_first : (is : Bool) → (number_of s == n) ≡ is → filter_map value (only n ss) ≡ filter_map value ss → filter_map value (if is then s ∷ only n ss else only n ss) ≡ filter_map value (s ∷ ss)
      by_first true e later =
          filter_map-append value (s ∷ []) (only n ss)
          ∙ ap (λ (xs : List A). filter_map value (s ∷ []) ++ xs) later
          ∙ sym (filter_map-append value (s ∷ []) ss)
      by_first false e later = rw (miss s e) later

  values_settings : (ps : List Placed) → filter_map (λ p. value p.setting) ps ≡ filter_map value (map (λ p. p.setting) ps)
  values_settings [] = refl
  values_settings (p ∷ ps) =
      filter_map-append (λ (q : Placed). value q.setting) (p ∷ []) ps
      ∙ ap (λ (xs : List A). filter_map (λ (q : Placed). value q.setting) (p ∷ []) ++ xs) (values_settings ps)
      ∙ sym (filter_map-append value (p.setting ∷ []) (map (λ q. q.setting) ps))

  pub values_at : (ps : List Placed) (ts : List Stretch) → InOrder 72 ts → map (λ p. p.setting) ps ≡ flat ts → filter_map (λ p. value p.setting) ps ≡ filter_map value (at n ts)
  values_at ps ts are e =
      values_settings ps
      ∙ ap (λ (ss : List Setting). filter_map value ss) e
      ∙ sym (values_only (flat ts))
      ∙ ap (λ (ss : List Setting). filter_map value ss) (only_at n ts are)
      ∙ values_only (at n ts)
