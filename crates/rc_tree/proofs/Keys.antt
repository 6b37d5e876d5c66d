-- The order of keys is total, and keys that it ties are one. So a tree is told by what stands at each key.
use Rattle.std.proofs.Common.{◌≡◌, ◌≢◌, ℕ, true, false, List, refl, sym, ap, ◌∙◌}
use Rattle.std.proofs.lemmas.Bool.{true≢false}
use Rattle.std.specs.Ordering.{eq_by_cmp, is_eq, ordering_reverse}
use Rattle.std.specs.declared.cmp.Ordering.{Ordering}
use Rattle.std.specs.declared.cmp.Ordering.TheVariants.{Less, Equal, Greater}
use Rattle.std.specs.Cmp.{IsTotalOrder, nat_cmp_total, tied_itself}
use Rattle.std.specs.Cmp.Lexicographic.{lists_total}
use Rattle.std.specs.FinMap.{IsAntisymmetric, nat_cmp-IsAntisymmetric, slice_cmp-IsAntisymmetric, get, same_map}
use Rattle.rc_tree.specs.Path.{name_cmp, key_cmp}
use Rattle.rc_tree.specs.Tree.{Tree}

pub name_cmp-total : IsTotalOrder name_cmp
name_cmp-total = lists_total nat_cmp_total

pub key_cmp-total : IsTotalOrder key_cmp
key_cmp-total = lists_total name_cmp-total

pub name_cmp-IsAntisymmetric : IsAntisymmetric name_cmp
name_cmp-IsAntisymmetric = slice_cmp-IsAntisymmetric nat_cmp-IsAntisymmetric

pub key_cmp-IsAntisymmetric : IsAntisymmetric key_cmp
key_cmp-IsAntisymmetric = slice_cmp-IsAntisymmetric name_cmp-IsAntisymmetric

-- two trees with the same nodes at all keys are one
pub same_tree : (s t : Tree) → ((k : List (List ℕ)) → get s k ≡ get t k) → s ≡ t
same_tree s t same = same_map key_cmp-total key_cmp-IsAntisymmetric s t same

-- Tests on keys

equal_from_test : (r : Ordering) → is_eq r ≡ true → r ≡ Equal
equal_from_test Less e = absurd (true≢false (sym e))
equal_from_test Equal e = refl
equal_from_test Greater e = absurd (true≢false (sym e))

-- keys that tie are one
pub same_key : (a b : List (List ℕ)) → eq_by_cmp key_cmp a b ≡ true → a ≡ b
same_key a b e = key_cmp-IsAntisymmetric a b (equal_from_test (key_cmp a b) e)

pub key_itself : (a : List (List ℕ)) → eq_by_cmp key_cmp a a ≡ true
key_itself a = ap is_eq (tied_itself key_cmp-total a)

-- two keys that are not one don't tie
pub apart_keys : (a b : List (List ℕ)) → a ≢ b → eq_by_cmp key_cmp a b ≡ false
apart_keys a b apart = elim (eq_by_cmp key_cmp a b) as (λ r. eq_by_cmp key_cmp a b ≡ r → r ≡ false) [
  | true ↦ λ e. absurd (apart (same_key a b e))
  | false ↦ λ e. refl
] refl

-- a key below another is not the other
pub below_apart : (a b : List (List ℕ)) → key_cmp a b ≡ Less → eq_by_cmp key_cmp b a ≡ false
below_apart a b less = ap is_eq (key_cmp-total.antisymm b a ∙ ap ordering_reverse less)

pub below_not_same : (a b : List (List ℕ)) → key_cmp a b ≡ Less → b ≢ a
below_not_same a b less same = true≢false (sym (key_itself b) ∙ ap (eq_by_cmp key_cmp b) same ∙ below_apart a b less)
