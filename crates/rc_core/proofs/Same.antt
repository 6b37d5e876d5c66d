-- When texts, keys and properties are the same.
use Rattle.std.proofs.Common.{◌≡◌, ℕ, true, Bool, ◌&&◌, List, ap, refl, ◌∙◌, sym, true≢false}
use Rattle.std.specs.Prelude.{IsTrue, ◌↔◌}
use Rattle.std.specs.declared.cmp.Ordering.{Ordering}
use Rattle.std.specs.declared.cmp.Ordering.TheVariants.{Less, Equal, Greater}
use Rattle.std.specs.Ordering.{eq_by_cmp, is_eq}
use Rattle.std.specs.Bool.{beq}
use Rattle.std.specs.Cmp.{booleans_Decides, tied_itself}
use Rattle.rc_tree.specs.declared.attr.Attr.{Attr}
use Rattle.rc_tree.specs.declared.props.Props.{Props}
use Rattle.rc_tree.specs.Path.{key_cmp, name_cmp}
use Rattle.rc_core.proofs.Found.{both_true}
use Rattle.rc_tree.proofs.Keys.{key_itself, name_cmp-IsAntisymmetric, name_cmp-total, same_key}

pub keys_decide : (a b : List (List ℕ)) → IsTrue (eq_by_cmp key_cmp a b) ↔ (a ≡ b)
keys_decide a b = (same_key a b, λ same. ap (eq_by_cmp key_cmp a) (sym same) ∙ key_itself a)

equal_from_test : (r : Ordering) → is_eq r ≡ true → r ≡ Equal
equal_from_test Less e = absurd (true≢false (sym e))
equal_from_test Equal e = refl
equal_from_test Greater e = absurd (true≢false (sym e))

pub texts_decide : (a b : List ℕ) → IsTrue (eq_by_cmp name_cmp a b) ↔ (a ≡ b)
texts_decide a b = (
  (λ is. name_cmp-IsAntisymmetric a b (equal_from_test (name_cmp a b) is)),
  (λ same. ap (eq_by_cmp name_cmp a) (sym same) ∙ ap is_eq (tied_itself name_cmp-total a)),
)

pub same_props : (a b : Props) → a.attr ≡ b.attr → (a.created ≡ b.created) × (a.written ≡ b.written) → (a.access ≡ b.access) × (a.owner ≡ b.owner) × (a.audit ≡ b.audit) → a ≡ b
same_props a b attr times security = λ i. record {
  attr = attr i;
  created = times.0 i;
  written = times.1 i;
  access = security.0 i;
  owner = security.1 i;
  audit = security.2 i;
}

pub props_decide : (x y z : Bool) (a b : Props) → IsTrue x ↔ (a.attr ≡ b.attr) → IsTrue y ↔ ((a.created ≡ b.created) × (a.written ≡ b.written)) → IsTrue z ↔ ((a.access ≡ b.access) × (a.owner ≡ b.owner) × (a.audit ≡ b.audit)) → IsTrue (x && y && z) ↔ (a ≡ b)
props_decide x y z a b attr times security = (
  (λ all.
      let two = both_true (x && y) z all in
      let one = both_true x y two.0 in
      same_props a b (attr.0 one.0) (times.0 one.1) (security.0 two.1)),
  (λ same. all_true x y z (attr.1 (ap (λ (p : Props). p.attr) same))
      (times.1 (ap (λ (p : Props). p.created) same, ap (λ (p : Props). p.written) same))
      (security.1 (ap (λ (p : Props). p.access) same, ap (λ (p : Props). p.owner) same, ap (λ (p : Props). p.audit) same))),
)
  where
    all_true : (x y z : Bool) → x ≡ true → y ≡ true → z ≡ true → x && y && z ≡ true
    all_true x y z p q r = ap (λ b. b && y && z) p ∙ ap (λ b. b && z) q ∙ r

bit : (x y : Bool) → beq x y ≡ true → x ≡ y
bit x y e = (booleans_Decides x y).0 e

itself : (x : Bool) → beq x x ≡ true
itself x = (booleans_Decides x x).1 refl

pub and_also : (x y : Bool) → x ≡ true → y ≡ true → x && y ≡ true
and_also x y p q = ap (λ b. b && y) p ∙ q

abbrev same_bits : Attr → Attr → Bool
same_bits a b =
    beq a.readonly b.readonly && (beq a.hidden b.hidden && (beq a.system b.system && (beq a.archive b.archive && (beq a.temporary b.temporary
    && (beq a.sparse b.sparse && (beq a.compressed b.compressed && (beq a.offline b.offline && (beq a.not_indexed b.not_indexed && beq a.encrypted b.encrypted))))))))

same_attr : (a b : Attr) → same_bits a b ≡ true → a ≡ b
same_attr a b e =
    let p = both_true (beq a.readonly b.readonly) _ e in
    let q = both_true (beq a.hidden b.hidden) _ p.1 in
    let r = both_true (beq a.system b.system) _ q.1 in
    let s = both_true (beq a.archive b.archive) _ r.1 in
    let t = both_true (beq a.temporary b.temporary) _ s.1 in
    let u = both_true (beq a.sparse b.sparse) _ t.1 in
    let v = both_true (beq a.compressed b.compressed) _ u.1 in
    let w = both_true (beq a.offline b.offline) _ v.1 in
    let x = both_true (beq a.not_indexed b.not_indexed) _ w.1 in
    λ i. record {
      readonly = bit a.readonly b.readonly p.0 i;
      hidden = bit a.hidden b.hidden q.0 i;
      system = bit a.system b.system r.0 i;
      archive = bit a.archive b.archive s.0 i;
      temporary = bit a.temporary b.temporary t.0 i;
      sparse = bit a.sparse b.sparse u.0 i;
      compressed = bit a.compressed b.compressed v.0 i;
      offline = bit a.offline b.offline w.0 i;
      not_indexed = bit a.not_indexed b.not_indexed x.0 i;
      encrypted = bit a.encrypted b.encrypted x.1 i;
    }

attr_itself : (a : Attr) → same_bits a a ≡ true
attr_itself a =
    and_also _ _ (itself a.readonly) (and_also _ _ (itself a.hidden) (and_also _ _ (itself a.system) (and_also _ _ (itself a.archive) (and_also _ _ (itself a.temporary)
    (and_also _ _ (itself a.sparse) (and_also _ _ (itself a.compressed) (and_also _ _ (itself a.offline) (and_also _ _ (itself a.not_indexed) (itself a.encrypted)))))))))

pub attr_decide : (r : Bool) (a b : Attr) → r ≡ same_bits a b → IsTrue r ↔ (a ≡ b)
attr_decide r a b is = ((λ e. same_attr a b (sym is ∙ e)), (λ same. is ∙ ap (same_bits a) (sym same) ∙ attr_itself a))
