-- That what is stored determines the attributes.
use Rattle.std.proofs.Common.{◌≡◌, ◌≢◌, ℕ, true, false, cond, Option, Some, None, ap, sym, ◌∙◌, arith}
use Rattle.std.specs.Prelude.{IfSome, IfNone, ◌==◌}
use Rattle.std.proofs.lemmas.Bool.Decides.{nat_tests}
use Rattle.rc_tree.specs.declared.attr.Attr.{Attr}
use Rattle.rc_tree.specs.declared.attr.Kind.{Kind}
use Rattle.rc_tree.specs.Attr.{stored_of}
use Rattle.rc_tree.proofs.Digits.{read_of-stored_of}
use Rattle.rc_record.specs.Codes.{attr_of, attr_with}

pub same_number : (m n : ℕ) → m ≡ n → (m == n) ≡ true
same_number m n h = grind (arith, nat_tests)

other_number : (m n : ℕ) → m ≢ n → (m == n) ≡ false
other_number m n h = grind (arith, nat_tests)

-- what is read of a stored form, or refused, is what it stands for
pub attr_known : (kind : Kind) (stored : ℕ) (read : Option Attr) → IfSome read (λ attr. stored_of kind attr ≡ stored) → IfNone read ((attr : Attr) → stored_of kind attr ≢ stored) → read ≡ attr_of kind stored
unfolding attr_of
attr_known kind stored (Some attr) is none =
    let back : attr_with stored ≡ attr = ap attr_with (sym is) ∙ read_of-stored_of kind attr in
    let found : stored_of kind (attr_with stored) ≡ stored = ap (stored_of kind) back ∙ is in
    ap Some (sym back) ∙ sym (ap (λ b. cond b (Some (attr_with stored)) None) (same_number _ _ found))
attr_known kind stored None is none = sym (ap (λ b. cond b (Some (attr_with stored)) None) (other_number _ _ (none (attr_with stored))))
