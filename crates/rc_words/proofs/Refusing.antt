-- A pattern that is refused, and want of memory.
use Rattle.std.proofs.Common.{◌≡◌, ◌⊎◌, inl, inr, if◌then◌else◌, Option, None, Some, Result, Ok, Err, is_none, ap}
use Rattle.rc_wild.specs.declared.fault.PatternErr.{PatternErr}
use Rattle.rc_wild.specs.declared.fault.PatternErr.TheVariants as pattern
use Rattle.rc_words.specs.declared.values.Fault.{Fault}
use Rattle.rc_words.specs.declared.values.Fault.TheVariants as fault

-- what a value or its fault is, where it is refused by kind 6
abbrev pub Refuses : {A : Type 0} → Option PatternErr → A → Fault → Type 0
Refuses {A} o x f = ◌≡◌ {A = Result A Fault} (Err f) (if is_none o then Ok x else Err (fault.Kind 6))

refused_by : {A : Type 0} (o : Option PatternErr) (e : PatternErr) (f : Fault) (x : A) → o ≡ Some e → f ≡ fault.Kind 6 → Refuses o x f
refused_by None e f x is by = cc
refused_by (Some d) e f x is by = ap (λ (y : Fault). Err y) by

pub refused : {A : Type 0} (o : Option PatternErr) (e : PatternErr) (f : Fault) (x : A) → (e ≡ pattern.NoMemory) ⊎ (o ≡ Some e) → (e ≡ pattern.NoMemory → f ≡ fault.NoMemory) → (f ≡ fault.Kind 6) ⊎ (f ≡ fault.NoMemory) → Refuses o x f ⊎ ◌≡◌ {A = Result A Fault} (Err f) (Err fault.NoMemory)
refused o e f x (inl memory) on_memory by = inr (ap (λ (y : Fault). Err y) (on_memory memory))
refused o e f x (inr is) on_memory (inl by) = inl (refused_by o e f x is by)
refused o e f x (inr is) on_memory (inr by) = inr (ap (λ (y : Fault). Err y) by)
