-- Steps of reading a line: what each one gave where all together gave a value.
use Rattle.std.proofs.Common.{◌≡◌, Bool, true, false, Option, Some, None, Result, Ok, Err, refl}
use Rattle.rc_sitetext.specs.declared.err.FaultKind.{FaultKind}
use Rattle.rc_sitetext.specs.declared.err.LineErr.{LineErr}
use Rattle.rc_sitetext.specs.declared.err.LineErr.TheVariants as line
use Rattle.rc_sitetext.specs.declared.err.ValueErr.{ValueErr}
use Rattle.rc_sitetext.specs.declared.err.ValueErr.TheVariants.{Refused, NoMemory}
use Rattle.rc_sitetext.specs.Faults.{◌>>=◌, Answers, Stops, holds, needed, needs}
use Rattle.rc_sitetext.specs.Reading.{Gives}

abbrev value : {A : Type 0} → A → Result A FaultKind
value x = Ok x

pub ok_is : {A : Type 0} (x y : A) → value x ≡ value y → x ≡ y
ok_is x y e = cc

pub bind_ok : {A B : Type 0} (r : Result A FaultKind) (f : A → Result B FaultKind) (y : B) → (r >>= f) ≡ Ok y → (x : A) × (r ≡ Ok x) × (f x ≡ Ok y)
bind_ok (Ok x) f y e = (x, refl, e)
bind_ok (Err kind) f y e = absurd cc

pub needs_ok : {A B : Type 0} (kind : FaultKind) (o : Option A) (f : A → Result B FaultKind) (y : B) → (needs kind o >>= f) ≡ Ok y → (x : A) × (o ≡ Some x) × (f x ≡ Ok y)
needs_ok kind (Some x) f y e = (x, refl, e)
needs_ok kind None f y e = absurd cc

pub holds_ok : {A B : Type 0} (kind : FaultKind) (b : Bool) (x : A) (f : A → Result B FaultKind) (y : B) → (holds kind b x >>= f) ≡ Ok y → (b ≡ true) × (f x ≡ Ok y)
holds_ok kind true x f y e = (refl, e)
holds_ok kind false x f y e = absurd cc

-- a value that a field gave, or its fault
pub answers_needed : {X Y : Type 0} (view : X → Y) (kind : FaultKind) (read : Result X ValueErr) (o : Option Y) → Gives view read o → Answers view (needed kind read) (needs kind o)
answers_needed view kind (Ok x) o e = rw e refl
answers_needed view kind (Err Refused) o e = rw e refl
answers_needed view kind (Err NoMemory) o e = tt

pub gives_value : {X Y : Type 0} (view : X → Y) (kind : FaultKind) (read : Result X ValueErr) (o : Option Y) (x : X) → Gives view read o → needed kind read ≡ Ok x → o ≡ Some (view x)
gives_value view kind (Ok x) o y e is = let same : x ≡ y = cc in rw (← same) e
gives_value view kind (Err Refused) o y e is = absurd cc
gives_value view kind (Err NoMemory) o y e is = absurd cc

pub gives_fault : {X Y Z : Type 0} (view : X → Y) (kind : FaultKind) (read : Result X ValueErr) (o : Option Y) (e : LineErr) (f : Y → Result Z FaultKind) → Gives view read o → needed kind read ≡ Err e → Stops e (needs kind o >>= f)
gives_fault view kind (Ok x) o e f g is = absurd cc
gives_fault view kind (Err Refused) o e f g is = let same : line.Fault kind ≡ e = cc in rw (← same, g) refl
gives_fault view kind (Err NoMemory) o e f g is = let same : line.NoMemory ≡ e = cc in rw (← same) tt
