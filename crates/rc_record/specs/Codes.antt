-- What the numbers of a record stand for: the inverse of the codes that `rc_class` gives acts, classes and what comes
-- after, with those of kinds and attributes.
use Rattle.std.specs.Prelude.{ℕ, Bool, not, true, false, ◌==◌, List, [], ◌∷◌, Option, Some, None, find, if◌then◌else◌, bit_and}
use Rattle.rc_tree.specs.Attr.{stored_of}
use Rattle.rc_tree.specs.declared.attr.Attr.{Attr}
use Rattle.rc_tree.specs.declared.attr.Kind.{Kind}
use Rattle.rc_tree.specs.declared.attr.Kind.TheVariants.{File, Dir}
use Rattle.rc_class.specs.Codes.{act_code, after_code, class_code}
use Rattle.rc_class.specs.declared.class.Class.{Class}
use Rattle.rc_class.specs.declared.class.Class.TheVariants.{Lonely, Extra as Surplus, Newer, Older, Changed, Tweaked, Same as Equal, Mismatched}
use Rattle.rc_class.specs.declared.decision.Act.{Act}
use Rattle.rc_class.specs.declared.decision.Act.TheVariants.{Copy, Make, Touch, Fix, Purge, Extra, Mismatch, Keep}
use Rattle.rc_class.specs.declared.decision.After.{After}
use Rattle.rc_class.specs.declared.decision.After.TheVariants.{Nothing, RemoveSource, ClearArchive}
use Rattle.rc_class.specs.declared.decision.Reason.TheVariants as reason

-- the first of the values that has this number
abbrev pub with_code : {X : Type 0} → (X → ℕ) → List X → ℕ → Option X
with_code code values n = find (λ value. code value == n) values

abbrev pub acts : List Act
acts =
    Copy ∷ Make ∷ Touch ∷ Fix ∷ Purge ∷ Extra ∷ Mismatch
    ∷ Keep reason.NotNamed ∷ Keep reason.Excluded ∷ Keep reason.Attr ∷ Keep reason.Size
    ∷ Keep reason.Age ∷ Keep reason.Class ∷ Keep reason.Empty ∷ Keep reason.Same ∷ []

unfoldable pub act_of : ℕ → Option Act
act_of = with_code act_code acts

abbrev pub classes : List Class
classes = Lonely ∷ Surplus ∷ Newer ∷ Older ∷ Changed ∷ Tweaked ∷ Equal ∷ Mismatched ∷ []

unfoldable pub class_of : ℕ → Option Class
class_of = with_code class_code classes

unfoldable pub after_of : ℕ → Option After
after_of = with_code after_code (Nothing ∷ RemoveSource ∷ ClearArchive ∷ [])

abbrev pub kind_code : Kind → ℕ
kind_code File = 0
kind_code Dir = 1

unfoldable pub kind_of : ℕ → Option Kind
kind_of = with_code kind_code (File ∷ Dir ∷ [])

-- no other number than 0 and 1 is a flag
unfoldable pub flag_of : ℕ → Option Bool
flag_of n = if n == 0 then Some false else if n == 1 then Some true else None

-- whether a stored number has a bit, given by its value
abbrev pub has : ℕ → ℕ → Bool
has stored value = not (bit_and stored value == 0)

abbrev pub attr_with : ℕ → Attr
attr_with stored = record {
  readonly = has stored 0x1;
  hidden = has stored 0x2;
  system = has stored 0x4;
  archive = has stored 0x20;
  temporary = has stored 0x100;
  sparse = has stored 0x200;
  compressed = has stored 0x800;
  offline = has stored 0x1000;
  not_indexed = has stored 0x2000;
  encrypted = has stored 0x4000;
}

-- the attributes that are stored so at an entry of a kind
unfoldable pub attr_of : Kind → ℕ → Option Attr
attr_of kind stored = if stored_of kind (attr_with stored) == stored then Some (attr_with stored) else None
