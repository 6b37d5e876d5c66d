-- Which calls of a site fail: by their numbers on a part, by their kind, and the reads of a file by its key.
use Rattle.std.specs.Prelude.{◌≡◌, ◌≢◌, ◌⊎◌, ◌↔◌, ℕ, All, ◌+◌, ◌-◌, ◌<◌, ◌==◌, if◌then◌else◌, max, min, false, true, Bool, IsTrue, List, ⊤, Option, None, Some, unwrap_or}
use Rattle.std.specs.BTreeMap as btree
use Rattle.std.specs.BTreeMap.{BTreeMap}
use Rattle.std.specs.BTreeSet as sorted
use Rattle.std.specs.Ordering.{nat_cmp}
use Rattle.rc_tree.specs.Path.{key_cmp, key_of}
use Rattle.rc_volume.specs.declared.want.Want.{Want}
use Rattle.rc_volume.specs.declared.site.Part.{Part}
use Rattle.rc_volume.specs.declared.site.Part.TheVariants.{Source, Target, Record}
use Rattle.rc_volume.specs.declared.site.Side.{Side}
use Rattle.rc_volume.specs.declared.site.Side.TheVariants as side
use Rattle.rc_volume.specs.Faults.{last_count}
use Rattle.rc_failing.specs.declared.call.Call.{Call}
use Rattle.rc_failing.specs.declared.call.Call.TheVariants.{Bind, Fill}
use Rattle.rc_failing.specs.declared.call.FailingKind.{FailingKind}
use Rattle.rc_failing.specs.declared.numbers.Numbers.{Numbers}
use Rattle.rc_failing.specs.declared.reads.FailingReads.{FailingReads}
use Rattle.rc_failing.specs.declared.named.Named.{Named}

-- Calls of a part by their numbers

-- the number of the next call; numbers stop at the greatest one of their type
abbrev pub next_number : Numbers → ℕ
next_number numbers = min (numbers.calls + 1) last_count

-- whether the call of this number fails
abbrev pub is_among : Numbers → ℕ → Bool
is_among numbers number = sorted.contains nat_cmp numbers.failing number

-- one call more, and the same named
abbrev pub counted : Numbers → Numbers
counted numbers = record numbers { calls = next_number numbers }

-- the call of this number fails too
pub record NamesNumber (number : ℕ) (old new : Numbers) : Type 0 where
  pub here : is_among new number ≡ true
  pub others : (other : ℕ) → other ≢ number → is_among new other ≡ is_among old other
  pub calls : new.calls ≡ old.calls

abbrev pub numbers_on : Named → Part → Numbers
numbers_on named Source = named.source
numbers_on named Target = named.target
numbers_on named Record = named.notes

-- Calls by their kind

-- the call is of the kind, those before it came, and some are left that fail
pub record IsOfKind (kind : FailingKind) (call : Call) : Type 0 where
  pub same : kind.call ≡ call
  pub now : kind.before ≡ 0
  pub left : 0 < kind.times

abbrev pub IsKindDue : Option FailingKind → Call → Type 0
IsKindDue None call = ⊥
IsKindDue (Some kind) call = IsOfKind kind call

-- one call of the kind came: it was one of those before, or else one of those that fail
abbrev pub one_passed : FailingKind → FailingKind
one_passed kind = record kind {
  before = kind.before - 1;
  times = if kind.before == 0 then kind.times - 1 else kind.times;
}

pub record Passes (call : Call) (old new : FailingKind) : Type 0 where
  pub same : old.call ≡ call → new ≡ one_passed old
  pub other : old.call ≢ call → new ≡ old

abbrev pub PassesKind : Call → Option FailingKind → Option FailingKind → Type 0
PassesKind call (Some old) (Some new) = Passes call old new
PassesKind call None None = ⊤
PassesKind call old new = ⊥

-- Reads

-- the kind is that of all reads
abbrev pub IsOfAllReads : Option FailingKind → Type 0
IsOfAllReads None = ⊥
IsOfAllReads (Some kind) = kind.call ≡ Fill

-- how many attempts at a read of the file at a key fail
abbrev pub times_at : BTreeMap (List (List ℕ)) ℕ → List (List ℕ) → ℕ
times_at reads key = unwrap_or (btree.get key_cmp reads key) 0

-- this attempt at a read of the file at a key fails
abbrev pub IsReadDue : FailingReads → List (List ℕ) → ℕ → Type 0
IsReadDue reads key attempt = (reads.all ≡ true) ⊎ (attempt < times_at reads.times key)

-- the reads of what is wanted fail as they are named
pub record FailsAsNamed (named : Named) (wants : List Want) (reads : FailingReads) : Type 0 where
  pub all : IsTrue reads.all ↔ IsOfAllReads named.kind
  pub times : All (λ want. times_at reads.times (key_of want.path) ≡ times_at named.reads (key_of want.path)) wants

-- All of them

-- the next call on this part, of this kind, fails
abbrev pub IsDue : Named → Part → Call → Type 0
IsDue named at call = let numbers = numbers_on named at in IsTrue (is_among numbers (next_number numbers)) ⊎ IsKindDue named.kind call

-- one call on this part was counted, and all but the kind stands
pub record CountsNumber (at : Part) (old new : Named) : Type 0 where
  pub here : numbers_on new at ≡ counted (numbers_on old at)
  pub others : (other : Part) → other ≢ at → numbers_on new other ≡ numbers_on old other
  pub reads : new.reads ≡ old.reads

-- a call on this part, of this kind, came: it fails exactly where it is due, it was counted, and the same are named
pub record Comes (at : Part) (call : Call) (fails : Bool) (old new : Named) : Type 0 where
  pub due : IsTrue fails ↔ IsDue old at call
  pub number : CountsNumber at old new
  pub kind : PassesKind call old.kind new.kind

-- the calls that bind the roots came, and this side's failed: where the source's fails the target's does not come
abbrev pub ComesToBind : Option Side → Named → Named → Type 0
ComesToBind (Some side.Source) old new = Comes Source (Bind side.Source) true old new
ComesToBind (Some side.Target) old new = (mid : Named) × Comes Source (Bind side.Source) false old mid × Comes Target (Bind side.Target) true mid new
ComesToBind None old new = (mid : Named) × Comes Source (Bind side.Source) false old mid × Comes Target (Bind side.Target) false mid new

-- no call came yet, and none is named
pub record NamesNothing (named : Named) : Type 0 where
  pub calls : (at : Part) → (numbers_on named at).calls ≡ 0
  pub numbers : (at : Part) (number : ℕ) → is_among (numbers_on named at) number ≡ false
  pub kind : named.kind ≡ None
  pub reads : (key : List (List ℕ)) → times_at named.reads key ≡ 0

-- the call of this number on this part is named too, and nothing else changed
pub record NamesCall (at : Part) (number : ℕ) (old new : Named) : Type 0 where
  pub here : NamesNumber number (numbers_on old at) (numbers_on new at)
  pub others : (other : Part) → other ≢ at → numbers_on new other ≡ numbers_on old other
  pub kind : new.kind ≡ old.kind
  pub reads : new.reads ≡ old.reads

-- all but the reads stands
pub record SameCalls (old new : Named) : Type 0 where
  pub numbers : (at : Part) → numbers_on new at ≡ numbers_on old at
  pub kind : new.kind ≡ old.kind

-- the reads of the file at this key are named too, so many times or as often as before, and nothing else changed
pub record NamesReads (key : List (List ℕ)) (times : ℕ) (old new : Named) : Type 0 where
  pub here : times_at new.reads key ≡ max (times_at old.reads key) times
  pub others : (other : List (List ℕ)) → other ≢ key → times_at new.reads other ≡ times_at old.reads other
  pub calls : SameCalls old new

-- nothing changed
pub record SameReads (old new : Named) : Type 0 where
  pub reads : (key : List (List ℕ)) → times_at new.reads key ≡ times_at old.reads key
  pub calls : SameCalls old new
