-- Files that are one unit each are read whole.
use Rattle.std.proofs.Common.{◌≡◌, ℕ, zero, suc, ◌-◌, ◌*◌, Bool, true, false, ◌&&◌, List, [], ◌∷◌, ◌++◌, Result, Ok, Err, inr, refl, sym, ap, ◌∙◌, arith, lt-ltb}
use Rattle.std.proofs.lemmas.List.{append-nil}
use Rattle.std.specs.Prelude.{filter, if◌then◌else◌, map, min, nat_lt}
use Rattle.std.specs.List.{range_with_len}
use Rattle.rc_class.specs.declared.item.Item.{Item}
use Rattle.rc_class.specs.Units.{is_copy, range_at, ranges_of, unit_of}
use Rattle.rc_volume.specs.declared.want.Want.{Want}
use Rattle.rc_copy.specs.Copying.{copies_any, AddsWants}
use Rattle.rc_copy.proofs.ItemLemmas.{first_false, second_false}
use Rattle.rc_copy.specs.Reading.{is_read, wants_in, wants_of, whole_file, whole_files}

abbrev want_for : Item → ℕ → Want
want_for item size = record { path = item.path; ranges = (0, size) ∷ [] }

-- the one range of a file that has bytes
one_range : (item : Item) (n : ℕ) → wants_in item.path (map (unit_of item) (ranges_of 0 (suc n))) ≡ want_for item (suc n) ∷ []
one_range item n =
    let count : min 1 (suc n) ≡ 1 = omega arith in
    let off : 0 * suc n ≡ 0 = omega arith in
    let len : min (suc n) (suc n - 0 * suc n) ≡ suc n = omega arith in
    ap (λ (k : ℕ). wants_in item.path (map (unit_of item) (map (range_at 0 (suc n)) (range_with_len 0 k)))) count
    ∙ ap (λ (o : ℕ). record { path = item.path; ranges = (o, min (suc n) (suc n - o)) ∷ [] } ∷ []) off
    ∙ ap (λ (l : ℕ). record { path = item.path; ranges = (0, l) ∷ [] } ∷ []) (let e : min (suc n) (suc n - 0) ≡ suc n = omega arith in e)

read_so : (item : Item) (b c : Bool) (size : ℕ) → wants_in item.path (if b && c then map (unit_of item) (ranges_of 0 size) else []) ≡ (if b && (c && nat_lt 0 size) then want_for item size ∷ [] else [])
read_so item true true zero = refl
read_so item true true (suc n) =
    one_range item n ∙ ap (λ (b : Bool). if b then want_for item (suc n) ∷ [] else []) (sym (lt-ltb 0 (suc n) (omega arith)))
read_so item true false size = refl
read_so item false c size = refl

-- what is read of the first item and of those behind it
before_rest : (b : Bool) (item : Item) (items : List Item) → (if b then whole_file item ∷ [] else []) ++ map whole_file items ≡ map whole_file (if b then item ∷ items else items)
before_rest true item items = refl
before_rest false item items = refl

pub wants_are_whole : (with_bytes : Bool) (items : List Item) → wants_of 0 with_bytes items ≡ whole_files with_bytes items
wants_are_whole with_bytes [] = refl
wants_are_whole with_bytes (item ∷ items) =
    ap (λ (wants : List Want). wants ++ wants_of 0 with_bytes items) (read_so item with_bytes (is_copy item.act) item.facts.size)
    ∙ ap (λ (wants : List Want). (if is_read with_bytes item then whole_file item ∷ [] else []) ++ wants) (wants_are_whole with_bytes items)
    ∙ before_rest (is_read with_bytes item) item (filter (is_read with_bytes) items)

-- where no file is copied nothing is read
pub wants_none : (with_bytes : Bool) (items : List Item) → copies_any items ≡ false → wants_of 0 with_bytes items ≡ []
wants_none with_bytes [] none = refl
wants_none with_bytes (item ∷ items) none =
    ap (λ (b : Bool). wants_in item.path (if with_bytes && b then map (unit_of item) (ranges_of 0 item.facts.size) else []) ++ wants_of 0 with_bytes items) (first_false (is_copy item.act) (copies_any items) none)
    ∙ ap (λ (wants : List Want). wants ++ wants_of 0 with_bytes items) (nothing with_bytes)
    ∙ wants_none with_bytes items (second_false (is_copy item.act) (copies_any items) none)
  where
    nothing : (b : Bool) → wants_in item.path (if b && false then map (unit_of item) (ranges_of 0 item.facts.size) else []) ≡ []
    nothing true = refl
    nothing false = refl

pub opens_none : (with_bytes : Bool) (items : List Item) (old new : List Want) → copies_any items ≡ false → new ≡ old → new ≡ old ++ wants_of 0 with_bytes items
opens_none with_bytes items old new none same = same ∙ sym (append-nil old) ∙ ap (λ (wants : List Want). old ++ wants) (sym (wants_none with_bytes items none))

-- what was opened for the whole files stays open
pub opens_whole : {T E : Type 0} (result : Result T E) (with_bytes : Bool) (items : List Item) (old mid new : List Want) → mid ≡ old ++ whole_files with_bytes items → new ≡ mid → AddsWants result (wants_of 0 with_bytes items) old new
opens_whole (Ok x) with_bytes items old mid new first second =
    second ∙ first ∙ ap (λ (wants : List Want). old ++ wants) (sym (wants_are_whole with_bytes items))
opens_whole (Err e) with_bytes items old mid new first second =
    inr (second ∙ first ∙ ap (λ (wants : List Want). old ++ wants) (sym (wants_are_whole with_bytes items)))
