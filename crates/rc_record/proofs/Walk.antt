-- Reading items one after the other, as a loop does, and how many units they have.
use Rattle.std.proofs.Common.{◌≡◌, ℕ, suc, ◌+◌, ◌-◌, ◌<◌, ◌≤◌, List, [], ◌∷◌, ◌++◌, length, Result, Ok, Err, refl, sym, subst, ◌∙◌, arith}
use Rattle.std.specs.List.{flat_map}
use Rattle.std.proofs.lemmas.Grind.{flat_map-append}
use Rattle.std.proofs.lemmas.List.{append-nil, length-append}
use Rattle.std.proofs.lemmas.List.Concat.{flat_map-cons}
use Rattle.rc_class.specs.Units.{item_units}
use Rattle.rc_class.specs.declared.item.Item.{Item}
use Rattle.rc_record.specs.declared.err.RecordErr.{RecordErr}
use Rattle.rc_record.specs.declared.err.RecordErr.TheVariants.{BadRecord, NoMemory, RecordFault}
use Rattle.rc_record.specs.declared.head.Head.{Head}
use Rattle.rc_record.specs.Answers.{Fails}
use Rattle.rc_record.specs.Grammar.{items_at, limit_behind, next_at, units_in, Limit}

-- the limit behind so many units
abbrev pub limit_with : Head → ℕ → Limit
limit_with head units = limit_behind head.with_bytes head.stride units

-- so many units the items before have
abbrev pub AreUnits : Head → List Item → ℕ → Type 0
AreUnits head before units = units ≡ units_in head before

-- one more item was read
pub goes_on : (head : Head) (count i : ℕ) (before : List Item) (off : ℕ) (bytes : List ℕ) (item : Item) (behind : ℕ) (total : Result (List Item × ℕ) ℕ) → i < count
    → (units : ℕ) → AreUnits head before units → next_at (limit_with head units) before off bytes ≡ Ok (item, behind)
    → items_at head (count - i) before off bytes ≡ total → items_at head (count - (i + 1)) (before ++ item ∷ []) behind bytes ≡ total
unfolding items_at
goes_on head count i before off bytes item behind total more units counted read so_far =
    let here : next_at (limit_with head (units_in head before)) before off bytes ≡ Ok (item, behind) = subst (λ u. next_at (limit_with head u) before off bytes ≡ Ok (item, behind)) counted read in
    let k : count - i ≡ suc (count - (i + 1)) = omega arith in
    let one : items_at head (count - i) before off bytes ≡ items_at head (count - (i + 1)) (before ++ item ∷ []) behind bytes = rw (k, here) refl in
    sym one ∙ so_far

-- the next item is at fault
pub ends : (e : RecordErr) (head : Head) (count i : ℕ) (before : List Item) (off : ℕ) (bytes : List ℕ) (total : Result (List Item × ℕ) ℕ) → i < count
    → (units : ℕ) → AreUnits head before units → Fails e (next_at (limit_with head units) before off bytes)
    → items_at head (count - i) before off bytes ≡ total → Fails e total
unfolding items_at
ends RecordFault head count i before off bytes total more units counted fault so_far = tt
ends NoMemory head count i before off bytes total more units counted fault so_far = tt
ends (BadRecord place) head count i before off bytes total more units counted fault so_far =
    let here : next_at (limit_with head (units_in head before)) before off bytes ≡ Err place = subst (λ u. next_at (limit_with head u) before off bytes ≡ Err place) counted fault in
    let k : count - i ≡ suc (count - (i + 1)) = omega arith in
    let one : items_at head (count - i) before off bytes ≡ Err place = rw (k, here) refl in
    sym so_far ∙ one

-- all were read
pub is_done : (head : Head) (count i : ℕ) (before : List Item) (off : ℕ) (bytes : List ℕ) (total : Result (List Item × ℕ) ℕ) → count ≤ i → items_at head (count - i) before off bytes ≡ total → total ≡ Ok (before, off)
unfolding items_at
is_done head count i before off bytes total le so_far =
    let k : count - i ≡ 0 = omega arith in
    let one : items_at head (count - i) before off bytes ≡ Ok (before, off) = rw k refl in
    sym so_far ∙ one

-- the units of one item more
pub more_units : (head : Head) (before : List Item) (item : Item) (units more : ℕ) → AreUnits head before units → more ≡ length (item_units head.stride head.with_bytes item) → AreUnits head (before ++ item ∷ []) (units + more)
more_units head before item units more counted taken =
    let of_item = item_units head.stride head.with_bytes in
    let grown : flat_map of_item (before ++ item ∷ []) ≡ flat_map of_item before ++ flat_map of_item (item ∷ []) = flat_map-append of_item before (item ∷ []) in
    let one : flat_map of_item (item ∷ []) ≡ of_item item ++ [] = flat_map-cons of_item item [] in
    rw (grown, one, append-nil, length-append) (omega (arith, counted, taken))
