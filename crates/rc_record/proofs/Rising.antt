-- That items whose keys are each above the one before rise.
use Rattle.std.proofs.Common.{◌≡◌, ℕ, zero, suc, ◌+◌, ◌-◌, Bool, true, false, ◌&&◌, List, [], ◌∷◌, ◌++◌, length, map, Option, Ok, Err, refl, sym, ap, subst, ◌∙◌, arith}
use Rattle.std.specs.Prelude.{T, slice_get, if◌then◌else◌}
use Rattle.std.specs.FinMap.Entries.{is_sorted, below_all}
use Rattle.std.specs.Ordering.{is_lt}
use Rattle.std.specs.declared.cmp.Ordering.{Ordering}
use Rattle.std.specs.declared.cmp.Ordering.TheVariants.{Less, Equal, Greater}
use Rattle.rc_tree.specs.Path.{key_cmp, key_of}
use Rattle.rc_tree.proofs.Keys.{key_cmp-total}
use Rattle.rc_class.specs.declared.item.Item.{Item}
use Rattle.rc_class.specs.declared.noted.Noted.{Noted}
use Rattle.rc_class.specs.declared.plan.Plan.{Plan}
use Rattle.rc_class.specs.Items.{are_rising, keyed}
use Rattle.rc_record.specs.declared.head.Head.{Head}
use Rattle.rc_record.specs.Fields.{◌>>=◌}
use Rattle.rc_record.specs.Grammar.{count_at, head_at, is_above, is_behind, item_at, items_at, last_of, limit_behind, next_at, plan_at, text_at, units_in, Limit}
use Rattle.rc_record.proofs.Steps.{IsNoted, bind_ok, guard_ok, ok_is}

pub first_part : (a b : Bool) → T (a && b) → T a
first_part true b p = tt
first_part false b p = p

pub second_part : (a b : Bool) → T (a && b) → T b
second_part true b p = p
second_part false b p = absurd p

both : (a b : Bool) → T a → T b → T (a && b)
both true b p q = q
both false b p q = p

holds : (b : Bool) → b ≡ true → T b
holds b e = subst T (sym e) tt

pub is_true : (b : Bool) → T b → b ≡ true
is_true true p = refl
is_true false p = absurd p

pub less : (r : Ordering) → T (is_lt r) → r ≡ Less
less Less h = refl
less Equal h = absurd h
less Greater h = absurd h

is_less : (r : Ordering) → r ≡ Less → T (is_lt r)
is_less r e = subst (λ (o : Ordering). T (is_lt o)) (sym e) tt

pub last_of_more : (x y : Item) (rest : List Item) → last_of (x ∷ y ∷ rest) ≡ last_of (y ∷ rest)
last_of_more x y rest =
    let at : length (x ∷ y ∷ rest) - 1 ≡ suc (length (y ∷ rest) - 1) = omega arith in
    ap (slice_get (x ∷ y ∷ rest)) at

-- all keys lie below a key
abbrev AreBelow : List Item → List (List ℕ) → Type 0
AreBelow [] key = Unit {0}
AreBelow (item ∷ items) key = (key_cmp (key_of item.path) key ≡ Less) × AreBelow items key

-- above the last one is above all
below_last : (before : List Item) (item : Item) → T (is_sorted key_cmp (map keyed before)) → is_behind before item ≡ true → AreBelow before (key_of item.path)
below_last [] item sorted behind = tt
below_last (x ∷ []) item sorted behind = (less _ (holds _ behind), tt)
below_last (x ∷ y ∷ rest) item sorted behind =
    let later : is_behind (y ∷ rest) item ≡ true = ap (λ (last : Option Item). is_above last item) (sym (last_of_more x y rest)) ∙ behind in
    let others = below_last (y ∷ rest) item (second_part (below_all key_cmp (key_of x.path) (map keyed (y ∷ rest))) _ sorted) later in
    let front = less _ (first_part (is_lt (key_cmp (key_of x.path) (key_of y.path))) _ (first_part (below_all key_cmp (key_of x.path) (map keyed (y ∷ rest))) _ sorted)) in
    (key_cmp-total.trans (key_of x.path) (key_of y.path) (key_of item.path) front others.0, others)

above_push : (key : List (List ℕ)) (items : List Item) (item : Item) → T (below_all key_cmp key (map keyed items)) → key_cmp key (key_of item.path) ≡ Less → T (below_all key_cmp key (map keyed (items ++ item ∷ [])))
above_push key [] item above under = both _ _ (is_less _ under) tt
above_push key (first ∷ items) item above under = both _ _ (first_part _ _ above) (above_push key items item (second_part _ _ above) under)

sorted_push : (items : List Item) (item : Item) → T (is_sorted key_cmp (map keyed items)) → AreBelow items (key_of item.path) → T (is_sorted key_cmp (map keyed (items ++ item ∷ [])))
sorted_push [] item sorted below = tt
sorted_push (first ∷ items) item sorted below =
    both _ _
    (above_push (key_of first.path) items item (first_part _ _ sorted) below.0)
    (sorted_push items item (second_part (below_all key_cmp (key_of first.path) (map keyed items)) _ sorted) below.1)

rising_push : (before : List Item) (item : Item) → T (is_sorted key_cmp (map keyed before)) → is_behind before item ≡ true → T (is_sorted key_cmp (map keyed (before ++ item ∷ [])))
rising_push before item sorted behind = sorted_push before item sorted (below_last before item sorted behind)

-- the next item was accepted
next_behind : (limit : Limit) (before : List Item) (off : ℕ) (bytes : List ℕ) (next : Item × ℕ) → next_at limit before off bytes ≡ Ok next → is_behind before next.0 ≡ true
unfolding next_at
next_behind limit before off bytes next e =
    let a = bind_ok (item_at limit off bytes) (λ next. if is_behind before next.0 then Ok next else Err (off + 26)) next e in
    let g = guard_ok (is_behind before a.0.0) (off + 26) a.0 next a.2 in
    ap (λ (x : Item × ℕ). is_behind before x.0) (sym g.1) ∙ g.0

pub items_rise : (head : Head) (n : ℕ) (before : List Item) (off : ℕ) (bytes : List ℕ) (read : List Item × ℕ) → T (is_sorted key_cmp (map keyed before)) → items_at head n before off bytes ≡ Ok read → are_rising read.0 ≡ true
unfolding items_at
items_rise head zero before off bytes read sorted e = subst (λ (x : List Item × ℕ). are_rising x.0 ≡ true) (ok_is (before, off) read e) (is_true _ sorted)
items_rise head (suc n) before off bytes read sorted e =
    let a = bind_ok (next_at (limit_behind head.with_bytes head.stride (units_in head before)) before off bytes) (λ next. items_at head n (before ++ next.0 ∷ []) next.1 bytes) read e in
    items_rise head n (before ++ a.0.0 ∷ []) a.0.1 bytes read (rising_push before a.0.0 sorted (next_behind (limit_behind head.with_bytes head.stride (units_in head before)) before off bytes a.0 a.1)) a.2

pub plan_rises : (bytes : List ℕ) (plan : Plan × ℕ) → plan_at bytes ≡ Ok plan → are_rising plan.0.items ≡ true
unfolding plan_at
plan_rises bytes plan e =
    let head = bind_ok (head_at bytes) (λ head. text_at head.text_len 22 bytes >>= λ job. count_at (22 + head.text_len) bytes >>= λ count. items_at head count [] (26 + head.text_len) bytes >>= λ items. Ok (record { job = job; moment = head.moment; stride = head.stride; with_bytes = head.with_bytes; items = items.0 }, items.1)) plan e in
    let job = bind_ok (text_at head.0.text_len 22 bytes) (λ job. count_at (22 + head.0.text_len) bytes >>= λ count. items_at head.0 count [] (26 + head.0.text_len) bytes >>= λ items. Ok (record { job = job; moment = head.0.moment; stride = head.0.stride; with_bytes = head.0.with_bytes; items = items.0 }, items.1)) plan head.2 in
    let count = bind_ok (count_at (22 + head.0.text_len) bytes) (λ count. items_at head.0 count [] (26 + head.0.text_len) bytes >>= λ items. Ok (record { job = job.0; moment = head.0.moment; stride = head.0.stride; with_bytes = head.0.with_bytes; items = items.0 }, items.1)) plan job.2 in
    let items = bind_ok (items_at head.0 count.0 [] (26 + head.0.text_len) bytes) (λ items. Ok (record { job = job.0; moment = head.0.moment; stride = head.0.stride; with_bytes = head.0.with_bytes; items = items.0 }, items.1)) plan count.2 in
    let made : Plan × ℕ = (record { job = job.0; moment = head.0.moment; stride = head.0.stride; with_bytes = head.0.with_bytes; items = items.0.0 }, items.0.1) in
    subst (λ (x : Plan × ℕ). are_rising x.0.items ≡ true) {x = made} (ok_is made plan items.2) (items_rise head.0 count.0 [] (26 + head.0.text_len) bytes items.0 tt items.1)

pub noted_rises : (bytes : List ℕ) (noted : Noted) → IsNoted bytes noted → are_rising noted.plan.items ≡ true
noted_rises bytes noted is = ap (λ (plan : Plan). are_rising plan.items) is.same ∙ plan_rises bytes is.plan is.read
