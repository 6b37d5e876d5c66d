-- A plan that was read stands where it was read, spelled so, and is one that the grammar allows.
use Rattle.std.proofs.Common.{◌≡◌, ℕ, zero, suc, ◌+◌, ◌-◌, ◌<◌, ◌≤◌, ◌^◌, Bool, true, false, not, ◌&&◌, ◌||◌, cond, eqb, leb, List, [], ◌∷◌, ◌++◌, length, Ok, Err, refl, sym, ap, subst, ◌∙◌, append_assoc, append-nil, length-append, arith}
use Rattle.std.specs.Prelude.{All, codes, nat_le, ◌==◌}
use Rattle.std.specs.Int.{w32, w64, to_le_bytes}
use Rattle.std.specs.List.{flat_map}
use Rattle.std.specs.Str.{bytes_eq}
use Rattle.std.proofs.lemmas.Bool.{and_parts, eqb-true, leb-true}
use Rattle.std.proofs.lemmas.List.Concat.{flat_map-cons}
use Rattle.std.proofs.lemmas.List.Elements.{All-cons, All-nil}
use Rattle.rc_tree.specs.declared.moment.TheConstants.{GREATEST_MOMENT}
use Rattle.rc_class.specs.declared.item.Item.{Item}
use Rattle.rc_class.specs.declared.plan.Plan.{Plan}
use Rattle.rc_class.specs.Items.{are_rising}
use Rattle.rc_class.specs.Units.{is_copy, item_units, range_count}
use Rattle.rc_record.specs.declared.head.Head.{Head}
use Rattle.rc_record.specs.declared.room.TheConstants.{ITEMS_MAX, SIZE_MAX, UNITS_MAX}
use Rattle.rc_record.specs.Codes.{flag_of}
use Rattle.rc_record.specs.Fields.{◌>>=◌, code_at, field_at, number_at}
use Rattle.rc_record.specs.Grammar.{count_at, head_at, is_behind, item_at, items_at, limit_behind, magic_at, moment_at, next_at, plan_at, stride_at, text_at, units_in}
use Rattle.rc_record.specs.Spelling.{flag_code, head_bytes, item_bytes, plan_bytes, text_bytes, IsAllowed, IsItemTyped, IsTyped, IsWritten}
use Rattle.rc_record.proofs.Places.{HasAt, moved}
use Rattle.rc_record.proofs.ReadItem.{AreBytes, ItemRead, code_has, field_has, flag_known, has_both, has_end, has_none, has_then, item_has, moment_has, text_has, u32_has}
use Rattle.rc_record.proofs.Rising.{plan_rises}
use Rattle.rc_record.proofs.SpelledPlan.{units_more, units_one}
use Rattle.rc_record.proofs.Steps.{bind_ok, guard_ok, ok_is}

-- The head

bytes_same : (one two : List ℕ) → bytes_eq one two ≡ true → one ≡ two
bytes_same [] [] e = refl
bytes_same [] (y ∷ two) e = absurd cc
bytes_same (x ∷ one) [] e = absurd cc
bytes_same (x ∷ one) (y ∷ two) e =
    let both = and_parts (eqb x y) (bytes_eq one two) e in
    ap (λ b. b ∷ one) (eqb-true x y both.0) ∙ ap (λ (t : List ℕ). y ∷ t) (bytes_same one two both.1)

magic_has : (bytes magic : List ℕ) → magic_at bytes ≡ Ok magic → HasAt 1 (codes "RCR1") bytes
unfolding magic_at
magic_has bytes magic e =
    let field = bind_ok (field_at 4 1 bytes) (λ magic. cond (bytes_eq magic (codes "RCR1")) (Ok magic) (Err 1)) magic e in
    let g = guard_ok (bytes_eq field.0 (codes "RCR1")) 1 field.0 magic field.2 in
    subst (λ (f : List ℕ). HasAt 1 f bytes) (bytes_same field.0 (codes "RCR1") g.0) (field_has 4 1 bytes field.0 field.1)

stride_has : (bytes : List ℕ) (stride : ℕ) → AreBytes bytes → stride_at bytes ≡ Ok stride → HasAt 13 (to_le_bytes w32 stride) bytes × (stride ≡ 0)
unfolding stride_at
stride_has bytes stride all e =
    let n = bind_ok (number_at w32 13 bytes) (λ stride. cond (stride == 0) (Ok stride) (Err 13)) stride e in
    let g = guard_ok (n.0 == 0) 13 n.0 stride n.2 in
    (subst (λ k. HasAt 13 (to_le_bytes w32 k) bytes) g.1 (u32_has 13 bytes n.0 all n.1).0, sym g.1 ∙ eqb-true n.0 0 g.0)

abbrev of_head : Head → List ℕ
of_head head = codes "RCR1" ++ (to_le_bytes w64 head.moment ++ (to_le_bytes w32 head.stride ++ (flag_code head.with_bytes ∷ to_le_bytes w32 head.text_len)))

record HeadRead (bytes : List ℕ) (head : Head) : Type 0 where
  pub here : HasAt 1 (of_head head) bytes
  pub moment : head.moment ≤ GREATEST_MOMENT
  pub whole : head.stride ≡ 0
  pub text : head.text_len < 2 ^ 32

head_has : (bytes : List ℕ) (head : Head) → AreBytes bytes → head_at bytes ≡ Ok head → HeadRead bytes head
unfolding head_at
head_has bytes head all e =
    let magic = bind_ok (magic_at bytes) (λ magic. moment_at 5 bytes >>= λ moment. stride_at bytes >>= λ stride. code_at flag_of 17 bytes >>= λ with_bytes. number_at w32 18 bytes >>= λ text_len. Ok (record { moment = moment; stride = stride; with_bytes = with_bytes; text_len = text_len })) head e in
    let moment = bind_ok (moment_at 5 bytes) (λ moment. stride_at bytes >>= λ stride. code_at flag_of 17 bytes >>= λ with_bytes. number_at w32 18 bytes >>= λ text_len. Ok (record { moment = moment; stride = stride; with_bytes = with_bytes; text_len = text_len })) head magic.2 in
    let stride = bind_ok (stride_at bytes) (λ stride. code_at flag_of 17 bytes >>= λ with_bytes. number_at w32 18 bytes >>= λ text_len. Ok (record { moment = moment.0; stride = stride; with_bytes = with_bytes; text_len = text_len })) head moment.2 in
    let flag = bind_ok (code_at flag_of 17 bytes) (λ with_bytes. number_at w32 18 bytes >>= λ text_len. Ok (record { moment = moment.0; stride = stride.0; with_bytes = with_bytes; text_len = text_len })) head stride.2 in
    let len = bind_ok (number_at w32 18 bytes) (λ text_len. Ok (record { moment = moment.0; stride = stride.0; with_bytes = flag.0; text_len = text_len })) head flag.2 in
    let made : Head = record { moment = moment.0; stride = stride.0; with_bytes = flag.0; text_len = len.0 } in
    let m = moment_has 5 bytes moment.0 all moment.1 in
    let s = stride_has bytes stride.0 all stride.1 in
    let f = code_has flag_of 17 bytes flag.0 flag.1 in
    let l = u32_has 18 bytes len.0 all len.1 in
    let four = has_both 17 (flag_code flag.0 ∷ []) (to_le_bytes w32 len.0) bytes (subst (λ b. HasAt 17 (b ∷ []) bytes) (sym (flag_known f.0 flag.0 f.2)) f.1) l.0 in
    let three = has_both 13 (to_le_bytes w32 stride.0) (flag_code flag.0 ∷ to_le_bytes w32 len.0) bytes s.0 four in
    let two = has_both 5 (to_le_bytes w64 moment.0) (to_le_bytes w32 stride.0 ++ (flag_code flag.0 ∷ to_le_bytes w32 len.0)) bytes m.0 three in
    subst (HeadRead bytes) {x = made} {y = head} (ok_is made head len.2) (record {
      here = has_both 1 (codes "RCR1") (to_le_bytes w64 moment.0 ++ (to_le_bytes w32 stride.0 ++ (flag_code flag.0 ∷ to_le_bytes w32 len.0))) bytes (magic_has bytes magic.0 magic.1) two;
      moment = m.1;
      whole = s.1;
      text = l.1;
    })

-- Items

-- what a limit that allows an item says of its size, and of its units
limited : (with_bytes copy : Bool) (stride units size : ℕ) → (not (with_bytes && copy) || (nat_le size SIZE_MAX && nat_le (units + range_count stride size) UNITS_MAX)) ≡ true
    → with_bytes ≡ true → copy ≡ true → (size ≤ SIZE_MAX) × (units + range_count stride size ≤ UNITS_MAX)
limited true true stride units size is bytes copied =
    let both = and_parts (leb size SIZE_MAX) (leb (units + range_count stride size) UNITS_MAX) is in
    (leb-true size SIZE_MAX both.0, leb-true (units + range_count stride size) UNITS_MAX both.1)
limited true false stride units size is bytes copied = absurd cc
limited false copy stride units size is bytes copied = absurd cc

few_behind : (head : Head) (before : List Item) (item : Item) (with_bytes copy : Bool) → head.with_bytes ≡ with_bytes → is_copy item.act ≡ copy → units_in head before ≤ UNITS_MAX
    → (with_bytes ≡ true → copy ≡ true → units_in head before + range_count head.stride item.facts.size ≤ UNITS_MAX) → units_in head (before ++ item ∷ []) ≤ UNITS_MAX
few_behind head before item true true bytes copied few more =
    let one : length (item_units head.stride head.with_bytes item) ≡ range_count head.stride item.facts.size = ap (λ b. length (item_units head.stride b item)) bytes ∙ units_one item head.stride copied in
    omega (arith, units_more head before item [], one, more refl refl)
few_behind head before item true false bytes copied few more =
    let none : length (item_units head.stride head.with_bytes item) ≡ 0 = rw (bytes, copied) refl in
    omega (arith, units_more head before item [], none, few)
few_behind head before item false copy bytes copied few more =
    let none : length (item_units head.stride head.with_bytes item) ≡ 0 = rw bytes refl in
    omega (arith, units_more head before item [], none, few)

pub record ItemsRead (head : Head) (n : ℕ) (before : List Item) (off : ℕ) (bytes : List ℕ) (read : List Item × ℕ) : Type 0 where
  pub later : List Item
  pub all : read.0 ≡ before ++ later
  pub count : length later ≡ n
  pub here : HasAt off (flat_map item_bytes later) bytes
  pub end : read.1 ≡ off + length (flat_map item_bytes later)
  pub typed : All IsItemTyped later
  pub written : All (IsWritten head.with_bytes) later
  pub few : units_in head read.0 ≤ UNITS_MAX

one_has : (head : Head) (before : List Item) (off : ℕ) (bytes : List ℕ) (read : Item × ℕ) → AreBytes bytes → next_at (limit_behind head.with_bytes head.stride (units_in head before)) before off bytes ≡ Ok read
    → ItemRead (limit_behind head.with_bytes head.stride (units_in head before)) off bytes read
unfolding next_at
one_has head before off bytes read all e =
    let limit = limit_behind head.with_bytes head.stride (units_in head before) in
    let next = bind_ok (item_at limit off bytes) (λ next. cond (is_behind before next.0) (Ok next) (Err (off + 26))) read e in
    let g = guard_ok (is_behind before next.0.0) (off + 26) next.0 read next.2 in
    subst (ItemRead limit off bytes) g.1 (item_has limit off bytes next.0 all next.1)

items_has : (head : Head) (n : ℕ) (before : List Item) (off : ℕ) (bytes : List ℕ) (read : List Item × ℕ) → AreBytes bytes → off ≤ length bytes → units_in head before ≤ UNITS_MAX → items_at head n before off bytes ≡ Ok read → ItemsRead head n before off bytes read
unfolding items_at
items_has head zero before off bytes read all le few e =
    let made : List Item × ℕ = (before, off) in
    subst (ItemsRead head 0 before off bytes) {x = made} {y = read} (ok_is made read e) (record {
      later = [];
      all = sym (append-nil before);
      count = refl;
      here = has_none off bytes le;
      end = omega arith;
      typed = All-nil IsItemTyped;
      written = All-nil (IsWritten head.with_bytes);
      few = few;
    })
items_has head (suc n) before off bytes read all le few e =
    let next = bind_ok (next_at (limit_behind head.with_bytes head.stride (units_in head before)) before off bytes) (λ next. items_at head n (before ++ next.0 ∷ []) next.1 bytes) read e in
    let one = one_has head before off bytes next.0 all next.1 in
    let item : Item = next.0.0 in
    let allowed = limited head.with_bytes (is_copy item.act) head.stride (units_in head before) item.facts.size one.allowed.limit in
    let fits = has_end off (item_bytes item) bytes one.here in
    let behind = few_behind head before item head.with_bytes (is_copy item.act) refl refl few (λ bytes_too copied. (allowed bytes_too copied).1) in
    let rest = items_has head n (before ++ item ∷ []) next.0.1 bytes read all (omega (arith, fits, one.end)) behind next.2 in
    record {
      later = item ∷ rest.later;
      all = rest.all ∙ append_assoc before (item ∷ []) rest.later;
      count = ap suc rest.count;
      here = subst (λ (f : List ℕ). HasAt off f bytes) (sym (flat_map-cons item_bytes item rest.later)) (has_both off (item_bytes item) (flat_map item_bytes rest.later) bytes one.here (moved one.end rest.here));
      end = omega (arith, rest.end, one.end, ap length (flat_map-cons item_bytes item rest.later), length-append (item_bytes item) (flat_map item_bytes rest.later));
      typed = All-cons IsItemTyped item rest.later one.typed rest.typed;
      written = All-cons (IsWritten head.with_bytes) item rest.later (record { kind = one.allowed.kind; size = one.allowed.size; small = λ bytes_too copied. (allowed bytes_too copied).0; below = one.allowed.below }) rest.written;
      few = rest.few;
    }

-- The plan

count_has : (off : ℕ) (bytes : List ℕ) (count : ℕ) → AreBytes bytes → count_at off bytes ≡ Ok count → HasAt off (to_le_bytes w32 count) bytes × (count ≤ ITEMS_MAX)
unfolding count_at
count_has off bytes count all e =
    let n = bind_ok (number_at w32 off bytes) (λ count. cond (leb count ITEMS_MAX) (Ok count) (Err off)) count e in
    let g = guard_ok (leb n.0 ITEMS_MAX) off n.0 count n.2 in
    (subst (λ k. HasAt off (to_le_bytes w32 k) bytes) g.1 (u32_has off bytes n.0 all n.1).0, subst (λ k. k ≤ ITEMS_MAX) g.1 (leb-true n.0 ITEMS_MAX g.0))

pub record PlanRead (bytes : List ℕ) (read : Plan × ℕ) : Type 0 where
  pub here : HasAt 1 (plan_bytes read.0) bytes
  pub end : read.1 ≡ 1 + length (plan_bytes read.0)
  pub allowed : IsAllowed read.0
  pub typed : IsTyped read.0

pub plan_has : (bytes : List ℕ) (read : Plan × ℕ) → AreBytes bytes → plan_at bytes ≡ Ok read → PlanRead bytes read
unfolding plan_at
plan_has bytes read all e =
    let head = bind_ok (head_at bytes) (λ head. text_at head.text_len 22 bytes >>= λ job. count_at (22 + head.text_len) bytes >>= λ count. items_at head count [] (26 + head.text_len) bytes >>= λ items. Ok (record { job = job; moment = head.moment; stride = head.stride; with_bytes = head.with_bytes; items = items.0 }, items.1)) read e in
    let job = bind_ok (text_at head.0.text_len 22 bytes) (λ job. count_at (22 + head.0.text_len) bytes >>= λ count. items_at head.0 count [] (26 + head.0.text_len) bytes >>= λ items. Ok (record { job = job; moment = head.0.moment; stride = head.0.stride; with_bytes = head.0.with_bytes; items = items.0 }, items.1)) read head.2 in
    let count = bind_ok (count_at (22 + head.0.text_len) bytes) (λ count. items_at head.0 count [] (26 + head.0.text_len) bytes >>= λ items. Ok (record { job = job.0; moment = head.0.moment; stride = head.0.stride; with_bytes = head.0.with_bytes; items = items.0 }, items.1)) read job.2 in
    let items = bind_ok (items_at head.0 count.0 [] (26 + head.0.text_len) bytes) (λ items. Ok (record { job = job.0; moment = head.0.moment; stride = head.0.stride; with_bytes = head.0.with_bytes; items = items.0 }, items.1)) read count.2 in
    let plan : Plan = record { job = job.0; moment = head.0.moment; stride = head.0.stride; with_bytes = head.0.with_bytes; items = items.0.0 } in
    let made : Plan × ℕ = (plan, items.0.1) in
    let h = head_has bytes head.0 all head.1 in
    let t = text_has head.0.text_len 22 bytes job.0 job.1 in
    let c = count_has (22 + head.0.text_len) bytes count.0 all count.1 in
    let i = items_has head.0 count.0 [] (26 + head.0.text_len) bytes items.0 all (omega (arith, has_end (22 + head.0.text_len) (to_le_bytes w32 count.0) bytes c.0)) (omega arith) items.1 in
    let listed : flat_map item_bytes plan.items ≡ flat_map item_bytes i.later = ap (flat_map item_bytes) i.all in
    let counted : length plan.items ≡ count.0 = ap length i.all ∙ i.count in
    let at_items = subst (λ (f : List ℕ). HasAt (26 + head.0.text_len) f bytes) (sym listed) i.here in
    let at_count = has_then (22 + head.0.text_len) (to_le_bytes w32 (length plan.items)) (flat_map item_bytes plan.items) bytes (omega arith) (subst (λ k. HasAt (22 + head.0.text_len) (to_le_bytes w32 k) bytes) (sym counted) c.0) at_items in
    let at_text = has_then 22 (text_bytes plan) (to_le_bytes w32 (length plan.items) ++ flat_map item_bytes plan.items) bytes (ap (λ n. 22 + n) (sym t.1)) t.0 at_count in
    let at_head = subst (λ k. HasAt 1 (codes "RCR1" ++ (to_le_bytes w64 plan.moment ++ (to_le_bytes w32 plan.stride ++ (flag_code plan.with_bytes ∷ to_le_bytes w32 k)))) bytes) (sym t.1) h.here in
    subst (PlanRead bytes) {x = made} {y = read} (ok_is made read items.2) (record {
      here = has_both 1 (head_bytes plan) (text_bytes plan ++ (to_le_bytes w32 (length plan.items) ++ flat_map item_bytes plan.items)) bytes at_head at_text;
      end = omega (arith, i.end, ap length listed, t.1, length-append (head_bytes plan) (text_bytes plan ++ (to_le_bytes w32 (length plan.items) ++ flat_map item_bytes plan.items)), length-append (text_bytes plan) (to_le_bytes w32 (length plan.items) ++ flat_map item_bytes plan.items), length-append (to_le_bytes w32 (length plan.items)) (flat_map item_bytes plan.items));
      allowed = record {
        whole = h.whole;
        text = omega (arith, t.1, h.text);
        count = omega (arith, counted, c.1);
        items = subst (All (IsWritten plan.with_bytes)) (sym i.all) i.written;
        rising = subst (λ (read : Plan × ℕ). are_rising read.0.items ≡ true) (sym (ok_is made read items.2)) (plan_rises bytes read e);
        units = i.few;
      };
      typed = record { moment = h.moment; characters = t.2; items = subst (All IsItemTyped) (sym i.all) i.typed };
    })
