-- The rows of an opening, built one after another.
use Rattle.std.proofs.Common.{◌≡◌, ℕ, suc, ◌+◌, ◌<◌, ◌≤◌, Bool, true, false, cond, ◌&&◌, List, [], ◌∷◌, ◌++◌, get_or, length, map, take, refl, sym, ap, subst, ◌∙◌, arith, append_assoc}
use Rattle.std.proofs.lemmas.List.{length-map, length-take, map-append, take_all, take_more}
use Rattle.std.proofs.lemmas.List.FromFn.{get_or-map-range_with_len, length-map-range_with_len}
use Rattle.std.specs.Prelude.{slice_get}
use Rattle.rc_class.specs.declared.item.Item.{Item}
use Rattle.rc_class.specs.declared.noted.Noted.{Noted}
use Rattle.rc_class.specs.declared.plan.Plan.{Plan}
use Rattle.rc_class.specs.declared.rules.Rules.{Rules}
use Rattle.rc_class.specs.Units.{Range, is_copy, item_units, range_at, range_count, ranges_of, unit_of}
use Rattle.rc_core.specs.Opened.{copied_from, copied_of, extent_of, extents_from, files_of, numbered, opened, opened_file, opened_files, opened_item, opened_units}
use Rattle.rc_core.specs.declared.node.Node.{Node}
use Rattle.rc_core.specs.declared.rows.Copied.{Copied}
use Rattle.rc_core.specs.declared.rows.Extent.{Extent}
use Rattle.rc_core.specs.declared.rows.FileRow.{FileRow}
use Rattle.rc_core.specs.declared.rows.UnitRow.{UnitRow}

pub numbered_push : {A B : Type 0} (row : A → ℕ → B) (k : ℕ) (xs : List A) (x : A) → numbered row k (xs ++ x ∷ []) ≡ numbered row k xs ++ row x (k + length xs) ∷ []
numbered_push row k [] x = let first : k ≡ k + 0 = omega arith in ap (λ n. row x n ∷ []) first
numbered_push row k (y ∷ xs) x =
    let on : (k + 1) + length xs ≡ k + suc (length xs) = omega arith in
    ap (λ rest. row y k ∷ rest) (numbered_push row (k + 1) xs x ∙ ap (λ n. numbered row (k + 1) xs ++ row x n ∷ []) on)

pub length_numbered : {A B : Type 0} (row : A → ℕ → B) (k : ℕ) (xs : List A) → length (numbered row k xs) ≡ length xs
length_numbered row k [] = refl
length_numbered row k (x ∷ xs) = ap suc (length_numbered row (k + 1) xs)

pub copied_push : (source target : List Node) (place : ℕ) (items : List Item) (item : Item) → copied_from source target place (items ++ item ∷ []) ≡ copied_from source target place items ++ cond (is_copy item.act) (copied_of source target item (place + length items) ∷ []) []
copied_push source target place [] item =
    let first : place ≡ place + 0 = omega arith in
    ap (λ n. cond (is_copy item.act) (copied_of source target item n ∷ []) []) first
copied_push source target place (first ∷ items) item =
    let on : (place + 1) + length items ≡ place + suc (length items) = omega arith in
    by (is_copy first.act) (copied_push source target (place + 1) items item ∙ ap (λ n. copied_from source target (place + 1) items ++ cond (is_copy item.act) (copied_of source target item n ∷ []) []) on)
  where
    by : (b : Bool) → copied_from source target (place + 1) (items ++ item ∷ []) ≡ copied_from source target (place + 1) items ++ cond (is_copy item.act) (copied_of source target item (place + suc (length items)) ∷ []) [] → cond b (copied_of source target first place ∷ copied_from source target (place + 1) (items ++ item ∷ [])) (copied_from source target (place + 1) (items ++ item ∷ [])) ≡ cond b (copied_of source target first place ∷ copied_from source target (place + 1) items) (copied_from source target (place + 1) items) ++ cond (is_copy item.act) (copied_of source target item (place + suc (length items)) ∷ []) []
    by true e = ap (λ (rest : List Copied). copied_of source target first place ∷ rest) e
    by false e = e

pub extents_push : (plan : Plan) (n : ℕ) (files : List Copied) (file : Copied) → extents_from plan n (files ++ file ∷ []) ≡ extents_from plan n files ++ map (extent_of (n + length files)) (item_units plan.stride plan.with_bytes file.item)
extents_push plan n [] file =
    let first : n ≡ n + 0 = omega arith in
    append_nothing (map (extent_of n) (item_units plan.stride plan.with_bytes file.item)) ∙ ap (λ k. map (extent_of k) (item_units plan.stride plan.with_bytes file.item)) first
  where
    append_nothing : {A : Type 0} (xs : List A) → xs ++ [] ≡ xs
    append_nothing [] = refl
    append_nothing (x ∷ xs) = ap (λ rest. x ∷ rest) (append_nothing xs)
extents_push plan n (first ∷ files) file =
    let on : (n + 1) + length files ≡ n + suc (length files) = omega arith in
    ap (λ (rest : List Extent). map (extent_of n) (item_units plan.stride plan.with_bytes first.item) ++ rest)
    (extents_push plan (n + 1) files file ∙ ap (λ k. extents_from plan (n + 1) files ++ map (extent_of k) (item_units plan.stride plan.with_bytes file.item)) on)
    ∙ sym (append_assoc (map (extent_of n) (item_units plan.stride plan.with_bytes first.item)) (extents_from plan (n + 1) files) (map (extent_of (n + suc (length files))) (item_units plan.stride plan.with_bytes file.item)))

pub files_of_rows : (marks : List Bool) (k : ℕ) (files : List Copied) → map (λ (row : FileRow). row.file) (numbered (λ file n. opened_file file (slice_get marks n)) k files) ≡ files
files_of_rows marks k [] = refl
files_of_rows marks k (file ∷ files) = ap (λ (rest : List Copied). file ∷ rest) (files_of_rows marks (k + 1) files)

pub copied_few : (source target : List Node) (place : ℕ) (items : List Item) → length (copied_from source target place items) ≤ length items
copied_few source target place [] = omega arith
copied_few source target place (item ∷ items) = by (is_copy item.act) (copied_few source target (place + 1) items)
  where
    by : (b : Bool) → length (copied_from source target (place + 1) items) ≤ length items → length (cond b (copied_of source target item place ∷ copied_from source target (place + 1) items) (copied_from source target (place + 1) items)) ≤ suc (length items)
    by true le = omega (arith, le)
    by false le = omega (arith, le)

pub files_few : (marks : List Bool) (source target : List Node) (items : List Item) → length (opened_files marks (copied_from source target 0 items)) ≤ length items
files_few marks source target items =
    omega (arith, length_numbered (λ file n. opened_file file (slice_get marks n)) 0 (copied_from source target 0 items), copied_few source target 0 items)

-- one item more
pub file_more : (marks : List Bool) (source target : List Node) (items : List Item) (place : ℕ) (item : Item) (rows new : List FileRow) → place < length items → item ≡ get_or items place item → rows ≡ opened_files marks (copied_from source target 0 (take place items)) → new ≡ rows ++ opened_item marks source target (length rows) item place → new ≡ opened_files marks (copied_from source target 0 (take (place + 1) items))
file_more marks source target items place item rows new below is so_far more =
    let row = λ (file : Copied) (n : ℕ). opened_file file (slice_get marks n) in
    let before = copied_from source target 0 (take place items) in
    let count : length rows ≡ length before = ap length so_far ∙ length_numbered row 0 before in
    let at : 0 + length (take place items) ≡ place = omega (arith, length-take place items) in
    let one_more : take (place + 1) items ≡ take place items ++ item ∷ [] = take_more items place item below ∙ ap (λ (x : Item). take place items ++ x ∷ []) (sym is) in
    let files : copied_from source target 0 (take (place + 1) items) ≡ before ++ cond (is_copy item.act) (copied_of source target item place ∷ []) [] =
    ap (copied_from source target 0) one_more ∙ copied_push source target 0 (take place items) item ∙ ap (λ n. before ++ cond (is_copy item.act) (copied_of source target item n ∷ []) []) at in
    more
    ∙ ap (λ n. rows ++ opened_item marks source target n item place) count
    ∙ ap (λ (done : List FileRow). done ++ opened_item marks source target (length before) item place) so_far
    ∙ by (is_copy item.act)
    ∙ sym (ap (numbered row 0) files)
  where
    append_nothing : {A : Type 0} (xs : List A) → xs ++ [] ≡ xs
    append_nothing [] = refl
    append_nothing (x ∷ xs) = ap (λ rest. x ∷ rest) (append_nothing xs)

    by : (b : Bool) → opened_files marks (copied_from source target 0 (take place items)) ++ cond b (opened_file (copied_of source target item place) (slice_get marks (length (copied_from source target 0 (take place items)))) ∷ []) [] ≡ opened_files marks (copied_from source target 0 (take place items) ++ cond b (copied_of source target item place ∷ []) [])
    by true =
        let same : length (copied_from source target 0 (take place items)) ≡ 0 + length (copied_from source target 0 (take place items)) = omega arith in
        ap (λ n. opened_files marks (copied_from source target 0 (take place items)) ++ opened_file (copied_of source target item place) (slice_get marks n) ∷ []) same
        ∙ sym (numbered_push (λ (file : Copied) (n : ℕ). opened_file file (slice_get marks n)) 0 (copied_from source target 0 (take place items)) (copied_of source target item place))
    by false = append_nothing (opened_files marks (copied_from source target 0 (take place items))) ∙ ap (opened_files marks) (sym (append_nothing (copied_from source target 0 (take place items))))

-- one row more
pub numbered_more : {A B : Type 0} (row : A → ℕ → B) (xs : List A) (n : ℕ) (d : A) (done new : List B) → n < length xs → done ≡ numbered row 0 (take n xs) → new ≡ done ++ row (get_or xs n d) n ∷ [] → new ≡ numbered row 0 (take (n + 1) xs)
numbered_more {A} {B} row xs n d done new below so_far more =
    let x = get_or xs n d in
    let at : 0 + length (take n xs) ≡ n = omega (arith, length-take n xs) in
    let one_more : take (n + 1) xs ≡ take n xs ++ x ∷ [] = take_more xs n d below in
    more
    ∙ ap (λ (done : List B). done ++ row x n ∷ []) so_far
    ∙ ap (λ k. numbered row 0 (take n xs) ++ row x k ∷ []) (sym at)
    ∙ sym (numbered_push row 0 (take n xs) x)
    ∙ ap (numbered row 0) (sym one_more)

-- the units of one file more
pub extents_more : (plan : Plan) (files : List FileRow) (n : ℕ) (row : FileRow) (extents new : List Extent) → n < length files → row ≡ get_or files n row → extents ≡ extents_from plan 0 (map (λ (row : FileRow). row.file) (take n files)) → new ≡ extents ++ map (extent_of n) (item_units plan.stride plan.with_bytes row.file.item) → new ≡ extents_from plan 0 (map (λ (row : FileRow). row.file) (take (n + 1) files))
extents_more plan files n row extents new below is so_far more =
    let file = λ (row : FileRow). row.file in
    let before = map file (take n files) in
    let at : 0 + length before ≡ n = omega (arith, length-map (take n files) file, length-take n files) in
    let one_more : map file (take (n + 1) files) ≡ before ++ row.file ∷ [] =
    ap (map file) (take_more files n row below ∙ ap (λ (x : FileRow). take n files ++ x ∷ []) (sym is)) ∙ map-append file (take n files) (row ∷ []) in
    more
    ∙ ap (λ (done : List Extent). done ++ map (extent_of n) (item_units plan.stride plan.with_bytes row.file.item)) so_far
    ∙ ap (λ k. extents_from plan 0 before ++ map (extent_of k) (item_units plan.stride plan.with_bytes row.file.item)) (sym at)
    ∙ sym (extents_push plan 0 before row.file)
    ∙ ap (extents_from plan 0) (sym one_more)

-- one range more of a file
pub range_more : (n stride : ℕ) (item : Item) (k : ℕ) (old done new : List Extent) (extent : Extent) → k < range_count stride item.facts.size → done ≡ old ++ map (extent_of n) (map (unit_of item) (take k (ranges_of stride item.facts.size))) → extent ≡ extent_of n (unit_of item (range_at stride item.facts.size k)) → new ≡ done ++ extent ∷ [] → new ≡ old ++ map (extent_of n) (map (unit_of item) (take (k + 1) (ranges_of stride item.facts.size)))
range_more n stride item k old done new extent below so_far is more =
    let ranges = ranges_of stride item.facts.size in
    let this = range_at stride item.facts.size k in
    let long : k < length ranges = subst (λ m. k < m) (sym (length-map-range_with_len (range_at stride item.facts.size) 0 (range_count stride item.facts.size))) below in
    let found : get_or ranges k this ≡ this = get_or-map-range_with_len (range_at stride item.facts.size) 0 (range_count stride item.facts.size) k k this below (omega arith) in
    let one_more : take (k + 1) ranges ≡ take k ranges ++ this ∷ [] = take_more ranges k this long ∙ ap (λ (x : Range). take k ranges ++ x ∷ []) found in
    let mapped : map (extent_of n) (map (unit_of item) (take (k + 1) ranges)) ≡ map (extent_of n) (map (unit_of item) (take k ranges)) ++ extent_of n (unit_of item this) ∷ [] =
    ap (λ (xs : List Range). map (extent_of n) (map (unit_of item) xs)) one_more
    ∙ ap (map (extent_of n)) (map-append (unit_of item) (take k ranges) (this ∷ []))
    ∙ map-append (extent_of n) (map (unit_of item) (take k ranges)) (unit_of item this ∷ []) in
    more
    ∙ ap (λ (e : Extent). done ++ e ∷ []) is
    ∙ ap (λ (xs : List Extent). xs ++ extent_of n (unit_of item this) ∷ []) so_far
    ∙ append_assoc old (map (extent_of n) (map (unit_of item) (take k ranges))) (extent_of n (unit_of item this) ∷ [])
    ∙ ap (λ (xs : List Extent). old ++ xs) (sym mapped)

-- all of them
pub ranges_all : (plan : Plan) (n : ℕ) (item : Item) (k : ℕ) (old done : List Extent) → plan.with_bytes ≡ true → is_copy item.act ≡ true → range_count plan.stride item.facts.size ≤ k → done ≡ old ++ map (extent_of n) (map (unit_of item) (take k (ranges_of plan.stride item.facts.size))) → done ≡ old ++ map (extent_of n) (item_units plan.stride plan.with_bytes item)
ranges_all plan n item k old done along copied all so_far =
    let ranges = ranges_of plan.stride item.facts.size in
    let long : length ranges ≤ k = subst (λ m. m ≤ k) (sym (length-map-range_with_len (range_at plan.stride item.facts.size) 0 (range_count plan.stride item.facts.size))) all in
    let both : plan.with_bytes && is_copy item.act ≡ true = ap (λ b. b && is_copy item.act) along ∙ copied in
    so_far
    ∙ ap (λ (xs : List Range). old ++ map (extent_of n) (map (unit_of item) xs)) (take_all k ranges long)
    ∙ ap (λ b. old ++ map (extent_of n) (cond b (map (unit_of item) ranges) [])) (sym both)

-- none of a file that has none
pub ranges_none : (plan : Plan) (n : ℕ) (item : Item) (old : List Extent) → plan.with_bytes && is_copy item.act ≡ false → old ≡ old ++ map (extent_of n) (item_units plan.stride plan.with_bytes item)
ranges_none plan n item old none =
    sym (append_none old) ∙ ap (λ b. old ++ map (extent_of n) (cond b (map (unit_of item) (ranges_of plan.stride item.facts.size)) [])) (sym none)
  where
    append_none : {A : Type 0} (xs : List A) → xs ++ [] ≡ xs
    append_none [] = refl
    append_none (x ∷ xs) = ap (λ rest. x ∷ rest) (append_none xs)

-- the units of the opened files
pub opened_is : (noted : Noted) (rules : Rules) (source target : List Node) (retries : ℕ) (files : List FileRow) (units : List UnitRow) → files ≡ opened_files noted.finished (files_of noted.plan source target) → units ≡ opened_units noted.units (extents_from noted.plan 0 (map (λ (row : FileRow). row.file) files)) → record { noted = noted; rules = rules; source = source; target = target; retries = retries; files = files; units = units; next = 1; stopped = false } ≡ opened noted rules source target retries
opened_is noted rules source target retries files units files_is units_is =
    let same : map (λ (row : FileRow). row.file) files ≡ files_of noted.plan source target = ap (map (λ (row : FileRow). row.file)) files_is ∙ files_of_rows noted.finished 0 (files_of noted.plan source target) in
    let extents = units_is ∙ ap (λ (files : List Copied). opened_units noted.units (extents_from noted.plan 0 files)) same in
    λ i. record { noted = noted; rules = rules; source = source; target = target; retries = retries; files = files_is i; units = extents i; next = 1; stopped = false }
