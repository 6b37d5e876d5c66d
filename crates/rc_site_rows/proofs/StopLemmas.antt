-- The worked rows.
use Rattle.std.proofs.Common.{◌≡◌, ◌≢◌, ◌⊎◌, ◌<◌, ◌≤◌, ℕ, zero, suc, ◌+◌, min, max, arith, List, [], ◌∷◌, length, Option, Some, None, refl, sym, ap, subst, ◌∙◌, inl, inr}
use Rattle.std.specs.Prelude.{slice_get}
use Rattle.rc_tree.specs.declared.props.Props.{Props}
use Rattle.rc_tree.specs.Tree.{Node}
use Rattle.rc_volume.specs.declared.site.Side.TheVariants.{Target}
use Rattle.rc_volume.specs.Images.{Half, StepsBy}
use Rattle.rc_volume.specs.Log.{EntryCall, changed, make, put, remove, resize, set_props}
use Rattle.rc_site_rows.specs.Stops.{row_file, row_key, size_at, times, Leaves}
use Rattle.rc_volume.specs.Site.{Maybe, bytes_in, with_props}

-- a call at the key
here : (call : EntryCall) (old new : Option Node) → Maybe (Half call) old new → StepsBy Target row_key (changed Target row_key call) old new
here call old new step = (λ same. step, λ apart. absurd (apart refl))

-- How many bytes

made_size : (old new : Option Node) → Maybe (Half (make (row_file []))) old new → size_at new ≤ size_at old
made_size old new (inl same) = omega (arith, ap size_at same)
made_size None new (inr made) = omega (arith, ap size_at made)
made_size (Some old) (Some new) (inr over) = over.no_longer
made_size (Some old) None (inr over) = absurd over

removed_size : (old new : Option Node) → Maybe (Half remove) old new → size_at new ≤ size_at old
removed_size old new (inl same) = omega (arith, ap size_at same)
removed_size old new (inr gone) = omega (arith, ap size_at gone)

resized_size : (len : ℕ) (old new : Option Node) → Maybe (Half (resize len)) old new → (size_at new ≤ max (size_at old) len) × (min (size_at old) len ≤ size_at new)
resized_size len old new (inl same) = (omega (arith, ap size_at same), omega (arith, ap size_at same))
resized_size len old new (inr turns) =
    (omega (arith, ap size_at turns.was, ap size_at turns.is, turns.by.bytes.no_longer), omega (arith, ap size_at turns.was, ap size_at turns.is, turns.by.bytes.no_shorter))

put_size : (off len : ℕ) (old new : Option Node) → Maybe (Half (put off len)) old new → (size_at new ≤ max (size_at old) (off + len)) × (size_at old ≤ size_at new)
put_size off len old new (inl same) = (omega (arith, ap size_at same), omega (arith, ap size_at same))
put_size off len old new (inr turns) =
    (omega (arith, ap size_at turns.was, ap size_at turns.is, turns.by.bytes.no_longer), omega (arith, ap size_at turns.was, ap size_at turns.is, turns.by.bytes.no_shorter))

-- A file half made

pub half_absent : Leaves None (make (row_file []) ∷ resize 2 ∷ put 0 1 ∷ []) None
half_absent = (None, here (make (row_file [])) None None (inl refl), (None, here (resize 2) None None (inl refl), (None, here (put 0 1) None None (inl refl), refl)))

pub half_empty : Leaves None (make (row_file []) ∷ resize 2 ∷ put 0 1 ∷ []) (Some (row_file []))
half_empty =
    let empty : Option Node = Some (row_file []) in
    (empty, here (make (row_file [])) None empty (inr refl), (empty, here (resize 2) empty empty (inl refl), (empty, here (put 0 1) empty empty (inl refl), refl)))

pub half_other : Leaves None (make (row_file []) ∷ resize 2 ∷ put 0 1 ∷ []) (Some (row_file (7 ∷ 8 ∷ [])))
half_other =
    let empty : Option Node = Some (row_file []) in
    let other : Option Node = Some (row_file (7 ∷ 8 ∷ [])) in (
      empty,
      here (make (row_file [])) None empty (inr refl),
      (
        other,
        here (resize 2) empty other (inr (record {
          before = row_file [];
          now = row_file (7 ∷ 8 ∷ []);
          was = refl;
          is = refl;
          by = record { rest = refl; bytes = record { no_shorter = omega arith; no_longer = omega arith; front = λ i lt. absurd (omega arith) } };
        })),
        (other, here (put 0 1) other other (inl refl), refl),
      ),
    )

pub half_no_longer : (left : Option Node) → Leaves None (make (row_file []) ∷ resize 2 ∷ put 0 1 ∷ []) left → size_at left ≤ 2
half_no_longer left h =
    let made = made_size None h.0 (h.1.0 refl) in
    let long = resized_size 2 h.0 h.2.0 (h.2.1.0 refl) in
    let filled = put_size 0 1 h.2.0 h.2.2.0 (h.2.2.1.0 refl) in
    omega (arith, made, long.0, filled.0, ap size_at h.2.2.2)

-- A put over a synced file

put_before : (i : ℕ) → i < 4 → i < 1 → slice_get {X = ℕ} (1 ∷ 9 ∷ 8 ∷ 4 ∷ []) i ≡ slice_get {X = ℕ} (1 ∷ 2 ∷ 3 ∷ 4 ∷ []) i
put_before zero is lt = refl
put_before (suc i) is lt = absurd (omega arith)

put_after : (i : ℕ) → i < 4 → 3 ≤ i → slice_get {X = ℕ} (1 ∷ 9 ∷ 8 ∷ 4 ∷ []) i ≡ slice_get {X = ℕ} (1 ∷ 2 ∷ 3 ∷ 4 ∷ []) i
put_after zero is ge = absurd (omega arith)
put_after (suc zero) is ge = absurd (omega arith)
put_after (suc (suc zero)) is ge = absurd (omega arith)
put_after (suc (suc (suc zero))) is ge = refl
put_after (suc (suc (suc (suc i)))) is ge = absurd (omega arith)

pub put_other : Leaves (Some (row_file (1 ∷ 2 ∷ 3 ∷ 4 ∷ []))) (put 1 2 ∷ []) (Some (row_file (1 ∷ 9 ∷ 8 ∷ 4 ∷ [])))
put_other = (
  Some (row_file (1 ∷ 9 ∷ 8 ∷ 4 ∷ [])),
  here (put 1 2) (Some (row_file (1 ∷ 2 ∷ 3 ∷ 4 ∷ []))) (Some (row_file (1 ∷ 9 ∷ 8 ∷ 4 ∷ []))) (inr (record {
    before = row_file (1 ∷ 2 ∷ 3 ∷ 4 ∷ []);
    now = row_file (1 ∷ 9 ∷ 8 ∷ 4 ∷ []);
    was = refl;
    is = refl;
    by = record { rest = refl; bytes = record { no_shorter = omega arith; no_longer = omega arith; before = put_before; after = put_after } };
  })),
  refl,
)

pub put_stays : (left : Node) → Leaves (Some (row_file (1 ∷ 2 ∷ 3 ∷ 4 ∷ []))) (put 1 2 ∷ []) (Some left) → (slice_get left.bytes 0 ≡ Some 1) × (slice_get left.bytes 3 ≡ Some 4) × (size_at (Some left) ≡ 4)
put_stays left h = elim (h.1.0 refl) [
  | inl same ↦
      (ap (λ (o : Option Node). slice_get (bytes_in o) 0) (h.2 ∙ same), ap (λ (o : Option Node). slice_get (bytes_in o) 3) (h.2 ∙ same), ap size_at (h.2 ∙ same))
  | inr turns ↦
      let long : length turns.before.bytes ≡ 4 = ap size_at (sym turns.was) in (
        ap (λ (o : Option Node). slice_get (bytes_in o) 0) (h.2 ∙ turns.is) ∙ turns.by.bytes.before 0 (omega arith) (omega arith) ∙ ap (λ (o : Option Node). slice_get (bytes_in o) 0) (sym turns.was),
        ap (λ (o : Option Node). slice_get (bytes_in o) 3) (h.2 ∙ turns.is) ∙ turns.by.bytes.after 3 (omega arith) (omega arith) ∙ ap (λ (o : Option Node). slice_get (bytes_in o) 3) (sym turns.was),
        omega (arith, long, ap size_at (h.2 ∙ turns.is), turns.by.bytes.no_shorter, turns.by.bytes.no_longer),
      )
]

pub put_stands : Leaves (Some (row_file (1 ∷ 2 ∷ 3 ∷ 4 ∷ []))) (put 1 2 ∷ []) None → ⊥
put_stands h =
    let kept = put_size 1 2 (Some (row_file (1 ∷ 2 ∷ 3 ∷ 4 ∷ []))) h.0 (h.1.0 refl) in
    omega (arith, kept.1, ap size_at h.2)

-- A length down and up

cut_front : (i : ℕ) → i < 2 → slice_get {X = ℕ} (1 ∷ 2 ∷ []) i ≡ slice_get {X = ℕ} (1 ∷ 2 ∷ 3 ∷ 4 ∷ []) i
cut_front zero lt = refl
cut_front (suc zero) lt = refl
cut_front (suc (suc i)) lt = absurd (omega arith)

fill_front : (i : ℕ) → i < 2 → slice_get {X = ℕ} (1 ∷ 2 ∷ 9 ∷ 9 ∷ []) i ≡ slice_get {X = ℕ} (1 ∷ 2 ∷ []) i
fill_front zero lt = refl
fill_front (suc zero) lt = refl
fill_front (suc (suc i)) lt = absurd (omega arith)

pub length_other : Leaves (Some (row_file (1 ∷ 2 ∷ 3 ∷ 4 ∷ []))) (resize 2 ∷ resize 4 ∷ []) (Some (row_file (1 ∷ 2 ∷ 9 ∷ 9 ∷ [])))
length_other = (
  Some (row_file (1 ∷ 2 ∷ [])),
  here (resize 2) (Some (row_file (1 ∷ 2 ∷ 3 ∷ 4 ∷ []))) (Some (row_file (1 ∷ 2 ∷ []))) (inr (record {
    before = row_file (1 ∷ 2 ∷ 3 ∷ 4 ∷ []);
    now = row_file (1 ∷ 2 ∷ []);
    was = refl;
    is = refl;
    by = record { rest = refl; bytes = record { no_shorter = omega arith; no_longer = omega arith; front = cut_front } };
  })),
  (
    Some (row_file (1 ∷ 2 ∷ 9 ∷ 9 ∷ [])),
    here (resize 4) (Some (row_file (1 ∷ 2 ∷ []))) (Some (row_file (1 ∷ 2 ∷ 9 ∷ 9 ∷ []))) (inr (record {
      before = row_file (1 ∷ 2 ∷ []);
      now = row_file (1 ∷ 2 ∷ 9 ∷ 9 ∷ []);
      was = refl;
      is = refl;
      by = record { rest = refl; bytes = record { no_shorter = omega arith; no_longer = omega arith; front = fill_front } };
    })),
    refl,
  ),
)

pub length_no_shorter : (left : Node) → Leaves (Some (row_file (1 ∷ 2 ∷ 3 ∷ 4 ∷ []))) (resize 2 ∷ resize 4 ∷ []) (Some left) → 2 ≤ size_at (Some left)
length_no_shorter left h =
    let down = resized_size 2 (Some (row_file (1 ∷ 2 ∷ 3 ∷ 4 ∷ []))) h.0 (h.1.0 refl) in
    let up = resized_size 4 h.0 h.2.0 (h.2.1.0 refl) in
    omega (arith, down.1, up.1, ap size_at h.2.2)

-- Properties given twice

abbrev created_at : Option Node → ℕ
created_at None = 0
created_at (Some node) = node.props.created

given_created : (given : Props) (old new : Option Node) → Maybe (Half (set_props given)) old new → (created_at new ≡ created_at old) ⊎ (created_at new ≡ given.created)
given_created given old new (inl same) = inl (ap created_at same)
given_created given old new (inr turns) = elim turns.by.props.created [
  | inl old_one ↦ inl (ap created_at turns.is ∙ old_one ∙ sym (ap created_at turns.was))
  | inr new_one ↦ inr (ap created_at turns.is ∙ new_one)
]

pub props_none_else : (left : Node) → Leaves (Some (row_file [])) (set_props (times 1 2) ∷ set_props (times 3 4) ∷ []) (Some left) → (left.props.created ≡ 0) ⊎ ((left.props.created ≡ 1) ⊎ (left.props.created ≡ 3))
props_none_else left h = elim (given_created (times 3 4) h.0 h.2.0 (h.2.1.0 refl)) [
  | inr three ↦ inr (inr (ap created_at h.2.2 ∙ three))
  | inl stood ↦ elim (given_created (times 1 2) (Some (row_file [])) h.0 (h.1.0 refl)) [
    | inl zero_one ↦ inl (ap created_at h.2.2 ∙ stood ∙ zero_one)
    | inr one ↦ inr (inl (ap created_at h.2.2 ∙ stood ∙ one))
  ]
]

pub props_mixed : Leaves (Some (row_file [])) (set_props (times 1 2) ∷ set_props (times 3 4) ∷ []) (Some (with_props (times 1 4) (row_file [])))
props_mixed = (
  Some (with_props (times 1 2) (row_file [])),
  here (set_props (times 1 2)) (Some (row_file [])) (Some (with_props (times 1 2) (row_file []))) (inr (record {
    before = row_file [];
    now = with_props (times 1 2) (row_file []);
    was = refl;
    is = refl;
    by = record { rest = refl; props = record { attr = inl refl; created = inr refl; written = inr refl; access = inl refl; owner = inl refl; audit = inl refl } };
  })),
  (
    Some (with_props (times 1 4) (row_file [])),
    here (set_props (times 3 4)) (Some (with_props (times 1 2) (row_file []))) (Some (with_props (times 1 4) (row_file []))) (inr (record {
      before = with_props (times 1 2) (row_file []);
      now = with_props (times 1 4) (row_file []);
      was = refl;
      is = refl;
      by = record { rest = refl; props = record { attr = inl refl; created = inl refl; written = inr refl; access = inl refl; owner = inl refl; audit = inl refl } };
    })),
    refl,
  ),
)

-- A file removed and made again

pub again_absent : Leaves (Some (row_file (1 ∷ 2 ∷ []))) (remove ∷ make (row_file []) ∷ []) None
again_absent = (None, here remove (Some (row_file (1 ∷ 2 ∷ []))) None (inr refl), (None, here (make (row_file [])) None None (inl refl), refl))

pub again_as_it_was : Leaves (Some (row_file (1 ∷ 2 ∷ []))) (remove ∷ make (row_file []) ∷ []) (Some (row_file (1 ∷ 2 ∷ [])))
again_as_it_was =
    let old : Option Node = Some (row_file (1 ∷ 2 ∷ [])) in
    (old, here remove old old (inl refl), (old, here (make (row_file [])) old old (inl refl), refl))

pub again_other : Leaves (Some (row_file (1 ∷ 2 ∷ []))) (remove ∷ make (row_file []) ∷ []) (Some (row_file (9 ∷ [])))
again_other =
    let old : Option Node = Some (row_file (1 ∷ 2 ∷ [])) in (
      old,
      here remove old old (inl refl),
      (
        Some (row_file (9 ∷ [])),
        here (make (row_file [])) old (Some (row_file (9 ∷ []))) (inr (record {
          spelling = inl refl;
          kind = inl refl;
          props = record { attr = inl refl; created = inl refl; written = inl refl; access = inl refl; owner = inl refl; audit = inl refl };
          no_longer = omega arith;
        })),
        refl,
      ),
    )

pub again_no_longer : (left : Option Node) → Leaves (Some (row_file (1 ∷ 2 ∷ []))) (remove ∷ make (row_file []) ∷ []) left → size_at left ≤ 2
again_no_longer left h =
    let gone = removed_size (Some (row_file (1 ∷ 2 ∷ []))) h.0 (h.1.0 refl) in
    let made = made_size h.0 h.2.0 (h.2.1.0 refl) in
    omega (arith, gone, made, ap size_at h.2.2)
