-- What a call tells that it changed is a step of that call: so what reads stays something that a stop may leave.
use Rattle.std.proofs.Common.{◌≡◌, ◌<◌, ◌≤◌, ℕ, ◌+◌, ◌-◌, min, max, arith, List, ◌++◌, length, take, drop, get_or, replicate, Option, Some, None, Result, Ok, Err, refl, sym, ap, subst, ◌∙◌, inl, inr, length-append}
use Rattle.std.specs.Prelude.{slice_get, IsSomeAnd, option_map}
use Rattle.std.proofs.lemmas.List.{get_or-take, get_or-drop, get_or_append_left, get_or-append_right, length-take, length-drop, length-replicate}
use Rattle.std.proofs.lemmas.Option.{slice_get-get_or}
use Rattle.rc_tree.specs.declared.attr.Kind.TheVariants.{File}
use Rattle.rc_tree.specs.declared.props.Props.{Props}
use Rattle.rc_tree.specs.Tree.{Node}
use Rattle.rc_volume.specs.declared.site.SiteErr.{SiteErr}
use Rattle.rc_volume.specs.declared.site.SiteErr.TheVariants.{Failed, NoMemory}
use Rattle.rc_volume.specs.Images.{Half, IsMade, StepsNotes}
use Rattle.rc_volume.specs.Log.{make, put, resize, set_props, remove, write, cut}
use Rattle.rc_volume.specs.Site.{Cuts, IsCutBytes, IsTornBytes, Makes, Maybe, Puts, Removes, Resizes, SetsProps, Turns, Writes, resized, with_props, written_at}

-- Bytes

-- the same byte by default is the same byte, where there is one
same_byte : (xs ys : List ℕ) (i : ℕ) → i < length xs → i < length ys → get_or xs i 0 ≡ get_or ys i 0 → slice_get xs i ≡ slice_get ys i
same_byte xs ys i in_xs in_ys e = slice_get-get_or xs i 0 in_xs ∙ ap (λ x. Some x) e ∙ sym (slice_get-get_or ys i 0 in_ys)

-- a list with the same front has the same bytes there
in_front : (xs ys : List ℕ) (n i : ℕ) → take n xs ≡ take n ys → i < n → i < length xs → i < length ys → slice_get xs i ≡ slice_get ys i
in_front xs ys n i front lt in_xs in_ys = same_byte xs ys i in_xs in_ys (sym (get_or-take n xs i 0 lt) ∙ ap (λ l. get_or l i 0) front ∙ get_or-take n ys i 0 lt)

-- and behind the same rest
behind : (xs ys : List ℕ) (n i : ℕ) → drop n xs ≡ drop n ys → n ≤ i → i < length xs → i < length ys → slice_get xs i ≡ slice_get ys i
behind xs ys n i rest le in_xs in_ys =
    let at : n + (i - n) ≡ i = omega arith in
    same_byte xs ys i in_xs in_ys
    (ap (get_or xs i) refl ∙ ap (λ k. get_or xs k 0) (sym at) ∙ sym (get_or-drop n xs (i - n) 0) ∙ ap (λ l. get_or l (i - n) 0) rest ∙ get_or-drop n ys (i - n) 0 ∙ ap (λ k. get_or ys k 0) at)

length-over : (off : ℕ) (bytes old : List ℕ) → off ≤ length old → length (take off old ++ bytes ++ drop (off + length bytes) old) ≡ max (length old) (off + length bytes)
length-over off bytes old le =
    omega (arith, length-append (take off old ++ bytes) (drop (off + length bytes) old), length-append (take off old) bytes, length-take off old, length-drop (off + length bytes) old)

-- bytes written over others
torn-over : (off : ℕ) (bytes old : List ℕ) → off ≤ length old → IsTornBytes off (length bytes) old (take off old ++ bytes ++ drop (off + length bytes) old)
torn-over off bytes old le = record {
  no_shorter = omega (arith, long);
  no_longer = omega (arith, long);
  before = λ i is lt. same_byte new old i (omega (arith, long)) is
      (get_or_append_left (take off old ++ bytes) (drop (off + length bytes) old) 0 i (omega (arith, fronts, taken))
      ∙ get_or_append_left (take off old) bytes 0 i (omega (arith, taken)) ∙ get_or-take off old i 0 lt);
  after = λ i is ge. same_byte new old i (omega (arith, long)) is
      (get_or-append_right (take off old ++ bytes) (drop (off + length bytes) old) (off + length bytes) i 0 (omega (arith, fronts, taken)) ge
      ∙ get_or-drop (off + length bytes) old (i - (off + length bytes)) 0
      ∙ ap (λ k. get_or old k 0) (back i ge));
}
  where
    new : List ℕ
    new = take off old ++ bytes ++ drop (off + length bytes) old

    long : length (take off old ++ bytes ++ drop (off + length bytes) old) ≡ max (length old) (off + length bytes)
    long = length-over off bytes old le

    fronts : length (take off old ++ bytes) ≡ length (take off old) + length bytes
    fronts = length-append (take off old) bytes

    taken : length (take off old) ≡ min off (length old)
    taken = length-take off old

    back : (i : ℕ) → off + length bytes ≤ i → off + length bytes + (i - (off + length bytes)) ≡ i
    back i ge = omega arith

torn_node : (off len : ℕ) (old new : List ℕ) → length new ≡ length old → take off new ≡ take off old → drop (off + len) new ≡ drop (off + len) old → IsTornBytes off len old new
torn_node off len old new size before after = record {
  no_shorter = omega arith;
  no_longer = omega arith;
  before = λ i is lt. in_front new old off i before lt (omega arith) is;
  after = λ i is ge. behind new old (off + len) i after ge (omega arith) is;
}

-- bytes cut to a length or filled up to it
cut-to : (len : ℕ) (old : List ℕ) → IsCutBytes len old (take len old ++ replicate (len - length old) 0)
cut-to len old = record {
  no_shorter = omega (arith, long, taken, filled);
  no_longer = omega (arith, long, taken, filled);
  front = λ i lt. same_byte (take len old ++ replicate (len - length old) 0) old i (omega (arith, long, taken, filled)) (omega arith)
      (get_or_append_left (take len old) (replicate (len - length old) 0) 0 i (omega (arith, taken)) ∙ get_or-take len old i 0 (omega arith));
}
  where
    fill : List ℕ
    fill = replicate (len - length old) 0

    long : length (take len old ++ fill) ≡ length (take len old) + length fill
    long = length-append (take len old) fill

    taken : length (take len old) ≡ min len (length old)
    taken = length-take len old

    filled : length fill ≡ len - length old
    filled = length-replicate {A = ℕ} (len - length old) 0

taken_cut : (len : ℕ) (old : List ℕ) → IsCutBytes len old (take len old)
taken_cut len old = record {
  no_shorter = omega (arith, length-take len old);
  no_longer = omega (arith, length-take len old);
  front = λ i lt. same_byte (take len old) old i (omega (arith, length-take len old)) (omega arith) (get_or-take len old i 0 (omega arith));
}

-- Entries

turned : (allowed : Node → Node → Type 0) (old new : Option Node) (node now : Node) → old ≡ Some node → new ≡ Some now → allowed node now → Turns allowed old new
turned allowed old new node now was is by = record { before = node; now = now; was = was; is = is; by = by }

pub made_steps : {T : Type 0} (result : Result T SiteErr) (fresh : Node) (old new : Option Node) → old ≡ None → Makes result fresh old new → Maybe (Half (make fresh)) old new
made_steps (Ok value) fresh old new none came = inr (subst (λ (o : Option Node). IsMade fresh o new) (sym none) came)
made_steps (Err Failed) fresh old new none (inl same) = inl same
made_steps (Err Failed) fresh old new none (inr came) = inr (subst (λ (o : Option Node). IsMade fresh o new) (sym none) came)
made_steps (Err NoMemory) fresh old new none same = inl same

pub put_steps : {T : Type 0} (result : Result T SiteErr) (off : ℕ) (bytes : List ℕ) (old new : Option Node) → IsSomeAnd old (λ node. (node.kind ≡ File) × (off + length bytes ≤ length node.bytes)) → Puts result off bytes old new → Maybe (Half (put off (length bytes))) old new
put_steps (Ok value) off bytes (Some node) new file became =
    inr (turned _ (Some node) new node (written_at off bytes node) refl became (record { rest = refl; bytes = torn-over off bytes node.bytes (omega arith) }))
put_steps (Ok value) off bytes None new file became = inl became
put_steps (Err Failed) off bytes old new file turns =
    inr (turned _ old new turns.before turns.now turns.was turns.is (record { rest = turns.by.rest; bytes = torn_node off (length bytes) turns.before.bytes turns.now.bytes turns.by.size turns.by.before turns.by.after }))
put_steps (Err NoMemory) off bytes old new file same = inl same

pub resize_steps : {T : Type 0} (result : Result T SiteErr) (len : ℕ) (old new : Option Node) → Resizes result len old new → Maybe (Half (resize len)) old new
resize_steps (Ok value) len (Some node) new became = inr (turned _ (Some node) new node (resized len node) refl became (record { rest = refl; bytes = cut-to len node.bytes }))
resize_steps (Ok value) len None new became = inl became
resize_steps (Err Failed) len old new turns =
    inr (turned _ old new turns.before turns.now turns.was turns.is (record {
      rest = turns.by.rest;
      bytes = record {
        no_shorter = turns.by.no_shorter;
        no_longer = turns.by.no_longer;
        front = λ i lt. in_front turns.now.bytes turns.before.bytes (min (length turns.before.bytes) len) i turns.by.front lt (omega (arith, turns.by.no_shorter)) (omega arith);
      };
    }))
resize_steps (Err NoMemory) len old new same = inl same

props_became : (props : Props) (old new : Option Node) → new ≡ option_map (with_props props) old → Maybe (Half (set_props props)) old new
props_became props None new became = inl became
props_became props (Some node) new became =
    inr (turned _ (Some node) new node (with_props props node) refl became (record {
      rest = refl;
      props = record { attr = inr refl; created = inr refl; written = inr refl; access = inr refl; owner = inr refl; audit = inr refl };
    }))

pub props_steps : {T : Type 0} (result : Result T SiteErr) (props : Props) (old new : Option Node) → SetsProps result props old new → Maybe (Half (set_props props)) old new
props_steps (Ok value) props old new became = props_became props old new became
props_steps (Err Failed) props old new (inl same) = inl same
props_steps (Err Failed) props old new (inr became) = props_became props old new became
props_steps (Err NoMemory) props old new same = inl same

pub remove_steps : {T : Type 0} (result : Result T SiteErr) (old new : Option Node) → Removes result old new → Maybe (Half remove) old new
remove_steps (Ok value) old new gone = inr gone
remove_steps (Err Failed) old new maybe = maybe
remove_steps (Err NoMemory) old new same = inl same

-- The record

same_notes : (old new : List ℕ) (off len : ℕ) → new ≡ old → IsTornBytes off len old new
same_notes old new off len same = subst (λ (b : List ℕ). IsTornBytes off len old b) (sym same) (record { no_shorter = omega arith; no_longer = omega arith; before = λ i is lt. refl; after = λ i is ge. refl })

pub write_steps : {T : Type 0} (result : Result T SiteErr) (off : ℕ) (bytes old new : List ℕ) → off ≤ length old → Writes result off bytes old new → StepsNotes (write off (length bytes)) old new
write_steps (Ok value) off bytes old new within became = subst (λ (b : List ℕ). IsTornBytes off (length bytes) old b) (sym became) (torn-over off bytes old within)
write_steps (Err Failed) off bytes old new within torn = torn
write_steps (Err NoMemory) off bytes old new within same = same_notes old new off (length bytes) same

pub cut_steps : {T : Type 0} (result : Result T SiteErr) (len : ℕ) (old new : List ℕ) → Cuts result len old new → StepsNotes (cut len) old new
cut_steps (Ok value) len old new became = subst (λ (b : List ℕ). IsCutBytes len old b) (sym became) (taken_cut len old)
cut_steps (Err Failed) len old new half = half
cut_steps (Err NoMemory) len old new same = subst (λ (b : List ℕ). IsCutBytes len old b) (sym same) (record { no_shorter = omega arith; no_longer = omega arith; front = λ i lt. refl })
