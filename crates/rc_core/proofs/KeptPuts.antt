-- That preparing a unit and putting its bytes keep a state sound.
use Rattle.std.proofs.Common.{◌≡◌, ◌≢◌, ℕ, ◌+◌, ◌<◌, ◌≤◌, Bool, true, false, List, [], ◌∷◌, length, refl, sym, ap, subst, ◌∙◌, ◌⊎◌, inl, inr, arith, true≢false}
use Rattle.std.proofs.lemmas.Bool.{cases_lt, leb-true}
use Rattle.std.proofs.lemmas.List.Elements.{All-cons, All-nil}
use Rattle.std.proofs.lemmas.Slice.Eq.{bytes_eq-Decides}
use Rattle.std.specs.Prelude.{Option, Some, None, IfSome, IsSomeAnd, option_map, nat_le, slice_get, slice_set}
use Rattle.std.specs.Str.{bytes_eq}
use Rattle.rc_tree.specs.declared.attr.Kind.TheVariants.{File}
use Rattle.rc_tree.specs.Tree.{Node}
use Rattle.rc_class.specs.declared.item.Item.{Item}
use Rattle.rc_class.specs.Units.{Range}
use Rattle.rc_volume.specs.Reading.{part_of}
use Rattle.rc_volume.specs.Site.{written_at}
use Rattle.rc_core.specs.Copies.{Holds}
use Rattle.rc_core.specs.Follows.{HasFileOf}
use Rattle.rc_core.specs.Events.{Found, after, held_under, is_next_piece, is_of_source, is_piece, prepare_file, prepare_unit, put_bytes, put_piece, put_unit, where_some}
use Rattle.rc_core.specs.Rows.{begun, has, holding_of, in_state, is_settled, prepared, unit_row, with_at}
use Rattle.rc_core.specs.Sound.{IsApart, IsSoundHolding, IsSoundUnit, Sound, front_of}
use Rattle.rc_core.specs.declared.event.Event.TheVariants as event
use Rattle.rc_core.specs.declared.rows.Extent.{Extent}
use Rattle.rc_core.specs.declared.rows.FileRow.{FileRow}
use Rattle.rc_core.specs.declared.rows.Holding.{Holding}
use Rattle.rc_core.specs.declared.rows.UnitRow.{UnitRow}
use Rattle.rc_core.specs.declared.rows.UnitState.TheVariants as unit
use Rattle.rc_core.specs.declared.state.State.{State}
use Rattle.rc_core.proofs.Found.{IsHeldUnder, both_true, held_found, held_not_marked, held_state, held_undone, some_and}
use Rattle.rc_core.proofs.Kept.{IsOwnTicket, IsSpared, OnWay, same_ticket, spared_unit, touched_kept, unit_kept}
use Rattle.rc_core.proofs.KeptBytes.{Keeps, holding, keeps_begun, keeps_resized, resized_length, spared, way_begun, way_file}
use Rattle.rc_core.proofs.LaidOut.{Fill, in_file, source_of, units_apart}
use Rattle.rc_core.proofs.Lists.{first_of_all, one, same_some, set_cases}
use Rattle.rc_core.proofs.SameBytes.{holds_more, holds_outside, written}
use Rattle.rc_core.proofs.Ways.{way_bytes, way_resized}

-- A unit and its file change together

-- the file that stands in a list in which it was put
put_file : (files : List FileRow) (f : ℕ) (new file : FileRow) → slice_get (slice_set files f new) f ≡ Some file → new ≡ file
put_file files f new file e = elim (set_cases files f f new file e) [
  | inl here ↦ here.1
  | inr other ↦ absurd (other.0 refl)
]

-- a held unit goes on, once its file was changed
pub held_kept : (state : State) (n : ℕ) (found : Found) (new : FileRow) (next : Holding) → IsHeldUnder state n found → Sound (record state { files = slice_set state.files found.row.extent.file new }) → next.ticket ≡ found.holding.ticket → (IsSoundUnit found.row new → IsSoundUnit (in_state (unit.Held next) found.row) new) → Sound (record state { files = slice_set state.files found.row.extent.file new; units = slice_set state.units n (in_state (unit.Held next) found.row) })
held_kept state n found new next held sound ticket good =
    unit_kept (record state { files = slice_set state.files found.row.extent.file new }) sound n found.row (in_state (unit.Held next) found.row) state.next held.is_unit refl
    (λ marked. absurd (held_not_marked found.row.state found.holding held.is_held marked))
    (λ file of before.
    let same = put_file state.files found.row.extent.file new file of in
    subst (IsSoundUnit (in_state (unit.Held next) found.row)) same (good (subst (IsSoundUnit found.row) (sym same) before)))
    (omega arith)
    (λ h is. subst (λ (t : ℕ). IsOwnTicket (record state { files = slice_set state.files found.row.extent.file new }) n state.next t)
    (sym ticket ∙ ap (λ (x : Holding). x.ticket) (same_some next h is))
    (same_ticket (record state { files = slice_set state.files found.row.extent.file new }) sound n found.row found.holding held.is_unit held.is_held))

-- Prepare

nothing_put : (extent : Extent) (source : Option Node) (size : ℕ) (node : Node) → node.kind ≡ File → IsSomeAnd source (λ from. length from.bytes ≡ size) → length node.bytes ≡ size → Holds (front_of extent 0) source (Some node)
nothing_put extent None size node file has long = has
nothing_put extent (Some from) size node file has long = record {
  is_file = file;
  size = long ∙ sym has;
  bytes = λ i low high. absurd (omega (arith, low, high));
}

source_size : (item : Item) (source : Option Node) → HasFileOf item source → IsSomeAnd source (λ from. length from.bytes ≡ item.facts.size)
source_size item None file = file
source_size item (Some from) file = file.1

-- a unit whose file stands at its length now
prepared_unit : (row : UnitRow) (h : Holding) (file : FileRow) (source stands : Option Node) (size : ℕ) (node : Node) → file.file.source ≡ source → file.stands ≡ stands → stands ≡ Some node → holding_of row.state ≡ Some h → node.kind ≡ File → IsSomeAnd source (λ from. length from.bytes ≡ size) → length node.bytes ≡ size → IsSoundUnit row file → IsSoundUnit (in_state (unit.Held (record h { prepared = true })) row) file
prepared_unit row h file source stands size node source_is stands_is node_is held kind has long good =
    let of : IsSoundHolding row.extent file.file.source file.stands h = subst (λ (o : Option Holding). IfSome o (IsSoundHolding row.extent file.file.source file.stands)) held good.holding in
    let settled : h.settled ≡ true → is_settled row.state ≡ true = λ s. ap is_settled (held_state row.state h held) ∙ s in
    record {
      held = λ s. good.held (settled s);
      apart = λ s. good.apart (settled s);
      holding = record {
        inside = of.inside;
        unprepared = λ e. absurd (true≢false e);
        stood = λ _. by h.prepared refl of;
        settled = λ s. (refl, (of.settled s).1);
      };
    }
  where
    by : (b : Bool) → h.prepared ≡ b → IsSoundHolding row.extent file.file.source file.stands h → Holds (front_of row.extent h.put) file.file.source file.stands
    by true e of = of.stood e
    by false e of =
        subst (λ n. Holds (front_of row.extent n) file.file.source file.stands) (sym (of.unprepared e))
        (subst (λ (o : Option Node). Holds (front_of row.extent 0) o file.stands) (sym source_is)
        (subst (λ (o : Option Node). Holds (front_of row.extent 0) source o) (sym (stands_is ∙ node_is)) (nothing_put row.extent source size node kind has long)))

prepare_row : Fill → (state : State) → Sound state → (n : ℕ) (found : Found) → IsHeldUnder state n found → Sound (prepare_unit state n found.row found.holding)
prepare_row fill state sound n found held =
    let file = found.file_of in
    let f = found.row.extent.file in
    let of = source_of state sound.laid_out f file held.is_file in
    let along = (in_file fill state sound.laid_out n found.row file held.is_unit held.is_file).along in
    let undone = held_undone state sound n found held in
    let way : OnWay state file file.stands = first_of_all (OnWay state file) file.stands file.touched.had (sound.files f file held.is_file).ways in
    let begun_way : OnWay state file (Some (begun file file.stands)) = way_begun state.rules state.noted.plan file file.file.source file.file.start file.stands of way in
    let now_way : OnWay state file (Some (prepared file)) = way_resized state.rules state.noted.plan file.file.item file.file.source file.file.start file.file.item.facts.size (begun file file.stands) (λ without. absurd (true≢false (sym along ∙ without))) begun_way in
    let changed : Sound (record state { files = slice_set state.files f (prepare_file file) }) =
    touched_kept state sound f file held.is_file (Some (begun file file.stands) ∷ []) [] (Some (prepared file)) file.state file.attempts undone undone now_way
    (All-cons (OnWay state file) (Some (begun file file.stands)) [] begun_way (All-nil (OnWay state file)))
    (λ _. refl)
    (λ m row is at good. spared_unit (Some (begun file file.stands) ∷ []) [] (Some (prepared file)) file.state file.attempts row file
    (spared row.extent file.file.source file.stands (Some (begun file file.stands) ∷ []) (Some (prepared file))
    (keeps_resized file file.file.item.facts.size file.file.source file.stands of refl)
    (All-cons (Keeps file.file.source file.stands) (Some (begun file file.stands)) [] (keeps_begun file file.file.source file.stands) (All-nil (Keeps file.file.source file.stands)))) good) in
    subst (λ (o : Option FileRow). Sound (record state { files = with_at state.files f (option_map prepare_file o); units = slice_set state.units n (in_state (unit.Held (record found.holding { prepared = true })) found.row) })) (sym held.is_file)
    (held_kept state n found (prepare_file file) (record found.holding { prepared = true }) held changed refl
    (prepared_unit found.row found.holding (prepare_file file) file.file.source (Some (prepared file)) file.file.item.facts.size (prepared file) refl refl refl held.is_held
    (way_file state.rules state.noted.plan file.file.item file.file.source file.file.start (prepared file) now_way)
    (source_size file.file.item file.file.source of)
    (resized_length file.file.item.facts.size (begun file file.stands))))

-- Put

-- bytes that follow on, of what stands and of the source
pub record IsNextPiece (bytes : List ℕ) (found : Found) : Type 0 where
  pub is_prepared : found.holding.prepared ≡ true
  pub inside : found.holding.put + length bytes ≤ found.row.extent.len
  pub from : Node
  pub source_is : found.file_of.file.source ≡ Some from
  pub piece : bytes ≡ part_of (found.row.extent.off + found.holding.put) (length bytes) from.bytes

has_some : (test : Node → Bool) (o : Option Node) → has test o ≡ true → (from : Node) × (o ≡ Some from) × (test from ≡ true)
has_some test None e = absurd (true≢false (sym e))
has_some test (Some from) e = (from, refl, e)

next_piece : (bytes : List ℕ) (found : Found) → is_next_piece bytes found.row found.holding found.file_of ≡ true → IsNextPiece bytes found
next_piece bytes found e =
    let off = found.row.extent.off + found.holding.put in
    let first = both_true found.holding.prepared _ e in
    let second = both_true (nat_le (found.holding.put + length bytes) found.row.extent.len) (is_of_source off bytes found.file_of) first.1 in
    let source = has_some (λ from. bytes_eq bytes (part_of off (length bytes) from.bytes)) found.file_of.file.source second.1 in
    record {
      is_prepared = first.0;
      inside = leb-true (found.holding.put + length bytes) found.row.extent.len second.0;
      from = source.0;
      source_is = source.1;
      piece = (bytes_eq-Decides bytes (part_of off (length bytes) source.0.bytes)).0 source.2;
    }

-- a put inside one unit spares a unit that lies apart
spared_piece : (extent own : Extent) (put : ℕ) (source stands : Option Node) (bytes : List ℕ) (now : Option Node) → put + length bytes ≤ own.len → IsApart extent (own.off, own.len) → ((range : Range) → (range.off + range.len ≤ own.off + put) ⊎ ((own.off + put) + length bytes ≤ range.off) → Holds range source stands → Holds range source now) → IsSpared extent source stands [] ((own.off + put, length bytes) ∷ []) now
spared_piece extent own put source stands bytes now inside apart outside = record {
  keeps = λ len le holds. (outside (front_of extent len) (front len le apart) holds, All-nil (Holds (front_of extent len) source));
  apart = All-cons (IsApart extent) (own.off + put, length bytes) [] (front extent.len (omega arith) apart) (All-nil (IsApart extent));
}
  where
    front : (len : ℕ) → len ≤ extent.len → IsApart extent (own.off, own.len) → (extent.off + len ≤ own.off + put) ⊎ ((own.off + put) + length bytes ≤ extent.off)
    front len le (inl before) = inl (omega (arith, before, le))
    front len le (inr behind) = inr (omega (arith, behind, inside))

put_row : Fill → (state : State) → Sound state → (n : ℕ) (bytes : List ℕ) (found : Found) → 0 < length bytes → IsHeldUnder state n found → IsNextPiece bytes found → Sound (put_piece state n bytes found.row found.holding)
put_row fill state sound n bytes found some held piece =
    let file = found.file_of in
    let row = found.row in
    let h = found.holding in
    let f = row.extent.file in
    let off = row.extent.off + h.put in
    let of = source_of state sound.laid_out f file held.is_file in
    let lies = in_file fill state sound.laid_out n row file held.is_unit held.is_file in
    let undone = held_undone state sound n found held in
    let way : OnWay state file file.stands = first_of_all (OnWay state file) file.stands file.touched.had (sound.files f file held.is_file).ways in
    let unit_good = sound.units n row file held.is_unit held.is_file in
    let held_good : IsSoundHolding row.extent file.file.source file.stands h = subst (λ (o : Option Holding). IfSome o (IsSoundHolding row.extent file.file.source file.stands)) held.is_held unit_good.holding in
    let stood = holding (front_of row.extent h.put) file.file.source file.stands (held_good.stood piece.is_prepared) in
    let from = stood.from in
    let node = stood.node in
    let size : length from.bytes ≡ file.file.item.facts.size = subst (λ (o : Option Node). IsSomeAnd o (λ from. length from.bytes ≡ file.file.item.facts.size)) stood.source_is (source_size file.file.item file.file.source of) in
    let within : off + length bytes ≤ length node.bytes = omega (arith, piece.inside, lies.within, size, stood.has.size) in
    let now : option_map (written_at off bytes) file.stands ≡ Some (written_at off bytes node) = ap (option_map (written_at off bytes)) stood.stands_is in
    let unsettled : h.settled ≡ true → ⊥ = λ s. omega (arith, (held_good.settled s).1, piece.inside, some) in
    let not_settled : is_settled row.state ≡ true → ⊥ = λ s. unsettled (sym (ap is_settled (held_state row.state h held.is_held)) ∙ s) in
    let now_way : OnWay state file (option_map (written_at off bytes) file.stands) =
    subst (OnWay state file) (sym now) (way_bytes state.rules state.noted.plan file.file.item file.file.source file.file.start node (written_at off bytes node) lies.along refl (subst (OnWay state file) stood.stands_is way)) in
    let same_outside = written off bytes node within in
    let outside = λ (range : Range) (apart : (range.off + range.len ≤ off) ⊎ (off + length bytes ≤ range.off)) (holds : Holds range file.file.source file.stands).
    let it : Holds range file.file.source (Some (written_at off bytes node)) = holds_outside range off (length bytes) file.file.source node (written_at off bytes node) apart same_outside (subst (Holds range file.file.source) stood.stands_is holds) in
    subst (Holds range file.file.source) (sym now) it in
    let its_own : IsSoundUnit row file → IsSoundUnit row (put_bytes off bytes file) = λ good. record {
      held = λ s. absurd (not_settled s);
      apart = λ s. absurd (not_settled s);
      holding = subst (λ (o : Option Holding). IfSome o (IsSoundHolding row.extent file.file.source (option_map (written_at off bytes) file.stands))) (sym held.is_held) (record {
        inside = held_good.inside;
        unprepared = held_good.unprepared;
        stood = λ p. outside (front_of row.extent h.put) (inl (omega arith)) (held_good.stood p);
        settled = held_good.settled;
      });
    } in
    let others = λ (m : ℕ) (other : UnitRow) (is : unit_row state m ≡ Some other) (at : other.extent.file ≡ f) (apart : m ≢ n) (good : IsSoundUnit other file).
    let free = units_apart fill state sound.laid_out m n other row apart is held.is_unit at in
    spared_unit [] ((off, length bytes) ∷ []) (option_map (written_at off bytes) file.stands) file.state file.attempts other file
    (spared_piece other.extent row.extent h.put file.file.source file.stands bytes (option_map (written_at off bytes) file.stands) piece.inside free outside) good in
    let changed : Sound (record state { files = slice_set state.files f (put_bytes off bytes file) }) =
    touched_kept state sound f file held.is_file [] ((off, length bytes) ∷ []) (option_map (written_at off bytes) file.stands) file.state file.attempts undone undone now_way
    (All-nil (OnWay state file))
    (λ without. absurd (true≢false (sym lies.along ∙ without)))
    (λ m other is at good. elim (cases_lt m n) [
      | inl less ↦ others m other is at (λ same. omega (arith, same, less)) good
      | inr more ↦ elim (cases_lt n m) [
        | inl less ↦ others m other is at (λ same. omega (arith, same, less)) good
        | inr same ↦
            let own : other ≡ row = one (unit_row state m) other row is (ap (unit_row state) (omega (arith, more, same)) ∙ held.is_unit) in
            subst (λ (r : UnitRow). IsSoundUnit r (put_bytes off bytes file)) (sym own) (its_own (subst (λ (r : UnitRow). IsSoundUnit r file) own good))
      ]
    ]) in
    let more : Holds (front_of row.extent (h.put + length bytes)) file.file.source (option_map (written_at off bytes) file.stands) =
    subst (λ (o : Option Node). Holds (front_of row.extent (h.put + length bytes)) o (option_map (written_at off bytes) file.stands)) (sym stood.source_is)
    (subst (λ (o : Option Node). Holds (front_of row.extent (h.put + length bytes)) (Some from) o) (sym now)
    (holds_more row.extent.off h.put bytes from node (subst (λ (x : Node). bytes ≡ part_of off (length bytes) x.bytes) (one file.file.source piece.from from piece.source_is stood.source_is) piece.piece) within stood.has)) in
    let unit_more : IsSoundUnit row (put_bytes off bytes file) → IsSoundUnit (in_state (unit.Held (record h { put = h.put + length bytes })) row) (put_bytes off bytes file) = λ good. record {
      held = λ s. absurd (unsettled s);
      apart = λ s. absurd (unsettled s);
      holding = record {
        inside = piece.inside;
        unprepared = λ e. absurd (true≢false (sym piece.is_prepared ∙ e));
        stood = λ _. more;
        settled = λ s. absurd (unsettled s);
      };
    } in
    subst (λ (o : Option FileRow). Sound (record state { files = with_at state.files f (option_map (put_bytes off bytes) o); units = slice_set state.units n (in_state (unit.Held (record h { put = h.put + length bytes })) row) })) (sym held.is_file)
    (held_kept state n found (put_bytes off bytes file) (record h { put = h.put + length bytes }) held changed refl unit_more)

-- The event

put_found : Fill → (state : State) → Sound state → (n : ℕ) (bytes : List ℕ) (found : Found) → IsHeldUnder state n found → is_piece bytes found ≡ true → Sound (put_unit state n bytes found)
put_found fill state sound n [] found held may = prepare_row fill state sound n found held
put_found fill state sound n (byte ∷ bytes) found held may = put_row fill state sound n (byte ∷ bytes) found (omega arith) held (next_piece (byte ∷ bytes) found may)

pub put_kept : Fill → (state : State) (n ticket : ℕ) (bytes : List ℕ) → Sound state → IsSomeAnd (held_under state n ticket) (λ found. is_piece bytes found ≡ true) → Sound (after state (event.Put n ticket bytes))
put_kept fill state n ticket bytes sound may =
    let found = some_and (held_under state n ticket) (λ found. is_piece bytes found ≡ true) may in
    subst (λ (o : Option Found). Sound (where_some state (put_unit state n bytes) o)) (sym found.1)
    (put_found fill state sound n bytes found.0 (held_found state n ticket found.0 found.1) found.2)
