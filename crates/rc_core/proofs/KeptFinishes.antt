-- That finishing a file keeps a state sound.
use Rattle.std.proofs.Common.{◌≡◌, ℕ, zero, suc, Bool, true, false, ◌||◌, ◌==◌, not, List, [], ◌∷◌, map, refl, sym, ap, subst, ◌∙◌, arith, true≢false}
use Rattle.std.proofs.lemmas.List.Elements.{All-cons, All-nil}
use Rattle.std.proofs.lemmas.Option.{IfSome_then, slice_get-map}
use Rattle.std.specs.Prelude.{Option, Some, IsSomeAnd, option_map, slice_get, slice_set}
use Rattle.std.specs.List.{list_all}
use Rattle.rc_tree.specs.Tree.{Node}
use Rattle.rc_core.specs.Copies.{Holds}
use Rattle.rc_core.specs.Events.{Closing, after, closing, ended_file, finish, where_some}
use Rattle.rc_core.specs.Rows.{all_marked, all_synced, end_of, file_row, holding_of, is_marked, range_of, synced, with_at}
use Rattle.rc_core.specs.Sound.{AreAllMarked, IsApart, IsSoundUnit, Sound}
use Rattle.rc_core.specs.declared.event.Event.TheVariants as event
use Rattle.rc_core.specs.declared.rows.FileRow.{FileRow}
use Rattle.rc_core.specs.declared.rows.UnitRow.{UnitRow}
use Rattle.rc_core.specs.declared.state.State.{State}
use Rattle.rc_core.proofs.Found.{IsClosing, both_true, closing_found, open_undone, some_and}
use Rattle.rc_core.proofs.Kept.{OnWay, file_kept, finished_is_done, sync_kept}
use Rattle.rc_core.proofs.KeptBytes.{Keeps, keeps_end}
use Rattle.rc_core.proofs.LaidOut.{Fill, in_file, source_of}
use Rattle.rc_core.proofs.Lists.{first_of_all, same_some, some_none}
use Rattle.rc_core.proofs.Ways.{way_end}

-- Lists

map_set_all : {A B : Type 0} (f : A → B) (xs : List A) (n : ℕ) (x : A) → map f (slice_set xs n x) ≡ slice_set (map f xs) n (f x)
map_set_all f [] n x = refl
map_set_all f (y ∷ xs) zero x = refl
map_set_all f (y ∷ xs) (suc n) x = ap (λ rest. f y ∷ rest) (map_set_all f xs n x)

passes : {A : Type 0} (test : A → Bool) (xs : List A) (m : ℕ) (x : A) → list_all test xs ≡ true → slice_get xs m ≡ Some x → test x ≡ true
passes test [] m x all e = absurd (some_none x e)
passes test (y ∷ xs) zero x all e = ap test (sym (same_some y x e)) ∙ (both_true (test y) (list_all test xs) all).0
passes test (y ∷ xs) (suc m) x all e = passes test xs m x (both_true (test y) (list_all test xs) all).1 e

equal_test : (a b : ℕ) → a ≡ b → (a == b) ≡ true
equal_test a b e = grind arith

marked_of : (state : State) (n : ℕ) → all_marked state n ≡ true → AreAllMarked state n
marked_of state n all m row at of =
    by (row.extent.file == n) (equal_test row.extent.file n of) (passes (λ (row : UnitRow). not (row.extent.file == n) || is_marked row.state) state.units m row all at)
  where
    by : (b : Bool) → b ≡ true → not b || is_marked row.state ≡ true → is_marked row.state ≡ true
    by true e marked = marked
    by false e marked = absurd (true≢false (sym e))

-- A file that is finished

-- all bytes that stood are the end's
ended_unit : (state : State) (file : FileRow) (stood : Bool) (row : UnitRow) → state.noted.plan.with_bytes ≡ true → OnWay state file file.stands → IsSoundUnit row (synced file) → IsSoundUnit row (synced (ended_file (end_of state file) stood file))
ended_unit state file stood row along way good = record {
  held = λ settled.
      All-cons (Holds (range_of row.extent) file.file.source) (end_of state file) []
      (keeps (range_of row.extent) (first_of_all (Holds (range_of row.extent) file.file.source) file.stands [] (good.held settled)))
      (All-nil (Holds (range_of row.extent) file.file.source));
  apart = λ settled. All-nil (IsApart row.extent);
  holding = IfSome_then (holding_of row.state) good.holding (λ holding held. record {
    inside = held.inside;
    unprepared = held.unprepared;
    stood = λ prepared. keeps _ (held.stood prepared);
    settled = held.settled;
  });
}
  where
    keeps : Keeps file.file.source file.stands (end_of state file)
    keeps = keeps_end state.rules state.noted.plan file.file.item file.file.source file.file.start file.stands along way

finish_row : Fill → (state : State) → Sound state → (stood : Bool) (found : Closing) → IsClosing state found → Sound (finish state stood found)
finish_row fill state sound stood found is =
    let file = found.row in
    let n = found.number in
    let goal = end_of state file in
    let new = ended_file goal stood file in
    let on_way = OnWay state file in
    let good = sound.files n file is.is_file in
    let way = first_of_all on_way file.stands file.touched.had good.ways in
    let ended = way_end state.rules state.noted.plan file.file.item file.file.source file.file.start file.stands (source_of state sound.laid_out n file is.is_file) way in
    let at : file_row (all_synced state) n ≡ Some (synced file) = slice_get-map synced state.files n ∙ ap (option_map synced) is.is_file in
    let kept : Sound (record (all_synced state) { files = slice_set (map synced state.files) n (synced new) }) =
    file_kept (all_synced state) (sync_kept state sound) n (synced file) (synced new) at refl
    (record {
      ways = All-cons on_way goal [] ended (All-nil on_way);
      ended = λ _. All-cons (λ (had : Option Node). had ≡ goal) goal [] refl (All-nil (λ (had : Option Node). had ≡ goal));
      unput = λ _. refl;
      closed = λ _. marked_of state n is.marked;
      bytes_stay = λ _. refl;
    })
    (λ m row at_unit of unit.
    let along = (in_file fill state sound.laid_out m row file at_unit (ap (file_row state) of ∙ is.is_file)).along in
    ended_unit state file stood row along way unit)
    (λ finished. absurd (finished_is_done file.state finished (open_undone file.state is.is_open))) in
    subst (λ (o : Option FileRow). Sound (record state { files = map synced (with_at state.files n (option_map (ended_file goal stood) o)) })) (sym is.is_file)
    (subst (λ (rows : List FileRow). Sound (record state { files = rows })) (sym (map_set_all synced state.files n new)) kept)

-- The event

pub finish_kept : Fill → (state : State) (item : ℕ) (stood : Bool) → Sound state → IsSomeAnd (closing state item) (λ found. Unit {0}) → Sound (after state (event.Finish item stood))
finish_kept fill state item stood sound may =
    let found = some_and (closing state item) (λ found. Unit {0}) may in
    subst (λ (o : Option Closing). Sound (where_some state (finish state stood) o)) (sym found.1)
    (finish_row fill state sound stood found.0 (closing_found state item found.0 found.1))
