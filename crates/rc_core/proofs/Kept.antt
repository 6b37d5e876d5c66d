-- That a sound state stays sound where one unit changes, where one file changes, and where the target is synced.
use Rattle.std.proofs.Common.{◌≡◌, ◌≢◌, ℕ, ◌<◌, ◌≤◌, Bool, true, false, List, [], ◌∷◌, ◌++◌, map, refl, sym, ap, subst, ◌∙◌, ◌⊎◌, inl, inr, arith, true≢false}
use Rattle.std.proofs.lemmas.Option.{IfSome_then, slice_get-map}
use Rattle.std.proofs.lemmas.List.Elements.{All-append, All-cons, All-nil}
use Rattle.std.specs.Prelude.{Option, Some, None, option_map, slice_get, slice_set, All}
use Rattle.rc_tree.specs.Tree.{Node}
use Rattle.rc_core.specs.Copies.{Holds, IsOnWay}
use Rattle.rc_core.specs.Rows.{all_had, all_synced, end_of, file_row, holding_of, is_done, is_finished, is_marked, range_of, synced, touch, unit_row}
use Rattle.rc_core.specs.Sound.{IsApart, IsSoundFile, IsSoundUnit, Sound, front_of}
use Rattle.rc_core.specs.declared.rows.Extent.{Extent}
use Rattle.rc_core.specs.declared.rows.FileRow.{FileRow}
use Rattle.rc_core.specs.declared.rows.FileState.{FileState}
use Rattle.rc_core.specs.declared.rows.FileState.TheVariants as file
use Rattle.rc_core.specs.declared.rows.Holding.{Holding}
use Rattle.rc_core.specs.declared.rows.UnitRow.{UnitRow}
use Rattle.rc_core.specs.declared.state.State.{State}
use Rattle.rc_core.proofs.Lists.{first_of_all, map_set, mapped, one, rest_of_all, set_cases}

-- One file

pub file_kept : (state : State) → Sound state → (f : ℕ) (file new : FileRow) → file_row state f ≡ Some file → new.file ≡ file.file → IsSoundFile state f new → ((m : ℕ) (row : UnitRow) → unit_row state m ≡ Some row → row.extent.file ≡ f → IsSoundUnit row file → IsSoundUnit row new) → (is_finished file.state ≡ true → is_finished new.state ≡ true) → Sound (record state { files = slice_set state.files f new })
file_kept state sound f file new is same good units finished = record {
  laid_out = record {
    is_open = sound.laid_out.is_open;
    source_rising = sound.laid_out.source_rising;
    target_rising = sound.laid_out.target_rising;
    files = λ n. map_set (λ (row : FileRow). row.file) state.files f file new n is same ∙ sound.laid_out.files n;
    units = sound.laid_out.units;
  };
  files = λ n row e. elim (set_cases state.files f n new row e) [
    | inl here ↦ again n row (subst (λ k. IsSoundFile state k row) (sym here.0) (subst (IsSoundFile state f) here.1 good))
    | inr other ↦ again n row (sound.files n row other.1)
  ];
  units = λ m row file_of e of. elim (set_cases state.files f row.extent.file new file_of of) [
    | inl here ↦ subst (IsSoundUnit row) here.1 (units m row e here.0 (sound.units m row file e (ap (file_row state) here.0 ∙ is)))
    | inr other ↦ sound.units m row file_of e other.1
  ];
  marked = sound.marked;
  finished = λ n row e mark. elim (set_cases state.files f n new row e) [
    | inl here ↦ subst (λ (row : FileRow). is_finished row.state ≡ true) here.1 (finished (sound.finished n file (ap (file_row state) here.0 ∙ is) mark))
    | inr other ↦ sound.finished n row other.1 mark
  ];
  next = sound.next;
  tickets = sound.tickets;
  apart = sound.apart;
}
  where
    again : (n : ℕ) (row : FileRow) → IsSoundFile state n row → IsSoundFile (record state { files = slice_set state.files f new }) n row
    again n row good = record { ways = good.ways; ended = good.ended; unput = good.unput; closed = good.closed; bytes_stay = good.bytes_stay }

-- One unit

-- a ticket that may be held: an earlier one, which no other unit holds
pub record IsOwnTicket (state : State) (n next ticket : ℕ) : Type 0 where
  pub some : 0 < ticket
  pub earlier : ticket < next
  pub own : (m : ℕ) (other : UnitRow) (held : Holding) → m ≢ n → unit_row state m ≡ Some other → holding_of other.state ≡ Some held → held.ticket ≢ ticket

-- the ticket that a unit holds
pub same_ticket : (state : State) → Sound state → (n : ℕ) (row : UnitRow) (holding : Holding) → unit_row state n ≡ Some row → holding_of row.state ≡ Some holding → IsOwnTicket state n state.next holding.ticket
same_ticket state sound n row holding is held = record {
  some = (sound.tickets n row holding is held).0;
  earlier = (sound.tickets n row holding is held).1;
  own = λ m other also apart at has same. apart (sound.apart m n other row also holding at is has held same);
}

pub unit_kept : (state : State) → Sound state → (n : ℕ) (row new : UnitRow) (next : ℕ) → unit_row state n ≡ Some row → new.extent ≡ row.extent → (is_marked row.state ≡ true → is_marked new.state ≡ true) → ((file : FileRow) → file_row state row.extent.file ≡ Some file → IsSoundUnit row file → IsSoundUnit new file) → state.next ≤ next → ((holding : Holding) → holding_of new.state ≡ Some holding → IsOwnTicket state n next holding.ticket) → Sound (record state { units = slice_set state.units n new; next = next })
unit_kept state sound n row new next is same marks unit later tickets = record {
  laid_out = record {
    is_open = sound.laid_out.is_open;
    source_rising = sound.laid_out.source_rising;
    target_rising = sound.laid_out.target_rising;
    files = sound.laid_out.files;
    units = λ m. map_set (λ (row : UnitRow). row.extent) state.units n row new m is same ∙ sound.laid_out.units m;
  };
  files = λ f file e. let good = sound.files f file e in record {
    ways = good.ways;
    ended = good.ended;
    unput = good.unput;
    closed = λ done m other at of. elim (set_cases state.units n m new other at) [
      | inl here ↦ subst (λ (row : UnitRow). is_marked row.state ≡ true) here.1 (marks (good.closed done n row is (ap (λ (x : Extent). x.file) (sym same) ∙ ap (λ (row : UnitRow). row.extent.file) here.1 ∙ of)))
      | inr other_unit ↦ good.closed done m other other_unit.1 of
    ];
    bytes_stay = good.bytes_stay;
  };
  units = λ m other file at of. elim (set_cases state.units n m new other at) [
    | inl here ↦
        let its : file_row state row.extent.file ≡ Some file = ap (file_row state) (ap (λ (x : Extent). x.file) (sym same) ∙ ap (λ (row : UnitRow). row.extent.file) here.1) ∙ of in
        subst (λ (row : UnitRow). IsSoundUnit row file) here.1 (unit file its (sound.units n row file is its))
    | inr other_unit ↦ sound.units m other file other_unit.1 of
  ];
  marked = λ m other at mark. elim (set_cases state.units n m new other at) [
    | inl here ↦ subst (λ (row : UnitRow). is_marked row.state ≡ true) here.1 (marks (sound.marked n row is (subst (λ k. slice_get state.noted.units k ≡ Some true) here.0 mark)))
    | inr other_unit ↦ sound.marked m other other_unit.1 mark
  ];
  finished = sound.finished;
  next = omega (arith, later, sound.next);
  tickets = λ m other holding at held. elim (set_cases state.units n m new other at) [
    | inl here ↦ let ticket = tickets holding (ap (λ (row : UnitRow). holding_of row.state) here.1 ∙ held) in (ticket.some, ticket.earlier)
    | inr other_unit ↦ let before = sound.tickets m other holding other_unit.1 held in (before.0, omega (arith, before.1, later))
  ];
  apart = λ a b first second one two at bt held also same_one. both a b first second one two held also same_one (set_cases state.units n a new first at) (set_cases state.units n b new second bt);
}
  where
    both : (a b : ℕ) (first second : UnitRow) (one two : Holding) → holding_of first.state ≡ Some one → holding_of second.state ≡ Some two → one.ticket ≡ two.ticket → ((a ≡ n) × (new ≡ first)) ⊎ ((a ≢ n) × (unit_row state a ≡ Some first)) → ((b ≡ n) × (new ≡ second)) ⊎ ((b ≢ n) × (unit_row state b ≡ Some second)) → a ≡ b
    both a b first second one two held also same (inl x) (inl y) = x.0 ∙ sym y.0
    both a b first second one two held also same (inl x) (inr y) =
        absurd ((tickets one (ap (λ (row : UnitRow). holding_of row.state) x.1 ∙ held)).own b second two y.0 y.1 also (sym same))
    both a b first second one two held also same (inr x) (inl y) =
        absurd ((tickets two (ap (λ (row : UnitRow). holding_of row.state) y.1 ∙ also)).own a first one x.0 x.1 held same)
    both a b first second one two held also same (inr x) (inr y) = sound.apart a b first second one two x.1 y.1 held also same

-- A sync

pub map_map : {A B : Type 0} (f : A → B) (g : A → A) (o : Option A) → ((x : A) → f (g x) ≡ f x) → option_map f (option_map g o) ≡ option_map f o
map_map f g None same = refl
map_map f g (Some x) same = ap Some (same x)

pub sync_kept : (state : State) → Sound state → Sound (all_synced state)
sync_kept state sound = record {
  laid_out = record {
    is_open = sound.laid_out.is_open;
    source_rising = sound.laid_out.source_rising;
    target_rising = sound.laid_out.target_rising;
    files = λ n. ap (option_map (λ (row : FileRow). row.file)) (slice_get-map synced state.files n) ∙ map_map (λ (row : FileRow). row.file) synced (slice_get state.files n) (λ x. refl) ∙ sound.laid_out.files n;
    units = sound.laid_out.units;
  };
  files = λ n row e.
      let old = synced_row n row e in
      let good = sound.files n old.0 old.1 in
      subst (IsSoundFile (all_synced state) n) old.2 (record {
        ways = alone (IsOnWay state.rules state.noted.plan old.0.file.item old.0.file.source old.0.file.start) old.0 good.ways;
        ended = λ done. alone (λ had. had ≡ end_of state old.0) old.0 (good.ended done);
        unput = λ done. refl;
        closed = good.closed;
        bytes_stay = λ without. refl;
      });
  units = λ m row file e of.
      let old = synced_row row.extent.file file of in
      let good = sound.units m row old.0 e old.1 in
      subst (IsSoundUnit row) old.2 (record {
        held = λ settled. alone (Holds (range_of row.extent) old.0.file.source) old.0 (good.held settled);
        apart = λ settled. All-nil (IsApart row.extent);
        holding = good.holding;
      });
  marked = sound.marked;
  finished = λ n row e mark.
      let old = synced_row n row e in
      subst (λ (row : FileRow). is_finished row.state ≡ true) old.2 (sound.finished n old.0 old.1 mark);
  next = sound.next;
  tickets = sound.tickets;
  apart = sound.apart;
}
  where
    synced_row : (n : ℕ) (row : FileRow) → slice_get (map synced state.files) n ≡ Some row → (old : FileRow) × (file_row state n ≡ Some old) × (synced old ≡ row)
    synced_row n row e = mapped synced (slice_get state.files n) row (sym (slice_get-map synced state.files n) ∙ e)

    alone : (P : Option Node → Type 0) (row : FileRow) → All P (all_had row) → All P (row.stands ∷ [])
    alone P row all = All-cons P row.stands [] (first_of_all P row.stands row.touched.had all) (All-nil P)

-- A file that is touched

-- what is touched keeps the bytes of a unit, as far as they stand, and lies apart from it
pub record IsSpared (extent : Extent) (source stands : Option Node) (had : List (Option Node)) (puts : List (ℕ × ℕ)) (now : Option Node) : Type 0 where
  pub keeps : (len : ℕ) → len ≤ extent.len → Holds (front_of extent len) source stands → Holds (front_of extent len) source now × All (Holds (front_of extent len) source) had
  pub apart : All (IsApart extent) puts

-- a file that was touched, in a state and with attempts
abbrev pub touched_as : List (Option Node) → List (ℕ × ℕ) → Option Node → FileState → ℕ → FileRow → FileRow
touched_as had puts now state attempts file = record (touch had puts now file) { state = state; attempts = attempts }

pub spared_unit : (had : List (Option Node)) (puts : List (ℕ × ℕ)) (now : Option Node) (state : FileState) (attempts : ℕ) (row : UnitRow) (file : FileRow) → IsSpared row.extent file.file.source file.stands had puts now → IsSoundUnit row file → IsSoundUnit row (touched_as had puts now state attempts file)
spared_unit had puts now state attempts row file spared good = record {
  held = λ settled.
      let all = good.held settled in
      let first = first_of_all (Holds (range_of row.extent) file.file.source) file.stands file.touched.had all in
      let kept = spared.keeps row.extent.len (omega arith) first in
      All-cons (Holds (range_of row.extent) file.file.source) now (file.touched.had ++ file.stands ∷ had) kept.0
      (All-append (Holds (range_of row.extent) file.file.source) file.touched.had (file.stands ∷ had)
      (rest_of_all (Holds (range_of row.extent) file.file.source) file.stands file.touched.had all)
      (All-cons (Holds (range_of row.extent) file.file.source) file.stands had first kept.1));
  apart = λ settled. All-append (IsApart row.extent) file.touched.puts puts (good.apart settled) spared.apart;
  holding = IfSome_then (holding_of row.state) good.holding (λ holding held. record {
    inside = held.inside;
    unprepared = held.unprepared;
    stood = λ prepared. (spared.keeps holding.put held.inside (held.stood prepared)).0;
    settled = held.settled;
  });
}

pub finished_is_done : (s : FileState) → is_finished s ≡ true → is_done s ≡ false → ⊥
finished_is_done file.Open t f = true≢false (sym t)
finished_is_done file.Doubtful t f = true≢false (sym t)
finished_is_done file.Finished t f = true≢false f
finished_is_done file.GivenUp t f = true≢false (sym t)

-- on the way of a file's copy
abbrev pub OnWay : State → FileRow → Option Node → Type 0
OnWay state file = IsOnWay state.rules state.noted.plan file.file.item file.file.source file.file.start

-- a file that is not done, and not after it was touched
pub touched_kept : (state : State) → Sound state → (f : ℕ) (file : FileRow) → file_row state f ≡ Some file → (had : List (Option Node)) (puts : List (ℕ × ℕ)) (now : Option Node) (then : FileState) (attempts : ℕ) → is_done file.state ≡ false → is_done then ≡ false → OnWay state file now → All (OnWay state file) had → (state.noted.plan.with_bytes ≡ false → puts ≡ []) → ((m : ℕ) (row : UnitRow) → unit_row state m ≡ Some row → row.extent.file ≡ f → IsSoundUnit row file → IsSoundUnit row (touched_as had puts now then attempts file)) → Sound (record state { files = slice_set state.files f (touched_as had puts now then attempts file) })
touched_kept state sound f file is had puts now then attempts undone still way ways stay units =
    file_kept state sound f file (touched_as had puts now then attempts file) is refl
    (record {
      ways = All-cons (OnWay state file) now (file.touched.had ++ file.stands ∷ had) way
          (All-append (OnWay state file) file.touched.had (file.stands ∷ had) (rest_of_all (OnWay state file) file.stands file.touched.had good.ways)
          (All-cons (OnWay state file) file.stands had (first_of_all (OnWay state file) file.stands file.touched.had good.ways) ways));
      ended = λ done. absurd (not_both (is_done then) done still);
      unput = λ done. absurd (not_both (is_done then) done still);
      closed = λ done. absurd (not_both (is_done then) done still);
      bytes_stay = λ without. nothing file.touched.puts puts (good.bytes_stay without) (stay without);
    })
    units (λ finished. absurd (finished_is_done file.state finished undone))
  where
    good : IsSoundFile state f file
    good = sound.files f file is

    not_both : (b : Bool) → b ≡ true → b ≡ false → ⊥
    not_both b t f = cc

    nothing : {A : Type 0} (xs ys : List A) → xs ≡ [] → ys ≡ [] → xs ++ ys ≡ []
    nothing xs ys e f = ap (λ zs. zs ++ ys) e ∙ f
