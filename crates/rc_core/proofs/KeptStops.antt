-- That a stop, and the run that begins again, keep a state sound.
use Rattle.std.proofs.Common.{◌≡◌, ℕ, Bool, true, List, [], map, refl, sym, ap, subst, ◌∙◌, arith, true≢false}
use Rattle.std.proofs.lemmas.List.Elements.{All-cons, All-nil}
use Rattle.std.proofs.lemmas.Option.{slice_get-map}
use Rattle.std.specs.Prelude.{Option, Some, None, IfSome, option_map, slice_get}
use Rattle.rc_tree.specs.Path.{key_of}
use Rattle.rc_tree.specs.Tree as rc
use Rattle.rc_core.specs.Copies.{Holds}
use Rattle.rc_core.specs.Events.{rerun, rerun_file, rerun_unit, stop, stopped_file, stopped_files, stopped_unit, stopped_units}
use Rattle.rc_core.specs.Images.{MayStop}
use Rattle.rc_core.specs.Nodes.{node_at}
use Rattle.rc_core.specs.Rows.{all_had, end_of, file_by, file_row, holding_of, is_done, is_finished, is_marked, is_settled, may_be_marked, range_of, unit_by, unit_row}
use Rattle.rc_core.specs.Sound.{IsApart, IsSoundFile, IsSoundHolding, IsSoundUnit, Sound}
use Rattle.rc_core.specs.declared.node.Node.{Node}
use Rattle.rc_core.specs.declared.rows.FileRow.{FileRow}
use Rattle.rc_core.specs.declared.rows.FileState.{FileState}
use Rattle.rc_core.specs.declared.rows.FileState.TheVariants as file
use Rattle.rc_core.specs.declared.rows.Holding.{Holding}
use Rattle.rc_core.specs.declared.rows.UnitRow.{UnitRow}
use Rattle.rc_core.specs.declared.rows.UnitState.{UnitState}
use Rattle.rc_core.specs.declared.rows.UnitState.TheVariants as unit
use Rattle.rc_core.specs.declared.state.State.{State}
use Rattle.rc_core.proofs.Beginnings.{done_is_marked, first_at, marked_is_finished, marked_is_marked, none_held, numbered_keeps, settled_is_marked}
use Rattle.rc_core.proofs.ImagesFollow.{allowed_mark, kept_mark, left_end, left_holds, settled_from, way_at}
use Rattle.rc_core.proofs.Kept.{OnWay, map_map}
use Rattle.rc_core.proofs.Lists.{mapped, some_none}

-- A stop

module _ (state : State) (sound : Sound state) (image : List Node) (units finished : List Bool) (may : MayStop state image units finished) where
  file_before : (n : ℕ) (row : FileRow) → slice_get (stopped_files image finished state.files) n ≡ Some row → (old : FileRow) × (file_row state n ≡ Some old) × (stopped_file image old (slice_get finished n) ≡ row)
  file_before n row e = first_at (λ row n. stopped_file image row (slice_get finished n)) state.files n row e

  unit_before : (m : ℕ) (row : UnitRow) → slice_get (stopped_units units state.units) m ≡ Some row → (old : UnitRow) × (unit_row state m ≡ Some old) × (stopped_unit old (slice_get units m) ≡ row)
  unit_before m row e = first_at (λ row m. stopped_unit row (slice_get units m)) state.units m row e

  -- what is marked was done, and what was marked is
  done_before : (n : ℕ) (old : FileRow) → file_row state n ≡ Some old → is_done (stopped_file image old (slice_get finished n)).state ≡ true → is_done old.state ≡ true
  done_before n old is done = allowed_mark (is_finished old.state) (is_done old.state) (slice_get finished n) (done_is_marked old.file (slice_get finished n) done) (may.marks.of_files n old is)

  settled_before : (m : ℕ) (old : UnitRow) → unit_row state m ≡ Some old → is_settled (stopped_unit old (slice_get units m)).state ≡ true → is_settled old.state ≡ true
  settled_before m old is settled = settled_from old.state (allowed_mark (is_marked old.state) (may_be_marked old.state) (slice_get units m) (settled_is_marked old.extent (slice_get units m) settled) (may.marks.of_units m old is))

  still_marked : (m : ℕ) (old : UnitRow) → unit_row state m ≡ Some old → is_marked old.state ≡ true → is_marked (stopped_unit old (slice_get units m)).state ≡ true
  still_marked m old is marked = marked_is_marked old.extent (slice_get units m) (kept_mark (is_marked old.state) (may_be_marked old.state) (slice_get units m) marked (may.marks.of_units m old is))

  still_finished : (n : ℕ) (old : FileRow) → file_row state n ≡ Some old → is_finished old.state ≡ true → is_finished (stopped_file image old (slice_get finished n)).state ≡ true
  still_finished n old is done = marked_is_finished old.file (slice_get finished n) (kept_mark (is_finished old.state) (is_done old.state) (slice_get finished n) done (may.marks.of_files n old is))

  no_holding : (m : ℕ) (row : UnitRow) (h : Holding) → slice_get (stopped_units units state.units) m ≡ Some row → holding_of row.state ≡ Some h → ⊥
  no_holding m row h e held =
      let old = unit_before m row e in
      some_none h (sym (none_held old.0.extent (slice_get units m)) ∙ ap (λ (row : UnitRow). holding_of row.state) old.2 ∙ held)

  stopped_file_sound : (n : ℕ) (old : FileRow) → file_row state n ≡ Some old → IsSoundFile (stop state image units finished) n (stopped_file image old (slice_get finished n))
  stopped_file_sound n old is =
      let good = sound.files n old is in
      let left = node_at image (key_of old.file.item.path) in
      let end = λ (had : Option rc.Node). had ≡ end_of state old in
      record {
        ways = All-cons (OnWay state old) left [] (way_at state sound image units finished may n old is) (All-nil (OnWay state old));
        ended = λ done.
            let before = done_before n old is done in
            All-cons end left [] (left_end (end_of state old) (all_had old) old.touched.puts left (good.ended before) (good.unput before) (may.files n old is)) (All-nil end);
        unput = λ done. refl;
        closed = λ done m row at of.
            let unit_of = unit_before m row at in
            let its = ap (λ (row : UnitRow). row.extent.file) unit_of.2 ∙ of in
            subst (λ (row : UnitRow). is_marked row.state ≡ true) unit_of.2 (still_marked m unit_of.0 unit_of.1 (good.closed (done_before n old is done) m unit_of.0 unit_of.1 its));
        bytes_stay = λ without. refl;
      }

  stopped_unit_sound : (m : ℕ) (row : UnitRow) (old : FileRow) → unit_row state m ≡ Some row → file_row state row.extent.file ≡ Some old → IsSoundUnit (stopped_unit row (slice_get units m)) (stopped_file image old (slice_get finished row.extent.file))
  stopped_unit_sound m row old is of =
      let good = sound.units m row old is of in
      let left = node_at image (key_of old.file.item.path) in
      let holds = Holds (range_of row.extent) old.file.source in
      record {
        held = λ settled.
            let before = settled_before m row is settled in
            All-cons holds left [] (left_holds row.extent old.file.source (all_had old) old.touched.puts left (good.held before) (good.apart before) (may.files row.extent.file old of)) (All-nil holds);
        apart = λ settled. All-nil (IsApart row.extent);
        holding = subst (λ o. IfSome o (IsSoundHolding row.extent old.file.source left)) (sym (none_held row.extent (slice_get units m))) tt;
      }

  pub stop_kept : Sound (stop state image units finished)
  stop_kept = record {
    laid_out = record {
      is_open = sound.laid_out.is_open;
      source_rising = sound.laid_out.source_rising;
      target_rising = sound.laid_out.target_rising;
      files = λ n. numbered_keeps (λ (row : FileRow). row.file) (λ row n. stopped_file image row (slice_get finished n)) 0 state.files n (λ row i. refl) ∙ sound.laid_out.files n;
      units = λ m. numbered_keeps (λ (row : UnitRow). row.extent) (λ row m. stopped_unit row (slice_get units m)) 0 state.units m (λ row i. refl) ∙ sound.laid_out.units m;
    };
    files = λ n row e.
        let old = file_before n row e in
        subst (IsSoundFile (stop state image units finished) n) old.2 (stopped_file_sound n old.0 old.1);
    units = λ m row file_of e of.
        let unit_of = unit_before m row e in
        let old = file_before row.extent.file file_of of in
        let same : unit_of.0.extent.file ≡ row.extent.file = ap (λ (row : UnitRow). row.extent.file) unit_of.2 in
        let its : file_row state unit_of.0.extent.file ≡ Some old.0 = ap (file_row state) same ∙ old.1 in
        subst (λ (row : UnitRow). IsSoundUnit row file_of) unit_of.2
        (subst (IsSoundUnit (stopped_unit unit_of.0 (slice_get units m))) (ap (λ f. stopped_file image old.0 (slice_get finished f)) same ∙ old.2)
        (stopped_unit_sound m unit_of.0 old.0 unit_of.1 its));
    marked = λ m row e mark.
        let old = unit_before m row e in
        subst (λ (row : UnitRow). is_marked row.state ≡ true) old.2 (still_marked m old.0 old.1 (sound.marked m old.0 old.1 mark));
    finished = λ n row e mark.
        let old = file_before n row e in
        subst (λ (row : FileRow). is_finished row.state ≡ true) old.2 (still_finished n old.0 old.1 (sound.finished n old.0 old.1 mark));
    next = sound.next;
    tickets = λ m row h e held. absurd (no_holding m row h e held);
    apart = λ m k row other h g e f held also same. absurd (no_holding m row h e held);
  }

-- A run that begins again

file_marked : (s : FileState) → is_done (file_by (is_finished s)) ≡ true → is_done s ≡ true
file_marked file.Open e = absurd (true≢false (sym e))
file_marked file.Doubtful e = absurd (true≢false (sym e))
file_marked file.Finished e = refl
file_marked file.GivenUp e = absurd (true≢false (sym e))

unit_marked : (s : UnitState) → is_settled (unit_by (is_marked s)) ≡ true → is_settled s ≡ true
unit_marked unit.Free e = absurd (true≢false (sym e))
unit_marked (unit.Held holding) e = absurd (true≢false (sym e))
unit_marked unit.Doubtful e = absurd (true≢false (sym e))
unit_marked unit.Marked e = refl

marked_again : (s : UnitState) → is_marked s ≡ true → is_marked (unit_by (is_marked s)) ≡ true
marked_again s e = ap (λ b. is_marked (unit_by b)) e

finished_again : (s : FileState) → is_finished s ≡ true → is_finished (file_by (is_finished s)) ≡ true
finished_again s e = ap (λ b. is_finished (file_by b)) e

held_again : (s : UnitState) → holding_of (unit_by (is_marked s)) ≡ None
held_again unit.Free = refl
held_again (unit.Held holding) = refl
held_again unit.Doubtful = refl
held_again unit.Marked = refl

pub rerun_kept : (state : State) → Sound state → Sound (rerun state)
rerun_kept state sound = record {
  laid_out = record {
    is_open = sound.laid_out.is_open;
    source_rising = sound.laid_out.source_rising;
    target_rising = sound.laid_out.target_rising;
    files = λ n. ap (option_map (λ (row : FileRow). row.file)) (slice_get-map rerun_file state.files n) ∙ map_map (λ (row : FileRow). row.file) rerun_file (slice_get state.files n) (λ row. refl) ∙ sound.laid_out.files n;
    units = λ m. ap (option_map (λ (row : UnitRow). row.extent)) (slice_get-map rerun_unit state.units m) ∙ map_map (λ (row : UnitRow). row.extent) rerun_unit (slice_get state.units m) (λ row. refl) ∙ sound.laid_out.units m;
  };
  files = λ n row e.
      let old = file_before_rerun n row e in
      let good = sound.files n old.0 old.1 in
      subst (IsSoundFile (rerun state) n) old.2 (record {
        ways = good.ways;
        ended = λ done. good.ended (file_marked old.0.state done);
        unput = λ done. good.unput (file_marked old.0.state done);
        closed = λ done m row at of.
            let unit_of = unit_before_rerun m row at in
            subst (λ (row : UnitRow). is_marked row.state ≡ true) unit_of.2
            (marked_again unit_of.0.state (good.closed (file_marked old.0.state done) m unit_of.0 unit_of.1 (ap (λ (row : UnitRow). row.extent.file) unit_of.2 ∙ of)));
        bytes_stay = good.bytes_stay;
      });
  units = λ m row file_of e of.
      let unit_of = unit_before_rerun m row e in
      let old = file_before_rerun row.extent.file file_of of in
      let its : file_row state unit_of.0.extent.file ≡ Some old.0 = ap (λ (row : UnitRow). file_row state row.extent.file) unit_of.2 ∙ old.1 in
      let good = sound.units m unit_of.0 old.0 unit_of.1 its in
      subst (λ (row : UnitRow). IsSoundUnit row file_of) unit_of.2
      (subst (IsSoundUnit (rerun_unit unit_of.0)) old.2 (record {
        held = λ settled. good.held (unit_marked unit_of.0.state settled);
        apart = λ settled. good.apart (unit_marked unit_of.0.state settled);
        holding = subst (λ o. IfSome o (IsSoundHolding unit_of.0.extent old.0.file.source old.0.stands)) (sym (held_again unit_of.0.state)) tt;
      }));
  marked = λ m row e mark.
      let old = unit_before_rerun m row e in
      subst (λ (row : UnitRow). is_marked row.state ≡ true) old.2 (marked_again old.0.state (sound.marked m old.0 old.1 mark));
  finished = λ n row e mark.
      let old = file_before_rerun n row e in
      subst (λ (row : FileRow). is_finished row.state ≡ true) old.2 (finished_again old.0.state (sound.finished n old.0 old.1 mark));
  next = omega arith;
  tickets = λ m row h e held. absurd (no_holding_again m row h e held);
  apart = λ m k row other h g e f held also same. absurd (no_holding_again m row h e held);
}
  where
    file_before_rerun : (n : ℕ) (row : FileRow) → slice_get (map rerun_file state.files) n ≡ Some row → (old : FileRow) × (file_row state n ≡ Some old) × (rerun_file old ≡ row)
    file_before_rerun n row e = mapped rerun_file (slice_get state.files n) row (sym (slice_get-map rerun_file state.files n) ∙ e)

    unit_before_rerun : (m : ℕ) (row : UnitRow) → slice_get (map rerun_unit state.units) m ≡ Some row → (old : UnitRow) × (unit_row state m ≡ Some old) × (rerun_unit old ≡ row)
    unit_before_rerun m row e = mapped rerun_unit (slice_get state.units m) row (sym (slice_get-map rerun_unit state.units m) ∙ e)

    no_holding_again : (m : ℕ) (row : UnitRow) (h : Holding) → slice_get (map rerun_unit state.units) m ≡ Some row → holding_of row.state ≡ Some h → ⊥
    no_holding_again m row h e held =
        let old = unit_before_rerun m row e in
        some_none h (sym (held_again old.0.state) ∙ ap (λ (row : UnitRow). holding_of row.state) old.2 ∙ held)
