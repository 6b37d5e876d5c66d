-- That failed attempts keep a state sound.
use Rattle.std.proofs.Common.{◌≡◌, ℕ, ◌+◌, ◌≤◌, Bool, true, false, cond, [], ◌∷◌, length, refl, sym, ap, subst, ◌∙◌, ◌⊎◌, inl, inr, arith, true≢false}
use Rattle.std.proofs.lemmas.List.Elements.{All-cons, All-nil}
use Rattle.std.specs.Prelude.{Option, Some, None, IsSomeAnd, option_map, nat_lt, slice_set}
use Rattle.rc_tree.specs.Tree.{Node}
use Rattle.rc_class.specs.Units.{Range}
use Rattle.rc_volume.specs.Site.{IsTorn, resized}
use Rattle.rc_core.specs.Copies.{Holds}
use Rattle.rc_core.specs.Follows.{HasFileOf}
use Rattle.rc_core.specs.Nodes.{node_of}
use Rattle.rc_core.specs.Events.{Closing, Found, IsAtKey, IsLeftOfFinish, IsLeftOfUnit, IsLeftUnprepared, MayFail, after, closing, failed_file, fail_finish, fail_unit, given_up_at, held_under, where_some, with_attempt}
use Rattle.rc_core.specs.Rows.{begun, end_of, end_size, file_row, is_done, prepared, with_at, with_file}
use Rattle.rc_core.specs.Sound.{IsApart, IsSoundUnit, Sound, front_of}
use Rattle.rc_core.specs.declared.event.Event.TheVariants as event
use Rattle.rc_core.specs.declared.event.What.{What}
use Rattle.rc_core.specs.declared.event.What.TheVariants as what
use Rattle.rc_core.specs.declared.node.Node as core
use Rattle.rc_core.specs.declared.rows.Extent.{Extent}
use Rattle.rc_core.specs.declared.rows.FileRow.{FileRow}
use Rattle.rc_core.specs.declared.rows.FileState.{FileState}
use Rattle.rc_core.specs.declared.rows.FileState.TheVariants as file
use Rattle.rc_core.specs.declared.rows.UnitRow.{UnitRow}
use Rattle.rc_core.specs.declared.rows.UnitState.TheVariants as unit
use Rattle.rc_core.specs.declared.state.State.{State}
use Rattle.rc_core.proofs.Found.{IsClosing, IsHeldUnder, closing_found, held_found, held_not_marked, held_undone, open_undone, some_and}
use Rattle.rc_core.proofs.Kept.{IsSpared, OnWay, spared_unit, touched_as, touched_kept, unit_kept}
use Rattle.rc_core.proofs.KeptBytes.{Keeps, keeps_begun, keeps_end, keeps_half, keeps_resized, keeps_same, spared, way_begun}
use Rattle.rc_core.proofs.LaidOut.{Fill, in_file, source_of, units_apart}
use Rattle.rc_core.proofs.Lists.{first_of_all, set_cases, some_none}
use Rattle.rc_core.proofs.SameBytes.{holds_outside, torn}
use Rattle.rc_core.proofs.Ways.{way_bytes, way_end, way_half, way_resized}

-- a file that is given up or as it was is not done, if it was not
still_undone : (retries attempts : ℕ) (now : FileState) → is_done now ≡ false → is_done (given_up_at retries attempts now) ≡ false
still_undone retries attempts now undone = by (nat_lt retries attempts)
  where
    by : (b : Bool) → is_done (cond b file.GivenUp now) ≡ false
    by true = refl
    by false = undone

-- Units

free_unit : (attempts : ℕ) (row : UnitRow) (file : FileRow) → IsSoundUnit (record row { state = unit.Free; attempts = attempts }) file
free_unit attempts row file = record {
  held = λ settled. absurd (true≢false (sym settled));
  apart = λ settled. absurd (true≢false (sym settled));
  holding = tt;
}

freed_kept : (state : State) → Sound state → (n attempts : ℕ) (found : Found) → IsHeldUnder state n found → Sound (record state { units = slice_set state.units n (record found.row { state = unit.Free; attempts = attempts }) })
freed_kept state sound n attempts found held =
    unit_kept state sound n found.row (record found.row { state = unit.Free; attempts = attempts }) state.next held.is_unit refl
    (λ marked. absurd (held_not_marked found.row.state found.holding held.is_held marked))
    (λ file of good. free_unit attempts found.row file)
    (omega arith)
    (λ h is. absurd (some_none h is))

-- what is left of a file that was not prepared

way_left : (state : State) (file : FileRow) (size : ℕ) (left : Option Node) → (state.noted.plan.with_bytes ≡ false → length (begun file file.stands).bytes ≡ size) → OnWay state file file.stands → OnWay state file (Some (begun file file.stands)) → IsLeftUnprepared size file left → OnWay state file left
way_left state file size left own way begun_way (inl same) = subst (OnWay state file) (sym same) way
way_left state file size None own way begun_way (inr half) = absurd half
way_left state file size (Some node) own way begun_way (inr half) =
    way_half state.rules state.noted.plan file.file.item file.file.source file.file.start size (begun file file.stands) node own half begun_way

keeps_left : (file : FileRow) (size : ℕ) (source : Option Node) (left : Option Node) → HasFileOf file.file.item source → size ≡ file.file.item.facts.size → IsLeftUnprepared size file left → Keeps source file.stands left
keeps_left file size source left has at (inl same) = keeps_same source file.stands left same
keeps_left file size source None has at (inr half) = absurd half
keeps_left file size source (Some node) has at (inr half) = keeps_half file size source file.stands node has at half

-- what is left of one that was

way_torn : (state : State) (file : FileRow) (extent : Extent) (stands left : Option Node) → file.stands ≡ stands → state.noted.plan.with_bytes ≡ true → OnWay state file stands → (left ≡ stands) ⊎ IsSomeAnd stands (λ node. IsSomeAnd left (IsTorn extent.off extent.len node)) → OnWay state file left
way_torn state file extent stands left is along way (inl same) = subst (OnWay state file) (sym same) way
way_torn state file extent None left is along way (inr node) = absurd node
way_torn state file extent (Some node) None is along way (inr node_torn) = absurd node_torn
way_torn state file extent (Some node) (Some new) is along way (inr node_torn) =
    way_bytes state.rules state.noted.plan file.file.item file.file.source file.file.start node new along node_torn.rest way

-- a range that lies apart is kept
holds_torn : (range : Range) (extent : Extent) (source stands left : Option Node) → (range.off + range.len ≤ extent.off) ⊎ (extent.off + extent.len ≤ range.off) → (left ≡ stands) ⊎ IsSomeAnd stands (λ node. IsSomeAnd left (IsTorn extent.off extent.len node)) → Holds range source stands → Holds range source left
holds_torn range extent source stands left apart (inl same) holds = subst (Holds range source) (sym same) holds
holds_torn range extent source None left apart (inr node) holds = absurd node
holds_torn range extent source (Some node) None apart (inr node_torn) holds = absurd node_torn
holds_torn range extent source (Some node) (Some new) apart (inr node_torn) holds =
    holds_outside range extent.off extent.len source node new apart (torn extent.off extent.len node new node_torn) holds

spared_torn : (other extent : Extent) (source stands left : Option Node) → IsApart other (extent.off, extent.len) → (left ≡ stands) ⊎ IsSomeAnd stands (λ node. IsSomeAnd left (IsTorn extent.off extent.len node)) → IsSpared other source stands [] ((extent.off, extent.len) ∷ []) left
spared_torn other extent source stands left apart is = record {
  keeps = λ len le holds. (holds_torn (front_of other len) extent source stands left (front len le apart) is holds, All-nil (Holds (front_of other len) source));
  apart = All-cons (IsApart other) (extent.off, extent.len) [] apart (All-nil (IsApart other));
}
  where
    front : (len : ℕ) → len ≤ other.len → IsApart other (extent.off, extent.len) → (other.off + len ≤ extent.off) ⊎ (extent.off + extent.len ≤ other.off)
    front len le (inl before) = inl (omega (arith, before, le))
    front len le (inr behind) = inr behind

-- the file of a unit that failed
file_left : Fill → (state : State) → Sound state → (n : ℕ) (found : Found) → IsHeldUnder state n found → (booked : Bool) (left : Option Node) (is_prepared : Bool) → IsLeftOfUnit is_prepared found.row.extent found.file_of left → Sound (record state { units = slice_set state.units n (record found.row { state = unit.Free; attempts = with_attempt booked found.row.attempts }); files = slice_set state.files found.row.extent.file (failed_file state.retries (with_attempt booked found.row.attempts) is_prepared found.row.extent left found.file_of) })
file_left fill state sound n found held booked left false is =
    let file = found.file_of in
    let f = found.row.extent.file in
    let attempts = with_attempt booked found.row.attempts in
    let free = freed_kept state sound n attempts found held in
    let of = source_of state sound.laid_out f file held.is_file in
    let along = (in_file fill state sound.laid_out n found.row file held.is_unit held.is_file).along in
    let undone = held_undone state sound n found held in
    let own = λ (without : state.noted.plan.with_bytes ≡ false). absurd {A = length (begun file file.stands).bytes ≡ file.file.item.facts.size} (true≢false (sym along ∙ without)) in
    let way : OnWay state file file.stands = first_of_all (OnWay state file) file.stands file.touched.had (sound.files f file held.is_file).ways in
    let begun_way : OnWay state file (Some (begun file file.stands)) = way_begun state.rules state.noted.plan file file.file.source file.file.start file.stands of way in
    touched_kept (record state { units = slice_set state.units n (record found.row { state = unit.Free; attempts = attempts }) }) free f file held.is_file
    (Some (begun file file.stands) ∷ Some (prepared file) ∷ []) [] left (given_up_at state.retries attempts file.state) file.attempts undone
    (still_undone state.retries attempts file.state undone)
    (way_left state file file.file.item.facts.size left own way begun_way is)
    (All-cons (OnWay state file) (Some (begun file file.stands)) (Some (prepared file) ∷ []) begun_way
    (All-cons (OnWay state file) (Some (prepared file)) [] (way_resized state.rules state.noted.plan file.file.item file.file.source file.file.start file.file.item.facts.size (begun file file.stands) own begun_way) (All-nil (OnWay state file))))
    (λ _. refl)
    (λ m row at same good. spared_unit (Some (begun file file.stands) ∷ Some (prepared file) ∷ []) [] left (given_up_at state.retries attempts file.state) file.attempts row file
    (spared row.extent file.file.source file.stands (Some (begun file file.stands) ∷ Some (prepared file) ∷ []) left
    (keeps_left file file.file.item.facts.size file.file.source left of refl is)
    (All-cons (Keeps file.file.source file.stands) (Some (begun file file.stands)) (Some (prepared file) ∷ []) (keeps_begun file file.file.source file.stands)
    (All-cons (Keeps file.file.source file.stands) (Some (prepared file)) [] (keeps_resized file file.file.item.facts.size file.file.source file.stands of refl) (All-nil (Keeps file.file.source file.stands))))) good)
file_left fill state sound n found held booked left true is =
    let file = found.file_of in
    let f = found.row.extent.file in
    let extent = found.row.extent in
    let attempts = with_attempt booked found.row.attempts in
    let free = freed_kept state sound n attempts found held in
    let along = (in_file fill state sound.laid_out n found.row file held.is_unit held.is_file).along in
    let undone = held_undone state sound n found held in
    let then = given_up_at state.retries attempts file.state in
    let way : OnWay state file file.stands = first_of_all (OnWay state file) file.stands file.touched.had (sound.files f file held.is_file).ways in
    touched_kept (record state { units = slice_set state.units n (record found.row { state = unit.Free; attempts = attempts }) }) free f file held.is_file
    [] ((extent.off, extent.len) ∷ []) left then file.attempts undone
    (still_undone state.retries attempts file.state undone)
    (way_torn state file extent file.stands left refl along way is)
    (All-nil (OnWay state file))
    (λ without. absurd (true≢false (sym along ∙ without)))
    (λ m row at same good. elim (set_cases state.units n m (record found.row { state = unit.Free; attempts = attempts }) row at) [
      | inl here ↦ subst (λ (r : UnitRow). IsSoundUnit r (touched_as [] ((extent.off, extent.len) ∷ []) left then file.attempts file)) here.1
          (free_unit attempts found.row (touched_as [] ((extent.off, extent.len) ∷ []) left then file.attempts file))
      | inr other ↦ spared_unit [] ((extent.off, extent.len) ∷ []) left then file.attempts row file
          (spared_torn row.extent extent file.file.source file.stands left (units_apart fill state sound.laid_out m n row found.row other.0 other.1 held.is_unit same) is) good
    ])

fail_unit_row : Fill → (state : State) → Sound state → (n : ℕ) (found : Found) → IsHeldUnder state n found → (booked : Bool) (left : Option Node) → IsLeftOfUnit found.holding.prepared found.row.extent found.file_of left → Sound (fail_unit state n booked left found.row found.holding.prepared)
fail_unit_row fill state sound n found held booked left is =
    subst (λ (o : Option FileRow). Sound (record state { units = slice_set state.units n (record found.row { state = unit.Free; attempts = with_attempt booked found.row.attempts }); files = with_at state.files found.row.extent.file (option_map (failed_file state.retries (with_attempt booked found.row.attempts) found.holding.prepared found.row.extent left) o) })) (sym held.is_file)
    (file_left fill state sound n found held booked left found.holding.prepared is)

-- Finishes

end_length : (with_bytes : Bool) (file : FileRow) → with_bytes ≡ false → length (begun file file.stands).bytes ≡ end_size with_bytes file
end_length with_bytes file without = ap (λ b. cond b file.file.item.facts.size (length (begun file file.stands).bytes)) (sym without)

full_length : (with_bytes : Bool) (file : FileRow) → with_bytes ≡ true → end_size with_bytes file ≡ file.file.item.facts.size
full_length with_bytes file along = ap (λ b. cond b file.file.item.facts.size (length (begun file file.stands).bytes)) along

way_of_left : (state : State) (file : FileRow) (left : Option Node) → HasFileOf file.file.item file.file.source → OnWay state file file.stands → OnWay state file (Some (begun file file.stands)) → IsLeftOfFinish state.noted.plan.with_bytes (end_of state file) file left → OnWay state file left
way_of_left state file left of way begun_way (inl unfinished) =
    way_left state file (end_size state.noted.plan.with_bytes file) left (end_length state.noted.plan.with_bytes file) way begun_way unfinished
way_of_left state file left of way begun_way (inr ended) =
    subst (OnWay state file) (sym ended) (way_end state.rules state.noted.plan file.file.item file.file.source file.file.start file.stands of way)

keeps_of_left : (state : State) (file : FileRow) (left : Option Node) → HasFileOf file.file.item file.file.source → state.noted.plan.with_bytes ≡ true → OnWay state file file.stands → IsLeftOfFinish state.noted.plan.with_bytes (end_of state file) file left → Keeps file.file.source file.stands left
keeps_of_left state file left of along way (inl unfinished) =
    keeps_left file (end_size state.noted.plan.with_bytes file) file.file.source left of (full_length state.noted.plan.with_bytes file along) unfinished
keeps_of_left state file left of along way (inr ended) =
    λ range holds. subst (Holds range file.file.source) (sym ended) (keeps_end state.rules state.noted.plan file.file.item file.file.source file.file.start file.stands along way range holds)

fail_finish_row : Fill → (state : State) → Sound state → (found : Closing) → IsClosing state found → (booked : Bool) (left : Option Node) → IsLeftOfFinish state.noted.plan.with_bytes (end_of state found.row) found.row left → Sound (with_file found.number (fail_finish state.noted.plan.with_bytes state.retries booked left (end_of state found.row)) state)
fail_finish_row fill state sound found is booked left allowed =
    let file = found.row in
    let f = found.number in
    let with_bytes = state.noted.plan.with_bytes in
    let attempts = with_attempt booked file.attempts in
    let size = end_size with_bytes file in
    let base = Some (begun file file.stands) in
    let sized = Some (resized size (begun file file.stands)) in
    let goal = end_of state file in
    let had = base ∷ sized ∷ goal ∷ [] in
    let of = source_of state sound.laid_out f file is.is_file in
    let undone = open_undone file.state is.is_open in
    let way : OnWay state file file.stands = first_of_all (OnWay state file) file.stands file.touched.had (sound.files f file is.is_file).ways in
    let begun_way : OnWay state file (Some (begun file file.stands)) = way_begun state.rules state.noted.plan file file.file.source file.file.start file.stands of way in
    let changed : Sound (record state { files = slice_set state.files f (touched_as had [] left (given_up_at state.retries attempts file.state) attempts file) }) =
    touched_kept state sound f file is.is_file had [] left (given_up_at state.retries attempts file.state) attempts undone
    (still_undone state.retries attempts file.state undone)
    (way_of_left state file left of way begun_way allowed)
    (All-cons (OnWay state file) base (sized ∷ goal ∷ []) begun_way
    (All-cons (OnWay state file) sized (goal ∷ []) (way_resized state.rules state.noted.plan file.file.item file.file.source file.file.start size (begun file file.stands) (end_length with_bytes file) begun_way)
    (All-cons (OnWay state file) goal [] (way_end state.rules state.noted.plan file.file.item file.file.source file.file.start file.stands of way) (All-nil (OnWay state file)))))
    (λ _. refl)
    (λ m row at same good.
    let along = (in_file fill state sound.laid_out m row file at (ap (file_row state) same ∙ is.is_file)).along in
    spared_unit had [] left (given_up_at state.retries attempts file.state) attempts row file
    (spared row.extent file.file.source file.stands had left
    (keeps_of_left state file left of along way allowed)
    (All-cons (Keeps file.file.source file.stands) base (sized ∷ goal ∷ []) (keeps_begun file file.file.source file.stands)
    (All-cons (Keeps file.file.source file.stands) sized (goal ∷ []) (keeps_resized file size file.file.source file.stands of (full_length with_bytes file along))
    (All-cons (Keeps file.file.source file.stands) goal [] (keeps_end state.rules state.noted.plan file.file.item file.file.source file.file.start file.stands along way) (All-nil (Keeps file.file.source file.stands)))))) good) in
    subst (λ (o : Option FileRow). Sound (record state { files = with_at state.files f (option_map (fail_finish with_bytes state.retries booked left goal) o) })) (sym is.is_file) changed

-- The event

pub fail_kept : Fill → (state : State) (what : What) (ticket : ℕ) (booked : Bool) (left : Option core.Node) → Sound state → MayFail state what ticket left → Sound (after state (event.Fail what ticket booked left))
fail_kept fill state (what.Unit n) ticket booked left sound may =
    let found = some_and (held_under state n ticket) (λ found. IsAtKey found.file_of left × IsLeftOfUnit found.holding.prepared found.row.extent found.file_of (option_map node_of left)) may in
    subst (λ (o : Option Found). Sound (where_some state (λ found. fail_unit state n booked (option_map node_of left) found.row found.holding.prepared) o)) (sym found.1)
    (fail_unit_row fill state sound n found.0 (held_found state n ticket found.0 found.1) booked (option_map node_of left) found.2.1)
fail_kept fill state (what.Finish place) ticket booked left sound may =
    let found = some_and (closing state place) (λ found. IsAtKey found.row left × IsLeftOfFinish state.noted.plan.with_bytes (end_of state found.row) found.row (option_map node_of left)) may.1 in
    subst (λ (o : Option Closing). Sound (where_some state (λ found. with_file found.number (fail_finish state.noted.plan.with_bytes state.retries booked (option_map node_of left) (end_of state found.row)) state) o)) (sym found.1)
    (fail_finish_row fill state sound found.0 (closing_found state place found.0 found.1) booked (option_map node_of left) found.2.1)
