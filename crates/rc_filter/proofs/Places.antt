-- That what is copied, made or changed has its directory; and all that a decided item says of both trees.
use Rattle.std.proofs.Common.{◌≡◌, ◌≢◌, ℕ, Bool, true, false, cond, not, ◌&&◌, ◌||◌, List, [], ◌∷◌, ◌++◌, Option, Some, None, length, inl, inr, refl, sym, ap, subst, ◌∙◌, append-nil, append_assoc}
use Rattle.std.proofs.lemmas.Bool.{true≢false}
use Rattle.std.specs.Prelude.{option_map}
use Rattle.std.specs.Option.{option_map_or}
use Rattle.std.specs.FinMap.{get}
use Rattle.rc_tree.specs.declared.attr.Kind.{Kind}
use Rattle.rc_tree.specs.declared.attr.Kind.TheVariants.{File, Dir}
use Rattle.rc_tree.specs.Path.{parent_of}
use Rattle.rc_tree.specs.Spelled.{spelled, spelling_of}
use Rattle.rc_tree.specs.Tree.{Node, Tree, IsDirectory, IsTree, kind_at}
use Rattle.rc_tree.proofs.Fronts.{by_last, directory_above, parent-more, spelled-key, spelled-last}
use Rattle.rc_class.specs.declared.class.Class.TheVariants as class
use Rattle.rc_class.specs.declared.decision.Act.{Act}
use Rattle.rc_class.specs.declared.decision.Act.TheVariants as act
use Rattle.rc_class.specs.declared.decision.After.TheVariants as after
use Rattle.rc_class.specs.declared.decision.Reason.TheVariants as reason
use Rattle.rc_class.specs.declared.item.Item.{Item}
use Rattle.rc_class.specs.Class.{facts_of}
use Rattle.rc_class.specs.Sides.{Acts, Beside, HasKind, IsDecidedIn, IsPlace, is_put, may_act}
use Rattle.rc_class.specs.Units.{is_copy}
use Rattle.rc_job.specs.declared.job.Job.{Job}
use Rattle.rc_filter.specs.Acts.{class_act, extra_act, is_all, lonely_act, mended, unless}
use Rattle.rc_filter.specs.Decided.{Around, act_for, all_moved, all_purged, around, copies, copies_kind, decided_at, extra_item, is_copied, item_of, kind_of, some_copied, source_act, source_after, source_item, start_of}
use Rattle.rc_filter.specs.Filters.{is_wrong_age, is_wrong_attr, is_wrong_size}
use Rattle.rc_filter.specs.Matching.{is_excluded_directory, is_excluded_file, is_named}
use Rattle.rc_filter.specs.Releases.{IsRemoved}
use Rattle.rc_filter.specs.Scope.{are_directories, decides, enters, is_above_in_scope, is_decided, is_directory, is_file, is_in_scope, reaches}
use Rattle.rc_filter.proofs.Items.{extra_acts_fit, extra_beside, same_some, some_none, acts_fit, source_beside, source_keeps, taken}
use Rattle.rc_filter.proofs.Fitting.{source_fits, target_fits}
use Rattle.rc_filter.proofs.Moving.{moved_below, removed_directory}
use Rattle.rc_filter.proofs.Neighbours.{both_of, below_copied, copied_below, entered, first_of, has_below, scope-above, second_of}
use Rattle.rc_filter.proofs.Purging.{all_of_purge, purged_below}

abbrev Key : Type 0
Key = List (List ℕ)

-- Directories that are gone into are decided

or_left : (a b : Bool) → a ≡ true → (a || b) ≡ true
or_left true b e = refl
or_left false b e = absurd (true≢false (sym e))

directories_decided : (a b c d reached : Bool) → (c || d) && not (a || b) ≡ true → reached ≡ true → (a || b || ((c || d) && reached)) ≡ true
directories_decided true b c d reached e r = refl
directories_decided false true c d reached e r = refl
directories_decided false false c d reached e r = both_of (c || d) reached (first_of (c || d) true e) r

-- what is gone into, below the root
record Entered (job : Job) (key : Key) (source target : Option Kind) : Type 0 where
  reached : reaches job key ≡ true
  kept : is_excluded_directory job key ≡ false
  directories : are_directories source target ≡ true

not_false : (b : Bool) → not b ≡ true → b ≡ false
not_false true e = absurd (true≢false (sym e))
not_false false e = refl

enters_so : (job : Job) (name : List ℕ) (names : Key) (source target : Option Kind) → enters job (name ∷ names) source target ≡ true → Entered job (name ∷ names) source target
enters_so job name names source target e =
    let front = first_of (reaches job (name ∷ names) && not (is_excluded_directory job (name ∷ names))) (are_directories source target) e in
    record {
      reached = first_of (reaches job (name ∷ names)) _ front;
      kept = not_false _ (second_of (reaches job (name ∷ names)) _ front);
      directories = second_of (reaches job (name ∷ names) && not (is_excluded_directory job (name ∷ names))) _ e;
    }

decides_so : (job : Job) (key : Key) (source target : Option Kind) → Entered job key source target → decides job key source target ≡ true
decides_so job key source target is =
    directories_decided (is_file source) (is_file target) (is_directory source) (is_directory target) (reaches job key) is.directories is.reached

-- of the two sides of such a key
source_directory : (found : Option Node) → are_directories (option_map (λ (node : Node). node.kind) found) None ≡ true → (node : Node) × (found ≡ Some node) × (node.kind ≡ Dir)
source_directory None e = absurd (true≢false (sym e))
source_directory (Some node) e = (node, refl, by node.kind e)
  where
    by : (k : Kind) → are_directories (Some k) None ≡ true → k ≡ Dir
    by File e = absurd (true≢false (sym e))
    by Dir e = refl

target_directory : (source : Option Kind) (k : Kind) → are_directories source (Some k) ≡ true → k ≡ Dir
target_directory None File e = absurd (true≢false (sym e))
target_directory (Some File) File e = absurd (true≢false (sym e))
target_directory (Some Dir) File e = absurd (true≢false (sym e))
target_directory source Dir e = refl

-- What is put where the target has nothing

-- it isn't left for its class, and so is the directory above made
record Lonely (job : Job) (some_below : Bool) : Type 0 where
  left : job.xl ≡ false
  made : (is_all job.sub || some_below) ≡ true

-- a file that is put is copied
class_kept : (named excluded attr size age left : Bool) → (let does = mended false (unless (cond (not named) (Some reason.NotNamed) (cond excluded (Some reason.Excluded) (cond attr (Some reason.Attr) (cond size (Some reason.Size) (cond age (Some reason.Age) (cond left (Some reason.Class) None)))))) act.Copy) in is_put does ≡ true → (is_copy does ≡ true) × (left ≡ false))
class_kept false excluded attr size age left e = absurd (true≢false (sym e))
class_kept true true attr size age left e = absurd (true≢false (sym e))
class_kept true false true size age left e = absurd (true≢false (sym e))
class_kept true false false true age left e = absurd (true≢false (sym e))
class_kept true false false false true left e = absurd (true≢false (sym e))
class_kept true false false false false true e = absurd (true≢false (sym e))
class_kept true false false false false false e = (refl, refl)

-- a directory that is put is made
lonely_kept : (excluded left made : Bool) → is_put (cond excluded (act.Keep reason.Excluded) (cond left (act.Keep reason.Class) (cond made act.Make (act.Keep reason.Empty)))) ≡ true → (left ≡ false) × (made ≡ true)
lonely_kept true left made e = absurd (true≢false (sym e))
lonely_kept false true made e = absurd (true≢false (sym e))
lonely_kept false false true e = (refl, refl)
lonely_kept false false false e = absurd (true≢false (sym e))

or_some : (all some other : Bool) → (all || some) ≡ true → (some ≡ true → other ≡ true) → (all || other) ≡ true
or_some true some other e h = refl
or_some false some other e h = h e

or_right : (a b : Bool) → b ≡ true → (a || b) ≡ true
or_right true b e = refl
or_right false b e = e

module _ (job : Job) (source target : Tree) (moment : ℕ) where
  -- what is put at a key where the target has nothing, by its kind
  lonely_by : (key : Key) (node : Node) (above : Key) (last : List ℕ) → key ≡ above ++ last ∷ [] → get source key ≡ Some node → get target key ≡ None → is_decided job source target key ≡ true → (k : Kind) → node.kind ≡ k → is_put (act_for k (class_act job moment key (facts_of node) class.Lonely) (lonely_act job key (some_copied job source target moment key))) ≡ true → Lonely job (some_copied job source target moment above)
  lonely_by key node above last same here nothing decided File is put =
      let kept = class_kept (is_named job key) (is_excluded_file job key) (is_wrong_attr job node.props.attr) (is_wrong_size job (length node.bytes)) (is_wrong_age job moment node.props.written) job.xl put in
      let so : copies_kind File (class_act job moment key (facts_of node) class.Lonely) ≡ true = kept.0 in
      let at : copies job moment key (Some node) None ≡ true = ap (λ k. copies_kind k (class_act job moment key (facts_of node) class.Lonely)) is ∙ so in
      let both : copies job moment key (get source key) (get target key) ≡ true = ap (λ o. copies job moment key o (get target key)) here ∙ ap (λ o. copies job moment key (Some node) o) nothing ∙ at in
      let copied : is_copied job source target moment key ≡ true = both_of _ _ both decided in
      record {
        left = kept.1;
        made = or_right (is_all job.sub) _ (copied_below job source target moment above (last ∷ []) (ap (λ k. is_copied job source target moment k) (sym same) ∙ copied));
      }
  lonely_by key node above last same here nothing decided Dir is put =
      let kept = lonely_kept (is_excluded_directory job key) job.xl (is_all job.sub || some_copied job source target moment key) put in
      record {
        left = kept.0;
        made = or_some (is_all job.sub) (some_copied job source target moment key) (some_copied job source target moment above) kept.1
            (λ some.
            let at = below_copied job source target moment key some in
            copied_below job source target moment above (last ∷ at.0)
            (ap (λ k. is_copied job source target moment k) (sym (append_assoc above (last ∷ []) at.0) ∙ ap (λ k. k ++ at.0) (sym same)) ∙ at.1));
      }

parent-split : (key above : Key) → parent_of key ≡ Some above → (last : List ℕ) × (key ≡ above ++ last ∷ [])
parent-split key above =
    by_last (λ key. parent_of key ≡ Some above → (last : List ℕ) × (key ≡ above ++ last ∷ []))
    (λ none. absurd (no none))
    (λ names last _ same. (last, ap (λ front. front ++ last ∷ []) (same_some names above (sym (parent-more names last) ∙ same))))
    key
  where
    no : None ≡ Some above → ⊥
    no e = cc

made_so : (file : Act) (k : Kind) (excluded left made : Bool) → k ≡ Dir → excluded ≡ false → left ≡ false → made ≡ true → act_for k file (cond excluded (act.Keep reason.Excluded) (cond left (act.Keep reason.Class) (cond made act.Make (act.Keep reason.Empty)))) ≡ act.Make
made_so file Dir false false true k e l m = refl
made_so file Dir false false false k e l m = absurd (true≢false (sym m))
made_so file Dir false true made k e l m = absurd (true≢false l)
made_so file Dir true left made k e l m = absurd (true≢false e)
made_so file File excluded left made k e l m = absurd cc

-- nothing is put where the source has nothing
never_put : (does : Act) (k : Kind) → may_act class.Extra k does ≡ true → is_put does ≡ true → ⊥
never_put act.Copy File fits put = true≢false (sym fits)
never_put act.Copy Dir fits put = true≢false (sym fits)
never_put act.Make File fits put = true≢false (sym fits)
never_put act.Make Dir fits put = true≢false (sym fits)
never_put act.Touch File fits put = true≢false (sym fits)
never_put act.Touch Dir fits put = true≢false (sym fits)
never_put act.Fix File fits put = true≢false (sym fits)
never_put act.Fix Dir fits put = true≢false (sym fits)
never_put act.Purge k fits put = true≢false (sym put)
never_put act.Extra k fits put = true≢false (sym put)
never_put act.Mismatch k fits put = true≢false (sym put)
never_put (act.Keep why) k fits put = true≢false (sym put)

module _ (job : Job) (source target : Tree) (moment : ℕ) (ours : IsTree source) (theirs : IsTree target) where
  -- nothing is removed where the source has something
  keeps : (key path : Key) (other : Key) (near : Around) (s t : Option Node) → s ≢ None → Acts act.Purge (item_of job moment key path other near s t) → ⊥
  keeps key path other near (Some node) t some is = source_keeps job moment key near.some_copied node t is
  keeps key path other near None t some is = some refl

  decided_above : (name : List ℕ) (names : Key) → is_in_scope job source target (name ∷ names) ≡ true → decided_at job source target moment (name ∷ names) ≡ item_of job moment (name ∷ names) (spelled source (name ∷ names)) (spelled target (name ∷ names)) (around job source target moment (name ∷ names)) (get source (name ∷ names)) (get target (name ∷ names))
  decided_above name names scope =
      let above = name ∷ names in
      let so = enters_so job name names (kind_at source above) (kind_at target above) (entered job source target above scope) in
      let decided : is_decided job source target above ≡ true = both_of (decides job above (kind_at source above) (kind_at target above)) (is_above_in_scope job source target above) (decides_so job above (kind_at source above) (kind_at target above) so) (scope-above job source target above (λ e. cc) scope) in
      ap (λ b. cond b (item_of job moment above (spelled source above) (spelled target above) (around job source target moment above) (get source above) (get target above)) None) decided

  -- a directory of the target stays
  standing_place : (name : List ℕ) (names : Key) (there : Node) → is_in_scope job source target (name ∷ names) ≡ true → get source (name ∷ names) ≢ None → get target (name ∷ names) ≡ Some there → IsPlace (decided_at job source target moment) target (name ∷ names)
  standing_place name names there scope some here =
      let above = name ∷ names in
      let so = enters_so job name names (kind_at source above) (kind_at target above) (entered job source target above scope) in
      let directories : are_directories (kind_at source above) (Some there.kind) ≡ true = subst (λ o. are_directories (kind_at source above) (option_map (λ (node : Node). node.kind) o) ≡ true) here so.directories in
      let kind : there.kind ≡ Dir = target_directory (kind_at source above) there.kind directories in
      inl (
        subst (λ o. HasKind Dir o) (sym here) kind,
        λ is. keeps above (spelled source above) (spelled target above) (around job source target moment above) (get source above) (get target above) some (subst (Acts act.Purge) (decided_above name names scope) is),
      )

  -- and one that the source alone has is made
  made_place : (key : Key) (node : Node) (name : List ℕ) (names : Key) (last : List ℕ) → key ≡ (name ∷ names) ++ last ∷ [] → is_in_scope job source target (name ∷ names) ≡ true → get target (name ∷ names) ≡ None → get source key ≡ Some node → get target key ≡ None → is_decided job source target key ≡ true → is_put (source_act job moment key (some_copied job source target moment key) node None) ≡ true → IsPlace (decided_at job source target moment) target (name ∷ names)
  made_place key node name names last same scope nothing here none decided put =
      let above = name ∷ names in
      let so = enters_so job name names (kind_at source above) (kind_at target above) (entered job source target above scope) in
      let directories : are_directories (kind_at source above) None ≡ true = subst (λ o. are_directories (kind_at source above) (option_map (λ (node : Node). node.kind) o) ≡ true) nothing so.directories in
      let there = source_directory (get source above) directories in
      let lonely = lonely_by job source target moment key node above last same here none decided node.kind refl put in
      let make : source_act job moment above (some_copied job source target moment above) there.0 None ≡ act.Make = made_so (class_act job moment above (facts_of there.0) class.Lonely) there.0.kind (is_excluded_directory job above) job.xl (is_all job.sub || some_copied job source target moment above) there.2 so.kept lonely.left lonely.made in
      inr (
      subst (Acts act.Make) (sym (decided_above name names scope))
      (subst (λ s. Acts act.Make (item_of job moment above (spelled source above) (spelled target above) (around job source target moment above) s (get target above))) (sym there.1)
      (subst (λ t. Acts act.Make (item_of job moment above (spelled source above) (spelled target above) (around job source target moment above) (Some there.0) t)) (sym nothing) make))
      )

  some_there : (node : Node) → None ≡ Some node → ⊥
  some_there node e = cc

  nothing_below : (key above : Key) → parent_of key ≡ Some above → above ≢ [] → get target above ≡ None → get target key ≡ None
  nothing_below key above parent some nothing =
      elim (get target key) as (λ o. get target key ≡ o → o ≡ None) [
        | None ↦ λ _. refl
        | Some node ↦ λ here. absurd (by above some nothing (directory_above target key above theirs (λ none. some_there node (sym none ∙ here)) parent))
      ] refl
    where
      by : (above : Key) → above ≢ [] → get target above ≡ None → IsDirectory target above → ⊥
      by [] some nothing is = some refl
      by (name ∷ names) some nothing is = is.1 nothing

  place : (key : Key) (node : Node) (above : Key) → get source key ≡ Some node → is_decided job source target key ≡ true → is_put (source_act job moment key (some_copied job source target moment key) node (get target key)) ≡ true → parent_of key ≡ Some above → IsPlace (decided_at job source target moment) target above
  place key node [] here decided put parent = tt
  place key node (name ∷ names) here decided put parent =
      let above = name ∷ names in
      let split = parent-split key above parent in
      let scope : is_in_scope job source target above ≡ true = sym (ap (λ o. option_map_or (is_in_scope job source target) o false) parent) ∙ second_of (decides job key (kind_at source key) (kind_at target key)) (is_above_in_scope job source target key) decided in
      let ours_above : IsDirectory source (name ∷ names) = directory_above source key above ours (λ none. some_there node (sym none ∙ here)) parent in
      elim (get target above) as (λ o. get target above ≡ o → IsPlace (decided_at job source target moment) target above) [
        | Some there ↦ λ is. standing_place name names there scope ours_above.1 is
        | None ↦ λ is.
            let none : get target key ≡ None = nothing_below key above parent (λ e. cc) is in
            made_place key node name names split.0 split.1 scope is here none decided (subst (λ o. is_put (source_act job moment key (some_copied job source target moment key) node o) ≡ true) none put)
      ] refl

  -- what is decided of what the source has, and of what the target alone has
  source_so : (key : Key) (node : Node) → get source key ≡ Some node → is_decided job source target key ≡ true → decided_at job source target moment key ≡ Some (source_item job moment key (spelled source key) (around job source target moment key) node (get target key))
  source_so key node here decided =
      ap (λ b. cond b (item_of job moment key (spelled source key) (spelled target key) (around job source target moment key) (get source key) (get target key)) None) decided
      ∙ ap (λ s. item_of job moment key (spelled source key) (spelled target key) (around job source target moment key) s (get target key)) here

  extra_so : (key : Key) (node : Node) → get source key ≡ None → get target key ≡ Some node → is_decided job source target key ≡ true → decided_at job source target moment key ≡ Some (extra_item job key (spelled target key) (around job source target moment key) node)
  extra_so key node none here decided =
      ap (λ b. cond b (item_of job moment key (spelled source key) (spelled target key) (around job source target moment key) (get source key) (get target key)) None) decided
      ∙ ap (λ s. item_of job moment key (spelled source key) (spelled target key) (around job source target moment key) s (get target key)) none
      ∙ ap (λ t. item_of job moment key (spelled source key) (spelled target key) (around job source target moment key) None t) here

  -- all below what is removed is removed
  emptied : (key : Key) (node : Node) → get source key ≡ Some node → is_decided job source target key ≡ true → (names : Key) → source_after job moment key (some_copied job source target moment key) (all_moved job source target moment key) node (get target key) ≡ after.RemoveSource → get source (key ++ names) ≢ None → IsRemoved (decided_at job source target moment (key ++ names))
  emptied key node here decided [] is there =
      subst (λ k. IsRemoved (decided_at job source target moment k)) (sym (append-nil key))
      (subst IsRemoved (sym (source_so key node here decided)) is)
  emptied key node here decided (name ∷ names) is there =
      let all = removed_directory job key node.kind (option_map kind_of (get target key)) (source_act job moment key (some_copied job source target moment key) node (get target key)) (all_moved job source target moment key) (has_below source key node name names ours here there) is in
      moved_below job source target moment key all.0 name names there

  purged : (key : Key) (node : Node) → get source key ≡ None → get target key ≡ Some node → is_decided job source target key ≡ true → (names : Key) → extra_act job key node.kind (all_purged job source target key) ≡ act.Purge → get target (key ++ names) ≢ None → Acts act.Purge (decided_at job source target moment (key ++ names))
  purged key node none here decided [] is there =
      subst (λ k. Acts act.Purge (decided_at job source target moment k)) (sym (append-nil key))
      (subst (Acts act.Purge) (sym (extra_so key node none here decided)) is)
  purged key node none here decided (name ∷ names) is there =
      purged_below job source target moment key
      (all_of_purge job key node.kind (all_purged job source target key) (has_below target key node name names theirs here there) is)
      name names there

  source_decided : (key : Key) (node : Node) → get source key ≡ Some node → is_decided job source target key ≡ true → IsDecidedIn (start_of job source target) moment key (source_item job moment key (spelled source key) (around job source target moment key) node (get target key))
  source_decided key node here decided =
      let near = around job source target moment key in
      let item = source_item job moment key (spelled source key) near node (get target key) in
      let sides : Beside item.class item (get source key) (get target key) =
      subst (λ o. Beside item.class item o (get target key)) (sym here)
      (source_beside job moment key (spelled source key) near node (get target key) (spelled-last source key ours ∙ ap spelling_of here)) in
      let allowed = acts_fit job moment key (spelled source key) near node (get target key) in
      record {
        key_of_path = spelled-key source key ours (λ none. some_there node (sym none ∙ here));
        beside = sides;
        allowed = allowed;
        fits = record {
          source_has = source_fits item (get source key) (get target key) sides allowed;
          target_has = target_fits item (get source key) (get target key) sides allowed;
          place = λ above put parent. place key node above here decided put parent;
          purged = λ names is _. absurd (source_keeps job moment key near.some_copied node (get target key) is);
          cleared = λ _. subst (HasKind node.kind) (sym here) refl;
          emptied = λ names is there. emptied key node here decided names is there;
        };
      }

  extra_decided : (key : Key) (node : Node) → get source key ≡ None → get target key ≡ Some node → is_decided job source target key ≡ true → IsDecidedIn (start_of job source target) moment key (extra_item job key (spelled target key) (around job source target moment key) node)
  extra_decided key node none here decided =
      let near = around job source target moment key in
      let item = extra_item job key (spelled target key) near node in
      let sides : Beside class.Extra item (get source key) (get target key) =
      subst (λ o. Beside class.Extra item o (get target key)) (sym none)
      (subst (λ o. Beside class.Extra item None o) (sym here)
      (extra_beside job key (spelled target key) near node (spelled-last target key theirs ∙ ap spelling_of here))) in
      let allowed = extra_acts_fit job key node.kind near.all_purged in
      record {
        key_of_path = spelled-key target key theirs (λ nothing. some_there node (sym nothing ∙ here));
        beside = sides;
        allowed = allowed;
        fits = record {
          source_has = source_fits item (get source key) (get target key) sides allowed;
          target_has = target_fits item (get source key) (get target key) sides allowed;
          place = λ above put parent. absurd (never_put (extra_act job key node.kind near.all_purged) node.kind allowed put);
          purged = λ names is there. purged key node none here decided names is there;
          cleared = λ is. absurd cc;
          emptied = λ names is _. absurd cc;
        };
      }

  by_sides : (key : Key) (item : Item) (s t : Option Node) → get source key ≡ s → get target key ≡ t → is_decided job source target key ≡ true → item_of job moment key (spelled source key) (spelled target key) (around job source target moment key) s t ≡ Some item → IsDecidedIn (start_of job source target) moment key item
  by_sides key item (Some node) t here there decided is =
      subst (IsDecidedIn (start_of job source target) moment key)
      (ap (λ o. source_item job moment key (spelled source key) (around job source target moment key) node o) there ∙ same_some _ item is)
      (source_decided key node here decided)
  by_sides key item None (Some node) here there decided is =
      subst (IsDecidedIn (start_of job source target) moment key) (same_some _ item is) (extra_decided key node here there decided)
  by_sides key item None None here there decided is = absurd (some_none item is)

  pub decided_in : (key : Key) (item : Item) → decided_at job source target moment key ≡ Some item → IsDecidedIn (start_of job source target) moment key item
  decided_in key item e =
      let both = taken (is_decided job source target key) (item_of job moment key (spelled source key) (spelled target key) (around job source target moment key) (get source key) (get target key)) item e in
      by_sides key item (get source key) (get target key) refl refl both.0 both.1

pub decided_items : (job : Job) (source target : Tree) (moment : ℕ) (key : Key) (item : Item) → IsTree source → IsTree target → decided_at job source target moment key ≡ Some item → IsDecidedIn (start_of job source target) moment key item
decided_items job source target moment key item ours theirs e = decided_in job source target moment ours theirs key item e
