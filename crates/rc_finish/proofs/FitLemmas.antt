-- Trees on their way from those that items fit fit too.
use Rattle.std.proofs.Common.{◌≡◌, ◌≢◌, ◌⊎◌, ℕ, ◌<◌, Bool, true, false, cond, List, [], ◌∷◌, ◌++◌, Option, Some, None, length, refl, sym, ap, subst, ◌∙◌, inl, inr, arith, append_assoc, append-nil}
use Rattle.std.proofs.lemmas.Bool.{true≢false}
use Rattle.std.proofs.lemmas.List.Elements.{All-head, All-tail}
use Rattle.std.specs.Prelude.{IfSome, IsSomeAnd}
use Rattle.std.specs.FinMap.{get}
use Rattle.std.specs.Ordering.{eq_by_cmp}
use Rattle.rc_tree.specs.declared.attr.Kind.{Kind}
use Rattle.rc_tree.specs.declared.attr.Kind.TheVariants.{Dir}
use Rattle.rc_tree.specs.Path.{key_cmp, key_of, parent_of}
use Rattle.rc_tree.specs.Tree.{Node, Tree}
use Rattle.rc_tree.proofs.Fronts.{by_last, parent-more}
use Rattle.rc_class.specs.declared.decision.Act.{Act}
use Rattle.rc_class.specs.declared.decision.Act.TheVariants as act
use Rattle.rc_class.specs.declared.item.Item.{Item}
use Rattle.rc_class.specs.Items.{item_at}
use Rattle.rc_class.specs.Sides.{is_put, Acts, HasKind, IsPlace, IsReady}
use Rattle.rc_volume.specs.declared.site.Side.TheVariants.{Source}
use Rattle.rc_volume.specs.Site.{Told}
use Rattle.rc_finish.specs.Passes.{directory_at, freed, is_make, made, pass_at, AreBelowRoot, AreFit, AreWhole, GoesOn, IsOnItsWay, IsPassing, IsPassingOn, ToPurge, ToRemove}
use Rattle.rc_finish.proofs.MakeLemmas.{acting, is_make_so, made_dir, ready_dir}

-- One key

if_some : (kind : Kind) (o : Option Node) → HasKind kind o → IfSome o (λ node. node.kind ≡ kind)
if_some kind None is = tt
if_some kind (Some node) is = is

has_some : (kind : Kind) (o : Option Node) → HasKind kind o → o ≢ None
has_some kind None is = absurd is
has_some kind (Some node) is = λ e. cc

-- an entry of the item's kind stands where a directory stood
dir_by : (kind : Kind) (old new : Option Node) → IfSome old (λ node. node.kind ≡ kind) → HasKind Dir old → HasKind kind new → HasKind Dir new
dir_by kind None new ready dir has = absurd dir
dir_by kind (Some node) new ready dir has = subst (λ (k : Kind). HasKind k new) (sym ready ∙ dir) has

dir_still : (does : Act) (kind : Kind) (old new : Option Node) → IsReady does kind old → HasKind Dir old → (does ≡ act.Purge → ⊥) → GoesOn does kind new → HasKind Dir new
dir_still act.Copy kind old new ready dir stays goes = dir_by kind old new ready dir goes
dir_still act.Make kind old new ready dir stays goes = dir_by kind old new ready dir goes
dir_still act.Touch kind old new ready dir stays goes = dir_by kind old new (if_some kind old ready) dir goes
dir_still act.Fix kind old new ready dir stays goes = dir_by kind old new (if_some kind old ready) dir goes
dir_still act.Purge kind old new ready dir stays goes = absurd (stays refl)
dir_still act.Extra kind old new ready dir stays goes = absurd goes
dir_still act.Mismatch kind old new ready dir stays goes = absurd goes
dir_still (act.Keep reason) kind old new ready dir stays goes = absurd goes

ready_so : (does : Act) (kind : Kind) (new : Option Node) → GoesOn does kind new → IsReady does kind new
ready_so act.Copy kind new goes = if_some kind new goes
ready_so act.Make kind new goes = if_some kind new goes
ready_so act.Touch kind new goes = goes
ready_so act.Fix kind new goes = goes
ready_so act.Purge kind new goes = tt
ready_so act.Extra kind new goes = tt
ready_so act.Mismatch kind new goes = tt
ready_so (act.Keep reason) kind new goes = tt

put_or_purge : (does : Act) (kind : Kind) (new : Option Node) → GoesOn does kind new → (does ≡ act.Purge) ⊎ (is_put does ≡ true)
put_or_purge act.Copy kind new goes = inr refl
put_or_purge act.Make kind new goes = inr refl
put_or_purge act.Touch kind new goes = inr refl
put_or_purge act.Fix kind new goes = inr refl
put_or_purge act.Purge kind new goes = inl refl
put_or_purge act.Extra kind new goes = absurd goes
put_or_purge act.Mismatch kind new goes = absurd goes
put_or_purge (act.Keep reason) kind new goes = absurd goes

-- Keys

none_at_root : (items : List Item) → AreBelowRoot items → item_at items [] ≡ None
none_at_root [] below = refl
none_at_root (first ∷ items) below =
    by first.path (All-head (λ (item : Item). 0 < length item.path) first items below) (none_at_root items (All-tail (λ (item : Item). 0 < length item.path) first items below))
  where
    by : (path : List (List ℕ)) → 0 < length path → item_at items [] ≡ None → cond (eq_by_cmp key_cmp [] (key_of path)) (Some first) (item_at items []) ≡ None
    by [] some rest = absurd (omega (arith, some))
    by (name ∷ names) some rest = rest

named : (items : List Item) (key : List (List ℕ)) (item : Item) → AreBelowRoot items → item_at items key ≡ Some item → key ≢ []
named items key item below found root = no (sym (none_at_root items below) ∙ ap (item_at items) (sym root) ∙ found)
  where
    no : None ≡ Some item → ⊥
    no e = cc

still_named : (key names : List (List ℕ)) → key ≢ [] → key ++ names ≢ []
still_named [] names some = absurd (some refl)
still_named (name ∷ key) names some = λ e. cc

place_at : (decided : List (List ℕ) → Option Item) (target : Tree) (key : List (List ℕ)) → key ≢ [] → IsPlace decided target key → (HasKind Dir (get target key) × ¬ Acts act.Purge (decided key)) ⊎ Acts act.Make (decided key)
place_at decided target [] some place = absurd (some refl)
place_at decided target (name ∷ names) some place = place

-- nothing is put below what is purged
module _ (items : List Item) (start : Told) (below : AreBelowRoot items) (fit : AreFit items start) (key : List (List ℕ)) (item : Item) (found : item_at items key ≡ Some item) (purge : item.act ≡ act.Purge) where
  abbrev NotPut : List (List ℕ) → Type 0
  NotPut names = (other : Item) → item_at items (key ++ names) ≡ Some other → is_put other.act ≡ true → ⊥

  same_item : (x y : Item) → Some x ≡ Some y → x ≡ y
  same_item x y e = cc

  not_here : NotPut []
  not_here other there put =
      let same = same_item other item (sym there ∙ ap (item_at items) (append-nil key) ∙ found) in
      true≢false (sym put ∙ ap (λ (x : Item). is_put x.act) same ∙ ap is_put purge)

  not_deeper : (names : List (List ℕ)) (name : List ℕ) → NotPut names → NotPut (names ++ name ∷ [])
  not_deeper names name above other there put =
      by (place_at (item_at items) start.target (key ++ names) (still_named key names (named items key item below found))
      ((fit (key ++ (names ++ name ∷ [])) other there).0.place (key ++ names) put (ap (λ (k : List (List ℕ)). parent_of k) (sym (append_assoc key names (name ∷ []))) ∙ parent-more (key ++ names) name)))
    where
      by : (HasKind Dir (get start.target (key ++ names)) × ¬ Acts act.Purge (item_at items (key ++ names))) ⊎ Acts act.Make (item_at items (key ++ names)) → ⊥
      by (inl (dir, not_purged)) = not_purged ((fit key item found).0.purged names purge (has_some Dir (get start.target (key ++ names)) dir))
      by (inr makes) =
          let made = acting act.Make (item_at items (key ++ names)) makes in
          above made.0 made.1 (ap is_put made.2)

  pub not_put : (names : List (List ℕ)) → NotPut names
  not_put names = by_last NotPut not_here not_deeper names

-- All keys

module _ (items : List Item) (start now : Told) (below : AreBelowRoot items) (fit : AreFit items start) (source : now.source ≡ start.source) (way : IsOnItsWay items start.target now.target) where
  place_still : (key : List (List ℕ)) → IsPlace (item_at items) start.target key → IsPlace (item_at items) now.target key
  place_still [] place = tt
  place_still (name ∷ names) (inr makes) = inr makes
  place_still (name ∷ names) (inl (dir, stays)) = inl (by (way key), stays)
    where
      key : List (List ℕ)
      key = name ∷ names

      begun : (o : Option Item) → item_at items key ≡ o → IsSomeAnd o (λ item. GoesOn item.act item.facts.kind (get now.target key)) → HasKind Dir (get now.target key)
      begun None e goes = absurd goes
      begun (Some item) e goes =
          dir_still item.act item.facts.kind (get start.target key) (get now.target key) (fit key item e).0.target_has dir
          (λ purge. stays (subst (λ (o : Option Item). Acts act.Purge o) (sym e) purge)) goes

      by : (get now.target key ≡ get start.target key) ⊎ IsSomeAnd (item_at items key) (λ item. GoesOn item.act item.facts.kind (get now.target key)) → HasKind Dir (get now.target key)
      by (inl same) = subst (λ (o : Option Node). HasKind Dir o) (sym same) dir
      by (inr goes) = begun (item_at items key) refl goes

  ready_still : (key : List (List ℕ)) (item : Item) → item_at items key ≡ Some item → IsReady item.act item.facts.kind (get now.target key)
  ready_still key item found = by (way key)
    where
      by : (get now.target key ≡ get start.target key) ⊎ IsSomeAnd (item_at items key) (λ item. GoesOn item.act item.facts.kind (get now.target key)) → IsReady item.act item.facts.kind (get now.target key)
      by (inl same) = subst (λ (o : Option Node). IsReady item.act item.facts.kind o) (sym same) (fit key item found).0.target_has
      by (inr goes) = ready_so item.act item.facts.kind (get now.target key) (subst (λ (o : Option Item). IsSomeAnd o (λ item. GoesOn item.act item.facts.kind (get now.target key))) found goes)

  purged_still : (key : List (List ℕ)) (item : Item) (names : List (List ℕ)) → item_at items key ≡ Some item → item.act ≡ act.Purge → get now.target (key ++ names) ≢ None → Acts act.Purge (item_at items (key ++ names))
  purged_still key item names found purge there = by (way (key ++ names))
    where
      begun : (o : Option Item) → item_at items (key ++ names) ≡ o → IsSomeAnd o (λ item. GoesOn item.act item.facts.kind (get now.target (key ++ names))) → Acts act.Purge o
      begun None e goes = absurd goes
      begun (Some other) e goes = which (put_or_purge other.act other.facts.kind (get now.target (key ++ names)) goes)
        where
          which : (other.act ≡ act.Purge) ⊎ (is_put other.act ≡ true) → other.act ≡ act.Purge
          which (inl is) = is
          which (inr put) = absurd (not_put items start below fit key item found purge names other e put)

      by : (get now.target (key ++ names) ≡ get start.target (key ++ names)) ⊎ IsSomeAnd (item_at items (key ++ names)) (λ item. GoesOn item.act item.facts.kind (get now.target (key ++ names))) → Acts act.Purge (item_at items (key ++ names))
      by (inl same) = (fit key item found).0.purged names purge (λ none. there (same ∙ none))
      by (inr goes) = begun (item_at items (key ++ names)) refl goes

  pub way_fits : AreFit items now
  way_fits key item found =
      let says = (fit key item found).0 in (
        record {
          source_has = λ put. subst (λ (tree : Tree). HasKind item.facts.kind (get tree key)) (sym source) (says.source_has put);
          target_has = ready_still key item found;
          place = λ above put parent. place_still above (says.place above put parent);
          purged = λ names purge there. purged_still key item names found purge there;
          cleared = λ clears. subst (λ (tree : Tree). HasKind item.facts.kind (get tree key)) (sym source) (says.cleared clears);
          emptied = λ names removes there. says.emptied names removes (λ none. there (ap (λ (tree : Tree). get tree (key ++ names)) source ∙ none));
        },
        (fit key item found).1,
      )

-- What each pass asks for, and what it leaves

pub whole_purges : (items : List Item) (told : Told) → AreFit items told → AreWhole ToPurge items told.target
whole_purges items told fit key item names found purge there = (fit key item found).0.purged names purge there

pub whole_removals : (items : List Item) (told : Told) → AreFit items told → AreWhole ToRemove items told.source
whole_removals items told fit key item names found removes there = (fit key item found).0.emptied names removes there

made_way : (item : Item) (source target now : Option Node) → IsReady item.act item.facts.kind target → (is_make item.act ≡ true → item.facts.kind ≡ Dir) → now ≡ made item source target → (now ≡ target) ⊎ GoesOn item.act item.facts.kind now
made_way item source target now ready dir is = by (is_make item.act) refl
  where
    by : (b : Bool) → is_make item.act ≡ b → (now ≡ target) ⊎ GoesOn item.act item.facts.kind now
    by false e = inl (is ∙ ap (λ b. cond b (directory_at item.path target) target) e)
    by true e =
        let stands = made_dir item source target e (ready_dir item.act item.facts.kind target e (dir e) ready) in
        let here : HasKind item.facts.kind now = subst (λ (k : Kind). HasKind k now) (sym (dir e)) (subst (λ (o : Option Node). HasKind Dir o) (sym is) stands) in
        inr (subst (λ (does : Act). GoesOn does item.facts.kind now) (sym (is_make_so item.act e)) here)

pub making_way : (items : List Item) (start : Told) (now : Tree) → AreFit items start → IsPassing made items start now → IsOnItsWay items start.target now
making_way items start now fit passing key = by (passing key)
  where
    one : (o : Option Item) → item_at items key ≡ o → get now key ≡ pass_at made o (get start.source key) (get start.target key) → (get now key ≡ get start.target key) ⊎ IsSomeAnd o (λ item. GoesOn item.act item.facts.kind (get now key))
    one None e is = inl is
    one (Some item) e is = made_way item (get start.source key) (get start.target key) (get now key) (fit key item e).0.target_has (fit key item e).1 is

    by : (get now key ≡ get start.target key) ⊎ (get now key ≡ pass_at made (item_at items key) (get start.source key) (get start.target key)) → (get now key ≡ get start.target key) ⊎ IsSomeAnd (item_at items key) (λ item. GoesOn item.act item.facts.kind (get now key))
    by (inl same) = inl same
    by (inr is) = one (item_at items key) refl is

-- a source that loses entries has none where it had none
pub still_whole : (items : List Item) (start : Told) (now : Tree) → AreWhole ToRemove items start.source → IsPassingOn Source freed items start now → AreWhole ToRemove items now
still_whole items start now whole passing key item names found removes there =
    whole key item names found removes (λ none. there (by (key ++ names) none (passing (key ++ names))))
  where
    nothing : (o : Option Item) (target : Option Node) → pass_at freed o target None ≡ None
    nothing None target = refl
    nothing (Some item) target = refl

    by : (k : List (List ℕ)) → get start.source k ≡ None → (get now k ≡ get start.source k) ⊎ (get now k ≡ pass_at freed (item_at items k) (get start.target k) (get start.source k)) → get now k ≡ None
    by k none (inl same) = same ∙ none
    by k none (inr is) = is ∙ ap (pass_at freed (item_at items k) (get start.target k)) none ∙ nothing (item_at items k) (get start.target k)
