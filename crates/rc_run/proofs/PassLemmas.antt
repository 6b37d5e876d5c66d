-- What the passes of a run make of the target, one behind another.
use Rattle.std.proofs.Common.{◌≡◌, ℕ, true, false, List, [], Option, Some, None, inl, inr, ⊎_elim, refl, sym, ap, subst, ◌∙◌}
use Rattle.std.proofs.lemmas.Bool.{true≢false}
use Rattle.std.specs.Prelude.{◌⊎◌}
use Rattle.std.specs.FinMap.{get}
use Rattle.rc_tree.specs.declared.attr.Kind.{Kind}
use Rattle.rc_tree.specs.declared.attr.Kind.TheVariants.{File, Dir}
use Rattle.rc_tree.specs.Tree.{Node, Tree}
use Rattle.rc_class.specs.declared.class.Class.{Class}
use Rattle.rc_class.specs.declared.class.Class.TheVariants as class
use Rattle.rc_class.specs.declared.decision.Act.{Act}
use Rattle.rc_class.specs.declared.decision.Act.TheVariants.{Copy, Make, Touch, Fix, Purge, Extra, Mismatch, Keep}
use Rattle.rc_class.specs.declared.item.Item.{Item}
use Rattle.rc_class.specs.Goal.{directory_props, fresh_attr, fresh_props}
use Rattle.rc_class.specs.Items.{item_at}
use Rattle.rc_class.specs.Sides.{Beside, IsEntryOf, may_act}
use Rattle.rc_class.specs.Units.{is_copy}
use Rattle.rc_copy.specs.declared.copying.Copying.{Copying}
use Rattle.rc_copy.specs.Copying.{AreBetween, IsOnItsWay, copied, goal_under, readied}
use Rattle.rc_finish.specs.Passes.{HasPassed, IsPassing, Pass, directory_at, given, made, pass_at, purged}
use Rattle.rc_volume.specs.Site.{Told}
use Rattle.rc_run.specs.Under.{AreUnderWay, HasBegun, HaveGoals, IsUnderWay}

-- One key

-- the item under another act
abbrev under : Item → Act → Item
under item does = record item { act = does }

-- what all passes make of what an item's key has
abbrev by_passes : Copying → Item → Option Node → Option Node → Option Node
by_passes copying item source old =
    given copying.rules copying.moment item source (copied copying item source (readied item source old))

-- a directory that is made is one that only the source has
making : (c : Class) (k : Kind) → may_act c k Make ≡ true → c ≡ class.Lonely
making class.Lonely k fits = refl
making class.Same Dir fits = absurd (true≢false (sym fits))
making class.Same File fits = absurd (true≢false (sym fits))
making class.Tweaked Dir fits = absurd (true≢false (sym fits))
making class.Tweaked File fits = absurd (true≢false (sym fits))
making class.Newer Dir fits = absurd (true≢false (sym fits))
making class.Newer File fits = absurd (true≢false (sym fits))
making class.Older Dir fits = absurd (true≢false (sym fits))
making class.Older File fits = absurd (true≢false (sym fits))
making class.Changed Dir fits = absurd (true≢false (sym fits))
making class.Changed File fits = absurd (true≢false (sym fits))
making class.Extra Dir fits = absurd (true≢false (sym fits))
making class.Extra File fits = absurd (true≢false (sym fits))
making class.Mismatched Dir fits = absurd (true≢false (sym fits))
making class.Mismatched File fits = absurd (true≢false (sym fits))

-- and gets the goal
made_goal : (copying : Copying) (item : Item) (source old : Option Node) → IsEntryOf item source → old ≡ None → by_passes copying (under item Make) source old ≡ goal_under copying (Some (under item Make)) source old
made_goal copying item source old entry none =
    ap (λ (s : Option Node). by_passes copying (under item Make) s old) entry.stands
    ∙ ap (λ (o : Option Node). by_passes copying (under item Make) (Some entry.node) o) none
    ∙ ap (λ (name : List ℕ). Some (record { spelling = name; kind = Dir; bytes = []; props = directory_props copying.rules entry.node.props (fresh_props (fresh_attr Dir) copying.moment) })) entry.spelled
    ∙ sym (ap (λ (s : Option Node). goal_under copying (Some (under item Make)) s old) entry.stands)

by_act : (copying : Copying) (item : Item) (source old : Option Node) (does : Act) → Beside item.class item source old → may_act item.class item.facts.kind does ≡ true → by_passes copying (under item does) source old ≡ goal_under copying (Some (under item does)) source old
by_act copying item source old Make sides fits =
    let lonely : Beside class.Lonely item source old = subst (λ (c : Class). Beside c item source old) (making item.class item.facts.kind fits) sides in
    made_goal copying item source old lonely.0 lonely.1
by_act copying item None old Copy sides fits = refl
by_act copying item (Some from) old Copy sides fits = refl
by_act copying item None old Touch sides fits = refl
by_act copying item (Some from) None Touch sides fits = refl
by_act copying item (Some from) (Some node) Touch sides fits = refl
by_act copying item None old Fix sides fits = refl
by_act copying item (Some from) None Fix sides fits = refl
by_act copying item (Some from) (Some node) Fix sides fits = refl
by_act copying item None old Purge sides fits = refl
by_act copying item (Some from) old Purge sides fits = refl
by_act copying item None old Extra sides fits = refl
by_act copying item (Some from) old Extra sides fits = refl
by_act copying item None old Mismatch sides fits = refl
by_act copying item (Some from) old Mismatch sides fits = refl
by_act copying item None old (Keep reason) sides fits = refl
by_act copying item (Some from) old (Keep reason) sides fits = refl

-- what an item says of its key, as far as the passes need it
pub record IsPassable (item : Item) (source old : Option Node) : Type 0 where
  pub beside : Beside item.class item source old
  pub allowed : may_act item.class item.facts.kind item.act ≡ true

abbrev pub ArePassable : List Item → Told → Type 0
ArePassable items told = (key : List (List ℕ)) (item : Item) → item_at items key ≡ Some item → IsPassable item (get told.source key) (get told.target key)

pub goal_by_passes : (copying : Copying) (item : Item) (source old : Option Node) → IsPassable item source old → by_passes copying item source old ≡ goal_under copying (Some item) source old
goal_by_passes copying item source old is = by_act copying item source old item.act is.beside is.allowed

-- where a directory is made the target had nothing
pub lonely_none : (item : Item) (source old : Option Node) → IsPassable item source old → item.act ≡ Make → old ≡ None
lonely_none item source old is makes =
    let fits : may_act item.class item.facts.kind Make ≡ true = ap (may_act item.class item.facts.kind) (sym makes) ∙ is.allowed in
    (subst (λ (c : Class). Beside c item source old) (making item.class item.facts.kind fits) is.beside).1

-- The target is readied

-- each entry stands as at the start, or what stands there is made and purged
abbrev Readied : Act → Item → Option Node → Option Node → Option Node → Type 0
Readied does item source old now = (now ≡ old) ⊎ (now ≡ readied (under item does) source old)

-- while directories are made
readied_made : (item : Item) (source old now : Option Node) (does : Act) → (now ≡ old) ⊎ (now ≡ made (under item does) source old) → Readied does item source old now
readied_made item source old now Purge at = inl (⊎_elim (λ same. same) (λ same. same) at)
readied_made item source old now _ at = at

-- while entries are purged
readied_purged : (item : Item) (source old one now : Option Node) (does : Act) → one ≡ made (under item does) source old → (now ≡ one) ⊎ (now ≡ purged (under item does) source one) → Readied does item source old now
readied_purged item source old one now Purge makes at = ⊎_elim (λ same. inl (same ∙ makes)) (λ none. inr none) at
readied_purged item source old one now _ makes at = inr (⊎_elim (λ same. same ∙ makes) (λ same. same ∙ makes) at)

pub readying_made : (items : List Item) (start : Told) (now : Tree) → IsPassing made items start now → IsPassing readied items start now
readying_made items start now passing key = by (item_at items key) (passing key)
  where
    by : (found : Option Item) → (get now key ≡ get start.target key) ⊎ (get now key ≡ pass_at made found (get start.source key) (get start.target key)) → (get now key ≡ get start.target key) ⊎ (get now key ≡ pass_at readied found (get start.source key) (get start.target key))
    by None at = at
    by (Some item) at = readied_made item (get start.source key) (get start.target key) (get now key) item.act at

pub readying_purged : (items : List Item) (start one : Told) (now : Tree) → HasPassed made items start one.target → one.source ≡ start.source → IsPassing purged items one now → IsPassing readied items start now
readying_purged items start one now makes same passing key =
    by (item_at items key) (makes key)
    (subst (λ (s : Tree). (get now key ≡ get one.target key) ⊎ (get now key ≡ pass_at purged (item_at items key) (get s key) (get one.target key))) same (passing key))
  where
    by : (found : Option Item) → get one.target key ≡ pass_at made found (get start.source key) (get start.target key) → (get now key ≡ get one.target key) ⊎ (get now key ≡ pass_at purged found (get start.source key) (get one.target key)) → (get now key ≡ get start.target key) ⊎ (get now key ≡ pass_at readied found (get start.source key) (get start.target key))
    by None first at = inl (⊎_elim (λ is. is ∙ first) (λ is. is ∙ first) at)
    by (Some item) first at = readied_purged item (get start.source key) (get start.target key) (get one.target key) (get now key) item.act first at

pub all_readied : (items : List Item) (start one : Told) (now : Tree) → HasPassed made items start one.target → one.source ≡ start.source → HasPassed purged items one now → HasPassed readied items start now
all_readied items start one now makes same purges key =
    purges key
    ∙ ap (λ (s : Tree). pass_at purged (item_at items key) (get s key) (get one.target key)) same
    ∙ ap (λ (o : Option Node). pass_at purged (item_at items key) (get start.source key) o) (makes key)
    ∙ by (item_at items key)
  where
    by : (found : Option Item) → pass_at purged found (get start.source key) (pass_at made found (get start.source key) (get start.target key)) ≡ pass_at readied found (get start.source key) (get start.target key)
    by None = refl
    by (Some item) = refl

-- All keys, when all passes are done

pub goals_by_passes : (copying : Copying) (items : List Item) (start one two end : Told) → ArePassable items start → one.source ≡ start.source → two.source ≡ start.source → HasPassed readied items start one.target → HasPassed (copied copying) items one two.target → HasPassed (given copying.rules copying.moment) items two end.target → HaveGoals copying items start end.target
goals_by_passes copying items start one two end are first second makes copies gives key =
    gives key
    ∙ ap (λ (t : Tree). pass_at (given copying.rules copying.moment) (item_at items key) (get t key) (get two.target key)) second
    ∙ ap (λ (o : Option Node). pass_at (given copying.rules copying.moment) (item_at items key) (get start.source key) o)
    (copies key ∙ ap (λ (t : Tree). pass_at (copied copying) (item_at items key) (get t key) (get one.target key)) first)
    ∙ ap (λ (o : Option Node). pass_at (given copying.rules copying.moment) (item_at items key) (get start.source key) (pass_at (copied copying) (item_at items key) (get start.source key) o)) (makes key)
    ∙ by (item_at items key) refl
  where
    source : Option Node
    source = get start.source key

    old : Option Node
    old = get start.target key

    by : (found : Option Item) → item_at items key ≡ found → pass_at (given copying.rules copying.moment) found (get start.source key) (pass_at (copied copying) found (get start.source key) (pass_at readied found (get start.source key) (get start.target key))) ≡ goal_under copying found (get start.source key) (get start.target key)
    by None e = none (get start.source key) (get start.target key)
      where
        none : (s o : Option Node) → o ≡ goal_under copying None s o
        none s o = refl
    by (Some item) e = goal_by_passes copying item (get start.source key) (get start.target key) (are key item e)

-- One key on the way

copies_no_other : (does : Act) → is_copy does ≡ true → does ≡ Copy
copies_no_other Copy e = refl
copies_no_other Make e = absurd (true≢false (sym e))
copies_no_other Touch e = absurd (true≢false (sym e))
copies_no_other Fix e = absurd (true≢false (sym e))
copies_no_other Purge e = absurd (true≢false (sym e))
copies_no_other Extra e = absurd (true≢false (sym e))
copies_no_other Mismatch e = absurd (true≢false (sym e))
copies_no_other (Keep reason) e = absurd (true≢false (sym e))

-- what is purged has its goal
purged_goal : (copying : Copying) (item : Item) (source old : Option Node) → None ≡ goal_under copying (Some (under item Purge)) source old
purged_goal copying item None old = refl
purged_goal copying item (Some from) old = refl

-- where directories are made and entries purged, or some of them
begun_readied : (copying : Copying) (item : Item) (source old now : Option Node) (does : Act) → (now ≡ old) ⊎ (now ≡ readied (under item does) source old) → (now ≡ old) ⊎ HasBegun copying (under item does) does source old now
begun_readied copying item source old now Make at = ⊎_elim (λ same. inl same) (λ is. inr (inl is)) at
begun_readied copying item source old now Copy at = inl (⊎_elim (λ same. same) (λ same. same) at)
begun_readied copying item source old now Touch at = inl (⊎_elim (λ same. same) (λ same. same) at)
begun_readied copying item source old now Fix at = inl (⊎_elim (λ same. same) (λ same. same) at)
begun_readied copying item source old now Purge at = ⊎_elim (λ same. inl same) (λ none. inr (none ∙ purged_goal copying item source old)) at
begun_readied copying item source old now Extra at = inl (⊎_elim (λ same. same) (λ same. same) at)
begun_readied copying item source old now Mismatch at = inl (⊎_elim (λ same. same) (λ same. same) at)
begun_readied copying item source old now (Keep reason) at = inl (⊎_elim (λ same. same) (λ same. same) at)

-- a file is copied, or is not
abbrev Copies : Copying → Item → Act → Option Node → Option Node → Option Node → Type 0
Copies copying item does source old now = (now ≡ old) ⊎ ((is_copy does ≡ true) × IsOnItsWay copying (under item does) source old now)

abbrev Gives : Copying → Item → Act → Option Node → Option Node → Option Node → Type 0
Gives copying item does source old now = (now ≡ old) ⊎ (now ≡ given copying.rules copying.moment (under item does) source old)

-- an act of no copy leaves the file
uncopied : (copying : Copying) (item : Item) (does : Act) (source old now : Option Node) → is_copy does ≡ false → Copies copying item does source old now → now ≡ old
uncopied copying item does source old now none at = ⊎_elim (λ same. same) (λ copies. absurd (true≢false (sym copies.0 ∙ none))) at

-- an act that gives nothing leaves what stands
given_none : (copying : Copying) (item : Item) (does : Act) (source old now : Option Node) → ((s : Option Node) → given copying.rules copying.moment (under item does) s old ≡ old) → Gives copying item does source old now → now ≡ old
given_none copying item does source old now none at = ⊎_elim (λ same. same) (λ is. is ∙ none source) at

gives_nothing : (copying : Copying) (item : Item) (old : Option Node) (does : Act) → (does ≡ Make → ⊥) → (does ≡ Touch → ⊥) → (does ≡ Fix → ⊥) → (s : Option Node) → given copying.rules copying.moment (under item does) s old ≡ old
gives_nothing copying item old does make touch fix None = refl
gives_nothing copying item old Copy make touch fix (Some from) = refl
gives_nothing copying item old Make make touch fix (Some from) = absurd (make refl)
gives_nothing copying item old Touch make touch fix (Some from) = absurd (touch refl)
gives_nothing copying item old Fix make touch fix (Some from) = absurd (fix refl)
gives_nothing copying item old Purge make touch fix (Some from) = refl
gives_nothing copying item old Extra make touch fix (Some from) = refl
gives_nothing copying item old Mismatch make touch fix (Some from) = refl
gives_nothing copying item old (Keep reason) make touch fix (Some from) = refl

-- where files are copied, or some of them, and properties given
begun_all : (copying : Copying) (item : Item) (source old one two now : Option Node) (does : Act) → Beside item.class item source old → may_act item.class item.facts.kind does ≡ true → one ≡ readied (under item does) source old → Copies copying item does source one two → Gives copying item does source two now → (now ≡ old) ⊎ HasBegun copying (under item does) does source old now
begun_all copying item source old one two now Make sides fits makes copies gives =
    let same : two ≡ directory_at item.path old = uncopied copying item Make source one two refl copies ∙ makes in
    ⊎_elim
    (λ (stays : now ≡ two). inr (inl (stays ∙ same)))
    (λ (is : now ≡ given copying.rules copying.moment (under item Make) source two).
    inr (inr (is
    ∙ ap (λ (o : Option Node). given copying.rules copying.moment (under item Make) source o) same
    ∙ by_act copying item source old Make sides fits)))
    gives
begun_all copying item source old one two now Copy sides fits makes copies gives =
    let stays : now ≡ two = given_none copying item Copy source two now (gives_nothing copying item two Copy (λ e. cc) (λ e. cc) (λ e. cc)) gives in
    ⊎_elim
    (λ (same : two ≡ one). inl (stays ∙ same ∙ makes))
    (λ copies. inr (subst (λ (o : Option Node). IsOnItsWay copying (under item Copy) source o now) makes
    (subst (λ (o : Option Node). IsOnItsWay copying (under item Copy) source one o) (sym stays) copies.1)))
    copies
begun_all copying item source old one two now Touch sides fits makes copies gives =
    let same : two ≡ old = uncopied copying item Touch source one two refl copies ∙ makes in
    ⊎_elim
    (λ (stays : now ≡ two). inl (stays ∙ same))
    (λ (is : now ≡ given copying.rules copying.moment (under item Touch) source two).
    inr (is ∙ ap (λ (o : Option Node). given copying.rules copying.moment (under item Touch) source o) same ∙ by_act copying item source old Touch sides fits))
    gives
begun_all copying item source old one two now Fix sides fits makes copies gives =
    let same : two ≡ old = uncopied copying item Fix source one two refl copies ∙ makes in
    ⊎_elim
    (λ (stays : now ≡ two). inl (stays ∙ same))
    (λ (is : now ≡ given copying.rules copying.moment (under item Fix) source two).
    inr (is ∙ ap (λ (o : Option Node). given copying.rules copying.moment (under item Fix) source o) same ∙ by_act copying item source old Fix sides fits))
    gives
begun_all copying item source old one two now Purge sides fits makes copies gives =
    inr (given_none copying item Purge source two now (gives_nothing copying item two Purge (λ e. cc) (λ e. cc) (λ e. cc)) gives
    ∙ uncopied copying item Purge source one two refl copies ∙ makes ∙ purged_goal copying item source old)
begun_all copying item source old one two now Extra sides fits makes copies gives = inl (given_none copying item Extra source two now (gives_nothing copying item two Extra (λ e. cc) (λ e. cc) (λ e. cc)) gives ∙ uncopied copying item Extra source one two refl copies ∙ makes)
begun_all copying item source old one two now Mismatch sides fits makes copies gives = inl (given_none copying item Mismatch source two now (gives_nothing copying item two Mismatch (λ e. cc) (λ e. cc) (λ e. cc)) gives ∙ uncopied copying item Mismatch source one two refl copies ∙ makes)
begun_all copying item source old one two now (Keep reason) sides fits makes copies gives = inl (given_none copying item (Keep reason) source two now (gives_nothing copying item two (Keep reason) (λ e. cc) (λ e. cc) (λ e. cc)) gives ∙ uncopied copying item (Keep reason) source one two refl copies ∙ makes)

-- All keys on the way

abbrev UnderWayAt : Copying → List Item → List (List ℕ) → Option Node → Option Node → Option Node → Type 0
UnderWayAt copying items key source old now = (now ≡ old) ⊎ IsUnderWay copying items key source old now

begun_at : (copying : Copying) (items : List Item) (key : List (List ℕ)) (source old now : Option Node) (item : Item) → item_at items key ≡ Some item → (now ≡ old) ⊎ HasBegun copying item item.act source old now → UnderWayAt copying items key source old now
begun_at copying items key source old now item e at = ⊎_elim (λ same. inl same) (λ begun. inr (record { item = item; decided = e; begun = begun })) at

-- while the target is readied
pub readying_under_way : (copying : Copying) (items : List Item) (start : Told) (now : Tree) → IsPassing readied items start now → AreUnderWay copying items start now
readying_under_way copying items start now passing key = by (item_at items key) refl
  where
    by : (found : Option Item) → item_at items key ≡ found → UnderWayAt copying items key (get start.source key) (get start.target key) (get now key)
    by None e = inl (⊎_elim (λ same. same) (λ is. is ∙ ap (λ (o : Option Item). pass_at readied o (get start.source key) (get start.target key)) e) (passing key))
    by (Some item) e =
        begun_at copying items key _ _ _ item e
        (begun_readied copying item (get start.source key) (get start.target key) (get now key) item.act
        (⊎_elim (λ same. inl same) (λ is. inr (is ∙ ap (λ (o : Option Item). pass_at readied o (get start.source key) (get start.target key)) e)) (passing key)))

-- behind that, while files are copied and properties given
pub all_under_way : (copying : Copying) (items : List Item) (start one two : Told) (now : Tree) → ArePassable items start → one.source ≡ start.source → two.source ≡ start.source → HasPassed readied items start one.target → AreBetween copying items one two.target → IsPassing (given copying.rules copying.moment) items two now → AreUnderWay copying items start now
all_under_way copying items start one two now are first second makes copies gives key = by (item_at items key) refl
  where
    source_one : get one.source key ≡ get start.source key
    source_one = ap (λ (t : Tree). get t key) first

    source_two : get two.source key ≡ get start.source key
    source_two = ap (λ (t : Tree). get t key) second

    same_item : (item other : Item) → Some item ≡ Some other → item ≡ other
    same_item item other e = cc

    by : (found : Option Item) → item_at items key ≡ found → UnderWayAt copying items key (get start.source key) (get start.target key) (get now key)
    by None e =
        let no_making : get one.target key ≡ get start.target key = makes key ∙ ap (λ (o : Option Item). pass_at readied o (get start.source key) (get start.target key)) e in
        let no_copy : get two.target key ≡ get one.target key = ⊎_elim (λ same. same) (λ changed. absurd (let both = sym e ∙ changed.decided in cc)) (copies key) in
        let no_props : get now key ≡ get two.target key = ⊎_elim (λ same. same) (λ is. is ∙ ap (λ (o : Option Item). pass_at (given copying.rules copying.moment) o (get two.source key) (get two.target key)) e) (gives key) in
        inl (no_props ∙ no_copy ∙ no_making)
    by (Some item) e =
        let says = are key item e in
        begun_at copying items key _ _ _ item e
        (begun_all copying item (get start.source key) (get start.target key) (get one.target key) (get two.target key) (get now key) item.act says.beside says.allowed
        (makes key ∙ ap (λ (o : Option Item). pass_at readied o (get start.source key) (get start.target key)) e)
        (⊎_elim (λ same. inl same)
        (λ changed.
        let is : changed.item ≡ item = same_item changed.item item (sym changed.decided ∙ e) in
        inr (
          subst (λ (i : Item). is_copy i.act ≡ true) is changed.copies,
          subst (λ (s : Option Node). IsOnItsWay copying item s (get one.target key) (get two.target key)) source_one
              (subst (λ (i : Item). IsOnItsWay copying i (get one.source key) (get one.target key) (get two.target key)) is changed.way),
        ))
        (copies key))
        (⊎_elim (λ same. inl same)
        (λ is. inr (is
        ∙ ap (λ (o : Option Item). pass_at (given copying.rules copying.moment) o (get two.source key) (get two.target key)) e
        ∙ ap (λ (s : Option Node). given copying.rules copying.moment item s (get two.target key)) source_two))
        (gives key)))

-- no properties are given yet
pub none_given : (pass : Pass) (items : List Item) (told : Told) → IsPassing pass items told told.target
none_given pass items told key = inl refl
