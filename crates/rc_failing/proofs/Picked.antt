-- How often the reads of files fail: one file more.
use Rattle.std.proofs.Common.{◌≡◌, ℕ, ◌+◌, ◌<◌, List, length, max, get_or, take, Some, refl, sym, ap, subst, ◌∙◌}
use Rattle.std.specs.Prelude.{unwrap_or}
use Rattle.std.specs.List.{All}
use Rattle.std.specs.BTreeMap.{BTreeMap, Updates}
use Rattle.std.proofs.lemmas.List.Elements.{All-more}
use Rattle.rc_tree.specs.Path.{key_of, key_cmp}
use Rattle.rc_tree.proofs.Keys.{key_cmp-IsAntisymmetric}
use Rattle.rc_volume.specs.declared.site.Part.{Part}
use Rattle.rc_volume.specs.declared.site.Part.TheVariants.{Source, Target, Record}
use Rattle.rc_volume.specs.declared.want.Want.{Want}
use Rattle.rc_mem.proofs.Maps.{PutsAt, puts-from_updates}
use Rattle.rc_mem.proofs.Trees.{differ_or}
use Rattle.rc_failing.specs.declared.named.Named.{Named}
use Rattle.rc_failing.specs.Named.{NamesReads, numbers_on, times_at}

abbrev pub Times : Type 0
Times = BTreeMap (List (List ℕ)) ℕ

-- a file is read as often in vain as in the map that was named
abbrev pub IsPicked : Times → Times → Want → Type 0
IsPicked named reads want = times_at reads (key_of want.path) ≡ times_at named (key_of want.path)

-- one more file
pub picked-more : (named old new : Times) (wants : List Want) (i : ℕ) (want : Want) (key : List (List ℕ)) (times : ℕ) → All (IsPicked named old) (take i wants) → i < length wants → want ≡ get_or wants i want
    → key ≡ key_of want.path → times ≡ times_at named key → Updates key_cmp old new key (Some times) → All (IsPicked named new) (take (i + 1) wants)
picked-more named old new wants i want key times picked lt is key_is times_is updates =
    let puts : PutsAt key_cmp key (Some times) old new = puts-from_updates key_cmp-IsAntisymmetric key (Some times) old new updates in
    let here : times_at new key ≡ times_at named key = ap (λ o. unwrap_or o 0) puts.here ∙ times_is in
    let stays : (w : Want) → IsPicked named old w → IsPicked named new w = (λ w was. differ_or (key_of w.path) key
    (λ e. subst (λ (q : List (List ℕ)). times_at new q ≡ times_at named q) (sym e) here)
    (λ apart. ap (λ o. unwrap_or o 0) (puts.others (key_of w.path) apart) ∙ was)) in
    All-more (IsPicked named new) wants i want lt (λ j d less. stays (get_or (take i wants) j d) (picked j d less))
    (subst (IsPicked named new) is (subst (λ (q : List (List ℕ)). times_at new q ≡ times_at named q) key_is here))

still : (named : Named) (reads : Times) (at : Part) → numbers_on (record named { reads = reads }) at ≡ numbers_on named at
still named reads Source = refl
still named reads Target = refl
still named reads Record = refl

-- the file that is named fails so often now, and the others as before
pub read-named : (key : List (List ℕ)) (times : ℕ) (named : Named) (reads : Times) (at : List (List ℕ)) (most : ℕ) → at ≡ key → most ≡ max (times_at named.reads at) times
    → Updates key_cmp named.reads reads at (Some most) → NamesReads key times named (record named { reads = reads })
read-named key times named reads at most at_is most_is updates =
    let puts : PutsAt key_cmp at (Some most) named.reads reads = puts-from_updates key_cmp-IsAntisymmetric at (Some most) named.reads reads updates in
    subst (λ (k : List (List ℕ)). NamesReads k times named (record named { reads = reads })) at_is (record {
      here = ap (λ o. unwrap_or o 0) puts.here ∙ most_is;
      others = λ other apart. ap (λ o. unwrap_or o 0) (puts.others other apart);
      calls = record { numbers = still named reads; kind = refl };
    })
