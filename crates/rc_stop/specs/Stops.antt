-- Which image of a site in memory a number picks.
use Rattle.std.specs.Prelude.{◌≡◌, ℕ, ◌+◌, ◌*◌, ◌/◌, ◌%◌, ◌==◌, ◌&&◌, min, Bool, false, true, List, [], ◌∷◌, ◌++◌, if◌then◌else◌, length, unwrap_or}
use Prim.Native.Nat.{zero, suc}
use Rattle.std.specs.FinMap as fin
use Rattle.std.specs.FinMap.{find, get}
use Rattle.rc_tree.specs.Path.{key_cmp}
use Rattle.rc_tree.specs.Tree.{Tree, IsDirectory, IsTree}
use Rattle.rc_volume.specs.declared.site.Side.TheVariants.{Source, Target}
use Rattle.rc_volume.specs.Log.{Event, NotesCall}
use Rattle.rc_volume.specs.Site.{Told}
use Rattle.rc_stop.specs.Kept.{Keys, Kept, KeptNotes, kept_in, notes_in, spoiled}

-- Draws

-- each state leads to the next one
abbrev pub next_state : ℕ → ℕ
next_state x = (6364136223846793005 * x + 1442695040888963407) % 18446744073709551616

-- what is drawn in a state
abbrev pub drawn : ℕ → ℕ
drawn x = x / 4294967296

abbrev pub is_odd : ℕ → Bool
is_odd x = drawn x % 2 == 1

-- each key takes one draw, in order: an odd one says that it is left as it was synced last
abbrev pub draws : ℕ → List (List (List ℕ)) → List (List (List ℕ) × Bool)
draws x [] = []
draws x (key ∷ keys) = (key, is_odd (next_state x)) ∷ draws (next_state x) keys

-- the state behind so many draws
abbrev pub state_behind : ℕ → List (List (List ℕ)) → ℕ
state_behind x [] = x
state_behind x (key ∷ keys) = state_behind (next_state x) keys

-- Images

-- a key that draws odd is left as it was synced last, and any other as it reads; below what is left as no directory
-- nothing is left
pub record IsPicked (odd : List (List ℕ) → Bool) (kept reads image : Tree) : Type 0 where
  pub tree : IsTree image
  pub each : (dir : List (List ℕ)) (name : List ℕ) → IsDirectory image dir → get image (dir ++ name ∷ []) ≡ get (if odd (dir ++ name ∷ []) then kept else reads) (dir ++ name ∷ [])

abbrev pub draws_odd : ℕ → Keys → List (List ℕ) → Bool
draws_odd x touched key = unwrap_or (find key_cmp key (draws x (fin.keys touched))) false

abbrev pub any_call : List NotesCall → Bool
any_call [] = false
any_call (call ∷ calls) = true

-- the record, if a call came since its last sync, by a draw of its own: as it reads, or as it was synced last, with this
-- draw's low byte in each written range below the lesser length
abbrev pub notes_left : ℕ → KeptNotes → List ℕ → List ℕ
notes_left x kept reads =
    if any_call kept.calls && is_odd (next_state x) then spoiled (drawn (next_state x) % 256) (min (length kept.bytes) (length reads)) kept.calls kept.bytes else reads

-- what is left of a side: by choice 0 what reads, by choice 1 what was synced last, and by any other what its draws pick
abbrev pub side_left : ℕ → ℕ → Kept → Tree → Tree → Type 0
side_left zero x kept reads image = image ≡ reads
side_left (suc zero) x kept reads image = image ≡ kept.tree
side_left (suc (suc n)) x kept reads image = IsPicked (draws_odd x kept.touched) kept.tree reads image

abbrev pub record_left : ℕ → ℕ → KeptNotes → List ℕ → List ℕ
record_left zero x kept reads = reads
record_left (suc zero) x kept reads = kept.bytes
record_left (suc (suc n)) x kept reads = notes_left x kept reads

-- the state in which the draws of the target begin, and that of the record
abbrev pub target_state : ℕ → List Event → ℕ
target_state choice log = state_behind choice (fin.keys (kept_in Source log).touched)

abbrev pub notes_state : ℕ → List Event → ℕ
notes_state choice log = state_behind (target_state choice log) (fin.keys (kept_in Target log).touched)

-- the image that this choice picks
pub record IsStopImage (choice : ℕ) (log : List Event) (told image : Told) : Type 0 where
  pub source : side_left choice choice (kept_in Source log) told.source image.source
  pub target : side_left choice (target_state choice log) (kept_in Target log) told.target image.target
  pub notes : image.notes ≡ record_left choice (notes_state choice log) (notes_in log) told.notes
