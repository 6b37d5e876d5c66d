-- Lines of settings, each with the words and the settings that they are read as.
use Rattle.std.proofs.Common.{◌≡◌, ℕ, ◌≤◌, Bool, true, List, [], ◌∷◌, ◌++◌, map, refl, sym, ap, subst, ◌∙◌, append_assoc}
use Rattle.std.specs.List.{flat_map, list_all}
use Rattle.rc_job.specs.Settings.{Setting as Written, text_of, written}
use Rattle.rc_job.specs.Values.{Lines}
use Rattle.rc_words.specs.declared.setting.Setting.{Setting}
use Rattle.rc_words.specs.declared.setting.Word.{Word}
use Rattle.rc_jobfiles.proofs.Lexed.{Gives, LinesGive}
use Rattle.rc_jobfiles.proofs.Stretches.{InOrder, Stretch, flat, is_within, start}
use Rattle.rc_jobfiles.proofs.Worded.{Reads, Unused, WordsMean, nothing_read}

-- lines whose words are read as these settings, of switches with numbers from one bound on and below another
pub record Block (k next : ℕ) (lines : Lines) (settings : List Setting) : Type 0 where
  pub words : List Word
  pub lexed : LinesGive lines words
  pub mean : WordsMean k next words settings
  pub within : list_all (is_within k next) settings ≡ true
  pub rising : k ≤ next

-- what is written of each setting is a block of its stretch
abbrev pub Blocks : ℕ → List Written → List Stretch → Type 0
Blocks end [] [] = Unit {0}
Blocks end [] (t ∷ ts) = ⊥
Blocks end (s ∷ ss) [] = ⊥
Blocks end (s ∷ ss) (t ∷ ts) = Block t.least (start end ts) s.lines t.settings × Blocks end ss ts

start_more : (end mid : ℕ) (ts us : List Stretch) → start end us ≡ mid → start end (ts ++ us) ≡ start mid ts
start_more end mid [] us e = e
start_more end mid (t ∷ ts) us e = refl

pub both_blocks : (end mid : ℕ) (xs ys : List Written) (ts us : List Stretch) → start end us ≡ mid → Blocks mid xs ts → Blocks end ys us → Blocks end (xs ++ ys) (ts ++ us)
both_blocks end mid [] ys [] us e first second = second
both_blocks end mid [] ys (t ∷ ts) us e first second = absurd first
both_blocks end mid (x ∷ xs) ys [] us e first second = absurd first
both_blocks end mid (x ∷ xs) ys (t ∷ ts) us e first second = (
  subst (λ (n : ℕ). Block t.least n x.lines t.settings) (sym (start_more end mid ts us e)) first.0,
  both_blocks end mid xs ys ts us e first.1 second,
)

pub in_order : (end : ℕ) (ss : List Written) (ts : List Stretch) → Blocks end ss ts → InOrder end ts
in_order end [] [] are = tt
in_order end [] (t ∷ ts) are = absurd are
in_order end (s ∷ ss) [] are = absurd are
in_order end (s ∷ ss) (t ∷ ts) are = (are.0.rising, are.0.within, in_order end ss ts are.1)

-- the words of a text, and the settings that they give behind others
pub record Told (text : List ℕ) (k : ℕ) (settings : List Setting) : Type 0 where
  pub words : List Word
  pub gives : Gives text words
  pub reads : (all before : List Word) (place : ℕ) → Unused all before k → Reads all before words place settings

pub told : (end : ℕ) (ss : List Written) (ts : List Stretch) → Blocks end ss ts → Told (written ss) (start end ts) (flat ts)
told end [] [] are = record { words = []; gives = λ place. refl; reads = λ all before place unused. nothing_read all before place }
told end [] (t ∷ ts) are = absurd are
told end (s ∷ ss) [] are = absurd are
told end (s ∷ ss) (t ∷ ts) are =
    let later = told end ss ts are.1 in
    record {
      words = are.0.words ++ later.words;
      gives = are.0.lexed (written ss) later.words later.gives;
      reads = λ all before place unused. are.0.mean all before later.words place (flat ts) unused (λ behind at. later.reads all behind at);
    }
