-- The settings of a list of words with those of the job files that it names, and how they are merged.
use Rattle.std.specs.Prelude.{List, [], ◌∷◌, ◌++◌, Option, None}
use Rattle.std.specs.Option.{option_or}
use Rattle.rc_words.specs.declared.setting.Placed.{Placed}

-- a list's settings in their order; behind a `/JOB:` stand those of its file
pub data Parts : Type 0 where
  NoPart : Parts
  OwnPart : Placed → Parts → Parts
  FilePart : Placed → Parts → Parts → Parts

-- the settings that the list's own words give
abbrev pub own : Parts → List Placed
own NoPart = []
own (OwnPart p ps) = p ∷ own ps
own (FilePart p inner ps) = p ∷ own ps

-- all settings, as though each file's words stood in the place of its `/JOB:`
abbrev pub all : Parts → List Placed
all NoPart = []
all (OwnPart p ps) = p ∷ all ps
all (FilePart p inner ps) = all inner ++ all ps

-- A value that some lists of words give
module _ {A : Type 0} (value : List Placed → Option A) where
  -- that of the last file named in a list that has one
  abbrev pub of_files : Parts → Option A
  of_files NoPart = None
  of_files (OwnPart p ps) = of_files ps
  of_files (FilePart p inner ps) = option_or (of_files ps) (option_or (value (own inner)) (of_files inner))

  -- a list's own value where its words give one, else that of the last file named in it that has one
  abbrev pub picked : Parts → Option A
  picked ps = option_or (value (own ps)) (of_files ps)
