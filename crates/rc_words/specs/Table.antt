-- The switches, in one table: their names in capitals, whether a value stands behind a colon, and which.
use Rattle.std.specs.Prelude.{ℕ, Bool, true, false, List, [], ◌∷◌, codes}
use Rattle.rc_words.specs.declared.table.Switch.{Switch}
use Rattle.rc_words.specs.declared.table.Value.{Value}
use Rattle.rc_words.specs.declared.table.Value.TheVariants as value

pub record Named : Type 0 where
  pub name : List ℕ
  pub colon : Bool
  pub value : Value

abbrev pub named : Switch → Named
named s = record { name = s.name.now; colon = s.colon; value = s.value }

abbrev plain : List ℕ → Named
plain name = record { name = name; colon = false; value = value.Nothing }

-- a switch of a list, whose values are the words that follow
abbrev list : List ℕ → Value → Named
list name value = record { name = name; colon = false; value = value }

abbrev valued : List ℕ → Value → Named
valued name value = record { name = name; colon = true; value = value }

-- those that may stand in a job file too
abbrev pub shared : List Named
shared =
    valued (codes "SD") value.Source
    ∷ valued (codes "DD") value.Target
    ∷ plain (codes "NOSD")
    ∷ plain (codes "NODD")
    ∷ list (codes "IF") value.Files
    ∷ plain (codes "S")
    ∷ plain (codes "E")
    ∷ valued (codes "LEV") (value.Number 1 65535)
    ∷ plain (codes "PURGE")
    ∷ plain (codes "MIR")
    ∷ plain (codes "MOV")
    ∷ plain (codes "MOVE")
    ∷ plain (codes "CREATE")
    ∷ valued (codes "COPY") value.Copy
    ∷ plain (codes "SEC")
    ∷ plain (codes "COPYALL")
    ∷ plain (codes "NOCOPY")
    ∷ valued (codes "DCOPY") value.Directory
    ∷ plain (codes "NODCOPY")
    ∷ plain (codes "SECFIX")
    ∷ plain (codes "TIMFIX")
    ∷ valued (codes "A+") value.Changed
    ∷ valued (codes "A-") value.Changed
    ∷ plain (codes "A")
    ∷ plain (codes "M")
    ∷ valued (codes "IA") value.Asked
    ∷ valued (codes "XA") value.Asked
    ∷ list (codes "XF") value.ExcludeFiles
    ∷ list (codes "XD") value.ExcludeDirs
    ∷ plain (codes "XC")
    ∷ plain (codes "XN")
    ∷ plain (codes "XO")
    ∷ plain (codes "XL")
    ∷ plain (codes "XX")
    ∷ plain (codes "IS")
    ∷ plain (codes "IT")
    ∷ valued (codes "MAX") (value.Number 0 18446744073709551615)
    ∷ valued (codes "MIN") (value.Number 0 18446744073709551615)
    ∷ valued (codes "MAXAGE") value.Age
    ∷ valued (codes "MINAGE") value.Age
    ∷ plain (codes "FFT")
    ∷ plain (codes "DST")
    ∷ plain (codes "X")
    ∷ plain (codes "Z")
    ∷ plain (codes "ZB")
    ∷ plain (codes "MT")
    ∷ valued (codes "MT") (value.Number 1 128)
    ∷ valued (codes "R") (value.Number 0 1000000000)
    ∷ valued (codes "W") (value.Number 0 1000000000)
    ∷ plain (codes "L")
    ∷ plain (codes "V")
    ∷ plain (codes "NFL")
    ∷ plain (codes "NDL")
    ∷ plain (codes "NC")
    ∷ plain (codes "NS")
    ∷ plain (codes "NJH")
    ∷ plain (codes "NJS")
    ∷ plain (codes "BYTES")
    ∷ plain (codes "FP")
    ∷ plain (codes "TS")
    ∷ valued (codes "SCAN") value.Scan
    ∷ plain (codes "B")
    ∷ plain (codes "J")
    ∷ plain (codes "NP")
    ∷ plain (codes "ETA")
    ∷ plain (codes "NOOFFLOAD")
    ∷ plain (codes "COMPRESS")
    ∷ plain (codes "TEE")
    ∷ valued (codes "JOB") value.JobFile
    ∷ []

-- those of a command line alone
abbrev pub alone : List Named
alone =
    valued (codes "SAVE") value.Save
    ∷ plain (codes "QUIT")
    ∷ plain (codes "DROP")
    ∷ []
