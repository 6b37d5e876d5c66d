-- The line that says how a run ended.
use Rattle.std.specs.Prelude.{ℕ, List, [], ◌∷◌, ◌++◌, codes, encode_utf8_all}

-- a line and its end; nothing for the empty text
abbrev pub whole_line : List ℕ → List ℕ
whole_line [] = []
whole_line (c ∷ cs) = encode_utf8_all (c ∷ cs) ++ codes "\n"
