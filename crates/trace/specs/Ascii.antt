-- A quoted text as the list of its bytes: every character of 01's lines is one byte.
use Rattle.std.specs.Prelude.{ℕ, List, [] as []ᴸ, ◌∷◌ as ◌∷ᴸ◌}
use Prim.Native.Char.{code}
use Prim.Native.String.{String, [], ◌∷◌}

abbrev pub ascii : String → List ℕ
ascii [] = []ᴸ
ascii (c ∷ s) = code c ∷ᴸ ascii s
