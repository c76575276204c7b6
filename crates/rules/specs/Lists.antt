-- A list of gaps at its two ends. The code has rings where the rules have lists.
use Rattle.std.specs.Prelude.{ℕ, Bool, true, false, List, [], ◌∷◌, leb, if◌then◌else◌, Option, Some, None}
use Rattle.rules.specs.Names.{Gap}

abbrev pub is_nil : {A : Type 0} → List A → Bool
is_nil [] = true
is_nil (x ∷ l) = false

-- all but the first
abbrev pub rest : {A : Type 0} → List A → List A
rest [] = []
rest (x ∷ l) = l

abbrev pub front_of : List Gap → Option Gap
front_of [] = None
front_of (g ∷ l) = Some g

abbrev pub back_of : List Gap → Option Gap
back_of [] = None
back_of (g ∷ []) = Some g
back_of (g ∷ h ∷ l) = back_of (h ∷ l)

-- the last becomes x
abbrev pub set_back : {A : Type 0} → List A → A → List A
set_back [] x = x ∷ []
set_back (y ∷ []) x = x ∷ []
set_back (y ∷ z ∷ l) x = y ∷ set_back (z ∷ l) x

-- the ranges that end at or below n go from the front
abbrev pub drop_below : ℕ → List Gap → List Gap
drop_below n [] = []
drop_below n (g ∷ l) = if leb g.end.0 n then drop_below n l else g ∷ l
