-- A ring as the list that it stands for, over any type of element and any room.
use Rattle.std.specs.Prelude.{ℕ, zero, suc, ◌+◌, ◌-◌, ◌<◌, ◌≡◌, List, [], ◌∷◌, get_or, ltb, if◌then◌else◌}

-- the place that p stands for, where p is below twice the room
unfoldable pub wrap : ℕ → ℕ → ℕ
wrap room p = if ltb p room then p else p - room

-- r is that place, and one of the ring's
pub record Wrapped (room p r : ℕ) : Type 0 where
  pub is : r ≡ wrap room p
  pub low : r < room

-- the n elements from place h on; d is read nowhere in a ring whose slots are as many as its room
unfoldable pub ring_list : {A : Type 0} → ℕ → A → List A → ℕ → ℕ → List A
ring_list room d slots h zero = []
ring_list room d slots h (suc n) = get_or slots h d ∷ ring_list room d slots (wrap room (h + 1)) n
