-- Which bytes are a name, and whether a name stands in a list.
use Rattle.std.specs.Prelude.{ℕ, Bool, true, false, ◌&&◌, ◌||◌, List, [], ◌∷◌}
use Rattle.std.specs.Str.{bytes_eq}
use Rattle.names.specs.Classes.{begins, goes}

-- every byte goes on with a name
abbrev pub all_go : List ℕ → Bool
all_go [] = true
all_go (b ∷ bs) = goes b && all_go bs

-- of any length but 0
abbrev pub is_name : List ℕ → Bool
is_name [] = false
is_name (b ∷ bs) = begins b && all_go bs

abbrev pub member : List ℕ → List (List ℕ) → Bool
member x [] = false
member x (y ∷ ys) = bytes_eq y x || member x ys
