-- A place in a text, shown as two lines: the text, and below it a caret under the byte at the place.
use Rattle.std.specs.Prelude.{◌≡◌, ℕ, ◌+◌, ◌-◌, ◌<◌, ◌≤◌, Bool, cond, ◌&&◌, List, [], ◌++◌, map, length, take, drop, replicate, codes, nat_le, nat_lt, slice_index}

-- bytes 32 to 126 stand as themselves, each other byte as '?'
abbrev pub column_of : ℕ → ℕ
column_of b = cond (nat_le 32 b && nat_le b 126) b 63

-- one column a byte
abbrev pub columns : List ℕ → List ℕ
columns bs = map column_of bs

abbrev pub blanks : ℕ → List ℕ
blanks n = replicate n 32

-- what stands for bytes that are cut off
abbrev pub dots : Bool → List ℕ
dots cut = cond cut (codes "...") []

-- the first byte that is shown: at most 60 stand before the place
abbrev pub start_of : ℕ → ℕ
start_of place = place - 60

-- how many columns stand before the byte at the place
abbrev pub column_at : ℕ → ℕ
column_at place = length (dots (nat_lt 0 (start_of place))) + (place - start_of place)

-- at most 76 bytes of the text, with dots where others are cut off
abbrev pub text_line : List ℕ → ℕ → List ℕ
text_line text place =
    dots (nat_lt 0 (start_of place))
    ++ (columns (take 76 (drop (start_of place) text)) ++ dots (nat_lt 76 (length (drop (start_of place) text))))

abbrev pub caret_line : ℕ → List ℕ
caret_line place = blanks (column_at place) ++ codes "^"

abbrev pub pointed : List ℕ → ℕ → List ℕ
pointed text place = text_line text place ++ (codes "\n" ++ caret_line place)

-- what stands above the caret: the byte at the place, or the end of the text's line where the text ends at the place
abbrev pub CaretBelow : Type 0
CaretBelow =
    (text : List ℕ) (place : ℕ)
    → (place < length text → slice_index (text_line text place) (column_at place) ≡ column_of (slice_index text place))
    × (place ≡ length text → length (text_line text place) ≡ column_at place)

-- both lines fit into 82 columns
abbrev pub LinesFit : Type 0
LinesFit = (text : List ℕ) (place : ℕ) → (length (text_line text place) ≤ 82) × (length (caret_line place) ≤ 82)
