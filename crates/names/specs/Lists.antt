-- A name list: names, each ended by byte 10, at most 1,024 of them, each of at most 32 bytes, none twice.
use Rattle.std.specs.Prelude.{◌≡◌, ℕ, ◌+◌, ◌-◌, ◌<◌, ◌≤◌, Bool, true, cond, not, ◌&&◌, ◌↔◌, List, [], ◌∷◌, ◌++◌, length, Some, None, Option, ◌==◌, ◌≢◌, nat_le, nat_lt, slice_index_or}
use Rattle.std.specs.List.{AllByRecursion}
use Rattle.std.specs.Str.{bytes_eq}
use Rattle.names.specs.Names.{is_name, member}

-- no byte ends a line
abbrev pub Plain : List ℕ → Type 0
Plain l = AllByRecursion (λ b. b ≢ 10) l

abbrev pub onto : ℕ → List (List ℕ) → List (List ℕ)
onto b [] = []
onto b (l ∷ ls) = (b ∷ l) ∷ ls

-- the ended lines, in their order; what follows the last byte 10 is no line
abbrev pub lines : List ℕ → List (List ℕ)
lines [] = []
lines (b ∷ bs) = cond (b == 10) ([] ∷ lines bs) (onto b (lines bs))

-- the line may stand after those seen
abbrev pub good : List (List ℕ) → List ℕ → Bool
good seen l = nat_lt (length seen) 1024 && (is_name l && (nat_le (length l) 32 && not (member l seen)))

-- the first bad line of those left, where `seen` stand before them, and `at` is its first byte's place among `n` bytes
abbrev pub bad_from : ℕ → List (List ℕ) → ℕ → List (List ℕ) → Option ℕ
bad_from n seen at [] = cond (nat_lt at n) (Some at) None
bad_from n seen at (l ∷ ls) = cond (good seen l) (bad_from n (seen ++ l ∷ []) (at + (length l + 1)) ls) (Some at)

-- the place of the first byte of the first bad line
abbrev pub first_bad : List ℕ → Option ℕ
first_bad text = bad_from (length text) [] 0 (lines text)

-- the number of a name where the list's first name has the number k
abbrev pub number_from : ℕ → List (List ℕ) → List ℕ → Option ℕ
number_from k [] n = None
number_from k (x ∷ xs) n = cond (bytes_eq x n) (Some k) (number_from (k + 1) xs n)

abbrev pub number_of : List (List ℕ) → List ℕ → Option ℕ
number_of names n = number_from 1 names n

abbrev pub name_of : List (List ℕ) → ℕ → Option (List ℕ)
name_of names k = cond (nat_lt 0 k && nat_le k (length names)) (Some (slice_index_or names (k - 1) [])) None

-- the text of a name list
abbrev pub ended : List (List ℕ) → List ℕ
ended [] = []
ended (n ∷ ns) = n ++ 10 ∷ ended ns

-- What a name list may hold.
pub record Proper (names : List (List ℕ)) : Type 0 where
  pub few : length names ≤ 1024
  pub named : AllByRecursion (λ n. (is_name n ≡ true) × (length n ≤ 32)) names
  pub once : (i j : ℕ) → i < length names → j < length names → slice_index_or names i [] ≡ slice_index_or names j [] → i ≡ j

-- The line that begins at p cannot follow the good lines before it: it has no end, or is no new name, or is one too many.
pub record IsBadLine (text : List ℕ) (p : ℕ) : Type 0 where
  pub before : List (List ℕ)
  pub rest : List ℕ
  pub split : text ≡ ended before ++ rest
  pub proper : Proper before
  pub place : p ≡ length (ended before)
  pub something : 0 < length rest
  pub bad : (l more : List ℕ) → Plain l → rest ≡ l ++ 10 ∷ more → Proper (before ++ l ∷ []) → ⊥

-- A text is a name list exactly if it is the text of names that a list may hold.
abbrev pub ListsExact : Type 0
ListsExact = (names : List (List ℕ)) → Proper names → (first_bad (ended names) ≡ None) × (lines (ended names) ≡ names)

-- Each name has its number, and each number its name.
abbrev pub NumbersAre : Type 0
NumbersAre = (names : List (List ℕ)) → Proper names → (n : List ℕ) (k : ℕ) → (number_of names n ≡ Some k) ↔ (name_of names k ≡ Some n)
