-- The grammar of path texts.
--
--   path      = '/' | items
--   items     = item | item items
--   item      = separator step
--   separator = '/' | '//'
--   step      = '.' | '..' | test | name '::' test
--   test      = name | '*' | 'text()' | 'node()'
use Rattle.std.specs.Prelude.{◌≡◌, ℕ, ◌<◌, ◌≤◌, true, List, [], ◌∷◌, ◌++◌, length, take, codes}
use Rattle.names.specs.Names.{is_name}

-- What is written: the parts of a text.
pub data Separator : Type 0 where
  Slash : Separator
  Slashes : Separator

pub data Tested : Type 0 where
  Named : List ℕ → Tested
  Star : Tested
  Texts : Tested
  Nodes : Tested

pub data Written : Type 0 where
  Dot : Written
  Dots : Written
  Plain : Tested → Written
  Along : List ℕ → Tested → Written

pub record Item : Type 0 where
  pub separator : Separator
  pub step : Written

-- A text of each part, and what it is read as.
pub data IsSeparator : List ℕ → Separator → Type 0 where
  slash : IsSeparator (codes "/") Slash
  slashes : IsSeparator (codes "//") Slashes

pub data IsTest : List ℕ → Tested → Type 0 where
  named : {n : List ℕ} → is_name n ≡ true → IsTest n (Named n)
  star : IsTest (codes "*") Star
  texts : IsTest (codes "text()") Texts
  nodes : IsTest (codes "node()") Nodes

pub data IsStep : List ℕ → Written → Type 0 where
  dot : IsStep (codes ".") Dot
  dots : IsStep (codes "..") Dots
  plain : {s : List ℕ} {t : Tested} → IsTest s t → IsStep s (Plain t)
  along : {a s : List ℕ} {t : Tested} → is_name a ≡ true → IsTest s t → IsStep (a ++ (codes "::" ++ s)) (Along a t)

pub data IsItem : List ℕ → Item → Type 0 where
  item : {p s : List ℕ} {k : Separator} {w : Written} → IsSeparator p k → IsStep s w → IsItem (p ++ s) (record { separator = k; step = w })

pub data IsItems : List ℕ → List Item → Type 0 where
  one : {s : List ℕ} {i : Item} → IsItem s i → IsItems s (i ∷ [])
  more : {s t : List ℕ} {i : Item} {is : List Item} → IsItem s i → IsItems t is → IsItems (s ++ t) (i ∷ is)

pub data IsPath : List ℕ → List Item → Type 0 where
  root : IsPath (codes "/") []
  items : {s : List ℕ} {is : List Item} → IsItems s is → IsPath s is

-- Some path begins with the text.
abbrev pub Viable : List ℕ → Type 0
Viable s = (rest : List ℕ) × (is : List Item) × IsPath (s ++ rest) is

-- The text is no path, and k is the length of its longest beginning that some path has.
pub record IsNotPath (text : List ℕ) (k : ℕ) : Type 0 where
  pub none : (is : List Item) → IsPath text is → ⊥
  pub within : k ≤ length text
  pub viable : Viable (take k text)
  pub longest : (j : ℕ) → k < j → j ≤ length text → Viable (take j text) → ⊥

-- The grammar reads a text in at most one way.
abbrev pub PathsOnce : Type 0
PathsOnce = (text : List ℕ) (is js : List Item) → IsPath text is → IsPath text js → is ≡ js
