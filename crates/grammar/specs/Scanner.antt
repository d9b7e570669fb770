-- A scanner of path texts, state by state: what the functions of a reader are proved against. No promise to a caller speaks of it:
-- the laws of the grammar say what it finds.
use Rattle.std.specs.Prelude.{ℕ, Bool, false, cond, List, [], ◌∷◌, ◌++◌, Some, None, Ok, Err, codes, Option, Result, ◌==◌}
use Rattle.std.specs.Str.{bytes_eq}
use Rattle.names.specs.Classes.{begins, goes}
use Rattle.grammar.specs.Grammar.{Separator, Slash, Slashes, Tested, Named, Star, Texts, Nodes, Written, Dot, Dots, Plain, Along, Item}

-- the text begins with a byte that f holds of
abbrev pub heads : (ℕ → Bool) → List ℕ → Bool
heads f [] = false
heads f (b ∷ s) = f b

-- What has been read.
pub data State : Type 0 where
  -- whole items
  Whole : List Item → State
  -- and '/', which may be the first half of '//'
  Half : List Item → State
  -- and a separator
  Want : List Item → Separator → State
  -- and '.'
  OneDot : List Item → Separator → State
  -- and an axis word, if there is one, and bytes of a name
  InName : List Item → Separator → Option (List ℕ) → List ℕ → State
  -- and a name and ':'
  Colon : List Item → Separator → List ℕ → State
  -- and a name and '::'
  AxisWord : List Item → Separator → List ℕ → State
  -- and 'text(' or 'node('
  Paren : List Item → Separator → Option (List ℕ) → Tested → State

abbrev pub with : List Item → Separator → Written → List Item
with is k w = is ++ record { separator = k; step = w } ∷ []

abbrev pub tested : Option (List ℕ) → Tested → Written
tested None t = Plain t
tested (Some a) t = Along a t

abbrev pub ended : List Item → ℕ → Option State
ended is b = cond (b == 47) (Some (Half is)) None

abbrev pub test : List Item → Separator → Option (List ℕ) → ℕ → Option State
test is k a b =
    cond (b == 42) (Some (Whole (with is k (tested a Star))))
    (cond (begins b) (Some (InName is k a (b ∷ [])))
    None)

abbrev pub wanted : List Item → Separator → ℕ → Option State
wanted is k b = cond (b == 46) (Some (OneDot is k)) (test is k None b)

abbrev pub colon : List Item → Separator → Option (List ℕ) → List ℕ → Option State
colon is k None n = Some (Colon is k n)
colon is k (Some a) n = None

abbrev pub kind_test : List ℕ → Option Tested
kind_test n = cond (bytes_eq n (codes "text")) (Some Texts) (cond (bytes_eq n (codes "node")) (Some Nodes) None)

abbrev pub paren_by : List Item → Separator → Option (List ℕ) → Option Tested → Option State
paren_by is k a None = None
paren_by is k a (Some t) = Some (Paren is k a t)

abbrev pub named : List Item → Separator → Option (List ℕ) → List ℕ → ℕ → Option State
named is k a n b =
    cond (b == 58) (colon is k a n)
    (cond (b == 40) (paren_by is k a (kind_test n))
    (ended (with is k (tested a (Named n))) b))

-- One byte more, or none if no path goes on with it.
abbrev pub step : State → ℕ → Option State
step (Whole is) b = ended is b
step (Half is) b = cond (b == 47) (Some (Want is Slashes)) (wanted is Slash b)
step (Want is k) b = wanted is k b
step (OneDot is k) b = cond (b == 46) (Some (Whole (with is k Dots))) (ended (with is k Dot) b)
step (InName is k a n) b = cond (goes b) (Some (InName is k a (n ++ b ∷ []))) (named is k a n b)
step (Colon is k n) b = cond (b == 58) (Some (AxisWord is k n)) None
step (AxisWord is k n) b = test is k (Some n) b
step (Paren is k a t) b = cond (b == 41) (Some (Whole (with is k (tested a t)))) None

-- The items of a text that ends here, or none if it is no path of one or more items.
abbrev pub accept : State → Option (List Item)
accept (Whole []) = None
accept (Whole (i ∷ is)) = Some (i ∷ is)
accept (Half is) = None
accept (Want is k) = None
accept (OneDot is k) = Some (with is k Dot)
accept (InName is k a n) = Some (with is k (tested a (Named n)))
accept (Colon is k n) = None
accept (AxisWord is k n) = None
accept (Paren is k a t) = None

abbrev pub at_end : Option (List Item) → Result (List Item) (List ℕ)
at_end None = Err []
at_end (Some is) = Ok is

abbrev pub onward : Option State → (State → Result (List Item) (List ℕ)) → List ℕ → Result (List Item) (List ℕ)
onward None f rest = Err rest
onward (Some q) f rest = f q

-- The items of the text, or what is left of it where no path goes on.
abbrev pub scan : State → List ℕ → Result (List Item) (List ℕ)
scan q [] = at_end (accept q)
scan q (b ∷ s) = onward (step q b) (λ p. scan p s) (b ∷ s)

abbrev pub begin : State
begin = Whole []
