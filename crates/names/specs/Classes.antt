-- The class of a byte: 1 begins a name, 2 only continues one, 3 is one of / * : ( ), 0 the rest.
use Rattle.std.specs.Prelude.{ℕ, Bool, cond, ◌&&◌, ◌||◌, ◌==◌, nat_le}
use Rattle.names.specs.declared.classes.ByteClass.{ByteClass}
use Rattle.names.specs.declared.classes.ByteClass.TheVariants.{Other, Begins, Continues, Mark}

abbrev pub within : ℕ → ℕ → ℕ → Bool
within a z b = nat_le a b && nat_le b z

-- A-Z a-z _, then 0-9 - ., then / * : ( )
unfoldable pub class_of : ℕ → ℕ
class_of b =
    cond (within 65 90 b || (within 97 122 b || b == 95)) 1
    (cond (within 48 57 b || (b == 45 || b == 46)) 2
    (cond (b == 47 || (b == 42 || (b == 58 || (b == 40 || b == 41)))) 3
    0))

abbrev pub begins : ℕ → Bool
begins b = class_of b == 1

abbrev pub goes : ℕ → Bool
goes b = begins b || class_of b == 2

-- the number of a class
abbrev pub code_of : ByteClass → ℕ
code_of Other = 0
code_of Begins = 1
code_of Continues = 2
code_of Mark = 3
