-- Each axis is the one that its word names, and no other word names it.
use Rattle.std.proofs.Common.{◌≡◌, Bool, true, false, cond, List, [], ◌∷◌, Some, sym, refl, ap, ◌∙◌, arith}
use Rattle.std.specs.Str.{bytes_eq}
use Rattle.std.specs.List.{find}
use Rattle.std.proofs.lemmas.Slice.Eq.{bytes_eq-Decides}
use Rattle.chain.specs.declared.Axis.{Axis}
use Rattle.chain.specs.declared.Axis.TheVariants.{Child, Parent, Descendant, Ancestor, DescendantOrSelf, AncestorOrSelf, Following, Preceding, FollowingSibling, PrecedingSibling, Itself}
use Rattle.chain.specs.Axes.{word_of, axes}
use Rattle.chain.specs.Laws.{WordsBack, WordsOnly}

pub word_back : WordsBack
word_back Child = refl
word_back Parent = refl
word_back Descendant = refl
word_back Ancestor = refl
word_back DescendantOrSelf = refl
word_back AncestorOrSelf = refl
word_back Following = refl
word_back Preceding = refl
word_back FollowingSibling = refl
word_back PrecedingSibling = refl
word_back Itself = refl

found_passes : (p : Axis → Bool) (some : List Axis) (a : Axis) → find p some ≡ Some a → p a ≡ true
found_passes p [] a e = grind arith
found_passes p (b ∷ rest) a e = go (found_passes p rest a) (p b) refl e
  where
    go : (find p rest ≡ Some a → p a ≡ true) → (t : Bool) → p b ≡ t → cond t (Some b) (find p rest) ≡ Some a → p a ≡ true
    go later true s e =
        let same : b ≡ a = grind arith in
        ap p (sym same) ∙ s
    go later false s e = later e

pub word_only : WordsOnly
word_only w a e = sym ((bytes_eq-Decides (word_of a) w).0 (found_passes (λ b. bytes_eq (word_of b) w) axes a e))
