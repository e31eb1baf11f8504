-- Whether some pair of a list passes a test. Assumes nothing.
use Rattle.std.proofs.Common.{◌≡◌, refl, ap, ◌∙◌, Bool, ◌||◌, List, [], ◌∷◌, ℕ}
use Rattle.std.specs.List.{list_any}
use mathlib.Core.List.{Memᴰ}
use Rattle.network.specs.Loops.{any_of}

-- the definition's word is std's
pub any_is : (p : ℕ → Bool) (xs : List ℕ) → list_any p xs ≡ any_of p xs
unfolding any_of
any_is p [] = refl
any_is p (x ∷ xs) = ap (λ (b : Bool). p x || b) (any_is p xs)

pub any_same : (p q : ℕ → Bool) (xs : List ℕ) → ((x : ℕ) → Memᴰ x xs → p x ≡ q x) → any_of p xs ≡ any_of q xs
unfolding any_of
any_same p q [] f = refl
any_same p q (x ∷ xs) f =
    ap (λ (b : Bool). b || any_of p xs) (f x (Memᴰ.head refl))
    ∙ ap (λ (b : Bool). q x || b) (any_same p q xs (λ y m. f y (Memᴰ.tail m)))
