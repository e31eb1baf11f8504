-- What the kit's `mir.Facts` lacks on tests, alone and joined by "or" and "and".
-- Assumes nothing.
use Rattle.std.proofs.Common.{◌≡◌, rules, arith, Bool, true, false, ◌&&◌, ◌||◌, ℕ, T, eqb}

pub or_left : (a b : Bool) → T a → T (a || b)
or_left = search rules

pub or_right : (a b : Bool) → T b → T (a || b)
or_right = search rules

pub yes_true : (b : Bool) → T b → b ≡ true
yes_true = search rules

pub no_false : (b : Bool) → (T b → ⊥) → b ≡ false
no_false = search rules

pub or_swap : (x y : Bool) → (x || y) ≡ (y || x)
or_swap = search rules

pub and_swap : (x y : Bool) → (x && y) ≡ (y && x)
and_swap = search rules

pub and_false : (b : Bool) → (b && false) ≡ false
and_false = search rules

pub and_true : (b : Bool) → (b && true) ≡ b
and_true = search rules

pub same_test : (a b : Bool) → (T a → T b) → (T b → T a) → a ≡ b
same_test = search rules

pub eqb_sym : (a b : ℕ) → eqb a b ≡ eqb b a
eqb_sym a b = grind arith
