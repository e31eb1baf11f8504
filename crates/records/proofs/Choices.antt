-- What a choice by a Boolean, and a test that joins others by "or", is known to be.
-- Assumes nothing.
use Rattle.std.proofs.Common.{◌≡◌, refl, Bool, true, false, cond, ◌||◌, ℕ, arith, T}

pub true_not_false : true ≡ false → ⊥
true_not_false q = let z : ◌≡◌ {A = ℕ} 0 1 = cc in omega arith

pub cond_true : {A : Type 0} (b : Bool) (x y : A) → b ≡ true → cond b x y ≡ x
cond_true true x y q = refl
cond_true false x y q = let z : ◌≡◌ {A = ℕ} 0 1 = cc in absurd (omega arith)

pub cond_false : {A : Type 0} (b : Bool) (x y : A) → b ≡ false → cond b x y ≡ y
cond_false false x y q = refl
cond_false true x y q = let z : ◌≡◌ {A = ℕ} 0 1 = cc in absurd (omega arith)

-- neither of two tests hits
pub or_none : (a b : Bool) → (a || b) ≡ false → (a ≡ false) × (b ≡ false)
or_none false b q = (refl, q)
or_none true b q = absurd (true_not_false q)

pub or_false : (b : Bool) → (b || false) ≡ b
or_false true = refl
or_false false = refl

pub or_assoc : (a b c : Bool) → ((a || b) || c) ≡ (a || (b || c))
or_assoc true b c = refl
or_assoc false b c = refl

pub true_yes : (b : Bool) → b ≡ true → T b
true_yes true q = tt
true_yes false q = absurd (true_not_false (let z : true ≡ false = cc in z))
