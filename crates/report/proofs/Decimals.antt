-- A number's decimal digits are those that the library writes. Assumes nothing.
use Rattle.std.proofs.Common.{◌≡◌, refl, ap, ◌∙◌, Bool, true, false, List, ◌∷◌, [], ◌++◌, ℕ, zero, suc, ◌/◌, ◌%◌, ◌+◌}
use Rattle.std.proofs.Common.{◌≤◌, ◌<◌, ◌^◌, arith, ltb, ltb-true, ltb-false}
use Rattle.std.specs.Fmt as fmt
use Rattle.std.proofs.lemmas.Fmt as written
use Rattle.report.specs.Text.{decimal_in, decimal}

digits_in : (fuel n : ℕ) → n ≤ fuel → n < 2 ^ 64 → fmt.decimal n ≡ decimal_in fuel n
unfolding decimal_in
digits_in zero n h k = written.decimal_digit n (omega arith)
digits_in (suc fuel) n h k = at (ltb n 10) refl (λ l. digits_in fuel (n / 10) (omega arith) (omega arith))
  where
    at : (b : Bool) → ltb n 10 ≡ b → (10 ≤ n → fmt.decimal (n / 10) ≡ decimal_in fuel (n / 10))
        → fmt.decimal n ≡ decimal_in (suc fuel) n
    at true q ih = rw q (written.decimal_digit n (ltb-true n 10 q))
    at false q ih =
        let l : 10 ≤ n = ltb-false n 10 q in
        rw q (written.decimal_step n l k ∙ ap (λ (ds : List ℕ). ds ++ ((48 + n % 10) ∷ [])) (ih l))

pub decimal_is : (n : ℕ) → n < 2 ^ 64 → fmt.decimal n ≡ decimal n
unfolding decimal
decimal_is n h = digits_in n n (omega arith) h
