-- An answer is known by the verdict that it says. Assumes nothing.
use Rattle.std.proofs.Common.{◌≡◌, ap, ℕ, arith, Ok, Err}
use Rattle.tests.specs.Reasons.{number_of}
use Rattle.tests.proofs.Reasons.{same_refusal}
use Rattle.verdict.specs.declared.Verdict.TheVariants.{Pass, Inconclusive}
use Rattle.verdict.specs.Answers.{Answer, verdict_of}

pub same_answer : (r r' : Answer) → verdict_of r ≡ verdict_of r' → r ≡ r'
unfolding verdict_of
same_answer (Ok (Pass b)) (Ok (Pass b')) e = let z : b ≡ b' = cc in ap (λ (x : ℕ). Ok (Pass x)) z
same_answer (Ok (Pass b)) (Ok (Inconclusive k)) e = let z : ◌≡◌ {A = ℕ} 0 1 = cc in absurd (omega arith)
same_answer (Ok (Pass b)) (Err f) e = let z : ◌≡◌ {A = ℕ} 0 1 = cc in absurd (omega arith)
same_answer (Ok (Inconclusive k)) (Ok (Pass b)) e = let z : ◌≡◌ {A = ℕ} 0 1 = cc in absurd (omega arith)
same_answer (Ok (Inconclusive k)) (Ok (Inconclusive k')) e = let z : k ≡ k' = cc in ap (λ (x : ℕ). Ok (Inconclusive x)) z
same_answer (Ok (Inconclusive k)) (Err f) e = let z : ◌≡◌ {A = ℕ} 0 1 = cc in absurd (omega arith)
same_answer (Err f) (Ok (Pass b)) e = let z : ◌≡◌ {A = ℕ} 0 1 = cc in absurd (omega arith)
same_answer (Err f) (Ok (Inconclusive k)) e = let z : ◌≡◌ {A = ℕ} 0 1 = cc in absurd (omega arith)
same_answer (Err f) (Err f') e =
    let n : number_of f.reason ≡ number_of f'.reason = cc in
    let p : f.place ≡ f'.place = cc in
    ap Err (same_refusal f f' n p)
