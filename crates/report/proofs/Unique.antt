-- Each public function is settled by its contract: two results that meet it are equal. Of lines that says all 40 bytes,
-- since a line is its text (`Framed`). Assumes nothing.
use Rattle.std.proofs.Common.{◌≡◌, List, ℕ}
use Rattle.std.specs.Prelude.{Result}
use Rattle.events.proofs.Unique.{settled}
use Rattle.network.specs.Verdict.{refused}
use Rattle.verdict.specs.declared.Verdict as Judged
use Rattle.verdict.specs.Answers.{verdict_of, Answer}
use Rattle.report.specs.Text.{first_line, node_line, pair_line, pair_count}
use Rattle.report.specs.Said.{verdict_by}

pub first_line_unique : (a : Answer) (r r' : List ℕ) → r ≡ first_line (verdict_of a)
    → r' ≡ first_line (verdict_of a) → r ≡ r'
first_line_unique a r r' p q = settled p q

-- with refusals of any type
pub any_line_unique : {R : Type 0} (number place : R → ℕ) (a : Result Judged.Verdict R) (r r' : List ℕ)
    → r ≡ first_line (verdict_by number place a) → r' ≡ first_line (verdict_by number place a) → r ≡ r'
any_line_unique number place a r r' p q = settled p q

pub refused_line_unique : (number place : ℕ) (r r' : List ℕ) → r ≡ first_line (refused number place)
    → r' ≡ first_line (refused number place) → r ≡ r'
refused_line_unique number place r r' p q = settled p q

pub node_line_unique : (k kind pairs : ℕ) (r r' : List ℕ) → r ≡ node_line k kind pairs
    → r' ≡ node_line k kind pairs → r ≡ r'
node_line_unique k kind pairs r r' p q = settled p q

pub pair_line_unique : (x : ℕ) (r r' : List ℕ) → r ≡ pair_line x → r' ≡ pair_line x → r ≡ r'
pair_line_unique x r r' p q = settled p q

pub as_slice_unique : (t r r' : List ℕ) → r ≡ t → r' ≡ t → r ≡ r'
as_slice_unique t r r' p q = settled p q

-- the number and the place of a refusal
pub numbered_unique : {R : Type 0} (said : R → ℕ) (f : R) (r r' : ℕ) → r ≡ said f → r' ≡ said f → r ≡ r'
numbered_unique said f r r' p q = settled p q

pub pair_count_unique : (xs : List ℕ) (r r' : ℕ) → r ≡ pair_count xs → r' ≡ pair_count xs → r ≡ r'
pair_count_unique xs r r' p q = settled p q
