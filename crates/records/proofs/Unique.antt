-- Each function on records is settled by its contract: two results that meet it are equal.
-- Assumes nothing.
use Rattle.std.proofs.Common.{◌≡◌, refl, sym, ap, ◌∙◌, Bool, cond, List, ℕ, ◌≤◌, ◌<◌, arith, eqb}
use Rattle.std.specs.Prelude.{Result, Ok, Err}
use Rattle.events.proofs.Unique.{settled}
use Rattle.records.specs.declared.Record.{Record}
use Rattle.records.specs.declared.Kind.{Kind}
use Rattle.records.specs.declared.Kind.TheVariants.{Header, Machine, Step, Leaf, Join, Hide, Rename, End}
use Rattle.records.specs.declared.UnknownKind.{UnknownKind}
use Rattle.records.specs.KindNumbers.{number_of, IsKind}
use Rattle.records.specs.Kinds.{size_of, is, is_node, has_operand}
use Rattle.records.specs.Records.{other_record, header_record, machine_record, step_record, leaf_record, join_record}
use Rattle.records.specs.Records.{hide_record, rename_record, end_record}
use Rattle.records.specs.Records.{key_of}

pub other_unique : (k : ℕ) (x x' : Record) → x ≡ other_record k → x' ≡ other_record k → x ≡ x'
other_unique k x x' p q = settled p q

pub header_unique : (n : ℕ) (x x' : Record) → x ≡ header_record n → x' ≡ header_record n → x ≡ x'
header_unique n x x' p q = settled p q

pub machine_unique : (c : ℕ) (x x' : Record) → x ≡ machine_record c → x' ≡ machine_record c → x ≡ x'
machine_unique c x x' p q = settled p q

pub step_unique : (s l t : ℕ) (x x' : Record) → x ≡ step_record s l t → x' ≡ step_record s l t → x ≡ x'
step_unique s l t x x' p q = settled p q

pub leaf_unique : (m : ℕ) (x x' : Record) → x ≡ leaf_record m → x' ≡ leaf_record m → x ≡ x'
leaf_unique m x x' p q = settled p q

pub join_unique : (i j A : ℕ) (x x' : Record) → x ≡ join_record i j A → x' ≡ join_record i j A → x ≡ x'
join_unique i j A x x' p q = settled p q

pub hide_unique : (i A : ℕ) (x x' : Record) → x ≡ hide_record i A → x' ≡ hide_record i A → x ≡ x'
hide_unique i A x x' p q = settled p q

pub rename_unique : (i : ℕ) (f : List ℕ) (x x' : Record) → x ≡ rename_record i f → x' ≡ rename_record i f → x ≡ x'
rename_unique i f x x' p q = settled p q

pub end_unique : (b : ℕ) (x x' : Record) → x ≡ end_record b → x' ≡ end_record b → x ≡ x'
end_unique b x x' p q = settled p q

pub is_node_unique : (r : Record) (x x' : Bool) → x ≡ is_node r → x' ≡ is_node r → x ≡ x'
is_node_unique r x x' p q = settled p q

pub has_operand_unique : (r : Record) (x x' : Bool) → x ≡ has_operand r → x' ≡ has_operand r → x ≡ x'
has_operand_unique r x x' p q = settled p q

pub key_unique : (r : Record) (x x' : ℕ) → x ≡ key_of r → x' ≡ key_of r → x ≡ x'
key_unique r x x' p q = settled p q

pub size_of_unique : (k : ℕ) (x x' : ℕ) → x ≡ size_of k → x' ≡ size_of k → x ≡ x'
size_of_unique k x x' p q = settled p q

pub is_unique : (k : ℕ) (r : Record) (x x' : Bool) → x ≡ is k r → x' ≡ is k r → x ≡ x'
is_unique k r x x' p q = settled p q

-- of a kind
pub number_unique : (kind : Kind) (x x' : ℕ) → x ≡ number_of kind → x' ≡ number_of kind → x ≡ x'
number_unique kind x x' p q = settled p q

pub size_unique : (kind : Kind) (x x' : ℕ) → x ≡ size_of (number_of kind) → x' ≡ size_of (number_of kind) → x ≡ x'
size_unique kind x x' p q = settled p q

-- the kind of a number, which a kind's own number gives back
kind_of : ℕ → Kind
kind_of n =
    cond (eqb n 1) Header
    (cond (eqb n 2) Machine
    (cond (eqb n 3) Step
    (cond (eqb n 4) Leaf
    (cond (eqb n 5) Join
    (cond (eqb n 6) Hide
    (cond (eqb n 7) Rename
    End))))))

kind_back : (kind : Kind) → kind_of (number_of kind) ≡ kind
unfolding kind_of
kind_back Header = refl
kind_back Machine = refl
kind_back Step = refl
kind_back Leaf = refl
kind_back Join = refl
kind_back Hide = refl
kind_back Rename = refl
kind_back End = refl

number_among : (kind : Kind) → (1 ≤ number_of kind) × (number_of kind ≤ 8)
number_among Header = (omega arith, omega arith)
number_among Machine = (omega arith, omega arith)
number_among Step = (omega arith, omega arith)
number_among Leaf = (omega arith, omega arith)
number_among Join = (omega arith, omega arith)
number_among Hide = (omega arith, omega arith)
number_among Rename = (omega arith, omega arith)
number_among End = (omega arith, omega arith)

module _ (n : ℕ) where
  -- a kind's number is not one that no kind has
  not_both : (kind : Kind) (e : UnknownKind) → number_of kind ≡ n → (e.0 ≡ n) × (1 ≤ n → 8 < n) → ⊥
  not_both kind e p q =
      let among = number_among kind in let above : 8 < n = q.1 (omega (arith, p, among.0)) in omega (arith, p, among.1)

  pub try_from_unique : (r r' : Result Kind UnknownKind) → IsKind n r → IsKind n r' → r ≡ r'
  try_from_unique (Ok kind) (Ok kind') p q = ap Ok (sym (kind_back kind) ∙ ap kind_of (settled p q) ∙ kind_back kind')
  try_from_unique (Ok kind) (Err e) p q = absurd (not_both kind e p q)
  try_from_unique (Err e) (Ok kind) p q = absurd (not_both kind e q p)
  try_from_unique (Err e) (Err e') p q = let z : e ≡ e' = λ i. record { 0 = settled p.0 q.0 i } in ap Err z
