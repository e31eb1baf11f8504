-- A record that was decoded from bytes has zeros for the numbers that its kind doesn't use, a set of two bytes,
-- sixteen targets. Assumes nothing.
use Rattle.std.proofs.Common.{◌≡◌, ◌∙◌, cond, List, ℕ, ◌<◌, arith, length, take}
use Rattle.std.proofs.lemmas.Bool.Decides.{nat_tests}
use Rattle.records.specs.declared.Record.{Record}
use Rattle.records.specs.Kinds.{size_of, is}
use Rattle.decoding.specs.Bytes.{byte, AreBytes, targets_in, record_of, first_record}
use Rattle.records.specs.Records.{no_targets}
use Rattle.records.specs.Records.{header_record, machine_record, step_record, leaf_record, join_record, hide_record}
use Rattle.records.specs.Records.{rename_record, end_record, other_record}
use Rattle.decoding.proofs.Bytes.{bytes_take}

-- record r with zeros for the numbers that its kind doesn't use
unfoldable pub trimmed : Record → Record
trimmed r =
    cond (is 1 r) (header_record r.number)
    (cond (is 2 r) (machine_record r.number)
    (cond (is 3 r) (step_record r.from r.label r.to)
    (cond (is 4 r) (leaf_record r.number)
    (cond (is 5 r) (join_record r.left r.right r.set)
    (cond (is 6 r) (hide_record r.left r.set)
    (cond (is 7 r) (rename_record r.left r.targets)
    (cond (is 8 r) (end_record r.number)
    (other_record r.kind))))))))

pub record Plain (r : Record) : Type 0 where
  pub own : r ≡ trimmed r
  pub set_below : r.set < 65536
  pub sixteen : length r.targets ≡ 16

record_plain : (b : List ℕ) → AreBytes b → Plain (record_of b)
unfolding record_of trimmed AreBytes targets_in no_targets
record_plain b w =
    record {
      own = grind (arith, nat_tests);
      set_below = grind (arith, nat_tests);
      sixteen = grind (arith, nat_tests);
    }

pub first_plain : (b : List ℕ) → AreBytes b → Plain (first_record b)
unfolding first_record
first_plain b w = record_plain (take (size_of (byte b 0)) b) (bytes_take (size_of (byte b 0)) b w)

-- what a plain record of each kind is
module _ (r : Record) (p : Plain r) where
  pub header_is : r.kind ≡ 1 → r ≡ header_record r.number
  unfolding trimmed
  header_is e = p.own ∙ rw e

  pub machine_is : r.kind ≡ 2 → r ≡ machine_record r.number
  unfolding trimmed
  machine_is e = p.own ∙ rw e

  pub step_is : r.kind ≡ 3 → r ≡ step_record r.from r.label r.to
  unfolding trimmed
  step_is e = p.own ∙ rw e

  pub leaf_is : r.kind ≡ 4 → r ≡ leaf_record r.number
  unfolding trimmed
  leaf_is e = p.own ∙ rw e

  pub join_is : r.kind ≡ 5 → r ≡ join_record r.left r.right r.set
  unfolding trimmed
  join_is e = p.own ∙ rw e

  pub hide_is : r.kind ≡ 6 → r ≡ hide_record r.left r.set
  unfolding trimmed
  hide_is e = p.own ∙ rw e

  pub rename_is : r.kind ≡ 7 → r ≡ rename_record r.left r.targets
  unfolding trimmed
  rename_is e = p.own ∙ rw e

  pub end_is : r.kind ≡ 8 → r ≡ end_record r.number
  unfolding trimmed
  end_is e = p.own ∙ rw e
