-- Steps as numbers: below as a number is below by from, then label, then to.
-- Assumes nothing.
use Rattle.std.proofs.Common.{◌≡◌, ◌⊎◌, inl, inr, ℕ, ◌+◌, ◌*◌, ◌≤◌, ◌<◌, arith}
use native.Mathlib.Decide.{dec_lt}
use Rattle.network.specs.Machine.{Label, silent, event, Step, step, LabelBelow, StepFormed}
use Rattle.records.specs.Records.{key_of}
use Rattle.reader.specs.Encoding.{code_of, record_of_step, StepBelow}

-- a step as one number
abbrev pub key : Step → ℕ
key x = key_of (record_of_step x)

module _ (s l t s' l' t' : ℕ) (hl : l < 256) (ht : t < 256) (hl' : l' < 256) (ht' : t' < 256) where
  abbrev Below : Type 0
  Below = (s < s') ⊎ ((s ≡ s') × ((l < l') ⊎ ((l ≡ l') × (t < t'))))

  below_in : Below → s * 65536 + l * 256 + t < s' * 65536 + l' * 256 + t'
  below_in (inl h) = omega arith
  below_in (inr (q, inl h)) = omega arith
  below_in (inr (q, inr (p, h))) = omega arith

  below_out : s * 65536 + l * 256 + t < s' * 65536 + l' * 256 + t' → Below
  below_out k = go (dec_lt s s') (dec_lt l l')
    where
      go : Dec (s < s') → Dec (l < l') → Below
      go (yes h) d = inl h
      go (no h) (yes h') = inr (omega (arith, h), inl h')
      go (no h) (no h') = inr (omega (arith, h, h'), inr (omega (arith, h, h'), omega (arith, h, h')))

-- the code of a label below n is a byte
pub code_below : (n : ℕ) (l : Label) → n ≤ 16 → LabelBelow n l → code_of l < 256
unfolding code_of LabelBelow
code_below n silent h b = omega arith
code_below n (event e) h b = omega arith

module _ (n c : ℕ) (hn : n ≤ 16) (hc : c ≤ 32) where
  pub step_below_in : (x y : Step) → StepFormed n c x → StepFormed n c y → StepBelow x y → key x < key y
  unfolding StepFormed StepBelow record_of_step
  step_below_in (step s l t) (step s' l' t') f f' b =
      below_in s (code_of l) t s' (code_of l') t' (code_below n l hn f.2) (omega (arith, f.1))
      (code_below n l' hn f'.2) (omega (arith, f'.1)) b

  pub step_below_out : (x y : Step) → StepFormed n c x → StepFormed n c y → key x < key y → StepBelow x y
  unfolding StepFormed StepBelow record_of_step
  step_below_out (step s l t) (step s' l' t') f f' k =
      below_out s (code_of l) t s' (code_of l') t' (code_below n l hn f.2) (omega (arith, f.1))
      (code_below n l' hn f'.2) (omega (arith, f'.1)) k
