-- Each function of the reader is settled by its contract, for every list of bytes: two results that meet it are equal.
-- Assumes nothing.
use Rattle.std.proofs.Common.{◌≡◌, sym, ap, ◌∙◌, List, ℕ, length, arith}
use Rattle.events.proofs.Unique.{settled}
use Rattle.reader.specs.declared.Scan.{Scan}
use Rattle.reader.specs.declared.model.ReadFile.{ReadFile}
use Rattle.reader.specs.Scan.{scan_of, said_of, reading_of, says}
use Rattle.reader.specs.File.{file_model}
use Rattle.std.specs.Prelude.{Result, Ok, Err, MatchResult}
use Rattle.tests.specs.declared.Refusal.{Refusal}
use Rattle.progress.specs.declared.Progress.{Progress}

pub scan_all_unique : (s : List ℕ) (x x' : Result Scan Refusal) → x ≡ scan_of s → x' ≡ scan_of s → x ≡ x'
scan_all_unique s x x' p q = settled p q

pub read_unique : (s : List ℕ) (x x' : Result Progress Refusal) → x ≡ reading_of s → x' ≡ reading_of s → x ≡ x'
read_unique s x x' p q = settled p q

-- what is kept of a file that was read
abbrev kept : ReadFile → List ℕ × ℕ × ℕ
kept f = (f.bytes.now, f.events, f.nodes)

abbrev kept_of : Result ReadFile Refusal → Result (List ℕ × ℕ × ℕ) Refusal
kept_of (Ok f) = Ok (kept f)
kept_of (Err e) = Err e

module _ (s : List ℕ) where
  ok_unique : (f f' : ReadFile) → f.bytes.now ≡ s → f'.bytes.now ≡ s → kept f ≡ kept f'
  ok_unique f f' p q =
      let b : f.bytes.now ≡ f'.bytes.now = settled p q in
      let e : f.events ≡ f'.events = f.events_are ∙ ap (λ (b : List ℕ). (file_model b).events) b ∙ sym f'.events_are in
      let n : f.nodes ≡ f'.nodes =
      f.nodes_are ∙ ap (λ (b : List ℕ). length (file_model b).nodes) b ∙ sym f'.nodes_are in
      λ i. (b i, e i, n i)

  -- a readable file is not refused
  not_both : (f : ReadFile) (e : Refusal) → f.bytes.now ≡ s → reading_of s ≡ Err e → ⊥
  unfolding says said_of
  not_both f e p q =
      let v = sym (ap said_of q) ∙ ap says (sym p) ∙ f.is_read in let z : ◌≡◌ {A = ℕ} 0 1 = cc in omega arith

  pub read_file_unique : (x x' : Result ReadFile Refusal)
      → MatchResult x (λ f. f.bytes.now ≡ s) (λ e. reading_of s ≡ Err e)
      → MatchResult x' (λ f. f.bytes.now ≡ s) (λ e. reading_of s ≡ Err e) → kept_of x ≡ kept_of x'
  read_file_unique (Ok f) (Ok f') p q = ap Ok (ok_unique f f' p q)
  read_file_unique (Ok f) (Err e) p q = absurd (not_both f e p q)
  read_file_unique (Err e) (Ok f) p q = absurd (not_both f e q p)
  read_file_unique (Err e) (Err e') p q = let z : e ≡ e' = cc in ap Err z
