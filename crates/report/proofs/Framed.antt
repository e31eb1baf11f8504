-- A line in its array: none, and a word more. Assumes nothing.
use Rattle.std.proofs.Common.{◌≡◌, refl, sym, ap, ap₂, ◌∙◌, List, ◌++◌, ℕ, ◌+◌, ◌-◌, ◌≤◌, arith, length, take, drop}
use Rattle.std.proofs.Common.{take-append-drop, length-append, replicate}
use Rattle.std.proofs.Math.Seq.{drop-append-add}
use Rattle.std.proofs.lemmas.List.{drop-replicate}
use Rattle.std.proofs.lemmas.Grind.{common_steps}
use Rattle.std.proofs.lemmas.Slice.{take-put_mid, drop-put_mid}
use borrow.Rule.Slice.PartMut.{put_mid}
use lib.ListN.{length-replicate}
use Rattle.filling.specs.Building.{zeros}
use Rattle.report.specs.Text.{longest, framed}
use Rattle.report.specs.Framing.{Framed, framed_count}

pub framed_none : Framed 0 (replicate longest 0)
unfolding framed zeros
framed_none = record { fits = omega arith; size = length-replicate {A = ℕ} 40 0; text_first = refl }

framed_length : (t : List ℕ) → length t ≤ longest → length (framed t) ≡ longest
unfolding framed zeros
framed_length t h = grind (arith, common_steps)

framed_drop : (t : List ℕ) (m : ℕ) → length t ≤ m → drop m (framed t) ≡ zeros (longest - m)
unfolding framed zeros
framed_drop t m h =
    let past = m - length t in
    let at : m ≡ length t + past = omega arith in
    let rest : longest - length t - past ≡ longest - m = omega arith in
    ap (λ k. drop k (framed t)) at ∙ drop-append-add t (zeros (longest - length t)) past
    ∙ drop-replicate past (longest - length t) 0 ∙ ap zeros rest

-- a word put in behind the text
module _ {n : ℕ} {xs : List ℕ} (h : Framed n xs) (word : List ℕ) (room : n + length word ≤ longest) where
  pub word_first : take (n + length word) (put_mid n (length word) xs word) ≡ take n xs ++ word
  word_first = take-put_mid n (length word) xs word (n + length word) refl (omega (arith, h.fits, h.size))

  pub word_framed : Framed (n + length word) (put_mid n (length word) xs word)
  unfolding framed
  word_framed =
      let ys = put_mid n (length word) xs word in
      let m = n + length word in
      let t = take n xs ++ word in
      let long : length t ≡ m = omega (arith, length-append (take n xs) word, framed_count h) in
      let behind : drop m ys ≡ zeros (longest - m) =
      drop-put_mid n (length word) xs word m (omega arith) (omega (arith, h.fits, h.size)) refl
      ∙ ap (drop m) h.text_first ∙ framed_drop (take n xs) m (omega (arith, framed_count h)) in
      let whole : ys ≡ framed t =
      sym (take-append-drop m ys) ∙ ap₂ ◌++◌ word_first (behind ∙ ap (λ (k : ℕ). zeros (longest - k)) (sym long)) in
      record {
        fits = room;
        size = ap length whole ∙ framed_length t (omega (arith, long));
        text_first = whole ∙ ap framed (sym word_first);
      }
