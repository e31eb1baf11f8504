-- A part that is read stands behind what was read before it.
use Rattle.std.proofs.Common.{rules, ◌≡◌, ℕ, ◌+◌, ◌≤◌, length, take, List, ◌++◌, sym, ap, ◌∙◌, length-take-le, subst}
use Rattle.std.specs.Io.KnownBytes.{Consumes}
use Rattle.std.proofs.KnownBytes.{Consumes-trans}
use borrow.Rule.Slice.PartMut.{put_mid, post_of}
use lib.Seq.{take-append-add, take-append-le}
use Rattle.input.proofs.read_full.Goals as goal

stands_behind : (a k n : ℕ) (xs ys : List ℕ) → a ≤ length xs → n ≤ length ys
    → take a xs ++ take n ys ≡ take (a + n) (put_mid a k xs ys)
stands_behind a k n xs ys within fits =
    ap (λ l. take a xs ++ l) (sym (take-append-le n ys (post_of a k xs) fits))
    ∙ sym (take-append-add (take a xs) (ys ++ post_of a k xs) n)
    ∙ ap (λ m. take (m + n) (put_mid a k xs ys)) (length-take-le a xs within)

pub loop-count-preserved : goal.loop-count-preserved
loop-count-preserved g c =
    let joined = stands_behind c.loop-count.count _ c.in-Ok.n c.loop-count.room c.read.new.buf
    c.loop-count.invariant.0 c.in-Ok.ensures.bound.0 in (
      search rules,
      subst (Consumes _ _) joined (Consumes-trans _ _ _ _ _ c.loop-count.invariant.1 c.in-Ok.ensures.bytes.0),
    )
