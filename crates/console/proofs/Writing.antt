-- A text that is written piece by piece: what is left of it, and behind what it goes. Assumes nothing.
use Rattle.std.proofs.Common.{◌≡◌, sym, ap, ◌∙◌, subst, List, [], ◌∷◌, ◌++◌, append_assoc, ℕ, length, Result, Ok, Err}
use Rattle.std.proofs.Common.{refl}
use Rattle.std.proofs.Common.{arith, ◌-◌, take, drop, take_all, take-append-drop, length-drop}
use Rattle.std.specs.Result.{IsErr}
use Rattle.std.specs.Prelude.{⊤}
use Rattle.std.specs.declared.option.Option.{Option}
use Rattle.std.specs.declared.io.Error.{Error}
use Rattle.std.specs.Io.KnownBytes.{Appends, Keeps}
use Rattle.std.proofs.KnownBytes.{Appends-nil, Appends-trans, Appends-kept, starts_with_rest}
use Rattle.std.proofs.Transfers.{starts_with_of_append}
use Rattle.records.proofs.Choices.{true_not_false}
use Rattle.console.specs.Output.{IsWritten}

-- a text behind one that was written
pub written_behind : {E : Type 0} (r : Result ⊤ E) (a b c : Option (List ℕ)) (t u : List ℕ) → Appends a b t
    → IsWritten r b c u → IsWritten r a c (t ++ u)
unfolding IsWritten
written_behind (Ok x) a b c t u p w = (Appends-trans a b c t u p w.0, tt)
written_behind (Err e) a b c t u p (w, (begun, s, q)) = (
  tt,
  (
    t ++ begun,
    starts_with_of_append (t ++ u) (t ++ begun) (drop (length begun) u)
        (ap (λ v. t ++ v) (starts_with_rest u begun s) ∙ sym (append_assoc t begun (drop (length begun) u))),
    Appends-trans a b c t begun p q,
  ),
)

-- a beginning of a text
pub begun_written : {E : Type 0} (r : Result ⊤ E) (a b : Option (List ℕ)) (begun rest : List ℕ) → IsErr r → Appends a b begun
    → IsWritten r a b (begun ++ rest)
unfolding IsWritten
begun_written (Ok x) a b begun rest q p = absurd (true_not_false (sym q))
begun_written (Err e) a b begun rest q p = (tt, (begun, starts_with_of_append (begun ++ rest) begun rest refl, p))

pub some_written : {E : Type 0} (r : Result ⊤ E) (a b : Option (List ℕ)) (t : List ℕ) (done : ℕ) → IsErr r
    → Appends a b (take done t) → IsWritten r a b t
some_written r a b t done q p =
    subst (IsWritten r a b) (take-append-drop done t) (begun_written r a b (take done t) (drop done t) q p)

-- to write the text t behind what a says, u is left to write behind what b says
abbrev pub Leaves : (a : Option (List ℕ)) → List ℕ → (b : Option (List ℕ)) → List ℕ → Type 0
Leaves a t b u = (r : Result ⊤ Error) (z : Option (List ℕ)) → IsWritten r b z u → IsWritten r a z t

-- a part of the text is written
pub part_written : (a b : Option (List ℕ)) (t u : List ℕ) → Appends a b t → Leaves a (t ++ u) b u
part_written a b t u p r z w = written_behind r a b z t u p w

-- its first n bytes
pub first_written : (a b : Option (List ℕ)) (n : ℕ) (t : List ℕ) → Appends a b (take n t)
    → Leaves a t b (take (length t - n) (drop n t))
first_written a b n t p =
    let rest : take (length t - n) (drop n t) ≡ drop n t =
    take_all (length t - n) (drop n t) (omega (arith, length-drop n t)) in
    rw rest (subst (λ v. Leaves a v b (drop n t)) (take-append-drop n t) (part_written a b (take n t) (drop n t) p))

-- a text without a byte
pub none_left : (a : Option (List ℕ)) (t : List ℕ) → length t ≡ 0 → IsWritten {E = Error} (Ok tt) a a t
unfolding IsWritten
none_left a [] e = (Appends-nil a, tt)
none_left a (x ∷ t) e = absurd (omega arith)

-- an error before a byte of the text was written
pub none_written : {E : Type 0} (r : Result ⊤ E) (a b : Option (List ℕ)) (t : List ℕ) → IsErr r → Keeps a b
    → IsWritten r a b t
unfolding IsWritten
none_written (Ok x) a b t f k = absurd (true_not_false (sym f))
none_written (Err e) a b t f k = (tt, ([], refl, Appends-kept a a b [] (Appends-nil a) k))

-- a first part of the text is written whole
pub part_left : (a b : Option (List ℕ)) (t u v : List ℕ) → v ≡ t ++ u → IsWritten {E = Error} (Ok tt) a b t
    → Leaves a v b u
unfolding IsWritten
part_left a b t u v q w = subst (λ s. Leaves a s b u) (sym q) (part_written a b t u w.0)

-- a first part of the text is not written whole
pub part_failed : {E D : Type 0} (e : E) (r : Result ⊤ D) (a b : Option (List ℕ)) (t u v : List ℕ) → v ≡ t ++ u
    → IsErr r → IsWritten (Err e) a b t → IsWritten r a b v
unfolding IsWritten
part_failed e (Ok x) a b t u v q f w = absurd (true_not_false (sym f))
part_failed e (Err d) a b t u v q f (w, (begun, s, p)) = (
  tt,
  (
    begun,
    starts_with_of_append v begun (drop (length begun) t ++ u)
        (q ∙ ap (λ x. x ++ u) (starts_with_rest t begun s) ∙ append_assoc begun (drop (length begun) t) u),
    p,
  ),
)
