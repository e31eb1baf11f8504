-- A record and its bytes: a whole record's bytes are its encoding, and what a record's encoding decodes to is the
-- record. Assumes nothing.
use Rattle.std.proofs.Common.{◌≡◌, refl, sym, ap, ◌∙◌, List, [], ◌∷◌, ◌++◌, ℕ, zero, suc, ◌/◌, ◌%◌, ◌≤◌}
use Rattle.std.proofs.Common.{◌<◌, arith, length, take, map}
use Rattle.std.specs.List.{range_with_len}
use Rattle.std.proofs.lemmas.Bool.Decides.{nat_tests}
use Rattle.std.proofs.lemmas.Grind.{common_steps}
use Rattle.std.proofs.lemmas.List.{length-take-le, take-append-le}
use Rattle.std.proofs.lemmas.List.FromFn.{fill_by_all}
use Rattle.records.specs.Kinds.{body_length, size_of}
use Rattle.decoding.specs.Bytes.{byte, AreBytes, two, two_bytes, targets_in, record_of, first_record, bytes_of}
use Rattle.records.proofs.Sizes.{each_kind}

-- the kind of a decoded record is its first byte
pub first_kind : (x : ℕ) (t : List ℕ) → (first_record (x ∷ t)).kind ≡ x
unfolding first_record record_of size_of
first_kind x t = grind (arith, nat_tests)

-- a whole record that stands first does so with more behind it
pub same_first : (t u : List ℕ) → 0 < length t → size_of (first_record t).kind ≤ length t
    → first_record (t ++ u) ≡ first_record t
unfolding first_record
same_first [] u h k = absurd (omega arith)
same_first (x ∷ t) u h k =
    ap record_of (take-append-le (size_of x) (x ∷ t) u (rw (first_kind x t) at k))

-- a record cut short still has its kind
pub cut_kind : (n : ℕ) (t : List ℕ) → 0 < n → 0 < length t → (first_record (take n t)).kind ≡ (first_record t).kind
cut_kind zero t h l = absurd (omega arith)
cut_kind (suc n) [] h l = absurd (omega arith)
cut_kind (suc n) (x ∷ t) h l = first_kind x (take n t) ∙ sym (first_kind x t)

pub bytes_take : (n : ℕ) (b : List ℕ) → AreBytes b → AreBytes (take n b)
unfolding AreBytes
bytes_take n b w i = grind (arith, common_steps, w i)

two_apart : (x y : ℕ) → x < 256 → two_bytes (two x y) ≡ x ∷ y ∷ []
two_apart x y h = grind arith

pub two_back : (x : ℕ) → two (x % 256) (x / 256) ≡ x
two_back x = omega arith

-- n bytes, one behind another
pub spelled : (n : ℕ) (t : List ℕ) → length t ≡ n → map (byte t) (range_with_len 0 n) ≡ t
spelled n t h = sym (fill_by_all (byte t) t n 0 h (λ k l. refl))

-- what is claimed of a kind: its record's bytes are its encoding
abbrev Encoded : ℕ → Type 0
Encoded k = (t : List ℕ) → AreBytes (k ∷ t) → length t ≡ body_length k → bytes_of (record_of (k ∷ t)) ≡ k ∷ t

encoded : (k : ℕ) → 1 ≤ k → k ≤ 8 → Encoded k
unfolding record_of body_length bytes_of AreBytes targets_in
encoded =
    each_kind Encoded
    (λ t b h. ap (λ (u : List ℕ). 1 ∷ u) (spelled 1 t h))
    (λ t b h. ap (λ (u : List ℕ). 2 ∷ u) (spelled 1 t h))
    (λ t b h. ap (λ (u : List ℕ). 3 ∷ u) (spelled 3 t h))
    (λ t b h. ap (λ (u : List ℕ). 4 ∷ u) (spelled 1 t h))
    (λ t b h. rw (two_apart (byte t 2) (byte t 3) (b 3)) (ap (λ (u : List ℕ). 5 ∷ u) (spelled 4 t h)))
    (λ t b h. rw (two_apart (byte t 1) (byte t 2) (b 2)) (ap (λ (u : List ℕ). 6 ∷ u) (spelled 3 t h)))
    (λ t b h. ap (λ (u : List ℕ). 7 ∷ u) (spelled 17 t h))
    (λ t b h. rw (two_apart (byte t 0) (byte t 1) (b 1)) (ap (λ (u : List ℕ). 8 ∷ u) (spelled 2 t h)))

-- a whole record's bytes are its encoding
pub first_bytes : (b : List ℕ) → AreBytes b → 0 < length b → 1 ≤ (first_record b).kind → (first_record b).kind ≤ 8
    → size_of (first_record b).kind ≤ length b → bytes_of (first_record b) ≡ take (size_of (first_record b).kind) b
unfolding first_record size_of
first_bytes [] w h l m n = absurd (omega arith)
first_bytes (x ∷ t) w h l m n =
    let q = first_kind x t in
    let size : body_length x ≤ length t = omega (arith, q, ap body_length q) in
    encoded x (omega (arith, q)) (omega (arith, q)) (take (body_length x) t) (bytes_take (size_of x) (x ∷ t) w)
    (length-take-le (body_length x) t size)
    ∙ ap (λ (k : ℕ). take (size_of k) (x ∷ t)) (sym q)
