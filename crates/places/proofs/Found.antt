-- What is found in a file is what its model says: node k, and machine m with its state count and its steps.
-- Assumes nothing.
use Rattle.std.proofs.Common.{◌≡◌, refl, sym, ap, ◌∙◌, Bool, true, false, cond, ◌&&◌, List, [], ◌∷◌, ◌⊎◌, inl}
use Rattle.std.proofs.Common.{inr, ℕ, zero, suc, ◌+◌, ◌≤◌, ◌<◌, arith, eqb, length, drop, get_or}
use Rattle.std.proofs.Common.{drop-drop, eqb-true}
use native.Mathlib.Decide.{dec_lt}
use Rattle.network.specs.Machine.{Machine}
use Rattle.network.specs.Model.{Node, leaf_node, idle}
use Rattle.records.specs.declared.Record.{Record}
use Rattle.records.specs.Kinds.{body_length, size_of, machine_kind, leaf_kind, join_kind, hide_kind, rename_kind}
use Rattle.records.specs.Kinds.{is, is_node}
use Rattle.decoding.specs.Bytes.{record_of, first_record}
use Rattle.records.proofs.Choices.{cond_true, cond_false, true_not_false}
use Rattle.reader.specs.File.{records_from, records_of, steps_of, machines_of, node_of, nodes_of, model_of, file_model}
use Rattle.reader.specs.Encoding.{record_of_node}
use Rattle.places.specs.Finding.{place_in, node_place, machine_place, record_at, states_of, steps_at}
use Rattle.reader.proofs.Turns.{rest}
use Rattle.reader.proofs.Records.{none_left, records_next}
use Rattle.places.proofs.Standing.{empty_or_not, shorter, same_records}
use Rattle.places.proofs.Seeking.{gone, found_here, place_behind, place_next}

-- what p picks among some records: each with what stands behind it, as said says it
module _ {A : Type 0} (p : Record → Bool) (said : Record → List Record → A) (d : A) where
  picked : List Record → List A
  picked [] = []
  picked (r ∷ rs) = cond (p r) (said r rs ∷ picked rs) (picked rs)

  -- what the bytes b say of their first record
  first : List ℕ → A
  first b = said (first_record b) (records_of (rest b))

  -- the record at the place of the k-th that is picked is that one, and p picks it
  abbrev Finds : ℕ → List ℕ → ℕ → Type 0
  Finds f b k =
      (first (drop (place_in p (records_from f b) k) b) ≡ get_or (picked (records_from f b)) k d)
      × (p (first_record (drop (place_in p (records_from f b) k) b)) ≡ true)

  module _ (f : ℕ) (b : List ℕ) (l : 0 < length b) (h : length b ≤ suc f)
      (ih : (k : ℕ) → k < length (picked (records_from f (rest b))) → Finds f (rest b) k) where
    r : Record
    r = first_record b

    rs : List Record
    rs = records_from f (rest b)

    -- what is found behind the first record
    behind : (k j : ℕ) → place_in p (r ∷ rs) k ≡ size_of r.kind + place_in p rs j → j < length (picked rs)
        → get_or (picked rs) j d ≡ get_or (picked (r ∷ rs)) k d
        → (first (drop (place_in p (r ∷ rs) k) b) ≡ get_or (picked (r ∷ rs)) k d)
        × (p (first_record (drop (place_in p (r ∷ rs) k) b)) ≡ true)
    unfolding r rs
    behind k j q m g =
        let w : drop (place_in p (r ∷ rs) k) b ≡ drop (place_in p rs j) (rest b) =
        ap (λ (n : ℕ). drop n b) q ∙ sym (drop-drop (place_in p rs j) (size_of r.kind) b) in
        let i = ih j m in
        (ap first w ∙ i.0 ∙ g, ap (λ (c : List ℕ). p (first_record c)) w ∙ i.1)

    finds : (k : ℕ) → k < length (picked (r ∷ rs))
        → (first (drop (place_in p (r ∷ rs) k) b) ≡ get_or (picked (r ∷ rs)) k d)
        × (p (first_record (drop (place_in p (r ∷ rs) k) b)) ≡ true)
    unfolding r rs picked first records_of
    finds k m = go (p r) refl k m
      where
        go : (t : Bool) → p (first_record b) ≡ t → (k : ℕ) → k < length (picked (r ∷ rs))
            → (first (drop (place_in p (r ∷ rs) k) b) ≡ get_or (picked (r ∷ rs)) k d)
            × (p (first_record (drop (place_in p (r ∷ rs) k) b)) ≡ true)
        go true q zero m =
            let z : place_in p (r ∷ rs) 0 ≡ 0 = found_here p r rs 0 (ap (λ (t : Bool). t && eqb 0 0) q) in
            let w : drop (place_in p (r ∷ rs) 0) b ≡ b = ap (λ (n : ℕ). drop n b) z in
            let e : picked (r ∷ rs) ≡ said r rs ∷ picked rs = cond_true (p r) (said r rs ∷ picked rs) (picked rs) q in (
              ap first w ∙ ap (said r) (same_records (length (rest b)) f (rest b) (omega arith) (shorter b f l h))
                  ∙ sym (ap (λ (xs : List A). get_or xs 0 d) e),
              ap (λ (c : List ℕ). p (first_record c)) w ∙ q,
            )
        go true q (suc k) m =
            let e : picked (r ∷ rs) ≡ said r rs ∷ picked rs = cond_true (p r) (said r rs ∷ picked rs) (picked rs) q in
            let n : length (picked (r ∷ rs)) ≡ suc (length (picked rs)) = ap length e in
            behind (suc k) k (place_next p r rs k q) (omega arith) (sym (ap (λ (xs : List A). get_or xs (suc k) d) e))
        go false q k m =
            let e : picked (r ∷ rs) ≡ picked rs = cond_false (p r) (said r rs ∷ picked rs) (picked rs) q in
            let n : length (picked (r ∷ rs)) ≡ length (picked rs) = ap length e in
            behind k k (place_behind p r rs k q) (omega arith) (sym (ap (λ (xs : List A). get_or xs k d) e))

  found : (f : ℕ) (b : List ℕ) (k : ℕ) → length b ≤ f → k < length (picked (records_from f b)) → Finds f b k
  unfolding records_from picked r rs
  found zero b k h m = absurd (omega arith)
  found (suc f) b k h m = go (empty_or_not (length b)) (λ k m. λ l. found f (rest b) k (shorter b f l h) m)
    where
      go : (length b ≡ 0) ⊎ (0 < length b)
          → ((k : ℕ) → k < length (picked (records_from f (rest b))) → 0 < length b → Finds f (rest b) k)
          → Finds (suc f) b k
      go (inl z) ih = absurd (omega (arith, ap (λ (rs : List Record). length (picked rs)) (none_left (suc f) b z)))
      go (inr l) ih = rw (records_next f b l) (finds f b l h (λ k m. ih k m l) k (rw (records_next f b l) at m))

-- nodes and machines are what is picked
nodes_picked : (rs : List Record) → picked is_node (λ r rs. node_of r) (leaf_node 0) rs ≡ nodes_of rs
unfolding picked nodes_of
nodes_picked [] = refl
nodes_picked (r ∷ rs) = ap (λ (xs : List Node). cond (is_node r) (node_of r ∷ xs) xs) (nodes_picked rs)

abbrev machine_of : Record → List Record → Machine
machine_of r rs = record { states = r.number; steps = steps_of rs }

machines_picked : (rs : List Record) → picked (is machine_kind) machine_of idle rs ≡ machines_of rs
unfolding picked machines_of
machines_picked [] = refl
machines_picked (r ∷ rs) =
    ap (λ (xs : List Machine). cond (is machine_kind r) (machine_of r rs ∷ xs) xs) (machines_picked rs)

-- the record where node k begins says node k of the model
pub node_found : (s : List ℕ) (k : ℕ) → k < length (file_model s).nodes
    → (node_of (record_at s (node_place s k)) ≡ get_or (file_model s).nodes k (leaf_node 0))
    × (is_node (record_at s (node_place s k)) ≡ true)
unfolding record_at node_place file_model model_of records_of first
node_found s k h =
    let q = nodes_picked (records_from (length s) s) in
    let l : length (picked is_node (λ r rs. node_of r) (leaf_node 0) (records_from (length s) s)) ≡ length
    (nodes_of (records_from (length s) s)) = ap length q in
    let w = found is_node (λ r rs. node_of r) (leaf_node 0) (length s) s k (omega arith) (omega arith) in
    (w.0 ∙ ap (λ (xs : List Node). get_or xs k (leaf_node 0)) q, w.1)

-- a node's record, and the record of the node that it says, have one kind
kind_back : (r : Record) → is_node r ≡ true → (record_of_node (node_of r)).kind ≡ r.kind
unfolding record_of_node node_of
kind_back r h =
    at (is leaf_kind r) refl (is join_kind r) refl (is hide_kind r) refl (is rename_kind r) refl
  where
    at : (a : Bool) → is leaf_kind r ≡ a → (b : Bool) → is join_kind r ≡ b → (c : Bool) → is hide_kind r ≡ c
        → (d : Bool) → is rename_kind r ≡ d → (record_of_node (node_of r)).kind ≡ r.kind
    at true p b q c s d t = rw p (sym (eqb-true r.kind leaf_kind p))
    at false p true q c s d t = rw (p, q) (sym (eqb-true r.kind join_kind q))
    at false p false q true s d t = rw (p, q, s) (sym (eqb-true r.kind hide_kind s))
    at false p false q false s true t = rw (p, q, s) (sym (eqb-true r.kind rename_kind t))
    at false p false q false s false t =
        let n : false ≡ true = rw (p, q, s, t) at h in absurd (true_not_false (sym n))

-- the record where node k begins is of the node's kind, and stands within the file
pub node_kind_found : (s : List ℕ) (k : ℕ) → k < length (file_model s).nodes
    → (record_at s (node_place s k)).kind ≡ (record_of_node (get_or (file_model s).nodes k (leaf_node 0))).kind
node_kind_found s k h =
    let w = node_found s k h in
    sym (kind_back (record_at s (node_place s k)) w.1) ∙ ap (λ (x : Node). (record_of_node x).kind) w.0

pub node_inside : (s : List ℕ) (k : ℕ) → k < length (file_model s).nodes → node_place s k < length s
unfolding record_at first_record record_of size_of body_length
node_inside s k h = go (dec_lt (node_place s k) (length s))
  where
    go : Dec (node_place s k < length s) → node_place s k < length s
    go (yes l) = l
    go (no l) =
        let none : is_node (record_at s (node_place s k)) ≡ false =
        ap (λ (b : List ℕ). is_node (first_record b)) (gone s (node_place s k) (omega arith)) in
        absurd (true_not_false (sym (node_found s k h).1 ∙ none))

-- where machine m begins stand its state count and, behind two bytes, its steps
pub record MachineFound (s : List ℕ) (m : ℕ) : Type 0 where
  pub states_found : states_of s m ≡ (get_or (file_model s).machines m idle).states
  pub steps_found : steps_of (records_of (drop (machine_place s m + 2) s))
      ≡ (get_or (file_model s).machines m idle).steps
  pub count_found : steps_at s (machine_place s m + 2) ≡ length (get_or (file_model s).machines m idle).steps

pub machine_found : (s : List ℕ) (m : ℕ) → m < length (file_model s).machines → MachineFound s m
unfolding record_at states_of steps_at machine_place file_model model_of records_of first size_of body_length
machine_found s m h =
    let rs = records_from (length s) s in
    let q = machines_picked rs in
    let l : length (picked (is machine_kind) machine_of idle rs) ≡ length (machines_of rs) = ap length q in
    let w = found (is machine_kind) machine_of idle (length s) s m (omega arith) (omega arith) in
    let place = place_in (is machine_kind) rs m in
    let e : machine_of (first_record (drop place s)) (records_of (rest (drop place s)))
    ≡ get_or (machines_of rs) m idle =
    w.0 ∙ ap (λ (xs : List Machine). get_or xs m idle) q in
    let size : size_of (first_record (drop place s)).kind ≡ 2 =
    ap size_of (eqb-true (first_record (drop place s)).kind machine_kind w.1) in
    let b : rest (drop place s) ≡ drop (place + 2) s =
    ap (λ (n : ℕ). drop n (drop place s)) size ∙ drop-drop 2 place s in
    let steps : steps_of (records_of (drop (place + 2) s)) ≡ (get_or (machines_of rs) m idle).steps =
    ap (λ (c : List ℕ). steps_of (records_of c)) (sym b) ∙ ap (λ (x : Machine). x.steps) e in
    record {
      states_found = ap (λ (x : Machine). x.states) e;
      steps_found = steps;
      count_found = ap length steps;
    }
