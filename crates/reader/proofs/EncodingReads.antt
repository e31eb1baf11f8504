-- A model that a file can say has a readable encoding, of bytes, whose model it is.
-- Assumes nothing.
use Rattle.std.proofs.Common.{◌≡◌, refl, sym, ap, ◌∙◌, Bool, true, false, ◌≢◌, List, [], ◌∷◌, ◌++◌, map, ℕ, suc}
use Rattle.std.proofs.Common.{◌+◌, ◌-◌, ◌≤◌, ◌<◌, arith, T, length, length-append}
use mathlib.Core.List.{flat_map, Memᴰ}
use native.Mathlib.Decide.{dec_lt}
use Rattle.events.specs.Sets.{room, has, digit}
use Rattle.events.proofs.Machine.{has_empty}
use Rattle.network.specs.Machine.{Step, Machine}
use Rattle.network.specs.Model.{Node, leaf_node, join_node, hide_node, rename_node, Model, operands, times}
use Rattle.network.specs.Model.{leaf_machines}
use Rattle.records.specs.declared.Record.{Record}
use Rattle.progress.specs.declared.Progress.{Progress}
use Rattle.records.specs.Kinds.{size_of}
use Rattle.decoding.specs.Bytes.{AreBytes, bytes_of}
use Rattle.records.specs.Records.{header_record, end_record}
use Rattle.progress.specs.Progress.{start}
use Rattle.tests.specs.FirstHit.{first_hit}
use Rattle.tests.proofs.MayStand.{header_met, end_met}
use Rattle.tests.proofs.Passes.{met_in}
use Rattle.decoding.proofs.Decodes.{decodes_header, decodes_end}
use Rattle.reader.specs.declared.Scan.TheVariants.{Finished}
use Rattle.reader.specs.Scan.{scan_from, scan_of, readable, says}
use Rattle.reader.specs.File.{records_from, records_of, model_of, file_model}
use Rattle.reader.specs.Encoding.{records_of_machine, record_of_node, model_records, bytes_of_all, encode, Encodable}
use Rattle.reader.proofs.Readings.{readable_in}
use Rattle.reader.proofs.Records.{EndsOnce}
use Rattle.reader.proofs.OneEncoding.{bytes_append, with_end}
use Rattle.reader.proofs.Passes.{after, Passes, passes_join, runs_in}
use Rattle.reader.proofs.Stages.{behind_header, behind_machines, behind_nodes, records_read, header_read}
use Rattle.reader.proofs.Stages.{machines_read, nodes_read, events_known, machines_known, no_node_yet}
use Rattle.reader.proofs.StepPhase.{Back}
use Rattle.reader.proofs.MachinePhase.{MachineGood, machines_in}
use Rattle.reader.proofs.Ranges.{covers_in}
use Rattle.reader.proofs.NodeAfter.{used_nodes}
use Rattle.reader.proofs.NodePhase.{NodeFilled, NodesFit, nodes_free}
use Rattle.reader.proofs.NodesPass.{nodes_in}
use Rattle.reader.proofs.Size.{encode_size}
use Rattle.reader.proofs.ScanBack.{AllDecode, decode_append, after_place, scan_back}
use Rattle.reader.proofs.ModelBack.{formed_back, model_back}
use Rattle.reader.proofs.Endings.{late_nodes, NoEnds, ends_in, no_ends_append, machines_no_end, nodes_no_end}
use Rattle.reader.proofs.EncodedBytes.{bytes_cons, bytes_both, bytes_two, machines_bytes, nodes_bytes}
use Rattle.std.specs.Prelude.{Ok}

module _ (M : Model) (e : Encodable M) where
  few_events : M.events ≤ 16
  few_events = e.within_limits.events_limit.1

  some_events : M.events ≢ 0
  some_events q = omega (arith, e.within_limits.events_limit.0)

  header_passes : first_hit start (header_record M.events) (size_of 1) ≡ Ok tt
  unfolding start
  header_passes =
      met_in start (header_record M.events)
      (header_met refl (record { first = refl; least = e.within_limits.events_limit.0; most = few_events }))

  good : (m : Machine) → Memᴰ m M.machines → MachineGood (behind_header M).n m
  good m k =
      rw (header_read M).n_read
      (record {
        formed = e.well_formed.machine_formed m k;
        most_states = (e.within_limits.states_limit m k).1;
        ascend = e.steps_ascend m k;
        eight = e.within_limits.machine_events_limit m k;
      })

  machines_pass : Passes (behind_header M) (flat_map records_of_machine M.machines)
  machines_pass =
      machines_in M.machines (behind_header M) (λ q. some_events (sym (header_read M).n_read ∙ q))
      (omega (arith, (header_read M).n_read, few_events))
      (header_read M).no_node (omega (arith, (header_read M).no_machine, e.within_limits.machines_limit.1))
      (omega (arith, (header_read M).no_step, e.within_limits.steps_limit)) good

  unused2 : (k : ℕ) → has (behind_machines M).used k ≡ false
  unused2 k = ap (λ (u : ℕ). has u k) ((machines_read M).used_same ∙ (header_read M).none_used) ∙ has_empty k

  filled : (x : Node) → Memᴰ x M.nodes → NodeFilled M.events x
  unfolding NodeFilled
  filled (leaf_node i) k = tt
  filled (join_node i j A) k = tt
  filled (hide_node i A) k = tt
  filled (rename_node i f) k = e.targets_filled i f k

  fit : NodesFit M.events (length M.machines) 0 M.nodes
  fit =
      record {
        formed = λ j l. let z : 0 + j ≡ j = omega arith in rw z (e.well_formed.node_formed j l);
        filled = filled;
      }

  once : (k : ℕ) → times k (flat_map operands M.nodes) ≤ 1
  once k = go (dec_lt (suc k) (length M.nodes))
    where
      go : Dec (suc k < length M.nodes) → times k (flat_map operands M.nodes) ≤ 1
      go (yes h) = omega (arith, e.well_formed.used_once k h)
      go (no h) =
          omega (arith, late_nodes M.events (length M.machines) 0 M.nodes k fit (omega (arith, h)))

  nodes_pass : Passes (behind_machines M) (map record_of_node M.nodes)
  unfolding leaf_machines
  nodes_pass =
      nodes_in M.nodes (behind_machines M) M.machines (λ q. some_events (sym (events_known M) ∙ q))
      (λ q. omega (arith, (machines_known M), e.within_limits.machines_limit.0))
      (omega (arith, (events_known M), few_events))
      (omega (arith, (no_node_yet M), e.within_limits.nodes_limit.1))
      (omega (arith, (machines_read M).leaves_same, (header_read M).no_leaf, e.within_limits.leaves_limit.1))
      (rw ((events_known M), (machines_known M), (no_node_yet M)) fit)
      (λ k h. rw (unused2 k) (omega (arith, once k)))

  used3 : (k : ℕ) → k < room → digit (has (behind_nodes M).used k) ≡ times k (flat_map operands M.nodes)
  unfolding behind_nodes
  used3 k h =
      let f = nodes_free M.nodes (behind_machines M)
      (omega (arith, (no_node_yet M), e.within_limits.nodes_limit.1)) nodes_pass in
      used_nodes M.nodes (behind_machines M) f k h ∙ rw (unused2 k) (omega arith)

  all_used : (k : ℕ) → k < (behind_nodes M).nodes - 1 → T (has (behind_nodes M).used k)
  all_used k h =
      let l : suc k < length M.nodes = omega (arith, (nodes_read M).nodes_more, (no_node_yet M)) in
      let q : digit (has (behind_nodes M).used k) ≡ 1 =
      used3 k (omega (arith, e.within_limits.nodes_limit.1)) ∙ e.well_formed.used_once k l in
      yes_digit (has (behind_nodes M).used k) q
    where
      yes_digit : (b : Bool) → digit b ≡ 1 → T b
      yes_digit true q = tt
      yes_digit false q = absurd (omega arith)

  -- the bytes before the end
  body : List ℕ
  body = bytes_of_all (model_records M)

  records_fine : AreBytes body × AllDecode (model_records M)
  unfolding body model_records flat_map AllDecode bytes_of
  records_fine =
      let m = machines_bytes M.events M.machines few_events
      (λ m k. (e.well_formed.machine_formed m k, (e.within_limits.states_limit m k).1)) in
      let n = nodes_bytes M.events (length M.machines) 0 M.nodes few_events
      e.within_limits.machines_limit.1
      (omega (arith, e.within_limits.nodes_limit.1)) fit in (
        bytes_cons 1 _ (omega arith)
            (bytes_cons M.events _ (omega (arith, few_events))
            (rw (bytes_append (flat_map records_of_machine M.machines) (map record_of_node M.nodes))
            (bytes_both (bytes_of_all (flat_map records_of_machine M.machines)) (bytes_of_all (map record_of_node M.nodes))
            m.0 n.0))),
        (
          decodes_header M.events,
          decode_append (flat_map records_of_machine M.machines)
              (map record_of_node M.nodes) m.1 n.1,
        ),
      )

  end_passes : first_hit (behind_nodes M) (end_record (length body)) (size_of 8) ≡ Ok tt
  unfolding body start
  end_passes =
      let p : (after start (model_records M)).place ≡ 0 + length (bytes_of_all (model_records M)) =
      after_place (model_records M) start records_fine.1 in
      let q : (behind_nodes M).place ≡ length (bytes_of_all (model_records M)) =
      sym (ap (λ (x : Progress). x.place) (records_read M)) ∙ p
      ∙ omega arith in
      met_in (behind_nodes M) (end_record (length (bytes_of_all (model_records M))))
      (end_met refl
      (record {
        has_header = λ z. some_events (sym ((nodes_read M).n_same ∙ (events_known M)) ∙ z);
        some_node = λ z. omega (arith, (nodes_read M).nodes_more, (no_node_yet M), e.within_limits.nodes_limit.0);
        counted = sym q;
        all_used = covers_in ((behind_nodes M).nodes - 1) (behind_nodes M).used all_used;
      }))

  all : List Record
  all = model_records M ++ (end_record (length body) ∷ [])

  all_pass : Passes start all
  unfolding all Passes model_records behind_header behind_machines
  all_pass =
      passes_join (model_records M) (end_record (length body) ∷ []) start (
        header_passes,
        passes_join (flat_map records_of_machine M.machines) (map record_of_node M.nodes) (behind_header M)
            machines_pass nodes_pass,
      )
      (last (sym (records_read M)) (end_passes, tt))
    where
      last : {g : Progress} → (behind_nodes M) ≡ g → Passes (behind_nodes M) (end_record (length body) ∷ [])
          → Passes g (end_record (length body) ∷ [])
      last q p = rw (← q) p

  is_encoding : bytes_of_all all ≡ encode M
  unfolding all body encode
  is_encoding = with_end (model_records M) (length (bytes_of_all (model_records M)))

  ends : EndsOnce all
  unfolding all model_records NoEnds
  ends =
      ends_in (model_records M) (length body) (
        λ q. omega arith,
        no_ends_append (flat_map records_of_machine M.machines) (map record_of_node M.nodes)
            (machines_no_end M.machines) (nodes_no_end M.nodes),
      )

  comes : (scan_from (length (encode M)) start (encode M) ≡ Ok (Finished (after start all)))
      × (records_from (length (encode M)) (encode M) ≡ all)
  unfolding all AllDecode
  comes =
      let d = decode_append (model_records M) (end_record (length body) ∷ []) records_fine.1
      (decodes_end (length body), tt) in
      let c = scan_back (length (bytes_of_all all)) all start (after start all) (runs_in all start all_pass) ends d
      (omega arith) in
      along (λ b. (scan_from (length b) start b ≡ Ok (Finished (after start all))) × (records_from (length b) b ≡ all))
      is_encoding c
    where
      along : (P : List ℕ → Type 0) {x y : List ℕ} → x ≡ y → P x → P y
      along P q p = rw (← q) p

  back : (m : Machine) → Memᴰ m M.machines → (x : Step) → Memᴰ x m.steps → Back x
  back m k x j = formed_back M.events m.states x few_events ((e.well_formed.machine_formed m k).every_step x j)

  small : length body < 65536
  unfolding body encode
  small =
      let b = bytes_of_all (model_records M) in
      omega (arith, (encode_size M e).1, length-append b (bytes_of (end_record (length b))))

  pub encoding_reads : AreBytes (encode M) × (says (encode M) ≡ readable) × (file_model (encode M) ≡ M)
  unfolding encode body scan_of records_of file_model all bytes_of
  encoding_reads = (
    bytes_both (bytes_of_all (model_records M)) (bytes_of (end_record (length (bytes_of_all (model_records M)))))
        records_fine.0
        (bytes_cons 8 _ (omega arith) (bytes_two (length (bytes_of_all (model_records M))) small)),
    readable_in (encode M) (omega (arith, (encode_size M e).1)) (after start all) comes.0,
    ap model_of comes.1 ∙ model_back M (length (bytes_of_all (model_records M))) back,
  )
