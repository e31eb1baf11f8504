-- What reading a file has counted is what its model has: events and nodes. Assumes nothing.
use Rattle.std.proofs.Common.{◌≡◌, refl, sym, ap, ◌∙◌, Bool, true, false, cond, List, [], ◌∷◌, ◌++◌, ℕ, arith, ltb, length, ◌+◌}
use Rattle.network.specs.Model.{Model}
use Rattle.records.specs.declared.Record.{Record}
use Rattle.records.specs.Records.{end_record}
use Rattle.records.specs.Kinds.{is_node}
use Rattle.decoding.specs.Bytes.{AreBytes}
use Rattle.progress.specs.declared.Progress.{Progress}
use Rattle.progress.specs.Progress.{start, take_record}
use Rattle.reader.specs.declared.Scan.{Scan}
use Rattle.reader.specs.declared.Scan.TheVariants.{Stopped, Finished}
use Rattle.reader.specs.Scan.{scan_of, to_reading, reading_of, said_of, readable, says}
use Rattle.reader.specs.File.{records_from, records_of, nodes_of, node_of, model_of, file_model}
use Rattle.reader.specs.Encoding.{model_records}
use Rattle.reader.proofs.Records.{Runs, runs}
use Rattle.reader.proofs.Passes.{after, runs_out, after_append}
use Rattle.reader.proofs.OneEncoding.{file_listing}
use Rattle.reader.proofs.Stages.{records_read, events_known, nodes_read, nodes_known}
use Rattle.tests.specs.Reasons.{refusal}
use Rattle.std.specs.Prelude.{Result, Ok, Err}
use Rattle.tests.specs.declared.Reason.TheVariants.{TooLong}
use Rattle.tests.specs.declared.Refusal.{Refusal}

-- what was read of a readable file
pub reading_out : (s : List ℕ) (g : Progress) → Ok g ≡ reading_of s → (says s ≡ readable) × (scan_of s ≡ Ok (Finished g))
unfolding says said_of reading_of to_reading
reading_out s g e = (ap said_of (sym e), long (ltb 4096 (length s)) (scan_of s) refl e)
  where
    long : (x : Bool) (v : Result Scan Refusal) → scan_of s ≡ v → Ok g ≡ cond x (Err (refusal TooLong 0)) (to_reading v)
        → scan_of s ≡ Ok (Finished g)
    long true v w e = let z : ◌≡◌ {A = ℕ} 0 1 = cc in absurd (omega arith)
    long false (Ok (Stopped h)) w e = let z : ◌≡◌ {A = ℕ} 0 1 = cc in absurd (omega arith)
    long false (Ok (Finished h)) w e = let z : g ≡ h = cc in w ∙ ap (λ (x : Progress). Ok (Finished x)) (sym z)
    long false (Err f) w e = let z : ◌≡◌ {A = ℕ} 0 1 = cc in absurd (omega arith)

-- behind a model's records and an end, n and the nodes are the model's
behind_end : (M : Model) (x : ℕ) → let h = after start (model_records M ++ (end_record x ∷ [])) in
    (h.n ≡ M.events) × (h.nodes ≡ length M.nodes)
unfolding after take_record
behind_end M x =
    rw (after_append (model_records M) (end_record x ∷ []) start, records_read M)
    ((nodes_read M).n_same ∙ events_known M, nodes_known M)

pub counted : (s : List ℕ) (g : Progress) → AreBytes s → Ok g ≡ reading_of s
    → (g.n ≡ (file_model s).events) × (g.nodes ≡ length (file_model s).nodes)
unfolding file_model scan_of records_of
counted s g y e =
    let q = reading_out s g e in
    let l = (file_listing s y q.0).listing in
    let run = runs (length s) start g s q.1 in
    let z : g ≡ after start (model_records (file_model s) ++ (end_record l.count ∷ [])) =
    sym (runs_out (records_of s) start g run.taken).1 ∙ ap (λ (rs : List Record). after start rs) l.listed in
    rw z (behind_end (file_model s) l.count)

-- the nodes that were counted are those of the records, whatever the numbers of the list s are
nodes_counted : (rs : List Record) (g h : Progress) → Runs g rs h → h.nodes ≡ g.nodes + length (nodes_of rs)
unfolding Runs nodes_of take_record
nodes_counted [] g h w = ap (λ (x : Progress). x.nodes) (sym w) ∙ omega arith
nodes_counted (r ∷ rs) g h w = go (is_node r) (nodes_counted rs (take_record g r) h w.1)
  where
    go : (b : Bool) → h.nodes ≡ cond b (g.nodes + 1) g.nodes + length (nodes_of rs)
        → h.nodes ≡ g.nodes + length (cond b (node_of r ∷ nodes_of rs) (nodes_of rs))
    go true e = e ∙ omega arith
    go false e = e

pub nodes_are : (s : List ℕ) (g : Progress) → Ok g ≡ reading_of s → g.nodes ≡ length (file_model s).nodes
unfolding file_model model_of records_of scan_of start
nodes_are s g e =
    nodes_counted (records_from (length s) s) start g (runs (length s) start g s (reading_out s g e).1).taken
    ∙ omega arith
