-- The pairs worked by hand in document 01, cases 1 to 10 (starred): one table, a row a model, with what is said of it.
-- Assumes nothing.
use Rattle.std.specs.Prelude.{List, [], ◌∷◌, map, ℕ}
use Rattle.network.specs.Machine.{silent, event, Step, step, Machine}
use Rattle.network.specs.Model.{Node, leaf_node, join_node, hide_node, rename_node, Model, root}
use Rattle.network.specs.Lists.{pack, list_of}
use Rattle.network.specs.Verdict.{Verdict, pass, inconclusive, refused, verdict}

-- what is said of a model: after a pass the bound and the root's list; otherwise the verdict
pub data Said : Type 0 where
  passes : ℕ → List ℕ → Said
  stops : Verdict → Said

unfoldable pub said_of : Verdict → List ℕ → Said
said_of (pass b) xs = passes b xs
said_of (inconclusive k) xs = stops (inconclusive k)
said_of (refused r k) xs = stops (refused r k)

unfoldable pub says : Model → Said
says M = said_of (verdict M) (list_of M.events (root M))

-- a row: the case's number in document 01, the model, and what document 01 says of it
pub record Case : Type 0 where
  pub number : ℕ
  pub station : Model
  pub said : Said

abbrev machine : ℕ → List Step → Machine
machine c xs = record { states = c; steps = xs }

abbrev model : ℕ → List Machine → List Node → Model
model n ms xs = record { events = n; machines = ms; nodes = xs }

abbrev row : ℕ → Model → Said → Case
row k M o = record { number = k; station = M; said = o }

-- one state looping on event e; one state and no step; one state with a silent loop
abbrev loop_on : ℕ → Machine
loop_on e = machine 1 (step 0 (event e) 0 ∷ [])

abbrev stuck : Machine
stuck = machine 1 []

abbrev silent_loop : Machine
silent_loop = machine 1 (step 0 silent 0 ∷ [])

-- two states that do event 0 and event 1 in turn
abbrev in_turn : Machine
in_turn = machine 2 (step 0 (event 0) 1 ∷ step 1 (event 1) 0 ∷ [])

-- two states, 0 silent to 1, 1 by event 0 to 0
abbrev silent_first : Machine
silent_first = machine 2 (step 0 silent 1 ∷ step 1 (event 0) 0 ∷ [])

-- source 001's P and Q, a = 0 and b = 1, with P first and with Q first
abbrev pub starts_p : Machine
starts_p = machine 2 (step 0 (event 0) 1 ∷ step 1 (event 0) 0 ∷ step 1 (event 1) 1 ∷ [])

abbrev pub starts_q : Machine
starts_q = machine 2 (step 0 (event 0) 1 ∷ step 0 (event 1) 0 ∷ step 1 (event 0) 0 ∷ [])

-- two leaves of machines 0 and 1, or of machine 0 twice, joined over A, and behind them the further nodes
abbrev joined : ℕ → ℕ → List Node → List Node
joined right A xs = leaf_node 0 ∷ leaf_node right ∷ join_node 0 1 A ∷ xs

-- case 10's model
unfoldable pub example10 : Model
example10 = model 2 (starts_p ∷ starts_q ∷ []) (joined 1 3 (hide_node 2 2 ∷ []))

unfoldable pub cases : List Case
cases =
    row 1 (model 2 (in_turn ∷ []) (joined 0 3 (hide_node 2 2 ∷ []))) (passes 4 (pack 1 2 ∷ []))
    ∷ row 2 (model 2 (in_turn ∷ []) (joined 0 3 (hide_node 2 3 ∷ []))) (stops (inconclusive 3))
    ∷ row 3 (model 1 (loop_on 0 ∷ stuck ∷ []) (joined 1 1 [])) (passes 1 [])
    ∷ row 3 (model 1 (loop_on 0 ∷ stuck ∷ []) (joined 1 1 (hide_node 2 1 ∷ []))) (passes 1 [])
    ∷ row 4 (model 1 (loop_on 0 ∷ stuck ∷ []) (joined 1 0 [])) (passes 1 (pack 1 0 ∷ []))
    ∷ row 4 (model 1 (loop_on 0 ∷ stuck ∷ []) (joined 1 0 (hide_node 2 1 ∷ []))) (stops (inconclusive 3))
    ∷ row 5 (model 2 (loop_on 0 ∷ loop_on 1 ∷ []) (joined 1 0 [])) (passes 1 (pack 1 2 ∷ pack 2 1 ∷ pack 3 0 ∷ []))
    ∷ row 6 (model 2 (loop_on 0 ∷ loop_on 1 ∷ []) (joined 1 1 [])) (passes 1 (pack 2 1 ∷ []))
    ∷ row 7 (model 2 (loop_on 0 ∷ []) (leaf_node 0 ∷ rename_node 0 (1 ∷ 1 ∷ []) ∷ [])) (passes 1 (pack 2 1 ∷ []))
    ∷ row 8 (model 1 (silent_first ∷ []) (leaf_node 0 ∷ [])) (passes 2 (pack 1 0 ∷ []))
    ∷ row 9 (model 1 (silent_loop ∷ []) (leaf_node 0 ∷ [])) (stops (inconclusive 0))
    ∷ row 9 (model 1 (silent_loop ∷ loop_on 0 ∷ []) (leaf_node 1 ∷ [])) (passes 1 (pack 1 0 ∷ []))
    ∷ row 10 example10 (stops (inconclusive 3))
    ∷ []

-- what the rules say of every row, and what document 01 says
unfoldable pub computed : List Case → List Said
computed cs = map (λ (c : Case). says c.station) cs

unfoldable pub worked : List Case → List Said
worked cs = map (λ (c : Case). c.said) cs
