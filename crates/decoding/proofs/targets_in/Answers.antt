use Rattle.std.proofs.Common.{◌+◌, rules}
use Rattle.std.proofs.lemmas.List.FromFn.{fill_by_all}
use Rattle.decoding.specs.Bytes.{byte, targets_in}
use Rattle.decoding.proofs.targets_in.Goals as goal

pub returns : goal.returns
unfolding targets_in
returns c =
    let made = c.from_fn.ensures.items in
    fill_by_all (λ k. byte c.args.b.now (k + 2)) c.from_fn.result 16 0 made.long
    (λ k h. let e = made.at k 0 h in search rules)
