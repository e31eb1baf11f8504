use Rattle.std.proofs.Common.{rules, ◌≡◌, ◌≤◌, ◌<◌, ◌^◌, arith, sym, ◌∙◌, length, ◌++◌, take, drop, ◌-◌}
use borrow.Rule.Slice.PartMut.{put_mid}
use Rattle.decoding.specs.Bytes.{bytes_of}
use Rattle.handing.proofs.Handing.{handed_targets}
use Rattle.writer.proofs.Answers.{success_out, appended}
use Rattle.writer.proofs.Fitting.{InForm}
use Rattle.writer.proofs.Storing.{stored_is}
use Rattle.writer.specs.Append.{answer_of, buffer_of, buffer_after}
use Rattle.writer.proofs.append.Goals as goal

pub returns-then-buf-used : goal.returns-then-buf-used
unfolding answer_of buffer_of buffer_after
returns-then-buf-used c = search rules

pub returns-then-used-gt4096 : goal.returns-then-used-gt4096
unfolding answer_of buffer_of buffer_after
returns-then-used-gt4096 c = search rules

pub returns-in_err-end : goal.returns-in_err-end
unfolding answer_of buffer_of buffer_after
returns-in_err-end c = search rules

pub returns : goal.returns
returns c =
    let b = c.args.buf.now in
    let used = c.args.used in
    let end = c.in_ok-end.end in
    let r = c.handed_in-r.result in
    let q = c.handed_in-r.ensures in
    let e = sym c.in_ok-end.was ∙ c.answer.ensures.said in
    let s = success_out (length b) used r _ end e in
    let few : length r.targets ≤ 16 = rw q (handed_targets used c.args.kind c.args.numbers) in
    let word : r.set < 2 ^ 32 = c.record_bytes.ensures.1 in
    let form : InForm r = record { set_word = word; targets_few = few } in
    let stored : put_mid used (end - used) b c.copy_from_slice.new.self ≡ take used b ++ (bytes_of r ++ drop end b) =
    rw (c.copy_from_slice.ensures.after, c.record_bytes.ensures.0)
    (stored_is b used r end s (omega arith) (omega arith) form) in
    let p = rw q at (appended b used r (omega arith) (omega arith) end _ e stored) in
    record { answer = p.0; buffer = p.1 }
