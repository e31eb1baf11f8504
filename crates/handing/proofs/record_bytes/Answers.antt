use Rattle.std.proofs.Common.{rules, ◌≡◌, ◌<◌, ◌∙◌, sym, length, map, get_or}
use Rattle.std.proofs.lemmas.List.{length-map}
use Rattle.std.proofs.lemmas.Grind.{same_number_lists}
use Rattle.std.proofs.Math.ListN.{get_or-map}
use Rattle.records.proofs.Sizes.{size_other}
use Rattle.records.specs.Kinds.{size_of, body_length}
use Rattle.decoding.specs.Bytes.{bytes_of}
use Rattle.handing.specs.Handing.{low_byte, record_array}
use Rattle.handing.proofs.Handing.{kind_alone}
use Rattle.handing.proofs.record_bytes.Goals as goal

pub returns-in-Ok-Header : goal.returns-in-Ok-Header
unfolding record_array bytes_of size_of body_length
returns-in-Ok-Header c = search rules

pub returns-in-Ok-Step : goal.returns-in-Ok-Step
unfolding record_array bytes_of size_of body_length
returns-in-Ok-Step c = search rules

pub returns-in-Ok-Join : goal.returns-in-Ok-Join
unfolding record_array bytes_of size_of body_length
returns-in-Ok-Join c = search rules

pub returns-in-Ok-Hide : goal.returns-in-Ok-Hide
unfolding record_array bytes_of size_of body_length
returns-in-Ok-Hide c = search rules

pub returns-in-Ok-End : goal.returns-in-Ok-End
unfolding record_array bytes_of size_of body_length
returns-in-Ok-End c = search rules

pub returns-in-Ok-Rename : goal.returns-in-Ok-Rename
unfolding record_array bytes_of size_of body_length
returns-in-Ok-Rename c =
    let xs = c.args.r.targets in
    let m = c.map.ensures.items in
    let sixteen : length xs ≡ 16 = search rules in
    let lows : c.map.result ≡ map low_byte xs =
    same_number_lists _ _ (simp (length-map, sixteen) m.long)
    (λ k h. let n : k < 16 = rw m.long at h in
    let called = (m.at k 0 0 n).2 in
    let low : get_or c.map.result k 0 ≡ low_byte (get_or xs k 0) = search rules in
    low ∙ sym (get_or-map low_byte xs k 0)) in
    search rules

pub returns-in-Err : goal.returns-in-Err
unfolding record_array
returns-in-Err c =
    let size = size_other c.args.r.kind c.in-Err.ensures.1 in
    let alone = kind_alone c.args.r size in
    search rules
