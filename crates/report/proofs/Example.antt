-- Document 01's example prints its nine lines, by computing the definitions on its 28 bytes. Assumes nothing.
use Rattle.std.proofs.Common.{refl}
use mathlib.Core.List.{flat_map}
use Rattle.events.specs.Sets.{has, set_of, any_below, count}
use Rattle.network.specs.Machine.{is_label, is_silent}
use Rattle.network.specs.Model.{idle, nowhere, network_of, networks_from, networks, node_network, own_machine}
use Rattle.network.specs.Model.{leaf_machines, product, bound}
use Rattle.network.specs.Loops.{any_of, reach, stays, leads, edge, reaches, carries, loops, closes, spins}
use Rattle.network.specs.Lists.{pack, first_of, second_of, insert_at, insert_all, in_order, numbers_below, leaf_candidate}
use Rattle.network.specs.Lists.{together_candidate, alone_candidate, join_candidates, hide_candidate, rename_candidate}
use Rattle.network.specs.Lists.{list_of, flag_of}
use Rattle.network.specs.Verdict.{has_empty_first, operand_empty, is_over, verdict_from, verdict}
use Rattle.records.specs.Kinds.{body_length, size_of}
use Rattle.records.specs.Records.{no_targets}
use Rattle.decoding.specs.Bytes.{targets_in, record_of, first_record}
use Rattle.progress.specs.Progress.{start, used_with, take_record}
use Rattle.ranges.specs.Ranges.{wrong_targets}
use Rattle.tests.specs.FirstHit.{first_hit}
use Rattle.reader.specs.Scan.{scan_from, scan_of, to_reading, reading_of}
use Rattle.decoding.specs.Labels.{label_of}
use Rattle.reader.specs.File.{records_from, records_of, step_of, steps_of, machines_of, node_of, nodes_of, event_count}
use Rattle.reader.specs.File.{model_of, file_model}
use Rattle.reader.specs.Cases.{example}
use Rattle.report.specs.Text.{decimal_in, decimal, hex_digit, hex, kind_name, line, first_line, node_line, pair_line}
use Rattle.report.specs.Printed.{verdict_at, kind_of, node_text, in_turn, printed_for, printed}
use Rattle.report.specs.Example.{nine_lines}
use Rattle.report.specs.Promise.{ExampleIsPrinted}

pub example_is_printed : ExampleIsPrinted
unfolding
    ExampleIsPrinted nine_lines printed printed_for in_turn node_text kind_of verdict_at pair_line node_line first_line line
    kind_name hex hex_digit decimal decimal_in
    example reading_of to_reading scan_of scan_from first_record record_of size_of body_length no_targets targets_in take_record
    used_with start first_hit wrong_targets has set_of count
    file_model model_of event_count nodes_of node_of machines_of steps_of step_of label_of records_of records_from
    verdict verdict_from is_over operand_empty has_empty_first list_of flag_of pack first_of second_of insert_at insert_all in_order
    numbers_below leaf_candidate together_candidate alone_candidate join_candidates hide_candidate rename_candidate any_of
    reach stays leads edge reaches carries loops is_silent closes spins is_label networks networks_from network_of
    node_network own_machine leaf_machines product bound idle nowhere any_below flat_map
example_is_printed = refl
