use Rattle.std.proofs.Common.{◌≡◌, ◌-◌, ◌^◌, length}
use Rattle.std.specs.Prelude.{nat_lt}
use Rattle.std.specs.List.{list_any, range_with_len}
use Rattle.codestream_model.specs.SegmentTests.{pids_end, has_great_pid}
use Rattle.j2k_markers.specs.Fields.{fields_head}
use Rattle.j2k_markers.proofs.identifiers.has_great_pid.Given as goal

abbrev pub invariant-loop-c : goal.invariant-loop-c
invariant-loop-c l = has_great_pid (fields_head l.fields 0 0 0) ≡ list_any (λ c. nat_lt (2 ^ 20) (pids_end (fields_head l.fields 0 0 0) c)) (range_with_len l.c (length l.fields.steps.items - l.c))
