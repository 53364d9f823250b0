-- After codestreams that reach the limit of an input one byte is too many.
use Rattle.std.proofs.Common.{◌≡◌, ◌≤◌, ◌^◌, ℕ, List, [], length, subst, refl, sym, inl, inr, arith}
use Rattle.std.specs.Prelude.{Err}
use Rattle.codestream_model.specs.HeadRefusals.{Cut as HeadCut}
use Rattle.codestream_model.specs.RefusedHeader.{RefusesHead, segment_tests, skipped_tests}
use Rattle.codestream_model.specs.MainHeaderReading.{read_tile, read_main, head_of}
use Rattle.codestream_model.specs.SegmentTests.{siz_tests, cap_tests, cod_tests, tile_tests}
use Rattle.codestream_model.specs.PacketOrder.{sum_below}
use Rattle.codestream_model.specs.Codestream.{InputTooLong, RefusesRest}
use Rattle.codestream_model.specs.ItemLaws.{OneByteMoreIsAFault}
use Rattle.codestream_model.proofs.WorkedRelations.{bytes_if_tested, refuses_if_read}

-- No bytes are read as a main header that is cut.
no_bytes_are_read : head_of [] ≡ Err (record { at = 0; why = HeadCut })
unfolding siz_tests cap_tests cod_tests tile_tests segment_tests skipped_tests sum_below read_tile read_main head_of
no_bytes_are_read = refl

-- So they are refused.
no_bytes : RefusesHead [] 0 HeadCut
no_bytes = refuses_if_read [] (record { at = 0; why = HeadCut }) (bytes_if_tested [] refl) no_bytes_are_read

-- After the limit a main header needs a byte that is not read.
pub none_is_read : (rest : List ℕ) → 1 ≤ length rest → RefusesRest (2 ^ 40) rest (2 ^ 40) InputTooLong
none_is_read rest some = ((0, inl no_bytes), omega (arith, some), refl)

-- So it is after whole codestreams.
pub one_byte_more : OneByteMoreIsAFault
one_byte_more codestreams rest each few full some =
    let P : ℕ → Type 0 = λ n. RefusesRest n rest (2 ^ 40) InputTooLong in
    record {
      codestreams = codestreams;
      rest = rest;
      whole = refl;
      each = each;
      within = omega (arith, full);
      follows = some;
      fault = inr (few, subst P (sym full) (none_is_read rest some));
    }
