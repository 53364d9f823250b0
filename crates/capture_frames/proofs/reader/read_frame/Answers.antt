use Rattle.std.proofs.Common.{◌≡◌, ◌++◌, length, arith}
use Rattle.capture_frames.proofs.Framed.{frame_end, frame_cut, frame_past, frame_failed, frame_whole, frame_short, frame_beyond, frame_broken}
use Rattle.capture_frames.proofs.reader.read_frame.Goals as goal

pub returns-in-Short-eq0 : goal.returns-in-Short-eq0
returns-in-Short-eq0 g c = let f = c.in-Short-eq0.ensures in (f.0, frame_end _ _ _ _ _ _ (rw c.in-Short-eq0.field-0-test at f.1))

pub returns-in-Short : goal.returns-in-Short
returns-in-Short g c = let f = c.in-Short.ensures in (f.0, frame_cut _ _ _ _ _ _ _ (omega arith) f.1)

pub returns-in-Past : goal.returns-in-Past
returns-in-Past g c = let f = c.in-Past.ensures in (f.0, frame_past _ _ _ _ _ _ f.1)

pub returns-in-Failed : goal.returns-in-Failed
returns-in-Failed g c = let f = c.in-Failed.ensures in (f.0, frame_failed _ _ _ _ _ _ f.1)

pub returns-in-All-fetch : goal.returns-in-All-fetch
returns-in-All-fetch g c =
    let f = c.in-All.ensures in
    let two : length c.fetch.new.buf ≡ 2 = omega arith in
    let b = c.in-All-fetch.ensures in
    let rest = rw c.from.ensures at b.1 in
    (f.0 ++ b.0, rw c.answer.ensures (frame_whole _ _ _ _ _ _ _ _ _ two c.length_of-len.ensures.low (omega arith) c.length_of-len.ensures.length (omega arith) f.1 rest))

pub returns-in-Short-fetch : goal.returns-in-Short-fetch
returns-in-Short-fetch g c =
    let f = c.in-All.ensures in
    let two : length c.fetch.new.buf ≡ 2 = omega arith in
    let b = c.in-Short-fetch.ensures in
    let rest = rw c.from.ensures at b.1 in
    (f.0 ++ b.0, frame_short _ _ _ _ _ _ _ _ _ _ two c.length_of-len.ensures.length f.1 rest)

pub returns-in-Past-fetch : goal.returns-in-Past-fetch
returns-in-Past-fetch g c =
    let f = c.in-All.ensures in
    let two : length c.fetch.new.buf ≡ 2 = omega arith in
    let b = c.in-Past-fetch.ensures in
    let rest = rw c.from.ensures at b.1 in
    (f.0 ++ b.0, frame_beyond _ _ _ _ _ _ _ _ _ two c.length_of-len.ensures.length f.1 rest)

pub returns-in-Failed-fetch : goal.returns-in-Failed-fetch
returns-in-Failed-fetch g c =
    let f = c.in-All.ensures in
    let two : length c.fetch.new.buf ≡ 2 = omega arith in
    let b = c.in-Failed-fetch.ensures in
    let rest = rw c.from.ensures at b.1 in
    (f.0 ++ b.0, frame_broken _ _ _ _ _ _ _ _ _ two c.length_of-len.ensures.length f.1 rest)
