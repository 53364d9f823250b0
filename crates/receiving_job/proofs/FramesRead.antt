-- The frames of bytes.
use Rattle.std.proofs.Common.{◌≤◌, ◌<◌, ◌+◌, ◌-◌, ◌*◌, ◌^◌, ℕ, zero, suc, true, false, List, [], ◌∷◌, length, take, drop, nat_le, arith, length-take, if◌then◌else◌}
use Rattle.std.specs.List.{AllByRecursion}
use Rattle.codestream_model.proofs.SegmentBytes.{bytes-take, bytes-drop}
use Rattle.wire_model.specs.Bytes.{IsBytes}
use Rattle.wire_model.specs.Framing.{first_frames, whole_frames}
use Rattle.stream_model.specs.Commands.{counted}

-- the frames of bytes are bytes
first_are_bytes : (n : ℕ) (b : List ℕ) → IsBytes b → AllByRecursion IsBytes (first_frames n b)
unfolding first_frames
first_are_bytes zero b fits = tt
first_are_bytes (suc n) [] fits = tt
first_are_bytes (suc n) (high ∷ []) fits = tt
first_are_bytes (suc n) (high ∷ low ∷ bytes) fits =
    let size = high * 256 + low in
    let later : IsBytes bytes = λ i. fits (suc (suc i)) in
    elim (nat_le size (length bytes)) as (λ t. AllByRecursion IsBytes (if t then take size bytes ∷ first_frames n (drop size bytes) else [])) [
      | true ↦ (bytes-take size bytes later, first_are_bytes n (drop size bytes) (bytes-drop size bytes later))
      | false ↦ tt
    ]

pub frames_are_bytes : (read : List ℕ) → IsBytes read → AllByRecursion IsBytes (whole_frames (counted read))
frames_are_bytes read are = first_are_bytes (length (counted read)) (counted read) (bytes-take 1099511627776 read are)

-- there are fewer of them than 2^64 - 1
first_are_few : (n : ℕ) (b : List ℕ) → length (first_frames n b) ≤ n
unfolding first_frames
first_are_few zero b = omega arith
first_are_few (suc n) [] = omega arith
first_are_few (suc n) (high ∷ []) = omega arith
first_are_few (suc n) (high ∷ low ∷ bytes) =
    let size = high * 256 + low in
    elim (nat_le size (length bytes)) as (λ t. length (if t then take size bytes ∷ first_frames n (drop size bytes) else []) ≤ suc n) [
      | true ↦ (let later = first_are_few n (drop size bytes) in omega arith)
      | false ↦ omega arith
    ]

pub frames_are_few : (read : List ℕ) → length (whole_frames (counted read)) < 2 ^ 64 - 1
frames_are_few read =
    let few = first_are_few (length (counted read)) (counted read) in
    let size : length (counted read) ≤ 1099511627776 = omega (arith, length-take 1099511627776 read) in
    omega (arith, few, size)
