-- Main headers that are stripped.
use Rattle.std.specs.Prelude.{◌≡◌, ◌++◌, ℕ, List, [], ◌∷◌, length, take, drop, refl}
use Rattle.wire_model.proofs.Captures.{main_header, main_header_of_three}
use Rattle.rebuild_model.specs.Stripping.{stripped, segments_of}

-- The worked headers have nothing to strip: their Psot is 0 already.
pub nothing_to_strip : (stripped main_header ≡ main_header) × (stripped main_header_of_three ≡ main_header_of_three)
unfolding segments_of main_header main_header_of_three
nothing_to_strip = (refl, refl)

-- The bytes of COM with the text `made`.
abbrev pub com_made : List ℕ
com_made = 0xFF ∷ 0x64 ∷ 0 ∷ 8 ∷ 0 ∷ 1 ∷ 0x6D ∷ 0x61 ∷ 0x64 ∷ 0x65 ∷ []

-- The bytes of a QCC.
abbrev pub qcc_of_one : List ℕ
qcc_of_one = 0xFF ∷ 0x5D ∷ 0 ∷ 5 ∷ 0 ∷ 0x40 ∷ 0x48 ∷ []

-- The bytes of a TLM.
abbrev pub tlm_of_one : List ℕ
tlm_of_one = 0xFF ∷ 0x55 ∷ 0 ∷ 8 ∷ 0 ∷ 0x40 ∷ 0 ∷ 0 ∷ 0 ∷ 0x12 ∷ []

-- The bytes of a PLT with the length of one packet.
abbrev pub plt_of_one : List ℕ
plt_of_one = 0xFF ∷ 0x58 ∷ 0 ∷ 4 ∷ 0 ∷ 4 ∷ []

-- A header of one sample with these segments before SOT, these four bytes of Psot, and these segments after SOT.
abbrev pub header_with : List ℕ → List ℕ → List ℕ → List ℕ
header_with front psot back =
    take 75 main_header ++ (front ++ (take 6 (drop 75 main_header) ++ (psot ++ (take 2 (drop 85 main_header) ++ (back ++ drop 87 main_header)))))

-- A header of 116 bytes with a COM, a QCC and a TLM is 106 bytes without the TLM.
pub tlm_is_left_out : (length (header_with (com_made ++ (qcc_of_one ++ tlm_of_one)) (0 ∷ 0 ∷ 0 ∷ 0 ∷ []) []) ≡ 116)
    × (length (stripped (header_with (com_made ++ (qcc_of_one ++ tlm_of_one)) (0 ∷ 0 ∷ 0 ∷ 0 ∷ []) [])) ≡ 106)
    × (stripped (header_with (com_made ++ (qcc_of_one ++ tlm_of_one)) (0 ∷ 0 ∷ 0 ∷ 0 ∷ []) []) ≡ header_with (com_made ++ qcc_of_one) (0 ∷ 0 ∷ 0 ∷ 0 ∷ []) [])
unfolding segments_of main_header
tlm_is_left_out = (refl, refl, refl)

-- A PLT is left out, and Psot is 0 then.
pub psot_is_cleared : stripped (header_with [] (0 ∷ 0 ∷ 0 ∷ 0x12 ∷ []) (plt_of_one ++ com_made)) ≡ header_with [] (0 ∷ 0 ∷ 0 ∷ 0 ∷ []) com_made
unfolding segments_of main_header
psot_is_cleared = refl
