-- What is drawn, generated and delivered, against the values of another program.
use Rattle.std.specs.Prelude.{◌≡◌, ℕ, false, true, List, [], ◌∷◌, map, length, take, refl, codes}
use Rattle.std.specs.Fmt.{digits}
use Rattle.codestream_model.specs.PacketOrder.{sum_below, placed, sorted, packet_order}
use Rattle.codestream_model.specs.StuffedBits.{number_bits, number_of, packed_after}
use Rattle.codestream_model.specs.TagTrees.{halvings, levels_from}
use Rattle.trial_model.specs.Draws.{draw, draw_bytes}
use Rattle.trial_model.specs.Generator.{Shape, draw_content, draw_contents, shape_head, generated_parts, generated}
use Rattle.trial_model.specs.Trial.{trial_shape, not_lost, exchanged_pairs, delivered_positions, trial_line}

-- the first state and the first draw from the seed 1
pub first_draw : draw 4 1 ≡ record { value = 2; state = 7806831264735756412 }
first_draw = refl

-- a picture of 8 by 8 samples in one component
abbrev pub small : Shape
small = record { width = 8; height = 8; components = 1; chroma = record { x = 1; y = 1 }; levels = 0; order = 3; eph = false }

-- its codestream from the seed 1
abbrev pub codestream_of_small : List ℕ
codestream_of_small =
    255 ∷ 79 ∷ 255 ∷ 81 ∷ 0 ∷ 41 ∷ 64 ∷ 0 ∷ 0 ∷ 0 ∷ 0 ∷ 8 ∷ 0 ∷ 0 ∷ 0 ∷ 8 ∷ 0 ∷ 0 ∷ 0 ∷ 0 ∷ 0 ∷ 0
    ∷ 0 ∷ 0 ∷ 0 ∷ 0 ∷ 0 ∷ 8 ∷ 0 ∷ 0 ∷ 0 ∷ 8 ∷ 0 ∷ 0 ∷ 0 ∷ 0 ∷ 0 ∷ 0 ∷ 0 ∷ 0 ∷ 0 ∷ 1 ∷ 7 ∷ 1 ∷ 1
    ∷ 255 ∷ 80 ∷ 0 ∷ 8 ∷ 0 ∷ 2 ∷ 0 ∷ 0 ∷ 0 ∷ 0 ∷ 255 ∷ 82 ∷ 0 ∷ 13 ∷ 1 ∷ 3 ∷ 0 ∷ 1 ∷ 0 ∷ 0 ∷ 4
    ∷ 4 ∷ 64 ∷ 1 ∷ 119 ∷ 255 ∷ 92 ∷ 0 ∷ 4 ∷ 64 ∷ 72 ∷ 255 ∷ 100 ∷ 0 ∷ 8 ∷ 0 ∷ 1 ∷ 109 ∷ 97 ∷ 100
    ∷ 101 ∷ 255 ∷ 144 ∷ 0 ∷ 10 ∷ 0 ∷ 0 ∷ 0 ∷ 0 ∷ 0 ∷ 114 ∷ 0 ∷ 1 ∷ 255 ∷ 147 ∷ 219 ∷ 187 ∷ 152
    ∷ 204 ∷ 5 ∷ 35 ∷ 7 ∷ 54 ∷ 181 ∷ 18 ∷ 127 ∷ 237 ∷ 240 ∷ 179 ∷ 217 ∷ 220 ∷ 170 ∷ 67 ∷ 180 ∷ 232
    ∷ 172 ∷ 206 ∷ 30 ∷ 144 ∷ 83 ∷ 249 ∷ 77 ∷ 111 ∷ 208 ∷ 107 ∷ 253 ∷ 48 ∷ 230 ∷ 59 ∷ 87 ∷ 96 ∷ 58
    ∷ 121 ∷ 139 ∷ 230 ∷ 22 ∷ 35 ∷ 115 ∷ 171 ∷ 214 ∷ 183 ∷ 156 ∷ 83 ∷ 49 ∷ 252 ∷ 199 ∷ 251 ∷ 79
    ∷ 166 ∷ 155 ∷ 128 ∷ 40 ∷ 52 ∷ 25 ∷ 33 ∷ 27 ∷ 213 ∷ 236 ∷ 31 ∷ 110 ∷ 223 ∷ 246 ∷ 192 ∷ 109
    ∷ 12 ∷ 111 ∷ 179 ∷ 68 ∷ 80 ∷ 53 ∷ 99 ∷ 99 ∷ 195 ∷ 95 ∷ 241 ∷ 117 ∷ 169 ∷ 98 ∷ 97 ∷ 117 ∷ 80
    ∷ 66 ∷ 8 ∷ 157 ∷ 197 ∷ 163 ∷ 57 ∷ 149 ∷ 254 ∷ 173 ∷ 221 ∷ 69 ∷ 129 ∷ 60 ∷ 9 ∷ 255 ∷ 217 ∷ []

pub small_is_generated : generated small 1 ≡ codestream_of_small
unfolding sum_below placed sorted number_bits number_of packed_after halvings levels_from draw_bytes draw_content draw_contents
small_is_generated = refl

-- three components with smaller chroma, one decomposition level, RPCL and EPH, from the seed 5
abbrev pub marked : Shape
marked = record { width = 16; height = 8; components = 3; chroma = record { x = 2; y = 2 }; levels = 1; order = 2; eph = true }

abbrev pub codestream_of_marked : List ℕ
codestream_of_marked =
    255 ∷ 79 ∷ 255 ∷ 81 ∷ 0 ∷ 47 ∷ 64 ∷ 0 ∷ 0 ∷ 0 ∷ 0 ∷ 16 ∷ 0 ∷ 0 ∷ 0 ∷ 8 ∷ 0 ∷ 0 ∷ 0 ∷ 0 ∷ 0
    ∷ 0 ∷ 0 ∷ 0 ∷ 0 ∷ 0 ∷ 0 ∷ 16 ∷ 0 ∷ 0 ∷ 0 ∷ 8 ∷ 0 ∷ 0 ∷ 0 ∷ 0 ∷ 0 ∷ 0 ∷ 0 ∷ 0 ∷ 0 ∷ 3 ∷ 7 ∷ 1
    ∷ 1 ∷ 7 ∷ 2 ∷ 2 ∷ 7 ∷ 2 ∷ 2 ∷ 255 ∷ 80 ∷ 0 ∷ 8 ∷ 0 ∷ 2 ∷ 0 ∷ 0 ∷ 0 ∷ 0 ∷ 255 ∷ 82 ∷ 0 ∷ 14
    ∷ 5 ∷ 2 ∷ 0 ∷ 1 ∷ 0 ∷ 1 ∷ 4 ∷ 4 ∷ 64 ∷ 1 ∷ 119 ∷ 136 ∷ 255 ∷ 92 ∷ 0 ∷ 7 ∷ 64 ∷ 72 ∷ 72 ∷ 72
    ∷ 72 ∷ 255 ∷ 100 ∷ 0 ∷ 8 ∷ 0 ∷ 1 ∷ 109 ∷ 97 ∷ 100 ∷ 101 ∷ 255 ∷ 144 ∷ 0 ∷ 10 ∷ 0 ∷ 0 ∷ 0 ∷ 0
    ∷ 1 ∷ 188 ∷ 0 ∷ 1 ∷ 255 ∷ 147 ∷ 0 ∷ 255 ∷ 146 ∷ 200 ∷ 192 ∷ 255 ∷ 146 ∷ 130 ∷ 101 ∷ 254 ∷ 203
    ∷ 181 ∷ 255 ∷ 146 ∷ 210 ∷ 99 ∷ 183 ∷ 26 ∷ 63 ∷ 197 ∷ 8 ∷ 168 ∷ 112 ∷ 30 ∷ 145 ∷ 49 ∷ 18 ∷ 117
    ∷ 36 ∷ 164 ∷ 211 ∷ 234 ∷ 209 ∷ 139 ∷ 110 ∷ 244 ∷ 65 ∷ 138 ∷ 220 ∷ 188 ∷ 210 ∷ 249 ∷ 110 ∷ 116
    ∷ 194 ∷ 63 ∷ 160 ∷ 134 ∷ 220 ∷ 150 ∷ 254 ∷ 211 ∷ 158 ∷ 244 ∷ 77 ∷ 140 ∷ 32 ∷ 21 ∷ 0 ∷ 115
    ∷ 151 ∷ 82 ∷ 21 ∷ 162 ∷ 216 ∷ 140 ∷ 79 ∷ 160 ∷ 115 ∷ 64 ∷ 160 ∷ 255 ∷ 146 ∷ 195 ∷ 14 ∷ 36
    ∷ 52 ∷ 133 ∷ 164 ∷ 196 ∷ 67 ∷ 207 ∷ 116 ∷ 133 ∷ 80 ∷ 4 ∷ 235 ∷ 82 ∷ 166 ∷ 7 ∷ 86 ∷ 207 ∷ 172
    ∷ 202 ∷ 162 ∷ 118 ∷ 221 ∷ 84 ∷ 85 ∷ 220 ∷ 214 ∷ 202 ∷ 3 ∷ 157 ∷ 2 ∷ 120 ∷ 221 ∷ 127 ∷ 160
    ∷ 255 ∷ 146 ∷ 200 ∷ 41 ∷ 233 ∷ 229 ∷ 5 ∷ 212 ∷ 78 ∷ 204 ∷ 84 ∷ 80 ∷ 108 ∷ 93 ∷ 102 ∷ 153
    ∷ 233 ∷ 91 ∷ 155 ∷ 44 ∷ 240 ∷ 98 ∷ 188 ∷ 143 ∷ 227 ∷ 249 ∷ 118 ∷ 20 ∷ 2 ∷ 208 ∷ 228 ∷ 21
    ∷ 199 ∷ 124 ∷ 47 ∷ 238 ∷ 97 ∷ 172 ∷ 122 ∷ 82 ∷ 210 ∷ 174 ∷ 157 ∷ 184 ∷ 105 ∷ 135 ∷ 50 ∷ 170
    ∷ 250 ∷ 145 ∷ 162 ∷ 206 ∷ 225 ∷ 134 ∷ 193 ∷ 149 ∷ 189 ∷ 177 ∷ 224 ∷ 86 ∷ 168 ∷ 163 ∷ 119 ∷ 18
    ∷ 141 ∷ 92 ∷ 202 ∷ 57 ∷ 14 ∷ 136 ∷ 84 ∷ 23 ∷ 47 ∷ 142 ∷ 50 ∷ 79 ∷ 59 ∷ 90 ∷ 230 ∷ 62 ∷ 93
    ∷ 19 ∷ 196 ∷ 164 ∷ 177 ∷ 200 ∷ 204 ∷ 152 ∷ 98 ∷ 2 ∷ 68 ∷ 185 ∷ 160 ∷ 130 ∷ 104 ∷ 218 ∷ 127
    ∷ 22 ∷ 73 ∷ 197 ∷ 91 ∷ 182 ∷ 151 ∷ 125 ∷ 222 ∷ 211 ∷ 87 ∷ 164 ∷ 185 ∷ 240 ∷ 173 ∷ 142 ∷ 145
    ∷ 229 ∷ 84 ∷ 251 ∷ 56 ∷ 237 ∷ 87 ∷ 19 ∷ 243 ∷ 156 ∷ 226 ∷ 251 ∷ 126 ∷ 184 ∷ 212 ∷ 0 ∷ 215
    ∷ 110 ∷ 70 ∷ 192 ∷ 104 ∷ 29 ∷ 181 ∷ 139 ∷ 116 ∷ 155 ∷ 148 ∷ 173 ∷ 219 ∷ 226 ∷ 210 ∷ 117 ∷ 107
    ∷ 129 ∷ 217 ∷ 54 ∷ 166 ∷ 14 ∷ 174 ∷ 18 ∷ 131 ∷ 170 ∷ 218 ∷ 75 ∷ 117 ∷ 102 ∷ 211 ∷ 140 ∷ 71
    ∷ 39 ∷ 84 ∷ 203 ∷ 229 ∷ 55 ∷ 201 ∷ 172 ∷ 156 ∷ 33 ∷ 28 ∷ 77 ∷ 205 ∷ 14 ∷ 240 ∷ 29 ∷ 31 ∷ 193
    ∷ 140 ∷ 217 ∷ 3 ∷ 75 ∷ 140 ∷ 146 ∷ 224 ∷ 65 ∷ 231 ∷ 104 ∷ 75 ∷ 148 ∷ 44 ∷ 58 ∷ 229 ∷ 248
    ∷ 242 ∷ 7 ∷ 86 ∷ 200 ∷ 66 ∷ 136 ∷ 197 ∷ 110 ∷ 241 ∷ 212 ∷ 122 ∷ 217 ∷ 10 ∷ 117 ∷ 212 ∷ 39
    ∷ 45 ∷ 254 ∷ 78 ∷ 166 ∷ 165 ∷ 211 ∷ 191 ∷ 207 ∷ 125 ∷ 42 ∷ 111 ∷ 124 ∷ 213 ∷ 159 ∷ 221 ∷ 67
    ∷ 244 ∷ 96 ∷ 172 ∷ 122 ∷ 17 ∷ 121 ∷ 164 ∷ 230 ∷ 248 ∷ 58 ∷ 235 ∷ 241 ∷ 144 ∷ 55 ∷ 67 ∷ 40
    ∷ 51 ∷ 164 ∷ 212 ∷ 112 ∷ 143 ∷ 5 ∷ 73 ∷ 89 ∷ 136 ∷ 135 ∷ 50 ∷ 195 ∷ 149 ∷ 49 ∷ 93 ∷ 56 ∷ 255
    ∷ 146 ∷ 47 ∷ 21 ∷ 82 ∷ 223 ∷ 48 ∷ 45 ∷ 12 ∷ 166 ∷ 168 ∷ 170 ∷ 210 ∷ 86 ∷ 143 ∷ 213 ∷ 92 ∷ 157
    ∷ 197 ∷ 157 ∷ 236 ∷ 217 ∷ 136 ∷ 12 ∷ 42 ∷ 252 ∷ 60 ∷ 36 ∷ 5 ∷ 177 ∷ 44 ∷ 146 ∷ 155 ∷ 178 ∷ 61
    ∷ 65 ∷ 88 ∷ 101 ∷ 33 ∷ 53 ∷ 207 ∷ 35 ∷ 29 ∷ 59 ∷ 151 ∷ 88 ∷ 59 ∷ 99 ∷ 138 ∷ 92 ∷ 17 ∷ 7 ∷ 134
    ∷ 141 ∷ 226 ∷ 204 ∷ 242 ∷ 82 ∷ 101 ∷ 177 ∷ 107 ∷ 133 ∷ 239 ∷ 255 ∷ 217 ∷ []

pub marked_is_generated : generated marked 5 ≡ codestream_of_marked
unfolding sum_below placed sorted number_bits number_of packed_after halvings levels_from draw_bytes draw_content draw_contents
marked_is_generated = refl

-- the packet headers of a picture in which bands have several code-blocks, from the seed 2
abbrev pub wide : Shape
wide = record { width = 130; height = 65; components = 1; chroma = record { x = 1; y = 1 }; levels = 1; order = 3; eph = false }

pub wide_is_generated : map (take 10) (generated_parts wide 2).packets ≡
    (222 ∷ 217 ∷ 56 ∷ 29 ∷ 153 ∷ 78 ∷ 210 ∷ 122 ∷ 98 ∷ 152 ∷ [])
    ∷ (168 ∷ 121 ∷ 210 ∷ 31 ∷ 209 ∷ 189 ∷ 1 ∷ 183 ∷ 100 ∷ 100 ∷ [])
    ∷ []
unfolding sum_below placed sorted number_bits number_of packed_after halvings levels_from draw_bytes draw_content draw_contents
wide_is_generated = refl

-- each picture of a trial has 30 precincts
pub trial_precincts : length (packet_order (shape_head trial_shape 0)) ≡ 30
unfolding sum_below placed sorted
trial_precincts = refl

-- what is delivered of 12 datagrams from the seed 7 with a loss of 100 in 1,000,
pub some_are_lost : delivered_positions 7 100 12 ≡ 0 ∷ 1 ∷ 2 ∷ 4 ∷ 3 ∷ 6 ∷ 5 ∷ 6 ∷ 7 ∷ 8 ∷ 9 ∷ 11 ∷ 10 ∷ []
unfolding not_lost exchanged_pairs
some_are_lost = refl

-- of 20 without loss,
pub none_is_lost : delivered_positions 7 0 20 ≡ 0 ∷ 1 ∷ 2 ∷ 3 ∷ 4 ∷ 6 ∷ 5 ∷ 6 ∷ 7 ∷ 9 ∷ 8 ∷ 11 ∷ 10 ∷ 12 ∷ 12 ∷ 14 ∷ 13 ∷ 14 ∷ 15 ∷ 16 ∷ 17 ∷ 19 ∷ 18 ∷ 19 ∷ []
unfolding not_lost exchanged_pairs
none_is_lost = refl

-- and of 16 from the seed 9 with a loss of 500
pub half_are_lost : delivered_positions 9 500 16 ≡ 0 ∷ 2 ∷ 6 ∷ 8 ∷ 11 ∷ 12 ∷ 13 ∷ 15 ∷ []
unfolding not_lost exchanged_pairs
half_are_lost = refl

-- the line of a trial
pub a_line : trial_line (record { datagrams = 30; delivered = 31; thinned = 20; kept = 19; precincts = 120; released = 0 }) ≡ codes "TRIAL datagrams=30 delivered=31 thinned=20 kept=19 precincts=120 released=0\n"
unfolding digits
a_line = refl
